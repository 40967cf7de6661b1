-- Prefixes whose units are each of a kind, such as the ASCII prefix, and copies of a prefix. Scans by strides: those of a
-- range by their index in the list, and what each adds to the prefix and writes.
use Rattle.std.proofs.Common.{◌≡◌, ℕ, ◌+◌, ◌<◌, ◌≤◌, inl, inr, List, length, ◌++◌, take, drop, take-add, length-take-le, length-drop, set, slice_index, sym}
use Rattle.std.proofs.Common.{arith, subst, zero, suc, ◌*◌, ◌/◌, drop-drop, get_or, refl, ap, ◌∙◌, ◌-◌, Some, [], ◌∷◌, min, None, Option, length-take}
use Rattle.std.specs.Str.{IsAscii}
use Rattle.std.proofs.lemmas.Bool.{cases_lt}
use Rattle.std.proofs.lemmas.List.{get_or-take, get_or_past, length-take, take_more, get_or-drop, take_all, take-take}
use Rattle.encoding_definitions.specs.Prefixes.{IsLongestPrefix, WritesPrefix}
use Rattle.encoding_kernels.specs.Scans.{BelowUpTo, AllBelow, IsRunBelow, BelowBetween}
use Rattle.encoding_definitions.proofs.PrefixesLemmas.{WritesPrefix_push, WritesPrefix_put, WritesPrefix-nil, WritesPrefix-length}
use Rattle.std.proofs.Math.Nat.{div-mul-le_self, mul-le-mul_right}
use Rattle.std.specs.Simd.{first_chunks}
use Rattle.std.proofs.lemmas.Option.{get_or_from_slice_get, slice_get_within, slice_get-get_or}
use Rattle.std.specs.List.{flat_map, slice_get}
use Rattle.encoding_definitions.specs.Ascii.{IsFirstOther}

-- ---- prefixes of units that are each of a kind, which the 0 past the end is too
module _ (P : ℕ → Type 0) (at_zero : P 0) where
  pub Each-take : (xs : List ℕ) (n : ℕ) → ((k : ℕ) → k < n → P (slice_index xs k)) → (i : ℕ) → P (slice_index (take n xs) i)
  Each-take xs n h i = elim (cases_lt i n) [
    | inl l ↦ rw (get_or-take n xs i 0 l) (h i l)
    | inr l ↦ rw (get_or_past (take n xs) i 0 (omega (arith, length-take n xs))) at_zero
  ]

  pub Each-at : (xs : List ℕ) (n k : ℕ) → k < n → ((i : ℕ) → P (slice_index (take n xs) i)) → P (slice_index xs k)
  Each-at xs n k l h = rw (get_or-take n xs k 0 l) at (h k)

  -- the prefix ends at the first unit that isn't of the kind
  pub prefix_before : (xs : List ℕ) (n : ℕ) → n ≤ length xs → ((k : ℕ) → k < n → P (slice_index xs k)) → (n < length xs → ¬ (P (slice_index xs n)))
      → IsLongestPrefix (λ ys. (i : ℕ) → P (slice_index ys i)) xs n
  prefix_before xs n l h s = record {
    within = l;
    kind = Each-take xs n h;
    longest = λ m b e. elim (cases_lt n m) [ inl p ↦ absurd (s (omega arith) (Each-at xs m n p e)) | inr p ↦ p ];
  }

  -- the unit after the prefix isn't of the kind
  pub after_prefix : (xs : List ℕ) (n : ℕ) → IsLongestPrefix (λ ys. (i : ℕ) → P (slice_index ys i)) xs n → n < length xs → ¬ (P (slice_index xs n))
  after_prefix xs n f l p =
      let whole : (k : ℕ) → k < n + 1 → P (slice_index xs k) = λ k b. elim (cases_lt k n) [
        | inl q ↦ Each-at xs n k q f.kind
        | inr q ↦ let e : k ≡ n = omega arith in subst (λ j. P (slice_index xs j)) (sym e) p
      ] in
      let more : n + 1 ≤ n = f.longest (n + 1) (omega arith) (Each-take xs (n + 1) whole) in
      omega arith

-- ---- ASCII
-- the ASCII prefix ends at the first unit from 0x80 on
pub ascii_prefix_at : (xs : List ℕ) (n : ℕ) → n < length xs → ((k : ℕ) → k < n → slice_index xs k < 0x80) → 0x80 ≤ slice_index xs n
    → IsLongestPrefix IsAscii xs n
ascii_prefix_at xs n l h s = prefix_before (λ b. b < 0x80) (omega arith) xs n (omega arith) h (λ _ low. omega arith)

-- units that are each below 0x80 are ASCII
pub ascii_below : (xs : List ℕ) → BelowBetween 0x80 xs 0 (length xs) → IsAscii xs
ascii_below xs below k = elim (cases_lt k (length xs)) [
  | inl l ↦ below k (omega arith) l
  | inr l ↦ rw (get_or_past xs k 0 l) (omega arith)
]

-- the units of the longest ASCII prefix are below 0x80
pub below_prefix : (xs : List ℕ) (n : ℕ) → IsLongestPrefix IsAscii xs n → BelowUpTo 0x80 xs n
below_prefix xs n f k l = Each-at (λ b. b < 0x80) (omega arith) xs n k l f.kind

-- ---- a loop over the units
-- one more unit is copied
pub WritesPrefix_copy : (old new xs : List ℕ) (n b : ℕ) → WritesPrefix old new n (take n xs) → n < length xs → n < length new → b ≡ slice_index xs n
    → WritesPrefix old (set new n b) (n + 1) (take (n + 1) xs)
WritesPrefix_copy old new xs n b w l m e = rw (take_more xs n 0 l, sym e) (WritesPrefix_push old new n (take n xs) b w m)

-- m more units are copied
pub WritesPrefix_block : {A : Type 0} (old new after xs : List A) (n m : ℕ) → WritesPrefix old new n (take n xs) → n + m ≤ length xs → n + m ≤ length new
    → after ≡ take n new ++ (take m (drop n xs) ++ drop (n + m) new) → WritesPrefix old after (n + m) (take (n + m) xs)
WritesPrefix_block old new after xs n m w l k put =
    let short : length (take m (drop n xs)) ≡ m = length-take-le m (drop n xs) (omega (arith, length-drop n xs)) in
    rw (take-add n m xs) (WritesPrefix_put old new after n m (take n xs) (take m (drop n xs)) w (sym short) k put)

-- stride i of a list
pub numbered : {X : Type 0} (n k : ℕ) (xs : List X) (i : ℕ) (d : List X) → i < k → get_or (first_chunks n k xs) i d ≡ take n (drop (i * n) xs)
numbered n zero xs i d h = absurd (omega arith)
numbered n (suc k) xs zero d h = let e : 0 * n ≡ 0 = omega arith in rw e refl
numbered n (suc k) xs (suc i) d h =
    let e : n + i * n ≡ suc i * n = omega arith in
    numbered n k (drop n xs) i d (omega arith) ∙ ap (take n) (drop-drop (i * n) n xs ∙ ap (λ m. drop m xs) e)

-- stride i ends within the list
pub many : (n k i long : ℕ) → k ≡ long / n → i < k → i * n + n ≤ long
many n k i long e l = omega (arith, e, div-mul-le_self long n, mul-le-mul_right {m = i + 1} {n = long / n} n (omega (arith, e)))

-- stride i, if the strides before it end at index `at`
pub whole_stride : (n : ℕ) (xs d : List ℕ) {i at : ℕ} {stride : List ℕ} {strides : List (List ℕ)} → stride ≡ get_or strides i d
    → strides ≡ first_chunks n (length xs / n) xs
    → length strides ≡ length xs / n → at ≡ i * n → i < length strides → stride ≡ take n (drop at xs)
whole_stride n xs d {i} is are count place l =
    is ∙ ap (λ ys. get_or ys i d) are ∙ numbered n (length xs / n) xs i d (omega (arith, count, l)) ∙ ap (λ m. take n (drop m xs)) (sym place)

-- the units of a stride are those of the list from its index on
module _ (bound at n : ℕ) (xs stride : List ℕ) (is : stride ≡ take n (drop at xs)) where
  pub unit_is : (k : ℕ) → k < n → slice_index stride k ≡ slice_index xs (at + k)
  unit_is k l = ap (λ ys. slice_index ys k) is ∙ get_or-take n (drop at xs) k 0 l ∙ get_or-drop at xs k 0

-- the first `run` of them are those of the list, and how many are below a bound
module _ (n at : ℕ) (xs : List ℕ) {stride : List ℕ} (is : stride ≡ take n (drop at xs)) where
  pub run_taken : (run : ℕ) → run ≤ n → take run stride ≡ take run (drop at xs)
  run_taken run few = ap (take run) is ∙ take-take run n (drop at xs) few

  pub run_below : {bound : ℕ} (run : ℕ) → run ≤ n → AllBelow bound stride 0 run → AllBelow bound xs at run
  run_below {bound} run few below k from to =
      let e : at + (k - at) ≡ k = omega arith in
      subst (λ u. u < bound) (unit_is 0 at n xs stride is (k - at) (omega arith) ∙ ap (slice_index xs) e) (below (k - at) (omega arith) (omega arith))

  pub run_ends : {bound : ℕ} (run : ℕ) → IsRunBelow bound stride 0 n run → run < n → bound ≤ slice_index xs (at + run)
  run_ends {bound} run r short = elim (cases_lt (slice_index xs (at + run)) bound) [
    | inl l ↦ let e : run ≡ 0 + run = omega arith in
        absurd (r.stops short (subst (λ u. u < bound) (sym (unit_is 0 at n xs stride is run short) ∙ ap (slice_index stride) e) l))
    | inr l ↦ l
  ]

-- ---- groups of strides
module _ {X : Type 0} (n : ℕ) where
  take_firsts : (w k : ℕ) (xs : List X) → w ≤ k → take w (first_chunks n k xs) ≡ first_chunks n w xs
  take_firsts zero k xs l = refl
  take_firsts (suc w) zero xs l = absurd (omega arith)
  take_firsts (suc w) (suc k) xs l = ap (λ ys. take n xs ∷ ys) (take_firsts w k (drop n xs) (omega arith))

  drop_firsts : (m j k : ℕ) (xs : List X) → m + j ≡ k → drop m (first_chunks n k xs) ≡ first_chunks n j (drop (m * n) xs)
  drop_firsts zero j k xs is = let e : 0 * n ≡ 0 = omega arith in let same : k ≡ j = omega (arith, is) in rw e (ap (λ i. first_chunks n i xs) same)
  drop_firsts (suc m) j zero xs is = absurd (omega (arith, is))
  drop_firsts (suc m) j (suc k) xs is =
      let e : n + m * n ≡ suc m * n = omega arith in
      drop_firsts m j k (drop n xs) (omega (arith, is)) ∙ ap (first_chunks n j) (drop-drop (m * n) n xs ∙ ap (λ i. drop i xs) e)

  pub joined_firsts : (k : ℕ) (xs : List X) → flat_map (λ x. x) (first_chunks n k xs) ≡ take (k * n) xs
  joined_firsts zero xs = let e : 0 * n ≡ 0 = omega arith in rw e refl
  joined_firsts (suc k) xs = let e : n + k * n ≡ suc k * n = omega arith in ap (λ ys. take n xs ++ ys) (joined_firsts k (drop n xs))
      ∙ sym (take-add n (k * n) xs) ∙ ap (λ m. take m xs) e

-- the units of a list that a stride or a group has, from index `at` on
pub record IsPart (n at : ℕ) (xs part : List ℕ) : Type 0 where
  pub is : part ≡ take n (drop at xs)
  pub within : at + n ≤ length xs

module _ (n : ℕ) (xs : List ℕ) {i : ℕ} {strides : List (List ℕ)} (are : strides ≡ first_chunks n (length xs / n) xs)
    (count : length strides ≡ length xs / n) where
  pub stride_part : {at : ℕ} (d : List ℕ) → at ≡ i * n → i < length strides → IsPart n at xs (get_or strides i d)
  stride_part {at} d place l =
      record { is = whole_stride n xs d refl are count place l; within = omega (arith, many n (length strides) i (length xs) count l, place) }

  -- a group of w strides
  module _ (w : ℕ) (d : List (List ℕ)) {groups : List (List (List ℕ))} (grouped : groups ≡ first_chunks w (length strides / w) strides)
      (groups_count : length groups ≡ length strides / w)
      (l : i < length groups) where
    strides_within : i * w + w ≤ length xs / n
    strides_within = omega (arith, many w (length groups) i (length strides) groups_count l, count)

    units_within : (i * w + w) * n ≤ length xs
    units_within = omega (arith, div-mul-le_self (length xs) n, mul-le-mul_right {m = i * w + w} {n = length xs / n} n strides_within)

    group_is : get_or groups i d ≡ first_chunks n w (drop (i * w * n) xs)
    group_is =
        ap (λ ys. get_or ys i d) grouped ∙ numbered w (length strides / w) strides i d (omega (arith, groups_count, l))
        ∙ ap (λ ys. take w (drop (i * w) ys)) are
        ∙ ap (take w) (drop_firsts n (i * w) (length xs / n - i * w) (length xs / n) xs (omega (arith, strides_within)))
        ∙ take_firsts n w (length xs / n - i * w) (drop (i * w * n) xs) (omega (arith, strides_within))

    -- its units, joined
    pub group_part : {at : ℕ} {part : List ℕ} → part ≡ flat_map (λ x. x) (get_or groups i d) → at ≡ i * (w * n) → IsPart (w * n) at xs part
    group_part {at} joined place =
        let start : i * w * n ≡ at = omega (arith, place) in
        record {
          is = joined ∙ ap (flat_map (λ x. x)) group_is ∙ joined_firsts n w (drop (i * w * n) xs) ∙ ap (λ m. take (w * n) (drop m xs)) start;
          within = omega (arith, start, units_within);
        }

-- the units of the first stride
pub first_part : (n : ℕ) (xs stride : List ℕ) {strides : List (List ℕ)} → strides ≡ first_chunks n (length xs / n) xs → length strides ≡ length xs / n
    → Some stride ≡ slice_get strides 0 → IsPart n 0 xs stride
first_part n xs stride {strides} are count is =
    let found : slice_get strides 0 ≡ Some stride = sym is in
    subst (IsPart n 0 xs) (get_or_from_slice_get strides 0 stride [] found)
    (stride_part n xs {i = 0} are count {at = 0} [] (omega arith) (slice_get_within strides 0 stride found))

-- ---- prefixes of units below a bound
-- n more units are below the bound
pub below_joined : (bound : ℕ) (xs : List ℕ) (at n : ℕ) → BelowUpTo bound xs at → AllBelow bound xs at n → BelowUpTo bound xs (at + n)
below_joined bound xs at n h g = λ k l. elim (cases_lt k at) [ inl p ↦ h k p | inr p ↦ g k p l ]

-- the first `run` units of a part
pub below_more : {bound n at : ℕ} {xs part : List ℕ} → IsPart n at xs part → BelowUpTo bound xs at → (run : ℕ) → run ≤ n → AllBelow bound part 0 run
    → BelowUpTo bound xs (at + run)
below_more {bound} {n} {at} {xs} p before run few below = below_joined bound xs at run before (run_below n at xs p.is run few below)

-- the longest ASCII prefix ends in a part
pub ascii_prefix_in : {n at run : ℕ} {xs part : List ℕ} → IsPart n at xs part → BelowUpTo 0x80 xs at → IsRunBelow 0x80 part 0 n run → run < n
    → IsLongestPrefix IsAscii xs (at + run)
ascii_prefix_in {n} {at} {run} {xs} p before r short =
    ascii_prefix_at xs (at + run) (omega (arith, p.within)) (below_more p before run r.within r.pass) (run_ends n at xs p.is run r short)

-- in the first one
pub ascii_prefix_first : {n run : ℕ} {xs part : List ℕ} → IsPart n 0 xs part → IsRunBelow 0x80 part 0 n run → run < n → IsLongestPrefix IsAscii xs run
ascii_prefix_first {n} {run} {xs} p r short =
    let e : 0 + run ≡ run = omega arith in
    subst (IsLongestPrefix IsAscii xs) e (ascii_prefix_in p (λ k l. absurd (omega arith)) r short)

-- if all units of the list are below the bound, those of a part are
pub part_below : {bound n at : ℕ} {xs part : List ℕ} → IsPart n at xs part → ((i : ℕ) → slice_index xs i < bound) → AllBelow bound part 0 n
part_below {bound} {n} {at} {xs} {part} p all k from to = subst (λ u. u < bound) (sym (unit_is 0 at n xs part p.is k (omega arith))) (all (at + k))

-- ---- the first unit that isn't ASCII
pub first_other_in : {n at run : ℕ} {xs part : List ℕ} → IsPart n at xs part → BelowUpTo 0x80 xs at → IsRunBelow 0x80 part 0 n run → run < n
    → IsFirstOther xs (Some (slice_index xs (at + run), at + run))
first_other_in {at = at} {run = run} {xs = xs} p before r short = (slice_get-get_or xs (at + run) 0 (omega (arith, p.within)), ascii_prefix_in p before r short)

pub first_other_first : {n run : ℕ} {xs part : List ℕ} → IsPart n 0 xs part → IsRunBelow 0x80 part 0 n run → run < n
    → IsFirstOther xs (Some (slice_index xs run, run))
first_other_first {run = run} {xs = xs} p r short = (slice_get-get_or xs run 0 (omega (arith, p.within)), ascii_prefix_first p r short)

pub first_other_at : (xs : List ℕ) (n : ℕ) → n < length xs → BelowUpTo 0x80 xs n → 0x80 ≤ slice_index xs n → IsFirstOther xs (Some (slice_index xs n, n))
first_other_at xs n l below other = (slice_get-get_or xs n 0 l, ascii_prefix_at xs n l below other)

-- one unit more is below the bound
pub below_next : (bound : ℕ) (xs : List ℕ) (n : ℕ) → BelowUpTo bound xs n → slice_index xs n < bound → BelowUpTo bound xs (n + 1)
below_next bound xs n below next k l = elim (cases_lt k n) [
  | inl p ↦ below k p
  | inr p ↦ let e : n ≡ k = omega arith in subst (λ j. slice_index xs j < bound) e next
]

-- ---- what the first `run` units of a stride write
module _ {n at : ℕ} {xs part : List ℕ} (p : IsPart n at xs part) {old new after : List ℕ} (w : WritesPrefix old new at (take at xs))
    (room : length xs ≤ length old) where
  pub copied_first : (run : ℕ) → run ≤ n → after ≡ take at new ++ (take run part ++ drop (at + run) new)
      → WritesPrefix old after (at + run) (take (at + run) xs)
  copied_first run few put =
      WritesPrefix_block old new after xs at run w (omega (arith, p.within)) (omega (arith, p.within, WritesPrefix-length _ _ _ _ w))
      (put ∙ ap (λ ys. take at new ++ (ys ++ drop (at + run) new)) (run_taken n at xs p.is run few))

-- the first `run` of the first stride
pub copied_start : {n : ℕ} {xs part : List ℕ} → IsPart n 0 xs part → {old after : List ℕ} → length xs ≤ length old → (run : ℕ) → run ≤ n
    → after ≡ take 0 old ++ (take run part ++ drop (0 + run) old) → WritesPrefix old after run (take run xs)
copied_start {n} {xs} p {old} {after} room run few put =
    let e : 0 + run ≡ run = omega arith in
    subst (λ m. WritesPrefix old after m (take m xs)) e (copied_first p (WritesPrefix-nil old) room run few put)

-- ---- the first n units of a list are those that fit into a destination
module _ (src old : List ℕ) (n : ℕ) (is : n ≡ min (length src) (length old)) where
  fitting_is : take n src ≡ take (length old) src
  fitting_is = elim (cases_lt n (length old)) [
    | inl l ↦ take_all n src (omega (arith, is)) ∙ sym (take_all (length old) src (omega (arith, is)))
    | inr l ↦ let e : n ≡ length old = omega (arith, is) in ap (λ m. take m src) e
  ]

  fitting_length : length (take n src) ≡ n
  fitting_length = length-take-le n src (omega (arith, is))

  pub fitting_room : length (take n src) ≤ length old
  fitting_room = omega (arith, fitting_length, is)

  pub found_fitting : (r : Option (ℕ × ℕ)) → IsFirstOther (take n src) r → IsFirstOther (take (length old) src) r
  found_fitting r found = subst (λ xs. IsFirstOther xs r) fitting_is found

  pub found_none : (m : ℕ) → BelowUpTo 0x80 (take n src) m → length (take n src) ≤ m → IsFirstOther (take (length old) src) None
  found_none m below far = found_fitting None
      (λ i. elim (cases_lt i m) [ inl l ↦ below i l | inr l ↦ omega (arith, get_or_past (take n src) i 0 (omega arith)) ])

  pub copied_fitting : {new : List ℕ} {m : ℕ} → WritesPrefix old new m (take m (take n src)) → WritesPrefix old new m (take m src)
  copied_fitting {new} {m} w = subst (WritesPrefix old new m) (take-take m n src (omega (arith, w.count, length-take m (take n src), fitting_length))) w

  pub copied_all : {new : List ℕ} {m : ℕ} → length (take n src) ≤ m → WritesPrefix old new m (take m (take n src))
      → WritesPrefix old new (length (take (length old) src)) (take (length (take (length old) src)) src)
  copied_all {new} {m} far w =
      let all : m ≡ length (take (length old) src) = omega (arith, ap length fitting_is, w.count, length-take m (take n src)) in
      subst (λ k. WritesPrefix old new k (take k src)) all (copied_fitting w)
