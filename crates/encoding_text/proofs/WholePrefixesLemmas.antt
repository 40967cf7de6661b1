-- Longest prefixes that may be the whole list: the ASCII prefix before the first other unit, and the bytes that the
-- ISO-2022-JP decoder returns unchanged, by strides.
use borrow.Rule.Slice.PartMut.{put_mid}
use Rattle.std.proofs.Common.{ℕ, ◌+◌, ◌-◌, ◌<◌, ◌≤◌, inl, inr, List, ◌++◌, length, take, drop, slice_index, ap, eqb, sym, refl, ◌∙◌, arith, subst}
use Rattle.std.proofs.Common.{Option, Some, None, ◌≡◌, ◌≢◌, Bool, true, false, ◌||◌, leb, w8, bit_or, replicate, length-drop, length-take-le, take-add}
use Rattle.std.proofs.lemmas.Str.{IsUtf8-from_ascii}
use Rattle.std.specs.Prelude.{IsTrue, ◌↔◌}
use Rattle.std.specs.Str.{IsAscii, IsUtf8}
use Rattle.std.proofs.lemmas.Bool.{cases_lt, eqb-true, eq-eqb}
use Rattle.std.proofs.lemmas.List.{take_all, take_rest, take-take, length-take, length-drop, get_or-take, get_or-drop}
use Rattle.encoding_definitions.specs.Ascii.{IsFirstOther, prefix_length_by, IsIso2022JpAscii}
use Rattle.encoding_definitions.specs.Prefixes.{IsLongestPrefix, WritesPrefix}
use Rattle.encoding_kernels.proofs.ScanLemmas.{after_prefix, ascii_prefix_at, below_prefix, Each-at, prefix_before, unit_is}
use Rattle.encoding_kernels.proofs.PairsLemmas.{ascii_latin1}
use Rattle.encoding_kernels.specs.Scans.{AllBelow, BelowUpTo, IsRunBelow}
use Rattle.encoding_definitions.specs.Latin1.{IsUtf8Latin1}
use Rattle.encoding_definitions.proofs.PrefixesLemmas.{WritesPrefix-length, WritesPrefix-same, WritesPrefix_after, WritesPrefix_again}
use Rattle.std.proofs.lemmas.Option.{slice_get_within}
use Rattle.std.proofs.lemmas.Bool.Decides.{nat_tests}
use Rattle.std.specs.Simd.Lanes.{chunk, zip2}
use Rattle.encoding_kernels.proofs.VectorLemmas.{HasLanes-splat, HasLanes-whole, IsFirstSet, compared}
use Rattle.encoding_kernels.proofs.MaskLemmas.{HasTests, tests_of, tests_or}

-- ASCII bytes are a text
pub ruleset ascii_texts = (IsUtf8-from_ascii)

-- a list that is ASCII is its longest prefix of any kind that ASCII is of
module _ (xs : List ℕ) (ascii : IsAscii xs) where
  pub whole_text : IsLongestPrefix IsUtf8 xs (length xs)
  whole_text = record {
    within = omega arith;
    kind = IsUtf8-from_ascii _ (subst IsAscii (sym (take_all (length xs) xs (omega arith))) ascii);
    longest = λ m l _. l;
  }

  pub whole_latin1 : IsLongestPrefix IsUtf8Latin1 xs (length xs)
  whole_latin1 = record { within = omega arith; kind = ascii_latin1 xs (length xs) (omega arith) (λ k l. ascii k); longest = λ m l _. l }

-- a list that is its own longest ASCII prefix is its longest prefix that is a text
pub whole_prefix_text : (xs : List ℕ) (n : ℕ) → IsLongestPrefix IsAscii xs n → n ≡ length xs → IsLongestPrefix IsUtf8 xs n
whole_prefix_text xs n prefix e = record { within = prefix.within; kind = IsUtf8-from_ascii _ prefix.kind; longest = λ m l _. omega (arith, e, l) }

-- what follows the longest ASCII prefix isn't ASCII
pub ascii_stops : (xs : List ℕ) (n : ℕ) → IsLongestPrefix IsAscii xs n → n < length xs → 0x80 ≤ slice_index xs n
ascii_stops xs n prefix l = elim (cases_lt (slice_index xs n) 0x80) [
  | inl p ↦ absurd (after_prefix (λ b. b < 0x80) (omega arith) xs n prefix l p)
  | inr p ↦ p
]

-- so the rest begins with another unit
pub rest_stops : (xs : List ℕ) (n : ℕ) → IsLongestPrefix IsAscii xs n → n < length xs
    → (0 < length (take (length xs - n) (drop n xs))) × (0x80 ≤ slice_index (take (length xs - n) (drop n xs)) 0)
rest_stops xs n prefix l =
    let first : n + 0 ≡ n = omega arith in (
      omega (arith, l, ap length (take_rest xs n), length-drop n xs),
      omega (arith, ascii_stops xs n prefix l, ap (λ ys. slice_index ys 0) (take_rest xs n), get_or-drop n xs 0 0, ap (slice_index xs) first),
    )

-- the ASCII prefix of a list that isn't ASCII ends before it does
pub ascii_ends : (xs : List ℕ) (n : ℕ) → IsLongestPrefix IsAscii xs n → ¬ (IsAscii xs) → n < length xs
ascii_ends xs n prefix other = elim (cases_lt n (length xs)) [
  | inl l ↦ l
  | inr b ↦ absurd (other (subst IsAscii (take_all n xs b) prefix.kind))
]

-- the ASCII prefix of the first n units ends before they do
pub prefix_of_first_units : (xs : List ℕ) (n k : ℕ) → n ≤ length xs → IsLongestPrefix IsAscii (take n xs) k → k < n → IsLongestPrefix IsAscii xs k
prefix_of_first_units xs n k within prefix l =
    let same : (i : ℕ) → i < n → slice_index (take n xs) i ≡ slice_index xs i = λ i p. get_or-take n xs i 0 p in
    ascii_prefix_at xs k (omega arith) (λ i p. subst (λ b. b < 0x80) (same i (omega arith)) (below_prefix (take n xs) k prefix i p))
    (subst (λ b. 0x80 ≤ b) (same k l) (ascii_stops (take n xs) k prefix (omega (arith, length-take-le n xs within))))

-- the run of ASCII in all of the bytes
pub prefix_of : (xs : List ℕ) (run : ℕ) → IsRunBelow 0x80 xs 0 (length xs) run → IsLongestPrefix IsAscii xs run
prefix_of xs run r =
    let e : 0 + run ≡ run = omega arith in
    prefix_before (λ b. b < 0x80) (omega arith) xs run r.within (λ k p. r.pass k (omega arith) (omega arith))
    (λ l low. r.stops l (subst (λ j. slice_index xs j < 0x80) (sym e) low))

-- the ASCII prefix of a block that isn't all ASCII
pub first_run : (xs : List ℕ) (run : ℕ) → 64 ≤ length xs → IsRunBelow 0x80 xs 0 64 run → (AllBelow 0x80 xs 0 64 → ⊥) → IsLongestPrefix IsAscii xs run
first_run xs run long r stops = elim (cases_lt run 64) [
  | inl l ↦ let e : 0 + run ≡ run = omega arith in
      prefix_before (λ b. b < 0x80) (omega arith) xs run (omega arith) (λ k p. r.pass k (omega arith) (omega arith))
      (λ _ low. r.stops l (subst (λ j. slice_index xs j < 0x80) (sym e) low))
  | inr b ↦ absurd (stops (λ k from to. r.pass k from (omega (arith, r.within, b))))
]

-- a block isn't all ASCII, seen from an index
pub later_block_stops : (xs : List ℕ) (n m : ℕ) → 64 ≤ m → (AllBelow 0x80 xs n 64 → ⊥) → AllBelow 0x80 (take m (drop n xs)) 0 64 → ⊥
later_block_stops xs n m l stops all = stops (λ k from to.
    let e : n + (k - n) ≡ k = omega arith in
    subst (λ b. b < 0x80) (get_or-take m (drop n xs) (k - n) 0 (omega arith) ∙ get_or-drop n xs (k - n) 0 ∙ ap (slice_index xs) e)
    (all (k - n) (omega arith) (omega arith)))

-- the first n units, which are ASCII, and the others
module _ (xs : List ℕ) (n : ℕ) (within : n ≤ length xs) where
  abbrev more : List ℕ
  more = take (length xs - n) (drop n xs)

  many : length more ≡ length xs - n
  many = length-take-le (length xs - n) (drop n xs) (omega (arith, within, length-drop n xs))

  same : (j : ℕ) → j < length xs - n → slice_index more j ≡ slice_index xs (n + j)
  same j l = unit_is 0 n (length xs - n) xs more refl j l

  -- a block isn't all ASCII
  pub block_stops : n + 64 ≤ length xs → (AllBelow 0x80 xs n 64 → ⊥) → AllBelow 0x80 (take (length xs - n) (drop n xs)) 0 64 → ⊥
  block_stops long = later_block_stops xs n (length xs - n) (omega (arith, long))

  -- the prefix goes on among the others, and is copied
  module _ (known : BelowUpTo 0x80 xs n) (k : ℕ) (prefix : IsLongestPrefix IsAscii (take (length xs - n) (drop n xs)) k) where
    below : BelowUpTo 0x80 xs (n + k)
    below i l = elim (cases_lt i n) [
      | inl p ↦ known i p
      | inr p ↦ let e : n + (i - n) ≡ i = omega arith in
          subst (λ b. b < 0x80) (same (i - n) (omega (arith, prefix.within, many)) ∙ ap (slice_index xs) e)
          (below_prefix more k prefix (i - n) (omega arith))
    ]

    pub prefix_after : IsLongestPrefix IsAscii xs (n + k)
    prefix_after = prefix_before (λ b. b < 0x80) (omega arith) xs (n + k) (omega (arith, prefix.within, many, within)) below (λ l low.
        let high = rw (same k (omega (arith, l, within))) at (ascii_stops more k prefix (omega (arith, many, l))) in omega (arith, high, low))

    pub copied_after : (old mid sub : List ℕ) → WritesPrefix old mid n (take n xs)
        → WritesPrefix (take (length mid - n) (drop n mid)) sub k (take k (take (length xs - n) (drop n xs)))
        → WritesPrefix old (put_mid n (length mid - n) mid sub) (n + k) (take (n + k) xs)
    copied_after old mid sub first next =
        let both : take n xs ++ take k more ≡ take (n + k) xs =
        ap (λ ys. take n xs ++ ys) (take-take k (length xs - n) (drop n xs) (omega (arith, prefix.within, many))) ∙ sym (take-add n k xs) in
        WritesPrefix-same _ _ _ _ _ _ (WritesPrefix_after old mid n (take n xs) sub k (take k more) first next) refl both

-- the last m units, of which the first `run` are ASCII, after the first n, which are ASCII and may overlap them
module _ (xs : List ℕ) (n m run : ℕ) (within : n ≤ length xs) (overlap : length xs ≤ n + m) (room : m ≤ length xs) (ascii : IsAscii (take n xs))
    (r : IsRunBelow 0x80 xs (length xs - m) m run) where
  known : (k : ℕ) → k < n → slice_index xs k < 0x80
  known k l = Each-at (λ b. b < 0x80) (omega arith) xs n k l ascii

  pub run_goes_on : n ≤ length xs - m + run
  run_goes_on = elim (cases_lt (length xs - m + run) n) [ inl l ↦ absurd (r.stops (omega arith) (known (length xs - m + run) l)) | inr b ↦ b ]

  pub prefix_on : IsLongestPrefix IsAscii xs (length xs - m + run)
  prefix_on =
      prefix_before (λ b. b < 0x80) (omega arith) xs (length xs - m + run) (omega (arith, r.within))
      (λ k l. elim (cases_lt k (length xs - m)) [ inl p ↦ known k (omega arith) | inr p ↦ r.pass k p l ]) (λ l. r.stops (omega arith))

  -- they are copied too
  pub copied_on : (old mid new : List ℕ) → length xs ≤ length old → WritesPrefix old mid n (take n xs)
      → new ≡ take (length xs - m) mid ++ (take run (drop (length xs - m) xs) ++ drop (length xs - m + run) mid)
      → WritesPrefix old new (length xs - m + run) (take (length xs - m + run) xs)
  copied_on old mid new fits copied put =
      WritesPrefix_again old mid new xs n (length xs - m) run copied (omega arith) run_goes_on (omega (arith, r.within))
      (omega (arith, r.within, WritesPrefix-length _ _ _ _ copied)) put

-- the first n units, which all fit, are ASCII and copied
module _ (xs old : List ℕ) (n : ℕ) (within : n ≤ length xs) (fits : length xs ≤ length old) where
  all_fit : take (length old) (take n xs) ≡ take n xs
  all_fit = take_all (length old) (take n xs) (omega (arith, length-take-le n xs within))

  pub fitting_ascii : IsAscii (take (length old) (take n xs)) → IsAscii (take n xs)
  fitting_ascii = subst IsAscii all_fit

  pub fitting_prefix : (unit place : ℕ) → IsFirstOther (take (length old) (take n xs)) (Some (unit, place)) → IsLongestPrefix IsAscii xs place
  fitting_prefix unit place found =
      let prefix : IsLongestPrefix IsAscii (take n xs) place = subst (λ ys. IsLongestPrefix IsAscii ys place) all_fit found.1 in
      let before : place < n = omega (arith, length-take-le n xs within, ap length all_fit, slice_get_within _ place unit found.0) in
      prefix_of_first_units xs n place within prefix before

  pub fitting_copied : (new : List ℕ)
      → WritesPrefix old new (length (take (length old) (take n xs))) (take (length (take (length old) (take n xs))) (take n xs))
      → WritesPrefix old new n (take n xs)
  fitting_copied new copied =
      let all : length (take (length old) (take n xs)) ≡ n = omega (arith, length-take-le n xs within, ap length all_fit) in
      WritesPrefix-same _ _ _ _ _ _ copied all (ap (λ k. take k (take n xs)) all ∙ take-take n n xs (omega arith))

-- the longest prefix is as long as the list if and only if the whole is of the kind
pub whole_by_length : {A : Type 0} (K : List A → Type 0) (xs : List A) (n : ℕ) → IsLongestPrefix K xs n → IsTrue (eqb n (length xs)) ↔ K xs
whole_by_length K xs n f = (
  λ e. subst K (take_all n xs (omega (arith, eqb-true n (length xs) e))) f.kind,
  λ k. eq-eqb n (length xs) (omega (arith, f.within, f.longest (length xs) (omega arith) (subst K (sym (take_all (length xs) xs (omega arith))) k))),
)

-- if the list fits, its longest ASCII prefix ends at the first other unit
pub prefix_of_first : (xs : List ℕ) (room : ℕ) (first : Option (ℕ × ℕ)) → length xs ≤ room → IsFirstOther (take room xs) first
    → IsLongestPrefix IsAscii xs (prefix_length_by xs first)
prefix_of_first xs room None l ascii = record {
  within = omega arith;
  kind = subst IsAscii (take_all room xs l ∙ sym (take_all (length xs) xs (omega arith))) ascii;
  longest = λ m b _. b;
}
prefix_of_first xs room (Some (unit, place)) l found = subst (λ ys. IsLongestPrefix IsAscii ys place) (take_all room xs l) found.1

-- if the list fits, all units are written
pub written_of_room : (xs old new : List ℕ) (room : ℕ) → length xs ≤ room → WritesPrefix old new (length (take room xs)) (take (length (take room xs)) xs)
    → WritesPrefix old new (length xs) (take (length xs) xs)
written_of_room xs old new room l w = subst (λ ys. WritesPrefix old new (length ys) (take (length ys) xs)) (take_all room xs l) w

-- a copy as far as it fits
pub ruleset copied_prefixes = (prefix_of_first, written_of_room)

-- if the first other unit fits, it isn't ASCII
pub other_at : (xs : List ℕ) (room unit place : ℕ) → IsFirstOther (take room xs) (Some (unit, place)) → place < length xs → place < room
    → 0x80 ≤ slice_index xs place
other_at xs room unit place found l m = elim (cases_lt (slice_index xs place) 0x80) [
  | inl p ↦
      absurd (after_prefix (λ b. b < 0x80) (omega arith) (take room xs) place found.1 (omega (arith, length-take room xs))
      (rw (get_or-take room xs place 0 m) p))
  | inr p ↦ p
]

-- the unit after the longest ASCII prefix of those that fit isn't ASCII
pub stops_in_fitting : (xs : List ℕ) (room n : ℕ) → IsLongestPrefix IsAscii (take room xs) n → n < length xs → n < room → 0x80 ≤ slice_index xs n
stops_in_fitting xs room n prefix l m =
    subst (λ b. 0x80 ≤ b) (get_or-take room xs n 0 m) (ascii_stops (take room xs) n prefix (omega (arith, length-take room xs)))

-- the same after an ASCII prefix of what is left
pub other_after : (xs old : List ℕ) (i j n : ℕ) → i + n < length xs → j + n < length old
    → (n < length (take (length xs - i) (drop i xs)) → n < length (take (length old - j) (drop j old))
    → 0x80 ≤ slice_index (take (length xs - i) (drop i xs)) n) → 0x80 ≤ slice_index xs (i + n)
other_after xs old i j n l m stops =
    omega (
      arith,
      stops (omega (arith, ap length (take_rest xs i), length-drop i xs)) (omega (arith, ap length (take_rest old j), length-drop j old)),
      ap
          (λ ys. slice_index ys n) (take_rest xs i),
      get_or-drop i xs n 0,
    )

-- no escape or shift byte, and ASCII
abbrev pub IsOwn : ℕ → Type 0
IsOwn b = (b < 0x80) × (b ≢ 0x1B) × (b ≢ 0x0E) × (b ≢ 0x0F)

-- each byte before an index is such a one
abbrev pub AreOwn : List ℕ → ℕ → Type 0
AreOwn xs place = (k : ℕ) → k < place → IsOwn (slice_index xs k)

zero_own : IsOwn 0
zero_own = (omega arith, λ e. omega arith, λ e. omega arith, λ e. omega arith)

-- the lane predicate
abbrev pub is_other : ℕ → Bool
is_other b = (leb 0x80 b || eqb b 0x1B) || (eqb b 0x0E || eqb b 0x0F)

abbrev pub others : List ℕ → List ℕ
others lanes = zip2 bit_or (zip2 bit_or (zip2 (compared w8 leb) (replicate 16 0x80) lanes) (zip2 (compared w8 eqb) lanes (replicate 16 0x1B)))
    (zip2 bit_or (zip2 (compared w8 eqb) lanes (replicate 16 0x0E)) (zip2 (compared w8 eqb) lanes (replicate 16 0x0F)))

pub other_tests : (stride : List ℕ) → length stride ≡ 16 → HasTests w8 16 (others (chunk 0 16 stride)) (λ k. is_other (slice_index stride k))
other_tests stride long =
    let block = HasLanes-whole 16 stride long in
    let beyond = tests_of w8 leb (HasLanes-splat 16 0x80) block in
    let same = λ (x : ℕ). tests_of w8 eqb block (HasLanes-splat 16 x) in
    tests_or (tests_or beyond (same 0x1B)) (tests_or (same 0x0E) (same 0x0F))

own : (b : ℕ) → is_other b ≡ false → IsOwn b
own b e = (grind (arith, nat_tests), λ h. grind (arith, nat_tests), λ h. grind (arith, nat_tests), λ h. grind (arith, nat_tests))

other : (b : ℕ) → is_other b ≡ true → ¬ (IsOwn b)
other b e h = grind (arith, nat_tests)

-- the first lane that passes ends the prefix
pub run_of_own : (xs : List ℕ) (n run : ℕ) → length xs ≡ n → IsFirstSet n run (λ k. is_other (slice_index xs k)) → IsLongestPrefix IsIso2022JpAscii xs run
run_of_own xs n run long first =
    prefix_before IsOwn zero_own xs run (omega (arith, first.within)) (λ k l. own _ (first.before k l)) (λ short. other _ (first.found (omega arith)))

-- after bytes that are such ones, the prefix of a stride follows
module _ (at n run : ℕ) (xs stride : List ℕ) (is : stride ≡ take n (drop at xs)) (within : at + n ≤ length xs) (before : AreOwn xs at)
    (prefix : IsLongestPrefix IsIso2022JpAscii stride run) where
  long : length stride ≡ n
  long = ap length is ∙ length-take-le n (drop at xs) (omega (arith, within, length-drop at xs))

  pub own_through : AreOwn xs (at + run)
  own_through k l = elim (cases_lt k at) [
    | inl p ↦ before k p
    | inr p ↦ let e : at + (k - at) ≡ k = omega arith in
        subst IsOwn (unit_is 0 at n xs stride is (k - at) (omega (arith, prefix.within, long)) ∙ ap (slice_index xs) e)
        (Each-at IsOwn zero_own stride run (k - at) (omega arith) prefix.kind)
  ]

  pub own_until : run < n → IsLongestPrefix IsIso2022JpAscii xs (at + run)
  own_until short = prefix_before IsOwn zero_own xs (at + run) (omega (arith, within)) own_through (λ _ h.
      after_prefix IsOwn zero_own stride run prefix (omega (arith, long)) (subst IsOwn (sym (unit_is 0 at n xs stride is run short)) h))
