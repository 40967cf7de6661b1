-- Code units of bytes: each by its index, eight or sixteen as a vector, and the bytes of code units.
use Rattle.std.proofs.Common.{take-add, ◌≡◌, ℕ, zero, suc, ◌+◌, ◌-◌, ◌*◌, ◌/◌, ◌%◌, ◌^◌, ◌<◌, ◌≤◌, ◌⊎◌, Bool, true, false, List, [], ◌∷◌}
use Rattle.std.proofs.Common.{◌++◌, length, take, drop, get_or, refl, set, bit_or, inl, inr, sym, ap, ◌∙◌, arith, replicate, subst}
use Rattle.std.proofs.lemmas.List.{get_or-take, get_or-drop, length-drop, length-take-le, take_more, take_all}
use Rattle.std.proofs.lemmas.List.{take_at, take-take, length-append, drop_at, drop-drop, take-append-drop}
use Rattle.std.proofs.Math.Seq.{drop-nil}
use Rattle.std.proofs.lemmas.Grind.{same_number_lists}
use Rattle.std.proofs.lemmas.Bool.{cases_lt, false≢true}
use Rattle.std.proofs.lemmas.Simd.{Each1-chunk, Each1-get_or, get_or-chunk, length-chunk}
use lib.Lanes.{zip2, chunk, Each1}
use Rattle.std.proofs.lemmas.Nat.{le_or_l, le_or_r}
use Rattle.std.proofs.lemmas.Simd.{get_or-zip2, length-zip2}
use Rattle.encoding_definitions.specs.Prefixes.{WritesPrefix}
use Rattle.encoding_definitions.proofs.PrefixesLemmas.{WritesPrefix-same, WritesPrefix-nil, WritesPrefix_over, WritesPrefix_push}
use Rattle.encoding_kernels.specs.Scans.{AllBelow, BelowUpTo, HasLanes}
use Rattle.std.proofs.lemmas.List.Concat.{flat_map-append}
use Rattle.std.specs.Simd.{first_chunks}
use Rattle.encoding_kernels.proofs.ScanLemmas.{joined_firsts, run_below, WritesPrefix_block}
use Rattle.encoding_kernels.specs.UnitBytes.{bytes_in, unit_of, units_of}
use Rattle.encoding_kernels.proofs.VectorLemmas.{HasLanes-zip2, HasLanes-splat, HasLanes_same, wide, wide_l, wide_sixteen, wide_sixteen_l}

pub length-units_of : (big : Bool) (bs : List ℕ) → length (units_of big bs) ≡ length bs / 2
length-units_of big [] = refl
length-units_of big (a ∷ []) = refl
length-units_of big (a ∷ b ∷ bs) = omega (arith, length-units_of big bs)

step_of : (n : ℕ) → 2 * suc n ≡ suc (suc (2 * n))
step_of n = omega arith

pub units_of-drop : (big : Bool) (n : ℕ) (bs : List ℕ) → units_of big (drop (2 * n) bs) ≡ drop n (units_of big bs)
units_of-drop big zero bs = refl
units_of-drop big (suc n) [] = ap (λ k. units_of big (drop k [])) (step_of n)
units_of-drop big (suc n) (a ∷ []) = ap (λ k. units_of big (drop k (a ∷ []))) (step_of n) ∙ ap (units_of big) (drop-nil (suc (2 * n)))
units_of-drop big (suc n) (a ∷ b ∷ bs) = ap (λ k. units_of big (drop k (a ∷ b ∷ bs))) (step_of n) ∙ units_of-drop big n bs

pub units_of-take : (big : Bool) (n : ℕ) (bs : List ℕ) → units_of big (take (2 * n) bs) ≡ take n (units_of big bs)
units_of-take big zero bs = refl
units_of-take big (suc n) [] = ap (λ k. units_of big (take k [])) (step_of n)
units_of-take big (suc n) (a ∷ []) = ap (λ k. units_of big (take k (a ∷ []))) (step_of n)
units_of-take big (suc n) (a ∷ b ∷ bs) = ap (λ k. units_of big (take k (a ∷ b ∷ bs))) (step_of n) ∙ ap (λ us. unit_of big a b ∷ us) (units_of-take big n bs)

-- bytes make code units
pub units_of-fit : (big : Bool) (bs : List ℕ) → ((k : ℕ) → get_or bs k 0 < 256) → (k : ℕ) → get_or (units_of big bs) k 0 < 0x10000
units_of-fit big [] h k = omega (arith, h k)
units_of-fit big (a ∷ []) h k = omega (arith, h k)
units_of-fit false (a ∷ b ∷ bs) h zero = omega (arith, h 0, h 1)
units_of-fit true (a ∷ b ∷ bs) h zero = omega (arith, h 0, h 1)
units_of-fit big (a ∷ b ∷ bs) h (suc k) = units_of-fit big bs (λ j. h (suc (suc j))) k

-- ---- bytes in pairs
abbrev pub ArePairs : List (List ℕ) → Type 0
ArePairs pairs = (i : ℕ) → i < length pairs → length (get_or pairs i []) ≡ 2

pub length-bytes_in : (pairs : List (List ℕ)) → ArePairs pairs → length (bytes_in pairs) ≡ 2 * length pairs
length-bytes_in [] told = refl
length-bytes_in (p ∷ pairs) told =
    length-append p (bytes_in pairs) ∙ omega (arith, told 0 (omega arith), length-bytes_in pairs (λ i l. told (suc i) (omega (arith, l))))

-- a pair for each code unit
pub pairs_within : (big : Bool) (pairs : List (List ℕ)) → ArePairs pairs → length (units_of big (bytes_in pairs)) ≡ length pairs
pairs_within big pairs told = omega (arith, length-units_of big (bytes_in pairs), length-bytes_in pairs told)

pub bytes_in-drop : (n : ℕ) (pairs : List (List ℕ)) → ArePairs pairs → n ≤ length pairs → bytes_in (drop n pairs) ≡ drop (2 * n) (bytes_in pairs)
bytes_in-drop zero pairs told l = refl
bytes_in-drop (suc n) [] told l = absurd (omega (arith, l))
bytes_in-drop (suc n) (p ∷ pairs) told l =
    let twice : 2 + 2 * n ≡ 2 * suc n = omega arith in
    bytes_in-drop n pairs (λ i m. told (suc i) (omega (arith, m))) (omega (arith, l))
    ∙ ap (drop (2 * n)) (sym (drop_at p (bytes_in pairs) 2 (told 0 (omega arith))))
    ∙ drop-drop (2 * n) 2 (bytes_in (p ∷ pairs))
    ∙ ap (λ k. drop k (bytes_in (p ∷ pairs))) twice

pub bytes_in-take : (n : ℕ) (pairs : List (List ℕ)) → ArePairs pairs → n ≤ length pairs → bytes_in (take n pairs) ≡ take (2 * n) (bytes_in pairs)
bytes_in-take n pairs told l =
    let first = bytes_in (take n pairs) in
    let rest = bytes_in (drop n pairs) in
    let all : bytes_in pairs ≡ first ++ rest = ap bytes_in (sym (take-append-drop n pairs)) ∙ flat_map-append (λ p. p) (take n pairs) (drop n pairs) in
    let long : length first ≡ 2 * n =
    omega (
      arith,
      length-append first rest,
      ap length all,
      length-bytes_in pairs told,
      ap length (bytes_in-drop n pairs told l),
      length-drop (2 * n) (bytes_in pairs),
    ) in
    sym (ap (take (2 * n)) all ∙ take_at first rest (2 * n) long)

-- all pairs of bytes have all their code units
pub units_of-chunks : (big : Bool) (bs : List ℕ) → units_of big (bytes_in (first_chunks 2 (length bs / 2) bs)) ≡ units_of big bs
units_of-chunks big bs =
    let half = length bs / 2 in
    let twice : half * 2 ≡ 2 * half = omega arith in
    ap (units_of big) (joined_firsts 2 half bs ∙ ap (λ n. take n bs) twice) ∙ units_of-take big half bs
    ∙ take_all half (units_of big bs) (omega (arith, length-units_of big bs))

-- fewer than sixteen code units, with zeros after them
module _ (big : Bool) (bs part zeros lanes : List ℕ) (n : ℕ) (is : n ≡ length bs / 2) (few : n < 16) (same : part ≡ take (2 * n) bs)
    (rest : length zeros ≡ 32 - 2 * n) (loaded : lanes ≡ take 16 (units_of big (part ++ zeros))) where
  part_long : length part ≡ 2 * n
  part_long = ap length same ∙ length-take-le (2 * n) bs (omega (arith, is))

  lanes_long : length lanes ≡ 16
  lanes_long = ap length loaded ∙ length-take-le 16 (units_of big (part ++ zeros))
      (omega (arith, length-units_of big (part ++ zeros), length-append part zeros, part_long, rest))

  pub few_units : (length lanes ≡ 16) × (take (length (take 16 (units_of big bs))) lanes ≡ take 16 (units_of big bs))
  few_units =
      let us = units_of big bs in
      let long : length us ≡ n = omega (arith, length-units_of big bs, is) in
      let whole : take 16 us ≡ us = take_all 16 us (omega (arith, long)) in
      let all : units_of big (take (2 * n) bs) ≡ us = units_of-take big n bs ∙ take_all n us (omega (arith, long)) in
      let start : take (2 * n) (part ++ zeros) ≡ part = take_at part zeros (2 * n) part_long in (
        lanes_long,
        ap (λ xs. take (length xs) lanes) whole ∙ ap (λ k. take k lanes) long ∙ ap (take n) loaded
            ∙ take-take n 16 (units_of big (part ++ zeros)) (omega (arith, few)) ∙ sym (units_of-take big n (part ++ zeros))
            ∙ ap (units_of big) (start ∙ same) ∙ all ∙ sym whole,
      )

-- eight to fifteen code units, of which the first eight and the last eight were joined
pub from_eights : (us first last lanes : List ℕ) (n : ℕ) → length us ≡ n → 8 ≤ n → n < 16 → first ≡ take 8 us → last ≡ take 8 (drop (n - 8) us)
    → take n lanes ≡ first ++ drop (16 - n) last → take (length (take 16 us)) lanes ≡ take 16 us
from_eights us first last lanes n long least few front back joined =
    let whole : take 16 us ≡ us = take_all 16 us (omega arith) in
    let ends : last ≡ drop (n - 8) us = back ∙ take_all 8 (drop (n - 8) us) (omega (arith, length-drop (n - 8) us)) in
    let place : n - 8 + (16 - n) ≡ 8 = omega arith in
    let rest : drop (16 - n) last ≡ drop 8 us = ap (drop (16 - n)) ends ∙ drop-drop (16 - n) (n - 8) us ∙ ap (λ k. drop k us) place in
    ap (λ xs. take (length xs) lanes) whole ∙ ap (λ k. take k lanes) long ∙ joined ∙ (λ i. front i ++ rest i) ∙ take-append-drop 8 us ∙ sym whole

-- a code unit by its index
pub unit_at_is : (big : Bool) (bs : List ℕ) (k : ℕ) → 2 * k + 2 ≤ length bs
    → get_or (units_of big bs) k 0 ≡ unit_of big (get_or bs (2 * k) 0) (get_or bs (2 * k + 1) 0)
unit_at_is big [] k l = absurd (omega (arith, l))
unit_at_is big (a ∷ []) k l = absurd (omega (arith, l))
unit_at_is big (a ∷ b ∷ bs) zero l = refl
unit_at_is big (a ∷ b ∷ bs) (suc k) l =
    let first : suc (suc (2 * k)) ≡ 2 * suc k = omega arith in
    let second : suc (suc (2 * k + 1)) ≡ 2 * suc k + 1 = omega arith in
    unit_at_is big bs k (omega (arith, l)) ∙ (λ i. unit_of big (get_or (a ∷ b ∷ bs) (first i) 0) (get_or (a ∷ b ∷ bs) (second i) 0))

-- n lanes that are code units
units_are : (n : ℕ) (big : Bool) (bs lanes : List ℕ) (at : ℕ) → 2 * at + 2 * n ≤ length bs
    → HasLanes n lanes (λ k. unit_of big (get_or bs (2 * at + 2 * k) 0) (get_or bs (2 * at + (2 * k + 1)) 0))
    → lanes ≡ take n (drop at (units_of big bs))
units_are n big bs lanes at room h =
    let us = units_of big bs in
    let long : length (take n (drop at us)) ≡ n =
    length-take-le n (drop at us) (omega (arith, length-drop at us, length-units_of big bs)) in
    same_number_lists lanes (take n (drop at us)) (h.long ∙ sym long) (λ k l.
    let less : k < n = omega (arith, h.long) in
    let first : 2 * at + 2 * k ≡ 2 * (at + k) = omega arith in
    let second : 2 * at + (2 * k + 1) ≡ 2 * (at + k) + 1 = omega arith in
    h.each k less ∙ (λ i. unit_of big (get_or bs (first i) 0) (get_or bs (second i) 0))
    ∙ sym (get_or-take n (drop at us) k 0 less ∙ get_or-drop at us k 0 ∙ unit_at_is big bs (at + k) (omega arith)))

swapped : (a b : ℕ) → a < 256 → b < 256 → ((a + 256 * b) * 2 ^ 8 % 2 ^ 16 + (a + 256 * b) / 2 ^ 8) % 2 ^ 16 ≡ 0x100 * a + b
swapped a b l m = omega arith

module _ (n : ℕ) (bs words : List ℕ) (at : ℕ) (room : 2 * at + 2 * n ≤ length bs) (fit : Each1 (λ x. x < 256) bs)
    (loaded : HasLanes n words (λ k. get_or bs (2 * at + 2 * k) 0 + 256 * get_or bs (2 * at + (2 * k + 1)) 0)) where
  little_units : words ≡ take n (drop at (units_of false bs))
  little_units = units_are n false bs _ at room loaded

  big_units : zip2 (λ a b. (a + b) % 2 ^ 16) (zip2 (λ a b. a * 2 ^ b % 2 ^ 16) words (replicate n 8)) (zip2 (λ a b. a / 2 ^ b) words (replicate n 8))
      ≡ take n (drop at (units_of true bs))
  big_units =
      let left = HasLanes-zip2 (λ a b. a * 2 ^ b % 2 ^ 16) loaded (HasLanes-splat n 8) in
      let right = HasLanes-zip2 (λ a b. a / 2 ^ b) loaded (HasLanes-splat n 8) in
      units_are n true bs _ at room (HasLanes_same (HasLanes-zip2 (λ a b. (a + b) % 2 ^ 16) left right) (λ k l.
      swapped (get_or bs (2 * at + 2 * k) 0) (get_or bs (2 * at + (2 * k + 1)) 0) (Each1-get_or (λ x. x < 256) bs (2 * at + 2 * k) 0 (omega arith) fit)
      (Each1-get_or (λ x. x < 256) bs (2 * at + (2 * k + 1)) 0 (omega arith) fit)))

module _ (bs : List ℕ) (at : ℕ) (fit : Each1 (λ x. x < 256) bs) where
  sixteen_loaded : 2 * at + 32 ≤ length bs
      → HasLanes 16 (wide_sixteen_l (chunk (2 * at) 32 bs)) (λ k. get_or bs (2 * at + 2 * k) 0 + 256 * get_or bs (2 * at + (2 * k + 1)) 0)
  sixteen_loaded room =
      HasLanes_same (wide_sixteen (chunk (2 * at) 32 bs) (length-chunk (2 * at) 32 bs room) (Each1-chunk (λ x. x < 256) (2 * at) 32 bs fit))
      (λ k l. (λ i. get_or-chunk (2 * at) 32 bs (2 * k) 0 (omega arith) i + 256 * get_or-chunk (2 * at) 32 bs (2 * k + 1) 0 (omega arith) i))

  eight_loaded : 2 * at + 16 ≤ length bs
      → HasLanes 8 (wide_l (chunk (2 * at) 16 bs)) (λ k. get_or bs (2 * at + 2 * k) 0 + 256 * get_or bs (2 * at + (2 * k + 1)) 0)
  eight_loaded room =
      HasLanes_same (wide (chunk (2 * at) 16 bs) (length-chunk (2 * at) 16 bs room) (Each1-chunk (λ x. x < 256) (2 * at) 16 bs fit))
      (λ k l. (λ i. get_or-chunk (2 * at) 16 bs (2 * k) 0 (omega arith) i + 256 * get_or-chunk (2 * at) 16 bs (2 * k + 1) 0 (omega arith) i))

sixteen_long : (big : Bool) (bs : List ℕ) (at : ℕ) → 2 * at + 32 ≤ length bs → length (take 16 (drop at (units_of big bs))) ≡ 16
sixteen_long big bs at room = length-take-le 16 (drop at (units_of big bs)) (omega (arith, length-drop at (units_of big bs), length-units_of big bs))

-- for either order
pub sixteen_of_little : (big : Bool) → big ≡ false → (bs : List ℕ) (at : ℕ) → 2 * at + 32 ≤ length bs → Each1 (λ x. x < 256) bs
    → wide_sixteen_l (chunk (2 * at) 32 bs) ≡ take 16 (drop at (units_of big bs))
sixteen_of_little false e bs at room fit = little_units 16 bs _ at room fit (sixteen_loaded bs at fit room)
sixteen_of_little true e bs at room fit = absurd (false≢true (sym e))

pub sixteen_of_big : (big : Bool) → big ≡ true → (bs : List ℕ) (at : ℕ) → 2 * at + 32 ≤ length bs → Each1 (λ x. x < 256) bs
    → zip2 (λ a b. (a + b) % 2 ^ 16) (zip2 (λ a b. a * 2 ^ b % 2 ^ 16) (wide_sixteen_l (chunk (2 * at) 32 bs)) (replicate 16 8))
    (zip2 (λ a b. a / 2 ^ b) (wide_sixteen_l (chunk (2 * at) 32 bs)) (replicate 16 8)) ≡ take 16 (drop at (units_of big bs))
sixteen_of_big true e bs at room fit = big_units 16 bs _ at room fit (sixteen_loaded bs at fit room)
sixteen_of_big false e bs at room fit = absurd (false≢true e)

pub eight_of_little : (big : Bool) → big ≡ false → (bs : List ℕ) (at : ℕ) → 2 * at + 16 ≤ length bs → Each1 (λ x. x < 256) bs
    → wide_l (chunk (2 * at) 16 bs) ≡ take 8 (drop at (units_of big bs))
eight_of_little false e bs at room fit = little_units 8 bs _ at room fit (eight_loaded bs at fit room)
eight_of_little true e bs at room fit = absurd (false≢true (sym e))

pub eight_of_big : (big : Bool) → big ≡ true → (bs : List ℕ) (at : ℕ) → 2 * at + 16 ≤ length bs → Each1 (λ x. x < 256) bs
    → zip2 (λ a b. (a + b) % 2 ^ 16) (zip2 (λ a b. a * 2 ^ b % 2 ^ 16) (wide_l (chunk (2 * at) 16 bs)) (replicate 8 8))
    (zip2 (λ a b. a / 2 ^ b) (wide_l (chunk (2 * at) 16 bs)) (replicate 8 8)) ≡ take 8 (drop at (units_of big bs))
eight_of_big true e bs at room fit = big_units 8 bs _ at room fit (eight_loaded bs at fit room)
eight_of_big false e bs at room fit = absurd (false≢true e)

pub unit_of_little : (big : Bool) → big ≡ false → (bs : List ℕ) (k : ℕ) → 2 * k + 2 ≤ length bs
    → get_or bs (2 * k) 0 + 0x100 * get_or bs (2 * k + 1) 0 ≡ get_or (units_of big bs) k 0
unit_of_little false e bs k l = sym (unit_at_is false bs k l)
unit_of_little true e bs k l = absurd (false≢true (sym e))

pub unit_of_big : (big : Bool) → big ≡ true → (bs : List ℕ) (k : ℕ) → 2 * k + 2 ≤ length bs
    → 0x100 * get_or bs (2 * k) 0 + get_or bs (2 * k + 1) 0 ≡ get_or (units_of big bs) k 0
unit_of_big true e bs k l = sym (unit_at_is true bs k l)
unit_of_big false e bs k l = absurd (false≢true e)

-- twice sixteen in a row
pub two_sixteens : (us a b : List ℕ) (at : ℕ) → a ≡ take 16 (drop at us) → b ≡ take 16 (drop (at + 16) us) → a ++ b ≡ take 32 (drop at us)
two_sixteens us a b at e f =
    (λ i. e i ++ f i) ∙ ap (λ xs. take 16 (drop at us) ++ take 16 xs) (sym (drop-drop 16 at us)) ∙ sym (take-add 16 16 (drop at us))

pub two_ascii : (us both : List ℕ) (at : ℕ) → both ≡ take 32 (drop at us) → AllBelow 0x80 us at 32 → (k : ℕ) → k < 32 → get_or both k 0 < 0x80
two_ascii us both at e below k l =
    let same : get_or both k 0 ≡ get_or us (at + k) 0 = ap (λ xs. get_or xs k 0) e ∙ get_or-take 32 (drop at us) k 0 l ∙ get_or-drop at us k 0 in
    omega (arith, same, below (at + k) (omega arith) (omega arith))

-- one more code unit at the end of those that are written
pub one_unit_more : (old new us : List ℕ) (n unit : ℕ) → unit ≡ get_or us n 0 → n < length us → n < length new → WritesPrefix old new n (take n us)
    → WritesPrefix old (set new n unit) (n + 1) (take (n + 1) us)
one_unit_more old new us n unit e l room w =
    WritesPrefix-same _ _ _ _ _ _ (WritesPrefix_push old new n (take n us) unit w room) refl (ap (λ b. take n us ++ b ∷ []) e ∙ sym (take_more us n 0 l))

-- ---- a copy that may begin again
-- the first `count` code units, which are ASCII, were copied, and the copy goes on at `at`: after these, or again at the start
-- if they are sixteen
pub record Copied (old new us : List ℕ) (at : ℕ) : Type 0 where
  pub count : ℕ
  pub place : (at ≡ count) ⊎ ((at ≡ 0) × (count ≡ 16))
  pub below : BelowUpTo 0x80 us count
  pub written : WritesPrefix old new count (take count us)

-- after these
pub copied_prefix : {old new us : List ℕ} {at : ℕ} → BelowUpTo 0x80 us at → WritesPrefix old new at (take at us) → Copied old new us at
copied_prefix {at = at} below written = record { count = at; place = inl refl; below = below; written = written }

module _ {old new us : List ℕ} {at : ℕ} (d : Copied old new us at) where
  -- m more, with which a copy that began again has passed those sixteen
  pub copied_on : {after : List ℕ} (m : ℕ) → AllBelow 0x80 us at m → (m < 16 → 0x80 ≤ get_or us (at + m) 0)
      → ((before : List ℕ) → WritesPrefix before new at (take at us) → WritesPrefix before after (at + m) (take (at + m) us))
      → WritesPrefix old after (at + m) (take (at + m) us)
  copied_on {after} m more stops next = elim d.place [
    | inl e ↦ next old (subst (λ k. WritesPrefix old new k (take k us)) (sym e) d.written)
    | inr e ↦ WritesPrefix_over old new after d.count (at + m) (take d.count us) (take (at + m) us) d.written
        (next new (subst (λ k. WritesPrefix new new k (take k us)) (sym e.0) (WritesPrefix-nil new)))
        (elim (cases_lt m 16) [
          | inl l ↦ absurd (omega (arith, d.below (at + m) (omega (arith, e.0, e.1, l)), stops l))
          | inr l ↦ omega (arith, e.0, e.1, l)
        ])
  ]

  -- by one store
  pub copied_put : {after : List ℕ} (m : ℕ) → AllBelow 0x80 us at m → (m < 16 → 0x80 ≤ get_or us (at + m) 0) → at + m ≤ length us → at + m ≤ length new
      → after ≡ take at new ++ (take m (drop at us) ++ drop (at + m) new) → WritesPrefix old after (at + m) (take (at + m) us)
  copied_put {after} m more stops within room put =
      copied_on m more stops (λ before w. WritesPrefix_block before new after us at m w within room put)

-- four times sixteen code units whose lanes were joined
or_below : (bound k : ℕ) (xs ys : List ℕ) → length xs ≡ 16 → length ys ≡ 16 → k < 16 → get_or (zip2 bit_or xs ys) k 0 < bound
    → (get_or xs k 0 < bound) × (get_or ys k 0 < bound)
or_below bound k xs ys l m few h =
    let same = get_or-zip2 bit_or xs ys k 0 0 0 (omega (arith, l)) (omega (arith, m)) in
    let first = le_or_l (get_or xs k 0) (get_or ys k 0) in
    let second = le_or_r (get_or xs k 0) (get_or ys k 0) in
    (omega (arith, same, first, h), omega (arith, same, second, h))

module _ (big : Bool) (bs a b c d : List ℕ) (at : ℕ) (room : 2 * at + 128 ≤ length bs) where
  long : (k : ℕ) → k ≤ 48 → length (take 16 (drop (at + k) (units_of big bs))) ≡ 16
  long k l = sixteen_long big bs (at + k) (omega (arith, room, l))

  pub four_below : (bound : ℕ) → a ≡ take 16 (drop at (units_of big bs)) → b ≡ take 16 (drop (at + 16) (units_of big bs))
      → c ≡ take 16 (drop (at + 32) (units_of big bs)) → d ≡ take 16 (drop (at + 48) (units_of big bs))
      → ((k : ℕ) → k < 16 → get_or (zip2 bit_or (zip2 bit_or a b) (zip2 bit_or c d)) k 0 < bound) → AllBelow bound (units_of big bs) at 64
  four_below bound e f g h below =
      let us = units_of big bs in
      let la : length a ≡ 16 = ap length e ∙ sixteen_long big bs at (omega (arith, room)) in
      let lb : length b ≡ 16 = ap length f ∙ long 16 (omega arith) in
      let lc : length c ≡ 16 = ap length g ∙ long 32 (omega arith) in
      let ld : length d ≡ 16 = ap length h ∙ long 48 (omega arith) in
      let lab : length (zip2 bit_or a b) ≡ 16 = length-zip2 bit_or a b (la ∙ sym lb) ∙ la in
      let lcd : length (zip2 bit_or c d) ≡ 16 = length-zip2 bit_or c d (lc ∙ sym ld) ∙ lc in
      let halves = λ (k : ℕ) (l : k < 16). or_below bound k (zip2 bit_or a b) (zip2 bit_or c d) lab lcd l (below k l) in
      let first = run_below 16 at us e 16 (omega arith) (λ k _ l. (or_below bound k a b la lb l (halves k l).0).0) in
      let second = run_below 16 (at + 16) us f 16 (omega arith) (λ k _ l. (or_below bound k a b la lb l (halves k l).0).1) in
      let third = run_below 16 (at + 32) us g 16 (omega arith) (λ k _ l. (or_below bound k c d lc ld l (halves k l).1).0) in
      let fourth = run_below 16 (at + 48) us h 16 (omega arith) (λ k _ l. (or_below bound k c d lc ld l (halves k l).1).1) in
      λ k from to. elim (cases_lt k (at + 16)) [
        | inl p ↦ first k from p
        | inr p ↦ elim (cases_lt k (at + 32)) [
          | inl q ↦ second k p (omega (arith, q))
          | inr q ↦ elim (cases_lt k (at + 48)) [ inl s ↦ third k q (omega (arith, s)) | inr s ↦ fourth k s (omega (arith, to)) ]
        ]
      ]
