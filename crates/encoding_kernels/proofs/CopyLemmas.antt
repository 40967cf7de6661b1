-- What is stored of a vector: its first bytes, of which a second store overwrites the excess, and the lower bytes of code
-- units. And a vector of a short text followed by zeros, from its first eight bytes and its last eight.
use Rattle.std.proofs.Common.{◌≡◌, ℕ, ◌+◌, ◌≤◌, List, ◌++◌, length, take, drop, length-take-le, get_or, cond, ltb, sym, ap, ◌∙◌, arith, append_assoc, map}
use Rattle.std.proofs.Common.{replicate, ◌%◌, ◌<◌, map-id, get_or-take, bit_and, w8, Fits, ◌-◌, ◌^◌, length-append, length-drop, get_or-drop, inl, inr, refl}
use Rattle.std.proofs.lemmas.List.{take_all, drop_at, length-map, get_or-map, get_or_append_left, get_or-append_right, length-take-le}
use Rattle.std.proofs.lemmas.Simd.{length-put_chunk, length-chunk, Each1-from_get_or, length-replicate, get_or-replicate, swz_l, SwzOk}
use Rattle.std.specs.List.{range_with_len}
use Rattle.std.specs.Simd.Lanes.{chunk, put_chunk, zip2, sel_l, top, Each1, pick_l}
use mir.Syntax.{Width}
use mir.Val.{hbits}
use Rattle.encoding_kernels.specs.Scans.{HasLanes}
use Rattle.encoding_definitions.specs.Prefixes.{WritesPrefix}
use Rattle.encoding_definitions.proofs.PrefixesLemmas.{WritesPrefix-same}
use Rattle.encoding_kernels.proofs.VectorLemmas.{put_prefix, put_is, HasLanes-itself, HasLanes-numbers, HasLanes-splat, compared}
use Rattle.encoding_kernels.proofs.VectorLemmas.{put_firsts, HasLanes-zip2, HasLanes_same, HasLanes-swizzle, swizzle_ok}
use Rattle.encoding_kernels.proofs.MaskLemmas.{chosen_by, tests_of}
use Rattle.std.proofs.lemmas.Grind.{same_number_lists}
use Rattle.std.proofs.lemmas.Nat.{and_mask, and_le_r}
use Rattle.std.proofs.lemmas.Bool.{cases_lt, cond-true, cond-false, lt-ltb, le-ltb}
use Rattle.std.proofs.lemmas.Bool.Decides.{nat_tests}

-- a prefix of the whole length is the whole list
pub WritesPrefix_whole : {A : Type 0} (old new xs : List A) (n m : ℕ) → WritesPrefix old new n (take n xs) → n ≡ length xs → m ≡ length xs
    → WritesPrefix old new m xs
WritesPrefix_whole old new xs n m written all same =
    WritesPrefix-same old new n m (take n xs) xs written (all ∙ sym same) (ap (λ k. take k xs) all ∙ take_all (length xs) xs (omega arith))

-- the first `count` lanes of one vector, followed by what the list has after them
pub firsts_over : {n : ℕ} (w : Width) (at count : ℕ) (xs lanes : List ℕ) → at + n ≤ length xs → length lanes ≡ n
    → HasLanes n (sel_l (map (top (hbits w)) (zip2 (compared w ltb) (range_with_len 0 n) (replicate n count))) lanes (chunk at n xs))
    (λ k. cond (ltb k count) (get_or lanes k 0) (get_or (chunk at n xs) k 0))
firsts_over {n} w at count xs lanes room long =
    chosen_by (tests_of w ltb (HasLanes-numbers n) (HasLanes-splat n count)) (HasLanes-itself n lanes long)
    (HasLanes-itself n (chunk at n xs) (length-chunk at n xs room))

-- storing these lanes
pub put_first : {n : ℕ} (w : Width) (at count : ℕ) (xs lanes : List ℕ) → at + n ≤ length xs → length lanes ≡ n → count ≤ n
    → put_chunk at xs (sel_l (map (top (hbits w)) (zip2 (compared w ltb) (range_with_len 0 n) (replicate n count))) lanes
    (chunk at n xs)) ≡ take at xs ++ (take count lanes ++ drop (at + count) xs)
put_first {n} w at count xs lanes room long few = put_firsts at n count xs lanes _ room long few (firsts_over w at count xs lanes room long)

module _ (at count more : ℕ) (xs first second z : List ℕ) (room : at + (16 + count) ≤ length xs) (few : count ≤ 16) (long : length first ≡ 16)
    (less : more ≤ 16) (also : length second ≡ 16)
    (lanes : HasLanes 16 z (λ k. cond (ltb k more) (get_or second k 0) (get_or (chunk (at + count) 16 xs) k 0))) where
  -- only the second store
  second_single : z ++ drop (at + count + 16) xs ≡ take more second ++ drop (at + count + more) xs
  second_single =
      let prefix : length (take (at + count) xs) ≡ at + count = length-take-le (at + count) xs (omega arith) in
      sym (drop_at (take (at + count) xs) (z ++ drop (at + count + 16) xs) (at + count) prefix)
      ∙ ap (drop (at + count)) (sym (put_is (at + count) 16 xs z lanes.long (omega arith))
      ∙ put_firsts (at + count) 16 more xs second z (omega arith) also less lanes)
      ∙ drop_at (take (at + count) xs) (take more second ++ drop (at + count + more) xs) (at + count) prefix

  pub both_put : put_chunk (at + count) (put_chunk at xs first) z ≡ take at xs ++ ((take count first ++ take more second) ++ drop (at + (count + more)) xs)
  both_put =
      let place : at + count + more ≡ at + (count + more) = omega arith in
      let parts = put_prefix 16 xs first at count long few (omega arith) in
      put_is (at + count) 16 (put_chunk at xs first) z lanes.long (omega (arith, length-put_chunk at xs first))
      ∙ (λ i. parts.0 i ++ (z ++ parts.1 i))
      ∙ ap (λ ys. (take at xs ++ take count first) ++ ys) (second_single ∙ ap (λ n. take more second ++ drop n xs) place)
      ∙ append_assoc (take at xs) (take count first) (take more second ++ drop (at + (count + more)) xs)
      ∙ ap (λ ys. take at xs ++ ys) (sym (append_assoc (take count first) (take more second) (drop (at + (count + more)) xs)))

-- ---- the lower bytes of code units
module _ (n : ℕ) (units : List ℕ) (long : length units ≡ n) where
  lower : List ℕ
  lower = zip2 bit_and units (replicate n 0xFF)

  lower_lanes : HasLanes n lower (λ k. get_or units k 0 % 0x100)
  unfolding lower
  lower_lanes = HasLanes_same (HasLanes-zip2 bit_and (HasLanes-itself n units long) (HasLanes-splat n 0xFF)) (λ k l. and_mask (get_or units k 0) 8)

  -- after `& 0xFF` each unit fits into a byte
  pub lower_fit : Each1 (Fits w8) (zip2 bit_and units (replicate n 0xFF))
  unfolding lower
  lower_fit = Each1-from_get_or (Fits w8) lower 0 (λ k l. record { fits = omega (arith, lower_lanes.each k (omega (arith, lower_lanes.long))) })

  -- that is the lower byte
  pub lower_are : map (λ x. x) (zip2 bit_and units (replicate n 0xFF)) ≡ map (λ unit. unit % 0x100) units
  unfolding lower
  lower_are = map-id lower
      ∙ same_number_lists lower (map (λ unit. unit % 0x100) units) (omega (arith, lower_lanes.long, length-map units (λ unit. unit % 0x100))) (λ k l.
      lower_lanes.each k (omega (arith, lower_lanes.long)) ∙ sym (get_or-map (λ unit. unit % 0x100) units k 0 0 (omega (arith, long, lower_lanes.long))))

  -- units that are bytes are unchanged
  pub lower_same : (count : ℕ) → count ≤ n → ((k : ℕ) → k < count → get_or units k 0 < 0x100)
      → take count (map (λ x. x) (zip2 bit_and units (replicate n 0xFF))) ≡ take count units
  unfolding lower
  lower_same count few small =
      let short = length-take-le count lower (omega (arith, lower_lanes.long)) in
      ap (take count) (map-id lower)
      ∙ same_number_lists (take count lower) (take count units) (omega (arith, short, length-take-le count units (omega (arith, long)))) (λ k l.
      let in_prefix : k < count = omega (arith, short) in
      get_or-take count lower k 0 in_prefix ∙ rw (get_or-take count units k 0 in_prefix) (omega (arith, lower_lanes.each k (omega arith), small k in_prefix)))

abbrev numbers : List ℕ
numbers = range_with_len 0 16

-- the index of byte k among the first eight and the last eight of n
abbrev later : ℕ → ℕ → ℕ
later n k = bit_and ((k + (16 + (2 ^ 8 - n)) % 2 ^ 8) % 2 ^ 8) 15

abbrev place : ℕ → ℕ → ℕ
place n k = cond (ltb k 8) k (later n k)

abbrev pub places : ℕ → List ℕ
places n = sel_l (map (top 7) (zip2 (compared w8 ltb) numbers (replicate 16 8))) numbers
    (zip2 bit_and (zip2 (λ a b. (a + b) % 2 ^ 8) numbers (zip2 (λ a b. (a + (2 ^ 8 - b)) % 2 ^ 8) (replicate 16 16) (replicate 16 n))) (replicate 16 15))

placed : (n : ℕ) → HasLanes 16 (places n) (place n)
placed n =
    let moved =
    HasLanes-zip2 (λ a b. (a + b) % 2 ^ 8) (HasLanes-numbers 16)
    (HasLanes-zip2 (λ a b. (a + (2 ^ 8 - b)) % 2 ^ 8) (HasLanes-splat 16 16) (HasLanes-splat 16 n)) in
    chosen_by (tests_of w8 ltb (HasLanes-numbers 16) (HasLanes-splat 16 8)) (HasLanes-numbers 16) (HasLanes-zip2 bit_and moved (HasLanes-splat 16 15))

place_small : (n k : ℕ) → k < 16 → place n k < 16
place_small n k l = grind (arith, nat_tests, and_le_r ((k + (16 + (2 ^ 8 - n)) % 2 ^ 8) % 2 ^ 8) 15)

pub places_ok : (n : ℕ) → SwzOk w8 16 16 0 (places n)
places_ok n = swizzle_ok (placed n) (place_small n)

module _ (xs : List ℕ) (least : 8 ≤ length xs) where
  abbrev chunks : List ℕ
  chunks = take 8 xs ++ chunk (length xs - 8) 8 xs

  first_long : length (take 8 xs) ≡ 8
  first_long = length-take-le 8 xs least

  -- the shuffle of the first eight and the last eight
  pub first_and_last : pick_l 0 chunks numbers ≡ take 8 xs ++ drop (length xs - 8) xs
  first_and_last =
      let last : chunk (length xs - 8) 8 xs ≡ drop (length xs - 8) xs = take_all 8 (drop (length xs - 8) xs) (omega (arith, length-drop (length xs - 8) xs)) in
      let last_long = length-chunk (length xs - 8) 8 xs (omega arith) in
      let long : length chunks ≡ 16 = omega (arith, first_long, length-append (take 8 xs) (chunk (length xs - 8) 8 xs), last_long) in
      same_number_lists (pick_l 0 chunks numbers) chunks (omega (arith, long, length-map numbers (λ k. get_or chunks k 0), (HasLanes-numbers 16).long)) (λ k l.
      let within : k < 16 = omega (arith, length-map numbers (λ k. get_or chunks k 0), (HasLanes-numbers 16).long) in
      get_or-map (λ k. get_or chunks k 0) numbers k 0 0 (omega arith) ∙ ap (λ k. get_or chunks k 0) ((HasLanes-numbers 16).each k within))
      ∙ ap (λ ys. take 8 xs ++ ys) last

module _ (xs both : List ℕ) (least : 8 ≤ length xs) (most : length xs ≤ 16) (is : both ≡ take 8 xs ++ drop (length xs - 8) xs) where
  abbrev n : ℕ
  n = length xs

  -- one of the first eight, and one after them
  early : (k : ℕ) → k < 8 → get_or both (place n k) 0 ≡ get_or xs k 0
  early k l =
      let here : place n k ≡ k = cond-true _ _ _ (lt-ltb k 8 l) in
      ap (λ j. get_or both j 0) here ∙ ap (λ ys. get_or ys k 0) is ∙ get_or_append_left (take 8 xs) (drop (n - 8) xs) 0 k (omega (arith, first_long xs least))
      ∙ get_or-take 8 xs k 0 l

  late : (k : ℕ) → 8 ≤ k → k < n → get_or both (place n k) 0 ≡ get_or xs k 0
  late k h l =
      let sum : (k + (16 + (2 ^ 8 - n)) % 2 ^ 8) % 2 ^ 8 ≡ 16 + k - n = omega (arith, least, most) in
      let low : bit_and (16 + k - n) 15 ≡ 16 + k - n = omega (arith, and_mask (16 + k - n) 4, most) in
      let here : place n k ≡ 16 + k - n = cond-false _ _ _ (le-ltb k 8 h) ∙ ap (λ j. bit_and j 15) sum ∙ low in
      let inside : 16 + k - n - 8 < 8 = omega (arith, most) in
      let back : n - 8 + (16 + k - n - 8) ≡ k = omega (arith, least, most) in
      ap (λ j. get_or both j 0) here ∙ ap (λ ys. get_or ys (16 + k - n) 0) is
      ∙ get_or-append_right (take 8 xs) (drop (n - 8) xs) 8 (16 + k - n) 0 (first_long xs least) (omega (arith, most))
      ∙ get_or-drop (n - 8) xs (16 + k - n - 8) 0 ∙ ap (λ j. get_or xs j 0) back

  abbrev z : List ℕ
  z = sel_l (map (top 7) (zip2 (compared w8 ltb) numbers (replicate 16 n))) (swz_l w8 16 both 0 (places n)) (replicate 16 0)

  lanes : HasLanes 16 z (λ k. cond (ltb k n) (get_or both (place n k) 0) 0)
  lanes = chosen_by (tests_of w8 ltb (HasLanes-numbers 16) (HasLanes-splat 16 n)) (HasLanes-swizzle both (placed n) (place_small n)) (HasLanes-splat 16 0)

  pub with_zeros_is : z ≡ xs ++ drop n (replicate 16 0)
  with_zeros_is = same_number_lists z (xs ++ drop n (replicate 16 0))
      (omega (
        arith,
        lanes.long,
        length-append {A = ℕ} xs (drop n (replicate 16 0)),
        length-drop {A = ℕ} n
            (replicate 16 0),
        length-replicate {A = ℕ} 16 0,
        most,
      )) (λ k l.
      let within : k < 16 = omega (arith, lanes.long) in
      lanes.each k within ∙ elim (cases_lt k n) [
        | inl p ↦ cond-true _ _ _ (lt-ltb k n p) ∙ elim (cases_lt k 8) [ inl a ↦ early k a | inr b ↦ late k b p ]
            ∙ sym (get_or_append_left xs (drop n (replicate 16 0)) 0 k p)
        | inr q ↦
            let back : n + (k - n) ≡ k = omega arith in
            cond-false _ _ _ (le-ltb k n q) ∙ sym (get_or-append_right xs (drop n (replicate 16 0)) n k 0 refl q ∙ get_or-drop n (replicate 16 0) (k - n) 0
            ∙ ap (λ j. get_or (replicate 16 0) j 0) back ∙ get_or-replicate 16 k 0 0 within)
      ])
