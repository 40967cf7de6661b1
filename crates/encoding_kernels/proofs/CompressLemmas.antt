-- The kept lanes of a vector, moved to its start by a table of their indices.
use Rattle.std.proofs.Common.{◌≡◌, ℕ, zero, suc, ◌+◌, ◌-◌, ◌*◌, ◌/◌, ◌%◌, ◌^◌, ◌<◌, ◌≤◌, ◌==◌, Bool, true, false, ◌&&◌, if◌then◌else◌, leb, ltb, eqb, List}
use Rattle.std.proofs.Common.{[], ◌∷◌, ◌++◌, map, length, take, drop, get_or, replicate, bit_and, refl, sym, ap, ◌∙◌, arith, subst, w8, w16, append_assoc}
use Rattle.std.specs.List.{range_with_len}
use Rattle.std.specs.Int.RustNames.{count_ones}
use Rattle.std.specs.Simd.Lanes.{zip2, sel_l, top, put_chunk, mask_l, Each1, number_l, digits_l}
use Rattle.std.proofs.Math.Seq.{take-append-add}
use Rattle.std.proofs.lemmas.Bool.{and_parts, eqb-true, leb-true}
use Rattle.std.proofs.lemmas.Bool.Decides.{nat_tests}
use Rattle.std.proofs.lemmas.Grind.{same_number_lists}
use Rattle.std.proofs.lemmas.Nat.{and_mask, ones_le_self}
use Rattle.std.proofs.lemmas.List.{length-map, length-append, length-take-le, length-drop, get_or-map, take-map}
use Rattle.std.proofs.lemmas.List.{map-append, take-append-drop, take_at, drop_at, drop-drop, drop-append-le}
use Rattle.std.proofs.lemmas.Simd.{SwzOk, SwzOk-from_below, swz_l, Each1-get_or, mask_l-lt, ones-mask_l_cons, length-put_chunk}
use Rattle.encoding_kernels.specs.declared.utf8_to_utf16.strides.TheConstants.{COMPRESSED}
use Rattle.encoding_kernels.specs.Scans.{HasLanes}
use Rattle.encoding_kernels.proofs.MovedLemmas.{words_moved}
use Rattle.encoding_kernels.proofs.VectorLemmas.{put_prefix, put_is, HasLanes-itself, HasLanes-numbers}
use Rattle.encoding_kernels.proofs.VectorLemmas.{HasLanes-splat, compared, firsts_are, same_below, wide_l}
use Rattle.encoding_kernels.proofs.MaskLemmas.{chosen_by, tests_of}
use Rattle.encoding_kernels.proofs.MaskPartLemmas.{mask_split, low_half, high_half}
use Rattle.encoding_kernels.specs.EndingUnits.{keep, places_from, compressed_places, bytes_at, byte_places, WritesCompressed}

-- ---- the table
-- the sixteen indices of a mask
abbrev row_bytes : ℕ → ℕ → List ℕ
row_bytes first second = digits_l 256 16 (number_l (2 ^ 64) (first ∷ second ∷ []))

-- all 256 rows
computed : map (λ k. row_bytes (get_or COMPRESSED (2 * k) 0) (get_or COMPRESSED (2 * k + 1) 0)) (range_with_len 0 256) ≡ map byte_places (range_with_len 0 256)
unfolding byte_places bytes_at compressed_places places_from
computed = refl

pub row_is : (m first second : ℕ) → m < 256 → first ≡ get_or COMPRESSED (2 * m) 0 → second ≡ get_or COMPRESSED (2 * m + 1) 0
    → row_bytes first second ≡ byte_places m
row_is m first second l p q =
    (λ i. row_bytes (p i) (q i)) ∙ same_below (λ k. row_bytes (get_or COMPRESSED (2 * k) 0) (get_or COMPRESSED (2 * k + 1) 0)) byte_places [] 256 computed m l

abbrev up_to : ℕ → List ℕ → Bool
up_to n [] = true
up_to n (k ∷ ks) = leb k n && up_to n ks

up_to_each : (n : ℕ) (ks : List ℕ) → up_to n ks ≡ true → Each1 (λ j. j < n + 1) ks
up_to_each n [] e = tt
up_to_each n (k ∷ ks) e = let p = and_parts (leb k n) (up_to n ks) e in (omega (arith, leb-true _ _ p.0), up_to_each n ks p.1)

abbrev has_shape : ℕ → Bool
has_shape m = eqb (length (compressed_places m)) 8 && (eqb (length (byte_places m)) 16 && up_to 15 (byte_places m))

shape : (m : ℕ) → m < 256 → has_shape m ≡ true
unfolding byte_places bytes_at compressed_places places_from
shape = same_below has_shape (λ _. true) true 256 refl

module _ (m : ℕ) (l : m < 256) where
  places_long : length (compressed_places m) ≡ 8
  places_long = eqb-true _ _ (and_parts _ _ (shape m l)).0

  pub bytes_long : length (byte_places m) ≡ 16
  bytes_long = eqb-true _ _ (and_parts _ _ (and_parts _ _ (shape m l)).1).0

  bytes_small : Each1 (λ j. j < 16) (byte_places m)
  bytes_small = up_to_each 15 _ (and_parts _ _ (and_parts _ _ (shape m l)).1).1

  pub places_ok : SwzOk w8 16 16 0 (byte_places m)
  places_ok = SwzOk-from_below w8 16 1 16 0 (byte_places m) refl (omega (arith, bytes_long)) bytes_small

-- ---- two bytes of each lane
even_at : (ks : List ℕ) (j : ℕ) → j < length ks → get_or (bytes_at ks) (2 * j) 0 ≡ 2 * get_or ks j 0
unfolding bytes_at
even_at [] j l = absurd (omega arith)
even_at (k ∷ ks) zero l = refl
even_at (k ∷ ks) (suc j) l = ap (λ n. get_or (bytes_at (k ∷ ks)) n 0) {x = 2 * suc j} {y = suc (suc (2 * j))} (omega arith) ∙ even_at ks j (omega arith)

odd_at : (ks : List ℕ) (j : ℕ) → j < length ks → get_or (bytes_at ks) (2 * j + 1) 0 ≡ 2 * get_or ks j 0 + 1
unfolding bytes_at
odd_at [] j l = absurd (omega arith)
odd_at (k ∷ ks) zero l = refl
odd_at (k ∷ ks) (suc j) l = ap (λ n. get_or (bytes_at (k ∷ ks)) n 0) {x = 2 * suc j + 1} {y = suc (suc (2 * j + 1))} (omega arith) ∙ odd_at ks j (omega arith)

module _ (us : List ℕ) (eight : length us ≡ 8) (fit : Each1 (λ x. x < 65536) us) (m : ℕ) (l : m < 256) where
  abbrev ks : List ℕ
  ks = compressed_places m

  abbrev bytes : List ℕ
  bytes = digits_l 256 16 (number_l 65536 us)

  abbrev picked : List ℕ
  picked = swz_l w8 16 bytes 0 (byte_places m)

  compressed_lanes : HasLanes 8 (wide_l picked) (λ j. get_or us (get_or ks j 0) 0)
  unfolding byte_places
  compressed_lanes =
      let long = places_long m l in
      words_moved us (byte_places m) (λ k. get_or (byte_places m) k 0) (λ j. get_or ks j 0) eight fit (HasLanes-itself 16 (byte_places m) (bytes_long m l))
      (λ k h. Each1-get_or (λ j. j < 16) (byte_places m) k 0 (omega (arith, bytes_long m l)) (bytes_small m l))
      (λ j h. even_at ks j (omega (arith, long))) (λ j h. odd_at ks j (omega (arith, long)))

  pub compressed : digits_l 65536 8 (number_l 256 picked) ≡ map (λ k. get_or us k 0) (compressed_places m)
  compressed = same_number_lists _ _ (sym (length-map (compressed_places m) (λ k. get_or us k 0) ∙ places_long m l)) (λ j h.
      compressed_lanes.each j h ∙ sym (get_or-map (λ k. get_or us k 0) (compressed_places m) j 0 0 (omega (arith, places_long m l))))

-- ---- kept elements
kept_places : (f : ℕ → ℕ) (ms : List Bool) (us : List ℕ) (at : ℕ) → length ms ≡ length us → ((i : ℕ) → f (at + i) ≡ get_or us i 0)
    → map f (places_from (length ms) at (mask_l ms)) ≡ keep ms us
unfolding places_from keep
kept_places f [] us at e h = refl
kept_places f (m ∷ ms) [] at e h = absurd (omega arith)
kept_places f (true ∷ ms) (u ∷ us) at e h =
    let bit : (1 + 2 * mask_l ms) % 2 ≡ 1 = omega arith in
    let half : (1 + 2 * mask_l ms) / 2 ≡ mask_l ms = omega arith in
    let first : f at ≡ u = ap f {x = at} {y = at + 0} (omega arith) ∙ h 0 in
    let rest = kept_places f ms us (at + 1) (omega arith) (λ i. ap f {x = at + 1 + i} {y = at + suc i} (omega arith) ∙ h (suc i)) in
    (λ i. map f ((if bit i == 1 then at ∷ [] else []) ++ places_from (length ms) (at + 1) (half i))) ∙ (λ i. first i ∷ rest i)
kept_places f (false ∷ ms) (u ∷ us) at e h =
    let bit : (0 + 2 * mask_l ms) % 2 ≡ 0 = omega arith in
    let half : (0 + 2 * mask_l ms) / 2 ≡ mask_l ms = omega arith in
    let rest = kept_places f ms us (at + 1) (omega arith) (λ i. ap f {x = at + 1 + i} {y = at + suc i} (omega arith) ∙ h (suc i)) in
    (λ i. map f ((if bit i == 1 then at ∷ [] else []) ++ places_from (length ms) (at + 1) (half i))) ∙ rest

length-keep : (ms : List Bool) (us : List ℕ) → length ms ≡ length us → length (keep ms us) ≡ count_ones (mask_l ms)
unfolding keep
length-keep [] us e = omega (arith, ones_le_self 0)
length-keep (m ∷ ms) [] e = absurd (omega arith)
length-keep (m ∷ ms) (u ∷ us) e = let rest = length-keep ms us (omega arith) in grind (arith, nat_tests, rest, ones-mask_l_cons m ms)

pub length-keep-le : (ms : List Bool) (us : List ℕ) → length (keep ms us) ≤ length ms
unfolding keep
length-keep-le [] us = omega arith
length-keep-le (m ∷ ms) [] = omega arith
length-keep-le (m ∷ ms) (u ∷ us) = let l = length-keep-le ms us in grind (arith, nat_tests, l)

keep_split : (n : ℕ) (ms : List Bool) (us : List ℕ) → length ms ≡ length us → keep ms us ≡ keep (take n ms) (take n us) ++ keep (drop n ms) (drop n us)
unfolding keep
keep_split zero ms us e = refl
keep_split (suc n) [] us e = refl
keep_split (suc n) (m ∷ ms) [] e = absurd (omega arith)
keep_split (suc n) (m ∷ ms) (u ∷ us) e =
    ap (λ xs. (if m then u ∷ [] else []) ++ xs) (keep_split n ms us (omega arith))
    ∙ sym (append_assoc (if m then u ∷ [] else []) (keep (take n ms) (take n us)) (keep (drop n ms) (drop n us)))

keep_none : (n : ℕ) (us : List ℕ) → keep (replicate n false) us ≡ []
unfolding keep
keep_none zero us = refl
keep_none (suc n) [] = refl
keep_none (suc n) (u ∷ us) = keep_none n us

-- marks keep nothing after the last of them
pub keep_take : (ms : List Bool) (us : List ℕ) → keep ms us ≡ keep ms (take (length ms) us)
unfolding keep
keep_take [] us = refl
keep_take (m ∷ ms) [] = refl
keep_take (m ∷ ms) (u ∷ us) = ap (λ xs. (if m then u ∷ [] else []) ++ xs) (keep_take ms us)

pub keep_pad : (ms : List Bool) (us : List ℕ) (n : ℕ) → keep (ms ++ replicate n false) us ≡ keep ms us
unfolding keep
keep_pad [] us n = keep_none n us
keep_pad (m ∷ ms) [] n = refl
keep_pad (m ∷ ms) (u ∷ us) n = ap (λ xs. (if m then u ∷ [] else []) ++ xs) (keep_pad ms us n)

-- the result begins with the kept elements
compressed_keep : (ms : List Bool) (us : List ℕ) → length ms ≡ 8 → length us ≡ 8
    → (tail : List ℕ) × (map (λ k. get_or us k 0) (compressed_places (mask_l ms)) ≡ keep ms us ++ tail)
unfolding compressed_places
compressed_keep ms us p q =
    let f = λ (k : ℕ). get_or us k 0 in
    let zeros = map f (replicate 8 0) in
    let kept = keep ms us in
    let few : length kept ≤ 8 = omega (arith, length-keep-le ms us, p) in
    let places : map f (places_from 8 0 (mask_l ms)) ≡ kept = ap (λ n. map f (places_from n 0 (mask_l ms))) (sym p)
    ∙ kept_places f ms us 0 (p ∙ sym q) (λ i. ap f {x = 0 + i} {y = i} (omega arith)) in
    let room : 8 ≡ length kept + (8 - length kept) = omega arith in (
      take (8 - length kept) zeros,
      sym (take-map f 8 (places_from 8 0 (mask_l ms) ++ replicate 8 0))
          ∙ ap (take 8) (map-append f (places_from 8 0 (mask_l ms)) (replicate 8 0) ∙ ap (λ xs. xs ++ zeros) places)
          ∙ ap (λ n. take n (kept ++ zeros)) room ∙ take-append-add kept zeros (8 - length kept),
    )

-- ---- both halves, the second after what is kept of the first
module _ (ms : List Bool) (us old low_us high_us first second : List ℕ) (kept : ℕ) (low_us_is : low_us ≡ take 8 us) (high_us_is : high_us ≡ drop 8 us)
    (marks_long : length ms ≡ 16) (long : length us ≡ 16) (room : 16 ≤ length old) (is : kept ≡ mask_l ms)
    (first_is : first ≡ map (λ k. get_or low_us k 0) (compressed_places (bit_and kept 255)))
    (second_is : second ≡ map (λ k. get_or high_us k 0) (compressed_places (kept / 256))) where
  abbrev low_marks : List Bool
  low_marks = take 8 ms

  abbrev high_marks : List Bool
  high_marks = drop 8 ms

  abbrev low_kept : List ℕ
  low_kept = keep low_marks (take 8 us)

  abbrev high_kept : List ℕ
  high_kept = keep high_marks (drop 8 us)

  low_long : length low_marks ≡ 8
  low_long = length-take-le 8 ms (omega (arith, marks_long))

  high_long : length high_marks ≡ 8
  high_long = omega (arith, marks_long, length-drop 8 ms)

  low_us_long : length (take 8 us) ≡ 8
  low_us_long = length-take-le 8 us (omega (arith, long))

  high_us_long : length (drop 8 us) ≡ 8
  high_us_long = omega (arith, long, length-drop 8 us)

  low_mask : bit_and kept 255 ≡ mask_l low_marks
  low_mask = and_mask kept 8 ∙ ap (λ k. k % 256) is ∙ low_half ms marks_long

  high_mask : kept / 256 ≡ mask_l high_marks
  high_mask = ap (λ k. k / 256) is ∙ high_half ms marks_long

  low_compressed : (tail : List ℕ) × (first ≡ low_kept ++ tail)
  low_compressed = let g = compressed_keep low_marks (take 8 us) low_long low_us_long in
      (g.0, first_is ∙ (λ i. map (λ k. get_or (low_us_is i) k 0) (compressed_places (low_mask i))) ∙ g.1)

  high_compressed : (tail : List ℕ) × (second ≡ high_kept ++ tail)
  high_compressed = let g = compressed_keep high_marks (drop 8 us) high_long high_us_long in
      (g.0, second_is ∙ (λ i. map (λ k. get_or (high_us_is i) k 0) (compressed_places (high_mask i))) ∙ g.1)

  low_count : count_ones (bit_and kept 255) ≡ length low_kept
  low_count = ap count_ones low_mask ∙ sym (length-keep low_marks (take 8 us) (low_long ∙ sym low_us_long))

  high_count : count_ones (kept / 256) ≡ length high_kept
  high_count = ap count_ones high_mask ∙ sym (length-keep high_marks (drop 8 us) (high_long ∙ sym high_us_long))

  low_few : length low_kept ≤ 8
  low_few = omega (arith, length-keep-le low_marks (take 8 us), low_long)

  first_long : length first ≡ 8
  first_long = ap length first_is ∙ length-map (compressed_places (bit_and kept 255)) (λ k. get_or low_us k 0)
      ∙ ap (λ m. length (compressed_places m)) low_mask ∙ places_long (mask_l low_marks) (mask_split ms 8 (omega (arith, marks_long))).1

  high_mask_small : mask_l high_marks < 256
  high_mask_small = subst (λ k. mask_l high_marks < 2 ^ k) high_long (mask_l-lt high_marks)

  second_long : length second ≡ 8
  second_long = ap length second_is ∙ length-map (compressed_places (kept / 256)) (λ k. get_or high_us k 0)
      ∙ ap (λ m. length (compressed_places m)) high_mask ∙ places_long (mask_l high_marks) high_mask_small

  abbrev half_put : List ℕ
  half_put = put_chunk 0 old first

  abbrev count : ℕ
  count = length low_kept

  abbrev more : ℕ
  more = length high_kept

  -- with any vector stored after what is kept of the first
  stored : (z : List ℕ) → length z ≡ 8 → put_chunk count half_put z ≡ low_kept ++ (z ++ drop (count + 8) old)
  stored z eight =
      let start : 0 + count ≡ count = omega arith in
      let parts = put_prefix 8 old first 0 count first_long low_few (omega (arith, room)) in
      let prefix : take count half_put ≡ low_kept = ap (λ n. take n half_put) (sym start) ∙ parts.0 ∙ ap (take count) low_compressed.1
      ∙ take_at low_kept low_compressed.0 count refl in
      let following : drop (count + 8) half_put ≡ drop (count + 8) old = ap (λ n. drop (n + 8) half_put) (sym start) ∙ parts.1
      ∙ ap (λ n. drop (n + 8) old) start in
      put_is count 8 half_put z eight (omega (arith, length-put_chunk 0 old first, low_few, room)) ∙ (λ i. prefix i ++ (z ++ following i))

  abbrev both_put : List ℕ
  both_put = put_chunk count half_put second

  whole : low_kept ++ high_kept ≡ keep ms us
  whole = sym (keep_split 8 ms us (marks_long ∙ sym long))

  kept_prefix : take (count + more) both_put ≡ keep ms us
  kept_prefix =
      let rest = high_compressed.0 ++ drop (count + 8) old in
      let split : both_put ≡ (low_kept ++ high_kept) ++ rest =
      stored second second_long ∙ ap (λ xs. low_kept ++ (xs ++ drop (count + 8) old)) high_compressed.1
      ∙ ap (λ xs. low_kept ++ xs) (append_assoc high_kept high_compressed.0 (drop (count + 8) old)) ∙ sym (append_assoc low_kept high_kept rest) in
      ap (take (count + more)) split ∙ take_at (low_kept ++ high_kept) rest (count + more) (length-append low_kept high_kept) ∙ whole

  kept_after : drop (count + 8) both_put ≡ drop (count + 8) old
  kept_after = ap (drop (count + 8)) (stored second second_long ∙ sym (append_assoc low_kept second (drop (count + 8) old)))
      ∙ drop_at (low_kept ++ second) (drop (count + 8) old) (count + 8) (length-append low_kept second ∙ ap (λ n. count + n) second_long)

  pub writes_compressed : WritesCompressed ms us old (put_chunk (count_ones (bit_and kept 255)) (put_chunk 0 old first) second)
      (count_ones (bit_and kept 255) + count_ones (kept / 256)) (count_ones (bit_and kept 255) + count_ones (kept / 256) + 8 - count_ones (kept / 256))
  writes_compressed =
      let same : put_chunk (count_ones (bit_and kept 255)) half_put second ≡ both_put = ap (λ n. put_chunk n half_put second) low_count in
      let size : count_ones (bit_and kept 255) + count_ones (kept / 256) ≡ count + length high_kept = (λ i. low_count i + high_count i) in
      record {
        counted = size ∙ sym (length-append low_kept high_kept) ∙ ap length whole;
        placed = (λ i. take (size i) (same i)) ∙ kept_prefix;
        following = subst (λ n. drop n (put_chunk (count_ones (bit_and kept 255)) half_put second) ≡ drop n old) {x = count + 8} (omega (arith, low_count))
            (ap (drop (count + 8)) same ∙ kept_after);
      }

  -- the same if the second store keeps what follows its own units
  abbrev single : List ℕ
  single = sel_l (map (top 15) (zip2 (compared w16 ltb) (range_with_len 0 8) (replicate 8 (count_ones (kept / 256))))) second
      (take 8 (drop (count_ones (bit_and kept 255)) old))

  more_few : more ≤ 8
  more_few = omega (arith, length-keep-le high_marks (drop 8 us), high_long)

  abbrev following : List ℕ
  following = take 8 (drop count old)

  after_long : length following ≡ 8
  after_long = length-take-le 8 (drop count old) (omega (arith, length-drop count old, room, low_few))

  single_is : single ≡ high_kept ++ drop more following
  single_is =
      let chosen = chosen_by (tests_of w16 ltb (HasLanes-numbers 8) (HasLanes-splat 8 more)) (HasLanes-itself 8 second second_long)
      (HasLanes-itself 8 following after_long) in
      (λ i. sel_l (map (top 15) (zip2 (compared w16 ltb) (range_with_len 0 8) (replicate 8 (high_count i)))) second (take 8 (drop (low_count i) old)))
      ∙ firsts_are 8 more second following _ second_long after_long more_few chosen
      ∙ ap (λ xs. xs ++ drop more following) (ap (take more) high_compressed.1 ∙ take_at high_kept high_compressed.0 more refl)

  single_long : length single ≡ 8
  single_long = ap length single_is ∙ omega (arith, length-append high_kept (drop more following), length-drop more following, after_long, more_few)

  after_kept : drop more following ++ drop 8 (drop count old) ≡ drop (count + more) old
  after_kept = sym (drop-append-le more following (drop 8 (drop count old)) (omega (arith, after_long, more_few)))
      ∙ ap (drop more) (take-append-drop 8 (drop count old)) ∙ drop-drop more count old

  single_put : put_chunk count half_put single ≡ (low_kept ++ high_kept) ++ drop (count + more) old
  single_put =
      stored single single_long ∙ (λ i. low_kept ++ (single_is i ++ sym (drop-drop 8 count old) i))
      ∙ ap (λ xs. low_kept ++ xs) (append_assoc high_kept (drop more following) (drop 8 (drop count old)) ∙ ap (λ xs. high_kept ++ xs) after_kept)
      ∙ sym (append_assoc low_kept high_kept (drop (count + more) old))

  pub writes_compressed_exact : WritesCompressed ms us old (put_chunk (count_ones (bit_and kept 255)) (put_chunk 0 old first) single)
      (count_ones (bit_and kept 255) + count_ones (kept / 256)) (count_ones (bit_and kept 255) + count_ones (kept / 256))
  writes_compressed_exact =
      let after = put_chunk (count_ones (bit_and kept 255)) half_put single in
      let is : after ≡ (low_kept ++ high_kept) ++ drop (count + more) old = ap (λ n. put_chunk n half_put single) low_count ∙ single_put in
      let size : count_ones (bit_and kept 255) + count_ones (kept / 256) ≡ count + more = (λ i. low_count i + high_count i) in
      let both = low_kept ++ high_kept in
      record {
        counted = size ∙ sym (length-append low_kept high_kept) ∙ ap length whole;
        placed = (λ i. take (size i) (is i)) ∙ take_at both (drop (count + more) old) (count + more) (length-append low_kept high_kept) ∙ whole;
        following = (λ i. drop (size i) (is i)) ∙ drop_at both (drop (count + more) old) (count + more) (length-append low_kept high_kept)
            ∙ ap (λ n. drop n old) (sym size);
      }

-- more may have changed
pub reaches_more : {ms : List Bool} {us old new : List ℕ} {count reach : ℕ} (most : ℕ) → reach ≤ most → WritesCompressed ms us old new count reach
    → WritesCompressed ms us old new count most
reaches_more {ms} {us} {old} {new} {count} {reach} most l w =
    let e : reach + (most - reach) ≡ most = omega arith in
    let past = λ (xs : List ℕ). ap (λ m. drop m xs) (sym e) ∙ sym (drop-drop (most - reach) reach xs) in
    record {
      counted = w.counted;
      placed = w.placed;
      following = past new ∙ ap (drop (most - reach)) w.following ∙ sym (past old);
    }
