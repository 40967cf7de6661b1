-- UTF-16 of many characters at once: of eight of three bytes, and of those that end in 64 bytes.
use Rattle.std.proofs.Common.{◌≡◌, ◌&&◌, ℕ, not, eqb, leb, bit_and, zero, suc, ◌+◌, ◌-◌, ◌/◌, ◌<◌, ◌≤◌, inl, inr, Bool}
use Rattle.std.proofs.Common.{true, false, if◌then◌else◌, ltb, List, [], ◌∷◌, ◌++◌, map, length, replicate, take, drop}
use Rattle.std.proofs.Common.{get_or, refl, sym, ap, ◌∙◌, arith, subst, take-add, append_assoc, drop-drop, w16}
use Rattle.std.specs.List.{range_with_len}
use Rattle.std.specs.Str.{IsUtf8, IsCharBoundary, chars}
use Rattle.std.specs.Simd.Lanes.{pick_l, put_chunk, mask_l, sel_l, top, zip2}
use Rattle.std.specs.Int.RustNames.{count_ones}
use Rattle.std.proofs.lemmas.Bool.{true≢false, cases_lt, cond-true, cond-false, lt-ltb, le-ltb, le-leb}
use Rattle.std.proofs.lemmas.Bool.{ltb-true, and_from, and_parts, leb-true, not-true, not-false}
use borrow.Rule.Slice.PartMut.{put_mid}
use Rattle.std.proofs.Math.Seq.{take-append-add}
use Rattle.std.proofs.lemmas.List.{append-nil, drop_all, drop_at, drop-append-le, drop-take, take-take, take_at, take_rest, length-take-le, length-append}
use Rattle.std.proofs.lemmas.List.{length-drop, length-take, get_or-take, get_or-drop, get_or-map, get_or_append_left, get_or-append_right, length-map}
use Rattle.std.proofs.lemmas.Bool.Decides.{nat_tests}
use Rattle.encoding_kernels.specs.Scans.{BelowBetween, HasLanes}
use Rattle.encoding_kernels.specs.EndingUnits.{BeginsThree, NoUnitEnds, StoresUnits, WritesCompressed, WritesUtf16}
use Rattle.encoding_kernels.specs.EndingUnits.{ends_after, compressed_places, ends_unit, keep, unit_at, units_after}
use Rattle.encoding_kernels.proofs.VectorLemmas.{compared, same_below}
use Rattle.std.specs.Char.Escape.{encode_utf16}
use Rattle.std.specs.List.{flat_map}
use Rattle.std.proofs.lemmas.Str.{IsCharBoundary-at_seam, IsUtf8-append, IsUtf8-take, IsUtf8-drop}
use Rattle.encoding_definitions.specs.Prefixes.{WritesPrefix}
use Rattle.encoding_kernels.proofs.Utf8ToUtf16LoopLemmas.{Putting, putting_fits, putting_rest, puts_whole, zeros_text}
use Rattle.encoding_kernels.proofs.CodeUnitLemmas.{ends_at, length-ends, length-units}
use Rattle.encoding_kernels.proofs.CompressLemmas.{keep_pad, keep_take, length-keep-le, writes_compressed, writes_compressed_exact}
use Rattle.encoding_kernels.proofs.MaskPartLemmas.{part_size}
use Rattle.encoding_kernels.proofs.Utf8ToUtf16Lemmas.{units_from, units_of_characters}

-- ---- the first of three bytes
pub three_from : (b : ℕ) → b < 256 → not (eqb (bit_and b 0xF0) 0xE0) ≡ false → BeginsThree b
three_from b l e =
    let same = same_below (λ k. not (eqb (bit_and k 0xF0) 0xE0)) (λ k. not (leb 0xE0 k && ltb k 0xF0)) false 256 refl b l in
    let both = and_parts (leb 0xE0 b) (ltb b 0xF0) (not-false _ (sym same ∙ e)) in
    (leb-true _ _ both.0, ltb-true _ _ both.1)

pub three_none : (b : ℕ) → b < 256 → not (eqb (bit_and b 0xF0) 0xE0) ≡ true → BeginsThree b → ⊥
three_none b l e three =
    let same = same_below (λ k. not (eqb (bit_and k 0xF0) 0xE0)) (λ k. not (leb 0xE0 k && ltb k 0xF0)) false 256 refl b l in
    true≢false (sym (and_from (leb 0xE0 b) (ltb b 0xF0) (le-leb _ _ three.0) (lt-ltb _ _ three.1)) ∙ not-true _ (sym same ∙ e))

-- ---- 24 bytes in two vectors
-- the index in the text of a lane of both
abbrev place_of : ℕ → ℕ
place_of i = if ltb i 16 then i else i - 8

joined_at : (src : List ℕ) → 24 ≤ length src → (i : ℕ) → i < 32 → get_or (take 16 src ++ take 16 (drop 8 src)) i 0 ≡ get_or src (place_of i) 0
joined_at src long i l =
    let size : length (take 16 src) ≡ 16 = length-take-le 16 src (omega arith) in
    elim (cases_lt i 16) [
      | inl b ↦ get_or_append_left (take 16 src) (take 16 (drop 8 src)) 0 i (omega (arith, size)) ∙ get_or-take 16 src i 0 b
          ∙ ap (λ j. get_or src j 0) (sym (cond-true (ltb i 16) i (i - 8) (lt-ltb _ _ b)))
      | inr b ↦
          let back : 8 + (i - 16) ≡ i - 8 = omega arith in
          get_or-append_right (take 16 src) (take 16 (drop 8 src)) 16 i 0 size b ∙ get_or-take 16 (drop 8 src) (i - 16) 0 (omega arith)
          ∙ get_or-drop 8 src (i - 16) 0 ∙ ap (λ j. get_or src j 0) (back ∙ sym (cond-false (ltb i 16) i (i - 8) (le-ltb _ _ b)))
    ]

pub third_bytes : (src ks : List ℕ) (g : ℕ → ℕ) → 24 ≤ length src → length ks ≡ 8
    → map (λ k. ltb (get_or ks k 0) 32) (range_with_len 0 8) ≡ map (λ _. true) (range_with_len 0 8)
    → map (λ k. place_of (get_or ks k 0)) (range_with_len 0 8) ≡ map g (range_with_len 0 8)
    → HasLanes 8 (pick_l 0 (take 16 src ++ take 16 (drop 8 src)) ks) (λ k. get_or src (g k) 0)
third_bytes src ks g long eight small places =
    let both = take 16 src ++ take 16 (drop 8 src) in
    record {
      long = length-map ks (λ j. get_or both j 0) ∙ eight;
      each = λ k l.
          let below = ltb-true (get_or ks k 0) 32 (same_below (λ j. ltb (get_or ks j 0) 32) (λ _. true) true 8 small k l) in
          get_or-map (λ j. get_or both j 0) ks k 0 0 (omega (arith, eight)) ∙ joined_at src long (get_or ks k 0) below
          ∙ ap (λ j. get_or src j 0) (same_below (λ j. place_of (get_or ks j 0)) g 0 8 places k l);
    }

-- ---- the greatest of some bytes
-- the greater of two numbers
abbrev pub greater : ℕ → ℕ → ℕ
greater x y = if ltb x y then y else x

pub both_below : (bound x y : ℕ) → greater x y < bound → (x < bound) × (y < bound)
both_below bound x y l = (grind (arith, nat_tests), grind (arith, nat_tests))

pub below_each : (bound : ℕ) (src lanes : List ℕ)
    → HasLanes 16 lanes (λ k. greater (greater (get_or src (16 + k) 0) (get_or src (32 + k) 0)) (get_or src (48 + k) 0))
    → ((k : ℕ) → k < 16 → get_or lanes k 0 < bound) → BelowBetween bound src 16 64
below_each bound src lanes greatest below k l m = elim (cases_lt k 32) [
  | inl p ↦ at 16 (both_below bound _ _ (pair (k - 16) (omega arith)).0).0 l
  | inr p ↦ elim (cases_lt k 48) [
    | inl q ↦ at 32 (both_below bound _ _ (pair (k - 32) (omega arith)).0).1 p
    | inr q ↦ at 48 (pair (k - 48) (omega arith)).1 q
  ]
]
  where
    pair : (i : ℕ) → i < 16 → (greater (get_or src (16 + i) 0) (get_or src (32 + i) 0) < bound) × (get_or src (48 + i) 0 < bound)
    pair i h = both_below bound _ _ (subst (λ x. x < bound) (greatest.each i h) (below i h))

    at : (from : ℕ) → get_or src (from + (k - from)) 0 < bound → from ≤ k → get_or src k 0 < bound
    at from b h = let there : from + (k - from) ≡ k = omega arith in subst (λ j. get_or src j 0 < bound) there b

-- ---- a stride
pub stride_marks : (src : List ℕ) (at : ℕ) → at + 16 ≤ length src → length (take 16 (drop at (ends_after 0 src))) ≡ 16
stride_marks src at room = length-take-le 16 (drop at (ends_after 0 src)) (omega (arith, length-drop at (ends_after 0 src), length-ends 0 src))

-- the units of both halves
joined_halves : (src : List ℕ) (at : ℕ) {first last : List ℕ} → first ≡ take 8 (drop at (units_after 0 0 0 src))
    → last ≡ take 8 (drop (at + 8) (units_after 0 0 0 src)) → first ++ last ≡ take 16 (drop at (units_after 0 0 0 src))
joined_halves src at p q =
    let us = units_after 0 0 0 src in
    (λ i. p i ++ (q ∙ ap (take 8) (sym (drop-drop 8 at us))) i) ∙ sym (take-add 8 8 (drop at us))

-- ---- a part of a stride
-- the marks of the units that end with its bytes from an index up to another
abbrev pub part_marks : List ℕ → ℕ → ℕ → ℕ → List Bool
part_marks src at from to = replicate from false ++ drop from (take to (take 16 (drop at (ends_after 0 src))) ++ replicate (16 - to) false)

pub part_long : (src : List ℕ) (at from to : ℕ) → at + 16 ≤ length src → from ≤ to → to ≤ 16 → length (part_marks src at from to) ≡ 16
part_long src at from to room before within = part_size (take 16 (drop at (ends_after 0 src))) from to (stride_marks src at room) before within

keep_skip : (e : ℕ) (ms : List Bool) (us : List ℕ) → keep (replicate e false ++ ms) us ≡ keep ms (drop e us)
unfolding keep
keep_skip zero ms us = refl
keep_skip (suc e) [] [] = refl
keep_skip (suc e) (m ∷ ms) [] = refl
keep_skip (suc e) ms (u ∷ us) = keep_skip e ms us

part_of : {X : Type 0} (xs : List X) (at from to : ℕ) → from ≤ to → to ≤ 16
    → take (to - from) (drop from (take 16 (drop at xs))) ≡ take (to - from) (drop (at + from) xs)
part_of xs at from to before within =
    let split : from + (16 - from) ≡ 16 = omega arith in
    ap (take (to - from)) ((λ i. drop from (take (sym split i) (drop at xs))) ∙ drop-take from (16 - from) (drop at xs)
    ∙ ap (take (16 - from)) (drop-drop from at xs)) ∙ take-take (to - from) (16 - from) (drop (at + from) xs) (omega arith)

pub part_stored : (src : List ℕ) (at from to : ℕ) (first last old new : List ℕ) (count reach : ℕ) → at + 16 ≤ length src → from ≤ to → to ≤ 16
    → first ≡ take 8 (drop at (units_after 0 0 0 src)) → last ≡ take 8 (drop (at + 8) (units_after 0 0 0 src))
    → WritesCompressed (part_marks src at from to) (first ++ last) old new count reach
    → WritesCompressed (take (to - from) (drop (at + from) (ends_after 0 src))) (take (to - from) (drop (at + from) (units_after 0 0 0 src))) old new
    count reach
part_stored src at from to first last old new count reach room before within p q w =
    let marks = take 16 (drop at (ends_after 0 src)) in
    let pad = replicate {A = Bool} (16 - to) false in
    let us = take 16 (drop at (units_after 0 0 0 src)) in
    let long : length (take to marks) ≡ to = length-take-le to marks (omega (arith, stride_marks src at room)) in
    let split : from + (to - from) ≡ to = omega arith in
    let part : drop from (take to marks) ≡ take (to - from) (drop (at + from) (ends_after 0 src)) =
    (λ i. drop from (take (sym split i) marks)) ∙ drop-take from (to - from) marks ∙ part_of (ends_after 0 src) at from to before within in
    let size : length (drop from (take to marks)) ≡ to - from = omega (arith, length-drop from (take to marks), long) in
    let kept : keep (part_marks src at from to) (first ++ last)
    ≡ keep (take (to - from) (drop (at + from) (ends_after 0 src))) (take (to - from) (drop (at + from) (units_after 0 0 0 src))) =
    keep_skip from (drop from (take to marks ++ pad)) (first ++ last)
    ∙ (λ i. keep (drop-append-le from (take to marks) pad (omega (arith, long)) i) (drop from (joined_halves src at p q i)))
    ∙ keep_pad (drop from (take to marks)) (drop from us) (16 - to)
    ∙ keep_take (drop from (take to marks)) (drop from us)
    ∙ (λ i. keep (part i) (take (size i) (drop from us)))
    ∙ ap (keep (take (to - from) (drop (at + from) (ends_after 0 src)))) (part_of (units_after 0 0 0 src) at from to before within) in
    record {
      counted = w.counted ∙ ap length kept;
      placed = w.placed ∙ kept;
      following = w.following;
    }

-- the units of a stride that are kept, each half by its vector: a unit after them may change, or none
module _ (src : List ℕ) (at from to : ℕ) {low high first last : List ℕ} (old : List ℕ) {kept : ℕ} (within : at + 16 ≤ length src)
    (part : (from ≤ to) × (to ≤ 16))
    (units : (low ≡ take 8 (drop at (units_after 0 0 0 src))) × (high ≡ take 8 (drop (at + 8) (units_after 0 0 0 src)))) (room : 16 ≤ length old)
    (is : kept ≡ mask_l (part_marks src at from to)) (a : first ≡ map (λ k. get_or low k 0) (compressed_places (bit_and kept 255)))
    (b : last ≡ map (λ k. get_or high k 0) (compressed_places (kept / 256))) where
  half_long : (half : List ℕ) (n : ℕ) → half ≡ take 8 (drop n (units_after 0 0 0 src)) → n + 8 ≤ length src → length half ≡ 8
  half_long half n p l = ap length p
      ∙ length-take-le 8 (drop n (units_after 0 0 0 src)) (omega (arith, l, length-drop n (units_after 0 0 0 src), length-units 0 0 0 src))

  eight : length low ≡ 8
  eight = half_long low at units.0 (omega arith)

  long : length (low ++ high) ≡ 16
  long = omega (arith, length-append low high, eight, half_long high (at + 8) units.1 (omega arith))

  pub stride_spare : WritesCompressed (take (to - from) (drop (at + from) (ends_after 0 src))) (take (to - from) (drop (at + from) (units_after 0 0 0 src)))
      old (put_chunk (count_ones (bit_and kept 255)) (put_chunk 0 old first) last) (count_ones (bit_and kept 255) + count_ones (kept / 256))
      (count_ones (bit_and kept 255) + count_ones (kept / 256) + 8 - count_ones (kept / 256))
  stride_spare = part_stored src at from to low high old _ _ _ within part.0 part.1 units.0 units.1
      (writes_compressed (part_marks src at from to) (low ++ high) old low high first last kept (sym (take_at low high 8 eight))
      (sym (drop_at low high 8 eight))
      (part_long src at from to within part.0 part.1) long room is a b)

  pub stride_exact : WritesCompressed (take (to - from) (drop (at + from) (ends_after 0 src))) (take (to - from) (drop (at + from) (units_after 0 0 0 src)))
      old (put_chunk (count_ones (bit_and kept 255)) (put_chunk 0 old first)
      (sel_l (map (top 15) (zip2 (compared w16 ltb) (range_with_len 0 8) (replicate 8 (count_ones (kept / 256))))) last
      (take 8 (drop (count_ones (bit_and kept 255)) old))))
      (count_ones (bit_and kept 255) + count_ones (kept / 256)) (count_ones (bit_and kept 255) + count_ones (kept / 256))
  stride_exact = part_stored src at from to low high old _ _ _ within part.0 part.1 units.0 units.1
      (writes_compressed_exact (part_marks src at from to) (low ++ high) old low high first last kept (sym (take_at low high 8 eight))
      (sym (drop_at low high 8 eight)) (part_long src at from to within part.0 part.1) long room is a b)

pub stored_few : (marks : List Bool) (us : List ℕ) {old new : List ℕ} {count reach : ℕ} (n : ℕ)
    → WritesCompressed (take n marks) (take n us) old new count reach → count ≤ n
stored_few marks us n w = omega (arith, w.counted, length-keep-le (take n marks) (take n us), length-take n marks)

pub stored_within : {marks : List Bool} {us old new : List ℕ} {count reach : ℕ} → WritesCompressed marks us old new count reach → count ≤ length new
stored_within {marks} {us} {old} {new} {count} {reach} w = omega (arith, w.counted, ap length w.placed, length-take count new)

-- what is stored in another list
pub stored_apart : (marks : List Bool) (us old new other : List ℕ) (count reach : ℕ) → count ≤ length new
    → WritesCompressed marks us old new count reach → WritesCompressed marks us other (take count new ++ drop count other) count count
stored_apart marks us old new other count reach within w =
    let long : length (take count new) ≡ count = length-take-le count new within in
    record {
      counted = w.counted;
      placed = take_at (take count new) (drop count other) count long ∙ w.placed;
      following = drop_at (take count new) (drop count other) count long;
    }

-- ---- four strides
keep-append : (xs ys : List Bool) (us vs : List ℕ) → length xs ≡ length us → keep (xs ++ ys) (us ++ vs) ≡ keep xs us ++ keep ys vs
unfolding keep
keep-append [] ys [] vs e = refl
keep-append [] ys (u ∷ us) vs e = absurd (omega arith)
keep-append (x ∷ xs) ys [] vs e = absurd (omega arith)
keep-append (x ∷ xs) ys (u ∷ us) vs e =
    ap (λ zs. (if x then u ∷ [] else []) ++ zs) (keep-append xs ys us vs (omega arith))
    ∙ sym (append_assoc (if x then u ∷ [] else []) (keep xs us) (keep ys vs))

-- the units that end with the first n bytes
abbrev units_to : List ℕ → ℕ → List ℕ
units_to src n = keep (take n (ends_after 0 src)) (take n (units_after 0 0 0 src))

abbrev units_between : List ℕ → ℕ → ℕ → List ℕ
units_between src at n = keep (take n (drop at (ends_after 0 src))) (take n (drop at (units_after 0 0 0 src)))

units_more : (src : List ℕ) (at n : ℕ) → at ≤ length src → units_to src (at + n) ≡ units_to src at ++ units_between src at n
units_more src at n within =
    let ends = ends_after 0 src in
    let units = units_after 0 0 0 src in
    (λ i. keep (take-add at n ends i) (take-add at n units i))
    ∙ keep-append (take at ends) (take n (drop at ends)) (take at units) (take n (drop at units))
    (length-take-le at ends (omega (arith, length-ends 0 src)) ∙ sym (length-take-le at units (omega (arith, length-units 0 0 0 src))))

pub group_first : (src old new : List ℕ) (n next count reach : ℕ) → n ≡ next → length new ≡ length old
    → WritesCompressed (take n (drop 0 (ends_after 0 src))) (take n (drop 0 (units_after 0 0 0 src))) old new count reach
    → StoresUnits src old new next count reach
group_first src old new n next count reach e same w = subst (λ k. StoresUnits src old new k count reach) e (record {
  placed = w.placed;
  counted = w.counted;
  few = omega (arith, w.counted, length-keep-le (take n (ends_after 0 src)) (take n (units_after 0 0 0 src)), length-take n (ends_after 0 src));
  same_length = same;
  following = w.following;
})

-- those that end with the next n bytes: `more` units after them may have changed
pub group_more : (src old new sub : List ℕ) (at n from next written count more : ℕ) → from ≡ at → at + n ≡ next → next ≤ length src → written ≤ length new
    → length sub ≡ length new - written
    → StoresUnits src old new at written (written + more)
    → WritesCompressed (take n (drop from (ends_after 0 src))) (take n (drop from (units_after 0 0 0 src))) (take (length new - written) (drop written new)) sub
    count (count + more)
    → StoresUnits src old (put_mid written (length new - written) new sub) next (written + count) (written + count + more)
group_more src old new sub at n from next written count more same e room within size s v =
    let here = take (length new - written) (drop written new) in
    let w = subst (λ k. WritesCompressed (take n (drop k (ends_after 0 src))) (take n (drop k (units_after 0 0 0 src))) here sub count (count + more)) same v in
    let done = take written new in
    let long : length done ≡ written = length-take-le written new within in
    let whole : take (length new - written) (drop written new) ≡ drop written new = take_rest new written in
    let none : drop (length new - written) (drop written new) ≡ [] =
    drop_all (length new - written) (drop written new) (omega (arith, length-drop written new)) in
    let is : put_mid written (length new - written) new sub ≡ done ++ sub = ap (λ xs. done ++ (sub ++ xs)) none ∙ ap (λ xs. done ++ xs) (append-nil sub) in
    let joined = ap (units_to src) (sym e) ∙ units_more src at n (omega arith) in
    let past = λ (m : ℕ). ap (λ j. drop (j + m) (done ++ sub)) (sym long) ∙ drop_past done sub m in
    let reach : written + count + more ≡ written + (count + more) = omega arith in
    record {
      placed = (λ i. take (written + count) (is i)) ∙ ap (λ j. take (j + count) (done ++ sub)) (sym long) ∙ take-append-add done sub count
          ∙ (λ i. s.placed i ++ w.placed i) ∙ sym joined;
      counted = omega (arith, s.counted, w.counted, ap length joined, length-append (units_to src at) (units_between src at n));
      few = omega (
        arith,
        s.few,
        w.counted,
        length-keep-le (take n (drop at (ends_after 0 src))) (take n (drop at (units_after 0 0 0 src))),
        length-take n (drop at (ends_after 0 src)),
      );
      same_length = omega (arith, ap length is, length-append done sub, long, size, s.same_length);
      following = (λ i. drop (reach i) (is i)) ∙ past (count + more) ∙ w.following ∙ ap (drop (count + more)) whole ∙ drop-drop (count + more) written new
          ∙ after s.following ∙ (λ i. drop (sym reach i) old);
    }
  where
    drop_past : (xs ys : List ℕ) (j : ℕ) → drop (length xs + j) (xs ++ ys) ≡ drop j ys
    drop_past xs ys j = sym (drop-drop j (length xs) (xs ++ ys)) ∙ ap (drop j) (drop_at xs ys (length xs) refl)

    after : drop (written + more) new ≡ drop (written + more) old → drop (written + (count + more)) new ≡ drop (written + (count + more)) old
    after e =
        let split : written + more + count ≡ written + (count + more) = omega arith in
        let past = λ (xs : List ℕ). ap (λ m. drop m xs) (sym split) ∙ sym (drop-drop count (written + more) xs) in
        past new ∙ ap (drop count) e ∙ sym (past old)

-- ---- the characters whose units are stored
both_taken : (n x y a : ℕ) (bs : List ℕ) → keep (take n (ends_after a bs)) (take n (units_after x y a bs)) ≡ units_from x y a (take n bs)
unfolding keep ends_after units_after
both_taken zero x y a bs = refl
both_taken (suc n) x y a [] = refl
both_taken (suc n) x y a (b ∷ bs) = ap (λ us. (if ends_unit a b then unit_at x y a b ∷ [] else []) ++ us) (both_taken n y a b bs)

keep_none : (ms : List Bool) (us : List ℕ) → ((k : ℕ) → k < length ms → get_or ms k true ≡ false) → keep ms us ≡ []
unfolding keep
keep_none [] us none = refl
keep_none (m ∷ ms) [] none = refl
keep_none (m ∷ ms) (u ∷ us) none =
    (λ i. (if none 0 (omega arith) i then u ∷ [] else []) ++ keep ms us) ∙ keep_none ms us (λ k l. none (suc k) (omega arith))

-- those before `end`, if no unit ends between it and the end of the bytes read
pub group_text : (src old new : List ℕ) (end to written reach : ℕ) → IsUtf8 src → end ≤ to → to ≤ length src → IsCharBoundary src end
    → NoUnitEnds src end to → StoresUnits src old new to written reach → WritesUtf16 src old new end written reach
group_text src old new end to written reach u before within boundary none s =
    let text = IsUtf8-take src end u boundary in
    let ends = ends_after 0 src in
    let rest : end + (to - end) ≡ to = omega arith in
    let later = take (to - end) (drop end ends) in
    let cut : units_between src end (to - end) ≡ [] = keep_none later (take (to - end) (drop end (units_after 0 0 0 src))) (λ k l.
    let inside : k < to - end = omega (arith, l, length-take (to - end) (drop end ends)) in
    get_or-take (to - end) (drop end ends) k true inside ∙ get_or-drop end ends k true ∙ ends_at 0 src (end + k) true (omega arith)
    ∙ none (end + k) (omega arith) (omega arith)) in
    let units : units_to src to ≡ flat_map encode_utf16 text.0 = ap (units_to src) (sym rest) ∙ units_more src end (to - end) (omega arith)
    ∙ ap (λ xs. units_to src end ++ xs) cut ∙ append-nil (units_to src end) ∙ both_taken end 0 0 0 src ∙ ap (units_from 0 0 0) (sym text.1.1)
    ∙ units_of_characters text.0 text.1.0 0 0 0 (omega arith) (omega arith) (omega arith) in
    record {
      taken = text.0;
      are_scalars = text.1.0;
      within = boundary.0;
      spelled = text.1.1;
      rest = IsUtf8-drop src end u boundary;
      counted = s.counted ∙ ap length units;
      placed = s.placed ∙ units;
      following = s.following;
    }

-- those of whole characters
pub group_whole : (src old new : List ℕ) (end written reach : ℕ) → IsUtf8 src → IsCharBoundary src end → StoresUnits src old new end written reach
    → WritesUtf16 src old new end written reach
group_whole src old new end written reach u boundary s =
    group_text src old new end end written reach u (omega arith) boundary.0 boundary (λ k l m. absurd (omega arith)) s

-- a text of at most sixteen bytes, followed by zeros
pub tail_whole : (rest block old new : List ℕ) (n count : ℕ) → IsUtf8 rest → n ≡ length rest → length rest ≤ length old → length new ≡ length old
    → block ≡ rest ++ drop (length rest) (replicate 16 0)
    → WritesCompressed (take (n - 0) (drop 0 (ends_after 0 block))) (take (n - 0) (drop 0 (units_after 0 0 0 block))) old new count count
    → WritesPrefix old new count (flat_map encode_utf16 (chars rest))
tail_whole rest block old new n count u e room same is w =
    let size = length rest in
    let text : IsUtf8 block = subst IsUtf8 (sym is) (IsUtf8-append _ _ u (zeros_text size 16)) in
    let boundary : IsCharBoundary block size =
    subst (λ (bs : List ℕ). IsCharBoundary bs size) (sym is) (IsCharBoundary-at_seam _ rest _ refl (zeros_text size 16)) in
    let prefix : take size block ≡ rest = subst (λ (bs : List ℕ). take size bs ≡ rest) (sym is) (take_at rest (drop size (replicate 16 0)) size refl) in
    puts_whole rest block old new size count u prefix room
    (group_whole block old new size count count text boundary (group_first block old new (n - 0) size count count (omega (arith, e)) same w))

-- such a text after the first characters of another
pub tail_written : (src block old new sub : List ℕ) (read written n count : ℕ) → IsUtf8 src → length src ≤ length old → length new ≡ length old
    → Putting src old new read written → n ≡ length src - read → length sub ≡ length (take (length new - written) (drop written new))
    → block ≡ take (length src - read) (drop read src) ++ drop (length (take (length src - read) (drop read src))) (replicate 16 0)
    → WritesCompressed (take (n - 0) (drop 0 (ends_after 0 block))) (take (n - 0) (drop 0 (units_after 0 0 0 block)))
    (take (length new - written) (drop written new)) sub count count
    → WritesPrefix old (put_mid written (length new - written) new sub) (written + count) (flat_map encode_utf16 (chars src))
tail_written src block old new sub read written n count u room same d e long is w =
    let text = subst IsUtf8 (sym (take_rest src read)) d.rest in
    let size : n ≡ length (take (length src - read) (drop read src)) =
    omega (arith, e, length-take (length src - read) (drop read src), length-drop read src) in
    let fits = putting_fits src old new read written room same d in
    let rest = tail_whole (take (length src - read) (drop read src)) block _ sub n count text size fits long is w in
    putting_rest src old new sub read written count u room same d (rw (take_rest src read) at rest)
