-- UTF-16 of a text by its bytes, and writing it prefix by prefix.
use Rattle.std.proofs.Common.{◌≡◌, ℕ, zero, suc, ◌+◌, ◌-◌, ◌*◌, ◌/◌, ◌%◌, ◌<◌, ◌≤◌, inl, inr, true, false, ◌&&◌, if◌then◌else◌, leb, ltb, List, [], ◌∷◌}
use Rattle.std.proofs.Common.{◌++◌, length, take, drop, get_or, bit_or, encode_utf8, encode_utf8_all, refl, sym, ap, ◌∙◌, arith, subst, take-add}
use lib.Utf8.{scalar, scalar_cases}
use Rattle.std.specs.Char.{IsScalar}
use Rattle.std.specs.Char.Escape.{encode_utf16}
use Rattle.std.specs.Str.{all_scalars, chars, IsUtf8, IsCharBoundary, IsAscii}
use Rattle.std.specs.List.{flat_map}
use Rattle.std.specs.Simd.Lanes.{put_chunk}
use Rattle.std.proofs.str.Laws.{one, two, three, four}
use Rattle.std.proofs.lemmas.Bool.{cond-true, cond-false, cases_lt, lt-leb, le-leb, lt-ltb, le-ltb, and_parts, and_from}
use Rattle.std.proofs.lemmas.Bool.Decides.{nat_tests}
use Rattle.std.proofs.lemmas.Grind.{same_number_lists}
use Rattle.std.proofs.lemmas.Simd.{put_chunk_is}
use Rattle.std.proofs.lemmas.List.{length-append, length-drop, length-take-le, take_at, drop_at, drop-drop, get_or-drop, get_or-take, take-append-le}
use Rattle.std.proofs.lemmas.Str.{IsUtf8-drop, IsUtf8-from_ascii, IsCharBoundary-after_ascii}
use Rattle.std.proofs.lemmas.Str.{IsCharBoundary-start, encodes-IsAscii, encodes_same, chars-IsAscii}
use Rattle.encoding_definitions.specs.Prefixes.{WritesPrefix}
use Rattle.encoding_kernels.specs.Following.{IsClosedAt}
use Rattle.encoding_kernels.specs.Scans.{HasLanes}
use Rattle.encoding_kernels.specs.EndingUnits.{BeginsThree, keep, ends_unit, low_bits, triple_unit, unit_at, units_after, ends_after, WritesUtf16}
use Rattle.encoding_kernels.proofs.VectorLemmas.{same_below}
use Rattle.encoding_definitions.proofs.PrefixesLemmas.{written_is}

-- ---- one byte: no code unit ends with it, or one does
mark_off : (a b : ℕ) → (0xC0 ≤ b) → ends_unit a b ≡ false
mark_off a b h = ap (λ t. t && ltb a 0xE0) (le-ltb _ _ h)

mark_off_second : (a b : ℕ) → b < 0xC0 → 0xE0 ≤ a → ends_unit a b ≡ false
mark_off_second a b l h = λ i. lt-ltb b 0xC0 l i && le-ltb a 0xE0 h i

mark_on : (a b : ℕ) → b < 0xC0 → a < 0xE0 → ends_unit a b ≡ true
mark_on a b l h = λ i. lt-ltb b 0xC0 l i && lt-ltb a 0xE0 h i

-- the upper byte of a low surrogate
low_mark : (n : ℕ) → n < 16 → bit_or n 0xDC ≡ 0xDC + n % 4
low_mark = same_below (λ n. bit_or n 0xDC) (λ n. 0xDC + n % 4) 0 16 refl

module _ (x y a b : ℕ) where
  unit_one : b < 0x80 → unit_at x y a b ≡ b
  unit_one h = cond-true (ltb b 0x80) _ _ (lt-ltb _ _ h)

  unit_low : 0x80 ≤ b → 0xF0 ≤ x → y < 0xE0 → unit_at x y a b ≡ 0xDC00 + low_bits a b % 0x400
  unit_low h p q = grind (arith, nat_tests, low_mark (a % 64 / 4) (omega arith))

  unit_high : 0x80 ≤ b → 0xF0 ≤ y → unit_at x y a b ≡ 0xD7C0 + (y % 8 * 256 + low_bits a b / 16)
  unit_high h q = cond-false (ltb b 0x80) _ _ (le-ltb _ _ h) ∙ cond-true (leb 0xF0 y) _ _ (le-leb _ _ q)

  unit_three : 0x80 ≤ b → x < 0xF0 → y < 0xF0 → 0xE0 ≤ y → unit_at x y a b ≡ y % 16 * 4096 + low_bits a b
  unit_three h p q r = cond-false (ltb b 0x80) _ _ (le-ltb _ _ h) ∙ cond-false (leb 0xF0 y) _ _ (lt-leb _ _ q) ∙ cond-false (leb 0xF0 x) _ _ (lt-leb _ _ p)
      ∙ cond-true (leb 0xE0 y) _ _ (le-leb _ _ r)

  unit_two : 0x80 ≤ b → x < 0xF0 → y < 0xE0 → unit_at x y a b ≡ low_bits a b
  unit_two h p q = grind (arith, nat_tests)

  abbrev emits : List ℕ → List ℕ
  emits rest = (if ends_unit a b then unit_at x y a b ∷ [] else []) ++ rest

  none_ends : (rest : List ℕ) → ends_unit a b ≡ false → emits rest ≡ rest
  none_ends rest e = λ i. (if e i then unit_at x y a b ∷ [] else []) ++ rest

  one_ends : (rest : List ℕ) (u : ℕ) → ends_unit a b ≡ true → unit_at x y a b ≡ u → emits rest ≡ u ∷ rest
  one_ends rest u e f = λ i. (if e i then f i ∷ [] else []) ++ rest

-- ---- the code units of characters
abbrev pub units_from : ℕ → ℕ → ℕ → List ℕ → List ℕ
units_from x y a bs = keep (ends_after a bs) (units_after x y a bs)

from_one : (x y a b : ℕ) (bs : List ℕ) → units_from x y a (b ∷ bs) ≡ emits x y a b (units_from y a b bs)
unfolding keep ends_after units_after
from_one x y a b bs = refl

from_none : (x y a : ℕ) → units_from x y a [] ≡ []
unfolding keep ends_after units_after
from_none x y a = refl

pub one_unit : (c : ℕ) → c < 65536 → encode_utf16 c ≡ c ∷ []
one_unit c h = cond-true (ltb c 65536) _ _ (lt-ltb _ _ h)

pub two_units : (c : ℕ) → 65536 ≤ c → encode_utf16 c ≡ (0xD800 + (c - 0x1_0000) / 0x400) ∷ (0xDC00 + (c - 0x1_0000) % 0x400) ∷ []
two_units c h = cond-false (ltb c 65536) _ _ (le-ltb _ _ h)

module _ (x y a : ℕ) (X : x < 0xF0) (Y : y < 0xE0) (A : a < 0xC0) (c : ℕ) (bs : List ℕ) where
  from_ascii : c < 128 → units_from x y a (encode_utf8 c ++ bs) ≡ c ∷ units_from y a c bs
  from_ascii h = ap (λ e. units_from x y a (e ++ bs)) (one c h) ∙ from_one x y a c bs
      ∙ one_ends x y a c (units_from y a c bs) c (mark_on a c (omega arith) (omega arith)) (unit_one x y a c h)

  from_two : 128 ≤ c → c < 2048 → units_from x y a (encode_utf8 c ++ bs) ≡ c ∷ units_from a (192 + c / 64) (128 + c % 64) bs
  from_two l h =
      let p = 192 + c / 64 in
      let q = 128 + c % 64 in
      ap (λ e. units_from x y a (e ++ bs)) (two c l h) ∙ from_one x y a p (q ∷ bs) ∙ none_ends x y a p (units_from y a p (q ∷ bs)) (mark_off a p (omega arith))
      ∙ from_one y a p q bs
      ∙ one_ends y a p q (units_from a p q bs) c (mark_on p q (omega arith) (omega arith))
      (unit_two y a p q (omega arith) (omega arith) (omega arith) ∙ omega arith)

  from_three : 2048 ≤ c → c < 65536 → units_from x y a (encode_utf8 c ++ bs) ≡ c ∷ units_from (224 + c / 4096) (128 + c / 64 % 64) (128 + c % 64) bs
  from_three l h =
      let p = 224 + c / 4096 in
      let q = 128 + c / 64 % 64 in
      let r = 128 + c % 64 in
      ap (λ e. units_from x y a (e ++ bs)) (three c l h) ∙ from_one x y a p (q ∷ r ∷ bs)
      ∙ none_ends x y a p (units_from y a p (q ∷ r ∷ bs)) (mark_off a p (omega arith))
      ∙ from_one y a p q (r ∷ bs) ∙ none_ends y a p q (units_from a p q (r ∷ bs)) (mark_off_second p q (omega arith) (omega arith))
      ∙ from_one a p q r bs
      ∙ one_ends a p q r (units_from p q r bs) c (mark_on q r (omega arith) (omega arith))
      (unit_three a p q r (omega arith) (omega arith) (omega arith) (omega arith) ∙ omega arith)

  from_four : 65536 ≤ c → c < 1114112 → units_from x y a (encode_utf8 c ++ bs)
      ≡ (0xD800 + (c - 0x1_0000) / 0x400) ∷ (0xDC00 + (c - 0x1_0000) % 0x400) ∷ units_from (128 + c / 4096 % 64) (128 + c / 64 % 64) (128 + c % 64) bs
  from_four l h =
      let p = 240 + c / 262144 in
      let q = 128 + c / 4096 % 64 in
      let r = 128 + c / 64 % 64 in
      let s = 128 + c % 64 in
      let u = 0xD800 + (c - 0x1_0000) / 0x400 in
      let v = 0xDC00 + (c - 0x1_0000) % 0x400 in
      ap (λ e. units_from x y a (e ++ bs)) (four c l) ∙ from_one x y a p (q ∷ r ∷ s ∷ bs)
      ∙ none_ends x y a p (units_from y a p (q ∷ r ∷ s ∷ bs)) (mark_off a p (omega arith))
      ∙ from_one y a p q (r ∷ s ∷ bs) ∙ none_ends y a p q (units_from a p q (r ∷ s ∷ bs)) (mark_off_second p q (omega arith) (omega arith))
      ∙ from_one a p q r (s ∷ bs)
      ∙ one_ends a p q r (units_from p q r (s ∷ bs)) u (mark_on q r (omega arith) (omega arith))
      (unit_high a p q r (omega arith) (omega arith) ∙ high_is c l h)
      ∙ ap (λ xs. u ∷ xs) (from_one p q r s bs
      ∙ one_ends p q r s (units_from q r s bs) v (mark_on r s (omega arith) (omega arith))
      (unit_low p q r s (omega arith) (omega arith) (omega arith) ∙ low_is c l))
    where
      high_is : (c : ℕ) → 65536 ≤ c → c < 1114112
          → 0xD7C0 + ((240 + c / 262144) % 8 * 256 + low_bits (128 + c / 4096 % 64) (128 + c / 64 % 64) / 16) ≡ 0xD800 + (c - 0x1_0000) / 0x400
      high_is c l h = omega arith

      low_is : (c : ℕ) → 65536 ≤ c → 0xDC00 + low_bits (128 + c / 64 % 64) (128 + c % 64) % 0x400 ≡ 0xDC00 + (c - 0x1_0000) % 0x400
      low_is c l = omega arith

pub units_of_characters : (cs : List ℕ) → all_scalars cs ≡ true → (x y a : ℕ) → x < 0xF0 → y < 0xE0 → a < 0xC0
    → units_from x y a (encode_utf8_all cs) ≡ flat_map encode_utf16 cs
units_of_characters [] h x y a X Y A = from_none x y a
units_of_characters (c ∷ cs) h x y a X Y A =
    let parts = and_parts (scalar c) (all_scalars cs) h in
    let text = encode_utf8_all cs in
    let is = scalar_cases c parts.0 in
    let one_more = λ (e : encode_utf16 c ≡ c ∷ []). ap (λ us. us ++ flat_map encode_utf16 cs) (sym e) in
    elim (cases_lt c 128) [
      | inl p ↦ from_ascii x y a X Y A c text p ∙ ap (λ us. c ∷ us) (units_of_characters cs parts.1 y a c (omega arith) (omega arith) (omega arith))
          ∙ one_more (one_unit c (omega arith))
      | inr p ↦ elim (cases_lt c 2048) [
        | inl q ↦ from_two x y a X Y A c text p q
            ∙ ap (λ us. c ∷ us) (units_of_characters cs parts.1 a (192 + c / 64) (128 + c % 64) (omega arith) (omega arith) (omega arith))
            ∙ one_more (one_unit c (omega arith))
        | inr q ↦ elim (cases_lt c 65536) [
          | inl r ↦ from_three x y a X Y A c text q r
              ∙ ap (λ us. c ∷ us) (units_of_characters cs parts.1 (224 + c / 4096) (128 + c / 64 % 64) (128 + c % 64) (omega arith) (omega arith) (omega arith))
              ∙ one_more (one_unit c r)
          | inr r ↦
              let top : c < 1114112 = elim is [ inl z ↦ omega arith | inr z ↦ z.1 ] in
              from_four x y a X Y A c text r top
              ∙ ap (λ us. (0xD800 + (c - 0x1_0000) / 0x400) ∷ (0xDC00 + (c - 0x1_0000) % 0x400) ∷ us)
              (units_of_characters cs parts.1 (128 + c / 4096 % 64) (128 + c / 64 % 64) (128 + c % 64) (omega arith) (omega arith) (omega arith))
              ∙ ap (λ us. us ++ flat_map encode_utf16 cs) (sym (two_units c r))
        ]
      ]
    ]

-- ---- where no character is cut
-- after x, y and a, what doesn't continue one of them and isn't ASCII begins a character
abbrev Begins : ℕ → ℕ → ℕ → List ℕ → ℕ → Type 0
Begins x y a bs n = get_or (x ∷ y ∷ a ∷ bs) n 0 < 0xF0 → get_or (y ∷ a ∷ bs) n 0 < 0xE0 → get_or (a ∷ bs) n 0 < 0xC0 → n < length bs
    → 128 ≤ get_or bs n 0 → 192 ≤ get_or bs n 0

begins_step : (x y a b : ℕ) (bs : List ℕ) → Begins x y a (b ∷ bs) 0 → ((n : ℕ) → Begins y a b bs n) → (n : ℕ) → Begins x y a (b ∷ bs) n
begins_step x y a b bs first more zero = first
begins_step x y a b bs first more (suc n) = λ p q r l h. more n p q r (omega arith) h

begins_two : (x y a p q : ℕ) (bs : List ℕ) → 192 ≤ p → ((n : ℕ) → Begins a p q bs n) → (n : ℕ) → Begins x y a (p ∷ q ∷ bs) n
begins_two x y a p q bs l more = begins_step x y a p (q ∷ bs) (λ _ _ _ _ _. l) (begins_step y a p q bs (λ _ _ m _ _. absurd (omega (arith, l, m))) more)

begins_three : (x y a p q r : ℕ) (bs : List ℕ) → 224 ≤ p → ((n : ℕ) → Begins p q r bs n) → (n : ℕ) → Begins x y a (p ∷ q ∷ r ∷ bs) n
begins_three x y a p q r bs l more =
    begins_two x y a p q (r ∷ bs) (omega arith) (begins_step a p q r bs (λ _ m _ _ _. absurd (omega (arith, l, m))) more)

begins_four : (x y a p q r s : ℕ) (bs : List ℕ) → 240 ≤ p → ((n : ℕ) → Begins q r s bs n) → (n : ℕ) → Begins x y a (p ∷ q ∷ r ∷ s ∷ bs) n
begins_four x y a p q r s bs l more =
    begins_three x y a p q r (s ∷ bs) (omega arith) (begins_step p q r s bs (λ m _ _ _ _. absurd (omega (arith, l, m))) more)

begins_all : (cs : List ℕ) → all_scalars cs ≡ true → (x y a n : ℕ) → Begins x y a (encode_utf8_all cs) n
begins_all [] h x y a n = λ p q r l m. absurd (omega arith)
begins_all (c ∷ cs) h x y a n =
    let more = begins_all cs (and_parts (scalar c) (all_scalars cs) h).1 in
    let bs = encode_utf8_all cs in
    let at = λ (bytes : List ℕ) (e : encode_utf8 c ≡ bytes) (b : Begins x y a (bytes ++ bs) n). subst (λ (xs : List ℕ). Begins x y a (xs ++ bs) n) (sym e) b in
    elim (cases_lt c 128) [
      | inl p ↦ at (c ∷ []) (one c p) (begins_step x y a c bs (λ _ _ _ _ m. absurd (omega (arith, p, m))) (more y a c) n)
      | inr p ↦ elim (cases_lt c 2048) [
        | inl q ↦
            let b = 192 + c / 64 in
            let d = 128 + c % 64 in at (b ∷ d ∷ []) (two c p q) (begins_two x y a b d bs (omega arith) (more a b d) n)
        | inr q ↦ elim (cases_lt c 65536) [
          | inl r ↦
              let b = 224 + c / 4096 in
              let d = 128 + c / 64 % 64 in
              let f = 128 + c % 64 in at (b ∷ d ∷ f ∷ []) (three c q r) (begins_three x y a b d f bs (omega arith) (more b d f) n)
          | inr r ↦
              let b = 240 + c / 262144 in
              let d = 128 + c / 4096 % 64 in
              let f = 128 + c / 64 % 64 in
              let k = 128 + c % 64 in at (b ∷ d ∷ f ∷ k ∷ []) (four c r) (begins_four x y a b d f k bs (omega arith) (more d f k) n)
        ]
      ]
    ]

pub IsCharBoundary-closed : (src : List ℕ) (n : ℕ) → IsUtf8 src → n ≤ length src → IsClosedAt src n → IsCharBoundary src n
IsCharBoundary-closed src n (cs, (h, e)) within c =
    (within, λ l m. subst (λ (bs : List ℕ). Begins 0 0 0 bs n) e (begins_all cs h 0 0 0 n) c.0 c.1 c.2 l m)

-- ---- ASCII
ascii_units : (bs : List ℕ) → ((i : ℕ) → get_or bs i 0 < 128) → flat_map encode_utf16 bs ≡ bs
ascii_units [] h = refl
ascii_units (b ∷ bs) h = (λ i. one_unit b (omega (arith, h 0)) i ++ ascii_units bs (λ k. h (suc k)) i)

-- ASCII is a text, and its own UTF-16
pub ascii_text : (bs : List ℕ) → IsAscii bs → IsUtf8 bs × (flat_map encode_utf16 (chars bs) ≡ bs)
ascii_text bs ascii = (IsUtf8-from_ascii bs ascii, ap (flat_map encode_utf16) (chars-IsAscii bs ascii) ∙ ascii_units bs ascii)

-- an ASCII prefix is converted if it is copied
pub puts_prefix : (src old new : List ℕ) (n reach : ℕ) → IsUtf8 src → n ≤ length src → IsAscii (take n src) → take n new ≡ take n src
    → drop reach new ≡ drop reach old
    → WritesUtf16 src old new n n reach
puts_prefix src old new n reach u within ascii copied following =
    let bs = take n src in
    let text = IsUtf8-from_ascii bs ascii in
    let same : text.0 ≡ bs = encodes_same text.0 bs (text.1.1 ∙ sym (encodes-IsAscii bs ascii)) in
    let units : flat_map encode_utf16 text.0 ≡ bs = ap (flat_map encode_utf16) same ∙ ascii_units bs ascii in
    let boundary : IsCharBoundary src n = elim (cases_lt 0 n) [
      | inl some ↦
          let last : n - 1 + 1 ≡ n = omega arith in
          let before : get_or src (n - 1) 0 < 0x80 = subst (λ b. b < 0x80) (get_or-take n src (n - 1) 0 (omega arith)) (ascii (n - 1)) in
          subst (IsCharBoundary src) last (IsCharBoundary-after_ascii src (n - 1) u (omega arith) before)
      | inr none ↦ let first : 0 ≡ n = omega arith in subst (IsCharBoundary src) first (IsCharBoundary-start src u)
    ] in
    record {
      taken = text.0;
      are_scalars = text.1.0;
      within = within;
      spelled = text.1.1;
      rest = IsUtf8-drop src n u boundary;
      counted = sym (length-take-le n src within) ∙ ap length (sym units);
      placed = copied ∙ sym units;
      following = following;
    }

pub puts_ascii : (src old new : List ℕ) (n : ℕ) → IsUtf8 src → n ≤ length src → IsAscii (take n src) → WritesPrefix old new n (take n src)
    → WritesUtf16 src old new n n n
puts_ascii src old new n u within ascii w =
    puts_prefix src old new n n u within ascii (sym (written_is old new n (take n src) w)) (ap (drop n) w.placed
    ∙ drop_at (take n src) (drop n old) n (sym w.count))

-- ---- characters of three bytes
record Triple (src : List ℕ) : Type 0 where
  scalar_value : ℕ
  is_scalar : IsScalar scalar_value
  small : scalar_value < 65536
  spelled : encode_utf8 scalar_value ≡ take 3 src
  within : 3 ≤ length src
  rest : IsUtf8 (drop 3 src)
  value : scalar_value ≡ triple_unit (get_or src 0 0) (get_or src 1 0) (get_or src 2 0)

one_triple : (src : List ℕ) → IsUtf8 src → BeginsThree (get_or src 0 0) → Triple src
one_triple src ([], (h, e)) b = absurd (omega (arith, ap (λ xs. get_or xs 0 0) e, b))
one_triple src (c ∷ cs, (h, e)) b =
    let parts = and_parts (scalar c) (all_scalars cs) h in
    let rest = encode_utf8_all cs in
    elim (cases_lt c 128) [
      | inl p ↦ absurd (omega (arith, ap (λ xs. get_or xs 0 0) (ap (λ x. x ++ rest) (sym (one c p)) ∙ e), b))
      | inr p ↦ elim (cases_lt c 2048) [
        | inl q ↦ absurd (omega (arith, ap (λ xs. get_or xs 0 0) (ap (λ x. x ++ rest) (sym (two c p q)) ∙ e), b))
        | inr q ↦ elim (cases_lt c 65536) [
          | inl r ↦
              let whole = ap (λ x. x ++ rest) (sym (three c q r)) ∙ e in
              let size : length (encode_utf8 c) ≡ 3 = ap length (three c q r) in
              let first : 224 + c / 4096 ≡ get_or src 0 0 = ap (λ xs. get_or xs 0 0) whole in
              let second : 128 + c / 64 % 64 ≡ get_or src 1 0 = ap (λ xs. get_or xs 1 0) whole in
              let third : 128 + c % 64 ≡ get_or src 2 0 = ap (λ xs. get_or xs 2 0) whole in
              record {
                scalar_value = c;
                is_scalar = parts.0;
                small = r;
                spelled = sym (ap (take 3) (sym e) ∙ take_at (encode_utf8 c) rest 3 size);
                within = omega (arith, ap length e, length-append (encode_utf8 c) rest, size);
                rest = subst IsUtf8 (sym (ap (drop 3) (sym e) ∙ drop_at (encode_utf8 c) rest 3 size)) (cs, (parts.1, refl));
                value = value_is c q r ∙ (λ i. triple_unit (first i) (second i) (third i));
              }
          | inr r ↦ absurd (omega (arith, ap (λ xs. get_or xs 0 0) (ap (λ x. x ++ rest) (sym (four c r)) ∙ e), b))
        ]
      ]
    ]
  where
    value_is : (c : ℕ) → 2048 ≤ c → c < 65536 → c ≡ triple_unit (224 + c / 4096) (128 + c / 64 % 64) (128 + c % 64)
    value_is c q r = omega arith

record Triples (n : ℕ) (src : List ℕ) : Type 0 where
  scalars_of : List ℕ
  are_scalars : all_scalars scalars_of ≡ true
  long : length scalars_of ≡ n
  within : 3 * n ≤ length src
  spelled : encode_utf8_all scalars_of ≡ take (3 * n) src
  rest : IsUtf8 (drop (3 * n) src)
  units : flat_map encode_utf16 scalars_of ≡ scalars_of
  values : (k : ℕ) → k < n → get_or scalars_of k 0 ≡ triple_unit (get_or src (3 * k) 0) (get_or src (3 * k + 1) 0) (get_or src (3 * k + 2) 0)

triples : (n : ℕ) (src : List ℕ) → IsUtf8 src → ((k : ℕ) → k < n → BeginsThree (get_or src (3 * k) 0)) → Triples n src
triples zero src u b = record {
  scalars_of = [];
  are_scalars = refl;
  long = refl;
  within = omega arith;
  spelled = refl;
  rest = u;
  units = refl;
  values =
      λ k l. absurd (omega arith);
}
triples (suc n) src u b =
    let t = one_triple src u (b 0 (omega arith)) in
    let at = λ (m k : ℕ) (e : 3 + k ≡ m). get_or-drop 3 src k 0 ∙ ap (λ j. get_or src j 0) e in
    let r = triples n (drop 3 src) t.rest (λ k l. subst BeginsThree (sym (at (3 * suc k) (3 * k) (omega arith))) (b (suc k) (omega arith))) in
    let step : 3 + 3 * n ≡ 3 * suc n = omega arith in
    let c = t.scalar_value in
    let cs = r.scalars_of in
    record {
      scalars_of = c ∷ cs;
      are_scalars = and_from _ _ t.is_scalar r.are_scalars;
      long = ap suc r.long;
      within = omega (arith, t.within, r.within, length-drop 3 src);
      spelled = (λ i. t.spelled i ++ r.spelled i) ∙ sym (take-add 3 (3 * n) src) ∙ ap (λ m. take m src) step;
      rest = subst IsUtf8 (drop-drop (3 * n) 3 src ∙ ap (λ m. drop m src) step) r.rest;
      units = λ i. one_unit c t.small i ++ r.units i;
      values = values c cs t.value (λ k l. r.values k l
          ∙ (λ i. triple_unit (at (3 * suc k) (3 * k) (omega arith) i) (at (3 * suc k + 1) (3 * k + 1) (omega arith) i)
          (at (3 * suc k + 2) (3 * k + 2) (omega arith) i)));
    }
  where
    values : (c : ℕ) (cs : List ℕ) → c ≡ triple_unit (get_or src 0 0) (get_or src 1 0) (get_or src 2 0)
        → ((k : ℕ) → k < n → get_or cs k 0 ≡ triple_unit (get_or src (3 * suc k) 0) (get_or src (3 * suc k + 1) 0) (get_or src (3 * suc k + 2) 0))
        → (k : ℕ) → k < suc n → get_or (c ∷ cs) k 0 ≡ triple_unit (get_or src (3 * k) 0) (get_or src (3 * k + 1) 0) (get_or src (3 * k + 2) 0)
    values c cs first more zero l = first
    values c cs first more (suc k) l = more k (omega arith)

-- eight units are stored, and the first n are those of characters of three bytes
pub puts_triples : (n : ℕ) (src old r : List ℕ) → n ≤ 8 → IsUtf8 src → 8 ≤ length old → ((k : ℕ) → k < n → BeginsThree (get_or src (3 * k) 0))
    → HasLanes 8 r (λ k. triple_unit (get_or src (3 * k) 0) (get_or src (3 * k + 1) 0) (get_or src (3 * k + 2) 0))
    → WritesUtf16 src old (put_chunk 0 old r) (3 * n) n 8
puts_triples n src old r few u room b h =
    let t = triples n src u b in
    let put : put_chunk 0 old r ≡ r ++ drop 8 old = put_chunk_is 0 old r (omega (arith, h.long, room)) ∙ ap (λ k. r ++ drop k old) h.long in
    let size : length (take n r) ≡ n = length-take-le n r (omega (arith, h.long)) in
    let same : take n r ≡ t.scalars_of = same_number_lists (take n r) t.scalars_of (omega (arith, size, t.long)) (λ k l.
    let within : k < n = omega (arith, size) in
    get_or-take n r k 0 within ∙ h.each k (omega arith) ∙ sym (t.values k within)) in
    record {
      taken = t.scalars_of;
      are_scalars = t.are_scalars;
      within = t.within;
      spelled = t.spelled;
      rest = t.rest;
      counted = sym (ap length t.units ∙ t.long);
      placed = ap (take n) put ∙ take-append-le n r (drop 8 old) (omega (arith, h.long)) ∙ same ∙ sym t.units;
      following = ap (drop 8) put ∙ drop_at r (drop 8 old) 8 h.long;
    }
