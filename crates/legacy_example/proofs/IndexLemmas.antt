-- The index by ranges of bytes, and its characters in UTF-16 and UTF-8.
use Rattle.std.proofs.Common.{◌≡◌, ℕ, zero, suc, take, ◌+◌, ◌-◌, ◌*◌, ◌<◌, ◌≤◌, inl, inr, true, List, [], ◌∷◌, ◌++◌, length, drop, map, slice_index, if◌then◌else◌, nat_lt, encode_utf8, encode_utf8_all, IsTrue, refl, sym, ap, subst, ◌∙◌, arith}
use Rattle.std.specs.Char.Escape.{encode_utf16}
use Rattle.std.specs.List.{flat_map, range_with_len}
use Rattle.std.specs.Str.{all_scalars, IsAscii}
use Rattle.std.proofs.Math.ListN.{get_or-append}
use Rattle.std.proofs.lemmas.Bool.{cases_lt, and_from, ltb-true}
use Rattle.std.proofs.lemmas.Bool.Decides.{nat_tests}
use Rattle.std.proofs.lemmas.List.{append-nil, get_or-drop, length-append}
use Rattle.std.proofs.lemmas.List.Folds.{flat_map-map}
use Rattle.std.proofs.lemmas.List.Sums.{AllPass-from_list_all}
use Rattle.std.proofs.lemmas.List.FromFn.{get_or-map-range_with_len}
use Rattle.std.proofs.lemmas.Str.{length-encode}
use lib.Utf8.{scalar, low_scalar}
use Rattle.encoding_text.specs.Utf16.{Part16, ArePartsOf16, IsUtf8OfUnits}
use Rattle.encoding_text.specs.Utf16.{scalar_of_part16 as part_scalar}
use Rattle.legacy_example.specs.Windows1252.{index, scalar_of, AreBytes}
use Rattle.legacy_example.specs.declared.TheConstants.{OTHERS}

-- ---- the choice between a byte and an entry
low : (xs : List ℕ) (b : ℕ) → b < 0x80 → (if nat_lt b 0x80 then b else slice_index xs (b - 0x80)) ≡ b
low xs b h = grind (arith, nat_tests)

pub high : (xs : List ℕ) (b : ℕ) → 0x80 ≤ b → (if nat_lt b 0x80 then b else slice_index xs (b - 0x80)) ≡ slice_index xs (b - 0x80)
high xs b h = grind (arith, nat_tests)

-- ---- the index: the 32 entries of the code's table, and then those of Latin1
index_is : index ≡ OTHERS ++ map (λ c. c) (range_with_len 0xA0 96)
index_is = refl

after_is : drop 32 index ≡ map (λ c. c) (range_with_len 0xA0 96)
after_is = refl

pub scalar_low : (b : ℕ) → b < 0x80 → scalar_of b ≡ b
scalar_low b h = low index b h

pub scalar_other : (b : ℕ) → 0x80 ≤ b → b < 0xA0 → slice_index OTHERS (b - 0x80) ≡ scalar_of b
scalar_other b l h = sym (high index b l ∙ ap (λ xs. slice_index xs (b - 0x80)) index_is
    ∙ get_or-append OTHERS (map (λ c. c) (range_with_len 0xA0 96)) 0 (b - 0x80) (omega arith))

pub scalar_latin1 : (b : ℕ) → 0xA0 ≤ b → b < 0x100 → scalar_of b ≡ b
scalar_latin1 b l h =
    let place : 32 + (b - 0xA0) ≡ b - 0x80 = omega arith in
    high index b (omega arith) ∙ ap (λ k. slice_index index k) (sym place) ∙ sym (get_or-drop 32 index (b - 0xA0) 0)
    ∙ ap (λ xs. slice_index xs (b - 0xA0)) after_is
    ∙ get_or-map-range_with_len (λ c. c) 0xA0 96 (b - 0xA0) b 0 (omega arith) (omega arith)

pub scalar_below : (b : ℕ) → b < 0x100 → scalar_of b < 0xD800
scalar_below b h = elim (cases_lt b 0x80) [
  | inl l ↦ omega (arith, scalar_low b l)
  | inr g ↦ rw (high index b g) (ltb-true _ _ (AllPass-from_list_all (λ c. nat_lt c 0xD800) index refl (b - 0x80) 0 (omega arith)))
]

-- ---- characters below the surrogates
one_unit : (c : ℕ) → c < 0xD800 → encode_utf16 c ≡ c ∷ []
one_unit c h = let e : nat_lt c 0x10000 ≡ true = grind (arith, nat_tests) in rw e refl

-- each is one code unit
pub units_are : (bs : List ℕ) → AreBytes bs → map scalar_of bs ≡ flat_map encode_utf16 (map scalar_of bs)
units_are [] h = refl
units_are (b ∷ bs) h = ap (λ xs. scalar_of b ∷ xs) (units_are bs (λ k. h (suc k)))
    ∙ sym (ap (λ xs. xs ++ flat_map encode_utf16 (map scalar_of bs)) (one_unit (scalar_of b) (scalar_below b (h 0))))

-- and at most three bytes
three_at_most : (c : ℕ) → c < 0xD800 → length (encode_utf8 c) ≤ 3
three_at_most c h = rw (length-encode c) (grind (arith, nat_tests))

pub bytes_within : (n : ℕ) (bs : List ℕ) → AreBytes bs → length (encode_utf8_all (map scalar_of (take n bs))) ≤ 3 * n
bytes_within zero bs h = omega arith
bytes_within (suc n) [] h = omega arith
bytes_within (suc n) (b ∷ bs) h =
    omega (
      arith,
      length-append (encode_utf8 (scalar_of b)) (encode_utf8_all (map scalar_of (take n bs))),
      three_at_most (scalar_of b)
          (scalar_below b (h 0)),
      bytes_within n bs (λ k. h (suc k)),
    )

-- the UTF-8 of one such code unit
pub one_written : ((cs : List ℕ) (parts : List Part16) → IsTrue (all_scalars cs) → ArePartsOf16 (flat_map encode_utf16 cs) parts → map part_scalar parts ≡ cs)
    → (c : ℕ) (out : List ℕ) → c < 0xD800 → IsUtf8OfUnits (c ∷ []) out → out ≡ encode_utf8_all (c ∷ [])
one_written law c out h w =
    let units : c ∷ [] ≡ encode_utf16 c ++ [] = sym (append-nil (encode_utf16 c) ∙ one_unit c h) in
    let is : map part_scalar w.parts ≡ c ∷ [] =
    law (c ∷ []) w.parts (and_from (scalar c) true (low_scalar c h) refl) (subst (λ us. ArePartsOf16 us w.parts) units w.are_parts) in
    w.written ∙ sym (flat_map-map encode_utf8 part_scalar w.parts) ∙ ap (flat_map encode_utf8) is

-- ---- ASCII
pub ascii_same : (bs : List ℕ) → IsAscii bs → bs ≡ map scalar_of bs
ascii_same [] h = refl
ascii_same (b ∷ bs) h = ap (λ c. c ∷ bs) (sym (scalar_low b (h 0))) ∙ ap (λ xs. scalar_of b ∷ xs) (ascii_same bs (λ k. h (suc k)))
