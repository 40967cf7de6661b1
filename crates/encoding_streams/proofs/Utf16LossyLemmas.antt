-- The parts of the bytes of code units are the parts of these units: their text is that of std's lossy decoding.
use Rattle.std.proofs.Common.{◌≡◌, ℕ, suc, inl, inr, true, List, [], ◌∷◌, ◌++◌, length, map, refl, sym, ap, ◌∙◌, arith, subst}
use Rattle.std.specs.Char.Escape.{encode_utf16}
use Rattle.std.specs.Char.Utf16.{utf16_lossy_chars}
use Rattle.std.specs.List.{flat_map}
use Rattle.std.proofs.lemmas.List.{append-nil}
use Rattle.encoding_text.specs.Parts.{Part, Character, IllFormed, lossy_scalar}
use Rattle.encoding_text.specs.Utf16.{AreCodeUnits, IsHighSurrogate, Part16, Character16, Unpaired, units_of_part16, scalar_of_part16, ArePaired}
use Rattle.encoding_text.specs.FirstScalar.{BeginsLow, IsFirstPart16}
use Rattle.encoding_text.specs.Utf16Bytes.{unit_bytes, utf16_bytes}
use Rattle.encoding_text.specs.declared.utf_16.ByteOrder.{ByteOrder}
use Rattle.encoding_definitions.proofs.Utf16Lemmas.{parts_of, parts_exist, first_of_parts, tail_paired}
use Rattle.encoding_definitions.proofs.Utf16LawLemmas.{scalars_lossy}
use Rattle.encoding_streams.specs.Utf16Parts.{IsMalformedUtf16, IsFirstPartUtf16, StartsWithUtf16, ArePartsOfUtf16}
use Rattle.encoding_streams.proofs.Utf16ByteLemmas.{length-unit_bytes, utf16_bytes-append}
use Rattle.encoding_streams.proofs.Utf16PartLemmas.{same_parts}

-- the part of bytes for a part of code units
abbrev part_in : ByteOrder → Part16 → Part
part_in order (Character16 c) = Character c
part_in order (Unpaired u) = IllFormed (unit_bytes order u)

high_unpaired : (order : ByteOrder) (u : ℕ) (rest : List ℕ) → AreCodeUnits rest → IsHighSurrogate u → (BeginsLow rest → ⊥)
    → IsMalformedUtf16 order (unit_bytes order u) (utf16_bytes order rest) true
high_unpaired order u [] units high apart =
    inr
    (inr (
      (λ e. omega (arith, ap length e, length-unit_bytes order u)),
      record {
        surrogate = u ∷ [];
        is_high = high;
        odd = [];
        one = omega arith;
        whole = sym (append-nil (unit_bytes order u ++ []) ∙ append-nil (unit_bytes order u));
      },
      refl,
      refl,
    ))
high_unpaired order u (v ∷ rest) units high apart =
    inr
    (inl (record {
      unit = u;
      is_high = high;
      bytes = refl;
      next = v;
      is_unit = units 0;
      not_low = apart;
      more = utf16_bytes order rest;
      following = refl;
    }))

first_in_bytes : (order : ByteOrder) (us : List ℕ) (p : Part16) (rest : List ℕ) → AreCodeUnits rest → IsFirstPart16 us p rest
    → IsFirstPartUtf16 order true (utf16_bytes order us) (part_in order p) (utf16_bytes order rest)
first_in_bytes order us (Character16 c) rest units (s, e) = (s, ap (utf16_bytes order) e ∙ utf16_bytes-append order (encode_utf16 c) rest)
first_in_bytes order us (Unpaired u) rest units (kind, e, apart) = (
  ap (utf16_bytes order) e,
  elim kind [
    | inl high ↦ high_unpaired order u rest units high (apart high)
    | inr low ↦ inl (u, low, refl)
  ],
)

rest_units : (xs ys : List ℕ) → AreCodeUnits (xs ++ ys) → AreCodeUnits ys
rest_units [] ys h = h
rest_units (x ∷ xs) ys h = rest_units xs ys (λ k. h (suc k))

parts_in_bytes : (order : ByteOrder) (ps : List Part16) → ArePaired ps → AreCodeUnits (flat_map units_of_part16 ps)
    → StartsWithUtf16 order true (utf16_bytes order (flat_map units_of_part16 ps)) (map (part_in order) ps) []
parts_in_bytes order [] paired units = refl
parts_in_bytes order (p ∷ ps) paired units =
    let rest = rest_units (units_of_part16 p) (flat_map units_of_part16 ps) units in (
      utf16_bytes order (flat_map units_of_part16 ps),
      first_in_bytes order (flat_map units_of_part16 (p ∷ ps)) p (flat_map units_of_part16 ps) rest (first_of_parts p ps paired),
      parts_in_bytes order ps (tail_paired p ps paired) rest,
    )

scalars_in : (order : ByteOrder) (ps : List Part16) → map lossy_scalar (map (part_in order) ps) ≡ map scalar_of_part16 ps
scalars_in order [] = refl
scalars_in order (Character16 c ∷ ps) = ap (λ cs. c ∷ cs) (scalars_in order ps)
scalars_in order (Unpaired u ∷ ps) = ap (λ cs. 0xFFFD ∷ cs) (scalars_in order ps)

pub bytes_lossy : (order : ByteOrder) (us : List ℕ) (parts : List Part) → AreCodeUnits us → ArePartsOfUtf16 order (utf16_bytes order us) parts
    → map lossy_scalar parts ≡ utf16_lossy_chars us
bytes_lossy order us parts units h =
    let (paired, whole) = parts_exist us units in
    let same : parts ≡ map (part_in order) (parts_of us) =
    same_parts order (utf16_bytes order us) parts (map (part_in order) (parts_of us)) h
    (subst (λ xs. StartsWithUtf16 order true (utf16_bytes order xs) (map (part_in order) (parts_of us)) []) whole
    (parts_in_bytes order (parts_of us) paired (subst AreCodeUnits (sym whole) units))) in
    ap (map lossy_scalar) same ∙ scalars_in order (parts_of us) ∙ scalars_lossy us (parts_of us) (paired, whole)
