-- Code units that are converted by their scalar values: step by step, and from parts that follow one another.
use Rattle.std.proofs.Common.{◌≡◌, ℕ, suc, ◌+◌, ◌-◌, ◌<◌, ◌≤◌, ◌⊎◌, inl, inr, true, List, [], ◌∷◌, ◌++◌, length, map, take, drop, take-add}
use Rattle.std.proofs.Common.{take-append-drop, get_or, encode_utf8, refl, sym, ap, ◌∙◌, arith, length-take, length-take-le, length-append}
use Rattle.std.specs.Char.{IsScalar}
use Rattle.std.specs.Char.Escape.{encode_utf16}
use Rattle.std.specs.Char.Utf16.{surrogate_pair_char}
use Rattle.std.specs.List.{flat_map}
use Rattle.std.specs.Str.{all_scalars}
use Rattle.std.proofs.lemmas.Bool.{and_from, cases_lt}
use Rattle.std.proofs.lemmas.Bool.Decides.{nat_tests}
use Rattle.std.proofs.lemmas.List.{drop_at, drop_more, take_at, take_rest}
use Rattle.std.proofs.lemmas.List.Concat.{flat_map-append}
use Rattle.std.proofs.str.Laws.{scalars-append}
use Rattle.std.proofs.str.Utf16.{one_unit, IsPair}
use borrow.Rule.Slice.PartMut.{put_mid}
use Rattle.encoding_definitions.specs.FirstScalar.{IsFirstScalar}
use Rattle.encoding_definitions.specs.Prefixes.{WritesPrefix}
use Rattle.encoding_definitions.specs.Utf16.{AreCodeUnits, Character16, utf8_of_part16}
use Rattle.encoding_definitions.proofs.EncodingLemmas.{flat_map-encode_utf8}
use Rattle.encoding_definitions.proofs.PrefixesLemmas.{WritesPrefix-nil, WritesPrefix-same, WritesPrefix_after, flat_map_push}
use Rattle.encoding_definitions.proofs.SurrogateLemmas.{parts_of-characters}
use Rattle.encoding_definitions.proofs.Utf16LawLemmas.{characters_units}
use Rattle.encoding_definitions.proofs.Utf16Lemmas.{parts_of, parts_of-first, first_pair, first_unit}
use Rattle.encoding_definitions.proofs.Utf16PrefixLemmas.{Walked, scalar_of_unpaired}
use Rattle.encoding_kernels.specs.Utf8Output.{AreBmpScalars, IsCharacterAt, WritesBmp, WritesScalars}
use Rattle.encoding_kernels.proofs.ScanLemmas.{Each-take}

-- ---- one character
first_push : (us : List ℕ) (read c n : ℕ) (rest : List ℕ) → n ≡ length (encode_utf16 c) → drop read us ≡ encode_utf16 c ++ rest
    → take read us ++ encode_utf16 c ≡ take (read + n) us
first_push us read c n rest e f =
    ap (λ xs. take read us ++ xs) (sym (ap (take n) f ∙ take_at (encode_utf16 c) rest n (sym e))) ∙ sym (take-add read n us)

-- the scalar values done take the first `read` code units
pub record Taken (us : List ℕ) (read : ℕ) (done : List ℕ) : Type 0 where
  pub are_scalars : all_scalars done ≡ true
  pub taken : flat_map encode_utf16 done ≡ take read us

pub taken_push : (us done : List ℕ) (read c n : ℕ) → Taken us read done → IsCharacterAt us read c → n ≡ length (encode_utf16 c)
    → Taken us (read + n) (done ++ c ∷ [])
taken_push us done read c n t h e = record {
  are_scalars = scalars-append done (c ∷ []) t.are_scalars (and_from _ _ h.is_scalar refl);
  taken = flat_map_push encode_utf16 done c ∙ ap (λ xs. xs ++ encode_utf16 c) t.taken ∙ first_push us read c n h.rest e h.begins;
}

-- a code unit that is no surrogate
pub unit_begins : (us : List ℕ) (at : ℕ) → at < length us → get_or us at 0 < 0x10000 → (0xD800 ≤ get_or us at 0 → get_or us at 0 ≤ 0xDFFF → ⊥)
    → IsCharacterAt us at (get_or us at 0)
unit_begins us at l w n =
    let u = get_or us at 0 in
    let apart : (u < 0xD800) ⊎ (0xDFFF < u) = elim (cases_lt u 0xD800) [
      | inl a ↦ inl a
      | inr a ↦ elim (cases_lt 0xDFFF u) [ inl b ↦ inr b | inr b ↦ absurd (n a b) ]
    ] in
    let first = first_unit u (drop (at + 1) us) w apart in
    record { is_scalar = first.0; rest = drop (at + 1) us; begins = drop_more us at 0 l ∙ first.1 }

pub pair_begins : (us : List ℕ) (at : ℕ) → at + 1 < length us → IsPair (get_or us at 0) (get_or us (at + 1) 0)
    → IsCharacterAt us at (surrogate_pair_char (get_or us at 0) (get_or us (at + 1) 0))
pair_begins us at l p =
    let first = first_pair (get_or us at 0) (get_or us (at + 1) 0) (drop (at + 1 + 1) us) p in
    record {
      is_scalar = first.0;
      rest = drop (at + 1 + 1) us;
      begins = drop_more us at 0 (omega arith) ∙ ap (λ xs. get_or us at 0 ∷ xs) (drop_more us (at + 1) 0 l) ∙ first.1;
    }

-- the first part is the character
pub character_first : (us : List ℕ) (at c : ℕ) → IsCharacterAt us at c → IsFirstScalar (drop at us) c
character_first us at c h = record {
  part = Character16 c;
  counts = refl;
  first = (
    h.is_scalar,
    h.begins ∙ ap (λ xs. encode_utf16 c ++ xs) (sym (ap (drop (length (encode_utf16 c))) h.begins ∙ drop_at (encode_utf16 c) h.rest _ refl)),
  );
}

-- no character: an unpaired surrogate
pub unpaired_first : (us : List ℕ) (at : ℕ) → at < length us → get_or us at 0 < 0x10000 → ((c : ℕ) → IsCharacterAt us at c → ⊥)
    → IsFirstScalar (drop at us) 0xFFFD
unpaired_first us at l w n =
    let within : (0xD800 ≤ get_or us at 0) × (get_or us at 0 ≤ 0xDFFF) = elim (cases_lt (get_or us at 0) 0xD800) [
      | inl a ↦ absurd (n _ (unit_begins us at l w (λ b _. omega (arith, a, b))))
      | inr a ↦ elim (cases_lt 0xDFFF (get_or us at 0)) [
        | inl b ↦ absurd (n _ (unit_begins us at l w (λ _ k. omega (arith, b, k))))
        | inr b ↦ (a, b)
      ]
    ] in
    scalar_of_unpaired us at l within.0 within.1 (λ i p. n _ (pair_begins us at i p))

-- code units begin with one character
pub one_character : (us : List ℕ) (at c d : ℕ) → IsCharacterAt us at c → IsCharacterAt us at d → c ≡ d
one_character us at c d h k =
    let first = parts_of-first (drop at us) (Character16 c) h.rest (h.is_scalar, h.begins) in
    let other = parts_of-first (drop at us) (Character16 d) k.rest (k.is_scalar, k.begins) in
    let same : Character16 c ∷ parts_of h.rest ≡ Character16 d ∷ parts_of k.rest = sym first ∙ other in
    cc

-- ---- several characters
pub scalars_none : (us old : List ℕ) → WritesScalars us old old 0 0
scalars_none us old = record { within = omega arith; scalars = []; are_scalars = refl; taken = refl; written = WritesPrefix-nil old }

-- more, of units that are what is left
pub scalars_more : {us rest old new sub : List ℕ} {read written n m : ℕ} → rest ≡ take (length us - read) (drop read us) → WritesScalars us old new read written
    → WritesScalars rest (take (length new - written) (drop written new)) sub n m
    → WritesScalars us old (put_mid written (length new - written) new sub) (read + n) (written + m)
scalars_more {us} {rest} {old} {new} {sub} {read} {written} {n} {m} e w v =
    let left : rest ≡ drop read us = e ∙ take_rest us read in record {
      within = omega (arith, w.within, v.within, ap length e, length-take (length us - read) (drop read us));
      scalars = w.scalars ++ v.scalars;
      are_scalars = scalars-append w.scalars v.scalars w.are_scalars v.are_scalars;
      taken = flat_map-append encode_utf16 w.scalars v.scalars ∙ (λ i. w.taken i ++ (v.taken ∙ ap (take n) left) i) ∙ sym (take-add read n us);
      written = WritesPrefix-same _ _ _ _ _ _ (WritesPrefix_after _ _ _ _ _ _ _ w.written v.written) refl
          (sym (flat_map-append encode_utf8 w.scalars v.scalars));
    }

-- one more
pub scalar_more : {us old new sub : List ℕ} {read written n m c : ℕ} → WritesScalars us old new read written → IsCharacterAt us read c
    → n ≡ length (encode_utf16 c) → WritesPrefix (take (length new - written) (drop written new)) sub m (encode_utf8 c)
    → WritesScalars us old (put_mid written (length new - written) new sub) (read + n) (written + m)
scalar_more {us} {old} {new} {sub} {read} {written} {n} {m} {c} w h e v =
    let had : Taken us read w.scalars = record { are_scalars = w.are_scalars; taken = w.taken } in
    let more = taken_push us w.scalars read c n had h e in
    record {
      within = omega (
        arith,
        w.within,
        ap length h.begins,
        length-append (encode_utf16 c) h.rest,
        ap length (take-append-drop read us),
        length-append (take read us) (drop read us),
        length-take read us,
      );
      scalars = w.scalars ++ c ∷ [];
      are_scalars = more.are_scalars;
      taken = more.taken;
      written = WritesPrefix-same _ _ _ _ _ _ (WritesPrefix_after _ _ _ _ _ _ _ w.written v) refl (sym (flat_map_push encode_utf8 w.scalars c));
    }

-- ---- code units that are no surrogates: each is a scalar value, one code unit in UTF-16
bmp_scalar : (c : ℕ) → c < 0x10000 → ((0xD800 ≤ c) × (c ≤ 0xDFFF) → ⊥) → IsScalar c
bmp_scalar c l p = grind (arith, nat_tests)

bmp_scalars : (cs : List ℕ) → AreCodeUnits cs → AreBmpScalars cs → all_scalars cs ≡ true
bmp_scalars [] a p = refl
bmp_scalars (c ∷ cs) a p = and_from _ _ (bmp_scalar c (a 0) (p 0)) (bmp_scalars cs (λ k. a (suc k)) (λ k. p (suc k)))

units_same : (cs : List ℕ) → AreCodeUnits cs → flat_map encode_utf16 cs ≡ cs
units_same [] a = refl
units_same (c ∷ cs) a = λ i. one_unit c (a 0) i ++ units_same cs (λ k. a (suc k)) i

pub scalars_of_bmp : {us old new : List ℕ} {read written : ℕ} → AreCodeUnits us → WritesBmp us old new read written → WritesScalars us old new read written
scalars_of_bmp {us} {old} {new} {read} {written} all w =
    let units : AreCodeUnits (take read us) = Each-take (λ u. u < 0x10000) (omega arith) us read (λ k _. all k) in
    record {
      within = w.within;
      scalars = take read us;
      are_scalars = bmp_scalars (take read us) units w.plain;
      taken = units_same (take read us) units;
      written = WritesPrefix-same _ _ _ _ _ _ w.written refl (sym (flat_map-encode_utf8 (take read us)));
    }

-- ---- the parts of the code units
characters_utf8 : (cs : List ℕ) → flat_map encode_utf8 cs ≡ flat_map utf8_of_part16 (map Character16 cs)
characters_utf8 [] = refl
characters_utf8 (c ∷ cs) = ap (λ xs. encode_utf8 c ++ xs) (characters_utf8 cs)

pub scalars_walked : {us old new : List ℕ} {read written : ℕ} (w : WritesScalars us old new read written)
    → Walked us read (map Character16 w.scalars) × WritesPrefix old new written (flat_map utf8_of_part16 (map Character16 w.scalars))
scalars_walked {us} {old} {new} {read} {written} w =
    let whole : us ≡ flat_map encode_utf16 w.scalars ++ drop read us = sym (take-append-drop read us) ∙ ap (λ xs. xs ++ drop read us) (sym w.taken) in (
      record {
        whole = ap parts_of whole ∙ parts_of-characters w.scalars (drop read us) w.are_scalars;
        taken = ap length (characters_units w.scalars) ∙ ap length w.taken ∙ length-take-le read us w.within;
      },
      WritesPrefix-same _ _ _ _ _ _ w.written refl (characters_utf8 w.scalars),
    )
