use Rattle.std.proofs.Common.{◌≡◌, ◌+◌, [], ◌∷◌, inl, inr, length, ap, sym, arith, refl, subst}
use Rattle.std.specs.List.{flat_map}
use Rattle.std.specs.Char.Escape.{encode_utf16}
use Rattle.std.proofs.lemmas.Bool.{cases_lt}
use Rattle.std.proofs.lemmas.Bool.Decides.{nat_tests}
use Rattle.std.proofs.lemmas.Str.{length-encode}
use Rattle.std.proofs.str.Utf16.{one_unit, two_units}
use Rattle.encoding_definitions.specs.Utf16.{IsUtf8OfPrefix, utf8_of_part16}
use Rattle.encoding_definitions.proofs.PrefixesLemmas.{WritesPrefix-same, written_is}
use Rattle.encoding_definitions.proofs.Utf16PrefixLemmas.{Walked, step_walked, step_written, walked_prefix}
use Rattle.encoding_kernels.proofs.OverwriteLemmas.{plain_prefix}
use Rattle.encoding_kernels.proofs.utf16_to_utf8.tail.convert_some.Goals as goal

pub returns-then-first-gt0-clause-prefix : goal.returns-then-first-gt0-clause-prefix
returns-then-first-gt0-clause-prefix g c = plain_prefix c.convert_first_sixteen-first.ensures.code_units c.convert_first_sixteen-first.ensures.written

pub returns-clause-prefix : goal.returns-clause-prefix
returns-clause-prefix g c =
    let us = g.S.CodeUnits.units c.args.src in
    let walked : Walked us 0 [] = record { whole = refl; taken = refl } in
    let first = c.scalar_at-scalar.ensures in
    let place : 0 + c.utf16_length.result ≡ c.utf16_length.result = omega arith in
    let prefix = walked_prefix us _ _ c.convert_first_sixteen-first.ensures.code_units (step_walked us 0 [] _ _ walked first c.utf16_length.ensures) in
    let written = WritesPrefix-same _ _ _ _ _ _ c.write_scalar.ensures refl (sym (step_written us 0 [] _ c.utf16_length.result walked first)) in
    subst (IsUtf8OfPrefix us c.utf16_length.result) (written_is _ _ _ _ written)
    (subst (λ n. IsUtf8OfPrefix us n (flat_map utf8_of_part16 (first.part ∷ []))) place prefix)

pub returns-clause-progress : goal.returns-clause-progress
returns-clause-progress g c =
    let x = c.scalar_at-scalar.result in
    elim (cases_lt x 0x10000) [
      | inl l ↦ let one : length (encode_utf16 x) ≡ 1 = ap length (one_unit x l) in let n = length-encode x in
          grind (arith, nat_tests, one, n, c.utf16_length.ensures, c.write_scalar.ensures.count)
      | inr l ↦ let two : length (encode_utf16 x) ≡ 2 = ap length (two_units x l) in let n = length-encode x in
          grind (arith, nat_tests, two, n, c.utf16_length.ensures, c.write_scalar.ensures.count)
    ]
