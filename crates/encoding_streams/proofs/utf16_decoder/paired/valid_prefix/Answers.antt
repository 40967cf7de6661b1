use Rattle.std.proofs.Common.{refl, sym, subst, arith}
use Rattle.encoding_definitions.specs.Utf16.{IsHighSurrogate}
use Rattle.encoding_streams.proofs.Utf16PairedLemmas.{valid_before, valid_to}
use Rattle.encoding_streams.proofs.utf16_decoder.paired.valid_prefix.Goals.{else-paired-gt0-via-then-paired-gt0+else-is_high_surrogate}
use Rattle.encoding_streams.proofs.utf16_decoder.paired.valid_prefix.Goals.{else-paired-gt0-via-else-paired-gt0}
use Rattle.encoding_streams.proofs.utf16_decoder.paired.valid_prefix.Goals as goal

pub returns-then-is_high_surrogate-clause-valid : goal.returns-then-is_high_surrogate-clause-valid
returns-then-is_high_surrogate-clause-valid g c =
    let us = g.S.CodeUnits.units c.args.src in
    let p = c.paired_prefix-paired in
    valid_before us p.result p.ensures.within p.ensures.code_units p.ensures.paired (omega (arith, c.if-paired-gt0.true))
    (subst IsHighSurrogate c.unit_at.ensures ((c.if-is_high_surrogate.ensures {u = tt}).0 refl))

pub returns-clause-valid : goal.returns-clause-valid
returns-clause-valid g c =
    let us = g.S.CodeUnits.units c.args.src in
    let p = c.paired_prefix-paired in
    valid_to us p.result p.ensures.within p.ensures.code_units p.ensures.paired
    (λ some high. elim c.else-paired-gt0.branch [
      | else-paired-gt0-via-then-paired-gt0+else-is_high_surrogate w ↦
          cc ((w.if-is_high_surrogate.ensures {u = tt}).1 (subst IsHighSurrogate (sym w.unit_at.ensures) high))
      | else-paired-gt0-via-else-paired-gt0 w ↦ absurd (omega (arith, some, w.if-paired-gt0.false))
    ])
