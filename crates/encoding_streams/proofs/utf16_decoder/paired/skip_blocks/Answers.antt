use Rattle.std.proofs.Common.{refl, sym, subst, arith}
use Rattle.encoding_definitions.specs.Utf16.{IsHighSurrogate}
use Rattle.encoding_streams.proofs.Utf16PairedLemmas.{paired_block}
use Rattle.encoding_streams.proofs.utf16_decoder.paired.skip_blocks.Goals as goal

pub loop-end-preserved : goal.loop-end-preserved
loop-end-preserved g c =
    let us = g.S.CodeUnits.units c.args.src in
    let end = c.loop-end.end in
    record {
      from = omega (arith, c.loop-end.invariant.from);
      within = omega arith;
      paired = paired_block us end (omega (arith, c.loop-end.invariant.from, c.requires.within.0)) c.loop-end.invariant.paired
          (λ h. cc ((c.if-not-is_high_surrogate.ensures {u = tt}).1 (subst IsHighSurrogate (sym c.unit_at.ensures) h)))
          (c.if-has_no_surrogate.ensures {u = tt} refl);
    }
