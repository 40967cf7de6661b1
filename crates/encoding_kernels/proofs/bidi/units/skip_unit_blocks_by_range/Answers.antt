use Rattle.std.proofs.Common.{◌+◌, arith, refl}
use Rattle.encoding_kernels.proofs.BidiLemmas.{units_joined}
use Rattle.encoding_kernels.proofs.bidi.units.skip_unit_blocks_by_range.Goals as goal

pub loop-at-preserved : goal.loop-at-preserved
loop-at-preserved c =
    let at = c.loop-at.at in
    record {
      within = (omega arith, omega arith);
      none = units_joined c.args.units.now c.args.from at at (at + 32) c.loop-at.invariant.none (c.if-are_32_clear.ensures refl) (omega arith);
    }
