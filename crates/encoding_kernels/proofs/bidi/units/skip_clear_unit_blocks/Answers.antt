use Rattle.std.proofs.Common.{◌+◌, arith, refl}
use Rattle.encoding_kernels.proofs.BidiLemmas.{units_joined}
use Rattle.encoding_kernels.proofs.bidi.units.skip_clear_unit_blocks.Goals as goal

pub loop-at-preserved : goal.loop-at-preserved
loop-at-preserved c =
    let at = c.loop-at.at in
    record {
      within = (omega arith, omega arith);
      none = units_joined c.args.units.now c.args.from at at (at + 32) c.loop-at.invariant.none (c.if-not-are_32_clear.ensures refl) (omega arith);
    }

pub returns-then-not-are_32_clear-clause-no_rtl : goal.returns-then-not-are_32_clear-clause-no_rtl
returns-then-not-are_32_clear-clause-no_rtl c =
    let at = c.loop-at.at in
    units_joined c.args.units.now c.args.from at at _ c.loop-at.invariant.none c.skip_unit_blocks_by_range.ensures.no_rtl (omega arith)
