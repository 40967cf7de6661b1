use Rattle.std.proofs.Common.{arith}
use Rattle.encoding_kernels.specs.RightToLeft.{NoneRightToLeft}
use Rattle.encoding_kernels.proofs.BidiLemmas.{units_and_low, units_joined, units_clear}
use Rattle.encoding_kernels.proofs.bidi.units.skip_clear_units.Goals as goal
use Rattle.encoding_kernels.proofs.bidi.units.skip_clear_units.Goals.{else-loop-at-test, then-loop-at-test+then-at-end}

pub loop-at-preserved-then-next-at-lt-LOW_UNITS : goal.loop-at-preserved-then-next-at-lt-LOW_UNITS
loop-at-preserved-then-next-at-lt-LOW_UNITS c = record {
  within = (omega (arith, c.skip_clear_unit_blocks-at.ensures.within, c.skip-next.ensures.within), omega (arith, c.skip-next.ensures.within));
  none = units_and_low _ _ _ _ _ c.loop-at.invariant.none c.skip_clear_unit_blocks-at.ensures.no_rtl c.skip-next.ensures.pass;
  some = omega (arith, c.min-blocks.ensures);
  few = omega (arith, c.min-blocks.ensures);
}

pub loop-at-preserved : goal.loop-at-preserved
loop-at-preserved c = record {
  within = (omega (arith, c.skip_clear_unit_blocks-at.ensures.within, c.skip-next.ensures.within), omega (arith, c.skip-next.ensures.within));
  none = units_and_low _ _ _ _ _ c.loop-at.invariant.none c.skip_clear_unit_blocks-at.ensures.no_rtl c.skip-next.ensures.pass;
  some = omega arith;
  few = omega arith;
}

pub returns-clause-no_rtl : goal.returns-clause-no_rtl
returns-clause-no_rtl c =
    let us = c.args.units.now in
    let at = c.loop-at.at in
    let stop = c.loop-at-test.at in
    let before : NoneRightToLeft us c.args.from stop = elim c.loop-at-test.branch [
      | else-loop-at-test w ↦ rw w.at-is c.loop-at.invariant.none
      | then-loop-at-test+then-at-end w ↦
          rw w.at-is (units_joined us c.args.from at at _ c.loop-at.invariant.none w.skip_clear_unit_blocks-at.ensures.no_rtl (omega arith))
    ] in
    units_joined us c.args.from stop stop _ before (units_clear us stop _ (λ k. (c.type_inv.units k).fits) c.skip_to_end.ensures.pass) (omega arith)
