use Rattle.std.proofs.Common.{◌+◌, arith, refl}
use Rattle.encoding_kernels.specs.RightToLeft.{NoRtlIn}
use Rattle.encoding_kernels.proofs.BidiLemmas.{none_joined, none_clear, none_and_low}
use Rattle.encoding_kernels.proofs.bidi.bytes.skip_clear.Goals as goal
use Rattle.encoding_kernels.proofs.bidi.bytes.skip_clear.Goals.{else-loop-at-test, then-loop-at-test+then-at-end}

pub loop-at-2-preserved : goal.loop-at-2-preserved
loop-at-2-preserved c =
    let at = c.loop-at-2.at in
    record {
      within = (omega arith, omega arith);
      none = none_joined c.args.bytes.now c.args.from at (at + 64) c.loop-at-2.invariant.none (c.if-are_64_clear.ensures refl);
    }

pub loop-at-preserved-then-next-at-lt-LOW_BYTES : goal.loop-at-preserved-then-next-at-lt-LOW_BYTES
loop-at-preserved-then-next-at-lt-LOW_BYTES c = record {
  within = (omega (arith, c.skip-next.ensures.within), omega (arith, c.skip-next.ensures.within));
  none = none_and_low _ _ _ _ c.loop-at-2.invariant.none c.skip-next.ensures.pass;
  some = omega (arith, c.min-blocks.ensures);
  few = omega (arith, c.min-blocks.ensures);
}

pub loop-at-preserved : goal.loop-at-preserved
loop-at-preserved c = record {
  within = (omega (arith, c.skip-next.ensures.within), omega (arith, c.skip-next.ensures.within));
  none = none_and_low _ _ _ _ c.loop-at-2.invariant.none c.skip-next.ensures.pass;
  some = omega arith;
  few = omega arith;
}

pub returns-clause-no_rtl : goal.returns-clause-no_rtl
returns-clause-no_rtl c =
    let bs = c.args.bytes.now in
    let stop = c.loop-at-test.at in
    let before : NoRtlIn bs c.args.from stop = elim c.loop-at-test.branch [
      | else-loop-at-test w ↦ rw w.at-is c.loop-at.invariant.none
      | then-loop-at-test+then-at-end w ↦ rw w.at-is w.loop-at-2.invariant.none
    ] in
    none_joined bs c.args.from stop _ before (none_clear bs stop _ c.skip_to_end.ensures.pass)
