use Rattle.std.proofs.Common.{◌+◌, ◌-◌, arith}
use Rattle.encoding_kernels.proofs.PairsLemmas.{pairs_up}
use Rattle.encoding_streams.proofs.utf16_decoder.paired.paired_run.Goals as goal

pub returns-then-failing-eq0-clause-paired : goal.returns-then-failing-eq0-clause-paired
returns-then-failing-eq0-clause-paired g c =
    let at = c.args.at in
    pairs_up (g.S.CodeUnits.units c.args.src) (at - 1) (at - 1 + 16) at (at + 16) (omega (arith, c.requires.within.0)) (omega arith) c.requires.code_units
    (c.faults-failing.ensures.none.0 c.if-failing-eq0.true)

pub returns-clause-within : goal.returns-clause-within
returns-clause-within g c = (c.faults-failing.ensures.lowest (omega (arith, c.if-failing-eq0.false))).within

pub returns-clause-paired : goal.returns-clause-paired
returns-clause-paired g c =
    let at = c.args.at in
    let run = c.faults-failing.ensures.lowest (omega (arith, c.if-failing-eq0.false)) in
    pairs_up (g.S.CodeUnits.units c.args.src) (at - 1) _ at _ (omega (arith, c.requires.within.0)) (omega (arith, c.requires.within.0))
    c.requires.code_units run.pass
