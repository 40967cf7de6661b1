use Rattle.std.proofs.Common.{◌≡◌, arith, subst}
use Rattle.encoding_kernels.specs.Utf8Output.{SpillsBmp}
use Rattle.encoding_kernels.proofs.Utf16ToUtf8Lemmas.{bmp_of_due, converts_due, converts_paid_from, converts_whole}
use Rattle.encoding_kernels.proofs.OverwriteLemmas.{due_of_first_from}
use Rattle.encoding_kernels.proofs.utf16_to_utf8.text.settled.Given.{Over}
use Rattle.encoding_kernels.proofs.utf16_to_utf8.text.settled.Goals as goal

none_spilled : (g : Over) (c : goal.Then-spilled-eq0 g)
    → SpillsBmp (g.S.CodeUnits.units c.args.src) c.args.dst.now c.with_three_byte_runs-read.new.dst c.with_three_byte_runs-read.result.0
    c.with_three_byte_runs-read.result.1 0
none_spilled g c =
    let us = g.S.CodeUnits.units c.args.src in
    let call = c.with_three_byte_runs-read in
    let none : call.result.2 ≡ 0 = omega arith in
    subst (SpillsBmp us c.args.dst.now call.new.dst call.result.0 call.result.1) none
    (due_of_first_from c.min-end.result c.first.ensures (omega (arith, c.min-end.ensures, c.count.ensures.count)) call.ensures.converted)

pub returns-then-spilled-eq0-clause-converted : goal.returns-then-spilled-eq0-clause-converted
returns-then-spilled-eq0-clause-converted g c =
    let us = g.S.CodeUnits.units c.args.src in
    let units = c.count.ensures.code_units in
    converts_whole us units (converts_due us units (none_spilled g c))

pub returns-then-spilled-eq0-clause-restored : goal.returns-then-spilled-eq0-clause-restored
returns-then-spilled-eq0-clause-restored g c = λ _. bmp_of_due (none_spilled g c)

pub returns-clause-converted : goal.returns-clause-converted
returns-clause-converted g c =
    let us = g.S.CodeUnits.units c.args.src in
    let units = c.count.ensures.code_units in
    let call = c.with_three_byte_runs-read in
    let next = c.convert_spilled-more.ensures in
    let due =
    due_of_first_from c.min-end.result c.first.ensures (omega (arith, c.min-end.ensures, c.count.ensures.count)) call.ensures.converted in
    converts_whole us units
    (converts_paid_from us units c.skip.ensures due (omega (arith, next.length_bound, call.ensures.converted.few)) next.converted)

pub returns-clause-restored : goal.returns-clause-restored
returns-clause-restored g c = λ t. absurd (omega (arith, c.with_three_byte_runs-read.ensures.restored t, c.if-spilled-eq0.false))
