use Rattle.encoding_kernels.proofs.Utf16ToUtf8Lemmas.{bmp_more, converts_none, converts_more_from, converts_more_bmp_from}
use Rattle.encoding_kernels.proofs.Utf16ToUtf8Lemmas.{converts_prefix, converts_unchanged, writes_none}
use Rattle.encoding_kernels.proofs.utf16_to_utf8.text.convert_blocks.Goals as goal

pub loop-read-init : goal.loop-read-init
loop-read-init g c =
    let us = g.S.CodeUnits.units c.args.src in
    record { converted = converts_none us c.args.dst.now; restored = λ _. writes_none us c.args.dst.now }

pub loop-read-preserved : goal.loop-read-preserved
loop-read-preserved g c =
    let us = g.S.CodeUnits.units c.args.src in
    let units = c.count.ensures.code_units in
    let dense = c.settled-dense.ensures.converted in
    let all = converts_more_from us units c.skip.ensures c.loop-read.invariant.converted dense in
    record {
      converted = converts_more_bmp_from us units c.skip-in-loop-read.ensures all c.convert_first_sixteen-first.ensures.written;
      restored = λ t.
          let dense = c.settled-dense.ensures.restored t in
          let bmp = bmp_more c.skip.ensures (c.loop-read.invariant.restored t) dense in
          bmp_more c.skip-in-loop-read.ensures bmp c.convert_first_sixteen-first.ensures.written;
    }

pub returns-else-begins_block-clause-prefix : goal.returns-else-begins_block-clause-prefix
returns-else-begins_block-clause-prefix g c =
    let us = g.S.CodeUnits.units c.args.src in
    converts_prefix us c.count.ensures.code_units c.loop-read.invariant.converted

pub returns-after-loop-read-clause-prefix : goal.returns-after-loop-read-clause-prefix
returns-after-loop-read-clause-prefix g c =
    let us = g.S.CodeUnits.units c.args.src in
    converts_prefix us c.count.ensures.code_units c.loop-read.invariant.converted

pub returns-then-read-count-clause-prefix : goal.returns-then-read-count-clause-prefix
returns-then-read-count-clause-prefix g c =
    let us = g.S.CodeUnits.units c.args.src in
    let units = c.count.ensures.code_units in
    let dense = c.settled-dense.ensures.converted in
    let all = converts_more_from us units c.skip.ensures c.loop-read.invariant.converted dense in
    converts_prefix us units all

pub returns-then-read-count-clause-unchanged_after : goal.returns-then-read-count-clause-unchanged_after
returns-then-read-count-clause-unchanged_after g c =
    let us = g.S.CodeUnits.units c.args.src in
    let units = c.count.ensures.code_units in
    let dense = c.settled-dense.ensures.converted in
    let all = converts_more_from us units c.skip.ensures c.loop-read.invariant.converted dense in
    converts_unchanged us units all

pub returns-then-read-count-clause-restored : goal.returns-then-read-count-clause-restored
returns-then-read-count-clause-restored g c = λ t.
    let dense = c.settled-dense.ensures.restored t in
    bmp_more c.skip.ensures (c.loop-read.invariant.restored t) dense

pub returns-then-first-eq0-clause-prefix : goal.returns-then-first-eq0-clause-prefix
returns-then-first-eq0-clause-prefix g c =
    let us = g.S.CodeUnits.units c.args.src in
    let units = c.count.ensures.code_units in
    let dense = c.settled-dense.ensures.converted in
    let all = converts_more_from us units c.skip.ensures c.loop-read.invariant.converted dense in
    let more = converts_more_bmp_from us units c.skip-in-loop-read.ensures all c.convert_first_sixteen-first.ensures.written in
    converts_prefix us units more

pub returns-then-first-eq0-clause-unchanged_after : goal.returns-then-first-eq0-clause-unchanged_after
returns-then-first-eq0-clause-unchanged_after g c =
    let us = g.S.CodeUnits.units c.args.src in
    let units = c.count.ensures.code_units in
    let dense = c.settled-dense.ensures.converted in
    let all = converts_more_from us units c.skip.ensures c.loop-read.invariant.converted dense in
    let more = converts_more_bmp_from us units c.skip-in-loop-read.ensures all c.convert_first_sixteen-first.ensures.written in
    converts_unchanged us units more

pub returns-then-first-eq0-clause-restored : goal.returns-then-first-eq0-clause-restored
returns-then-first-eq0-clause-restored g c = λ t.
    let dense = c.settled-dense.ensures.restored t in
    let all = bmp_more c.skip.ensures (c.loop-read.invariant.restored t) dense in
    bmp_more c.skip-in-loop-read.ensures all c.convert_first_sixteen-first.ensures.written
