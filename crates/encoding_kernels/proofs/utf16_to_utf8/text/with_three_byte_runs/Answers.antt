use Rattle.encoding_kernels.proofs.OverwriteLemmas.{due_more_from}
use Rattle.encoding_kernels.proofs.utf16_to_utf8.text.with_three_byte_runs.Goals as goal

pub loop-read-preserved : goal.loop-read-preserved
loop-read-preserved g c = record {
  converted = due_more_from c.skip-in-loop-read.ensures
      (due_more_from c.skip.ensures c.loop-read.invariant.converted c.by_kinds-units.ensures.converted)
      c.convert_three_byte_blocks-units.ensures.converted;
  restored = λ t. c.convert_three_byte_blocks-units.ensures.restored (c.by_kinds-units.ensures.restored t (c.loop-read.invariant.restored t));
}

pub returns-then-spilled-eq0-clause-converted : goal.returns-then-spilled-eq0-clause-converted
returns-then-spilled-eq0-clause-converted g c =
    due_more_from c.skip.ensures c.loop-read.invariant.converted c.by_kinds-units.ensures.converted

pub returns-then-units-eq0-clause-converted : goal.returns-then-units-eq0-clause-converted
returns-then-units-eq0-clause-converted g c = due_more_from c.skip-in-loop-read.ensures
    (due_more_from c.skip.ensures c.loop-read.invariant.converted c.by_kinds-units.ensures.converted)
    c.convert_three_byte_blocks-units.ensures.converted

pub returns-then-units-eq0-clause-restored : goal.returns-then-units-eq0-clause-restored
returns-then-units-eq0-clause-restored g c =
    λ t. c.convert_three_byte_blocks-units.ensures.restored (c.by_kinds-units.ensures.restored t (c.loop-read.invariant.restored t))
