use Rattle.encoding_kernels.proofs.OverwriteLemmas.{due_more_from}
use Rattle.encoding_kernels.proofs.utf16_to_utf8.text.by_kinds.Goals as goal

pub loop-read-preserved-then-units-eq0 : goal.loop-read-preserved-then-units-eq0
loop-read-preserved-then-units-eq0 g c = record {
  converted = due_more_from c.skip-then-units-eq0.ensures (due_more_from c.skip-in-loop-read.ensures
      (due_more_from c.skip.ensures c.loop-read.invariant.converted c.convert_run-units.ensures.converted)
      c.convert_spilling_run-units.ensures.converted) c.convert_spilling_run-units-then-units-eq0.ensures.converted;
  restored = λ t e. c.convert_spilling_run-units-then-units-eq0.ensures.restored t (c.convert_spilling_run-units.ensures.restored t
      (c.convert_run-units.ensures.restored t (c.loop-read.invariant.restored t e)));
}

pub loop-read-preserved : goal.loop-read-preserved
loop-read-preserved g c = record {
  converted = due_more_from c.skip-in-loop-read.ensures
      (due_more_from c.skip.ensures c.loop-read.invariant.converted c.convert_run-units.ensures.converted)
      c.convert_spilling_run-units.ensures.converted;
  restored = λ t e. c.convert_spilling_run-units.ensures.restored t
      (c.convert_run-units.ensures.restored t (c.loop-read.invariant.restored t e));
}

pub returns-then-units-eq-ASCII_RUN-clause-converted : goal.returns-then-units-eq-ASCII_RUN-clause-converted
returns-then-units-eq-ASCII_RUN-clause-converted g c =
    due_more_from c.skip.ensures c.loop-read.invariant.converted c.convert_run-units.ensures.converted

pub returns-then-units-eq-ASCII_RUN-clause-restored : goal.returns-then-units-eq-ASCII_RUN-clause-restored
returns-then-units-eq-ASCII_RUN-clause-restored g c = λ t e. c.convert_run-units.ensures.restored t (c.loop-read.invariant.restored t e)

pub returns-then-units-eq0-2-clause-converted : goal.returns-then-units-eq0-2-clause-converted
returns-then-units-eq0-2-clause-converted g c = due_more_from c.skip-then-units-eq0.ensures (due_more_from c.skip-in-loop-read.ensures
    (due_more_from c.skip.ensures c.loop-read.invariant.converted c.convert_run-units.ensures.converted)
    c.convert_spilling_run-units.ensures.converted) c.convert_spilling_run-units-then-units-eq0.ensures.converted

pub returns-then-units-eq0-2-clause-restored : goal.returns-then-units-eq0-2-clause-restored
returns-then-units-eq0-2-clause-restored g c = λ t e. c.convert_spilling_run-units-then-units-eq0.ensures.restored t
    (c.convert_spilling_run-units.ensures.restored t (c.convert_run-units.ensures.restored t (c.loop-read.invariant.restored t e)))
