use Rattle.std.proofs.Common.{◌-◌, ◌≤◌, length}
use Rattle.encoding_kernels.proofs.Utf16ToUtf8Lemmas.{Converts}
use Rattle.encoding_kernels.proofs.utf16_to_utf8.tail.convert_spilled.Given as goal

abbrev pub invariant-loop-written : goal.invariant-loop-written
invariant-loop-written g l = record {
  converted : Converts (g.S.CodeUnits.units l.src) l.initial.dst l.dst l.read l.written;
  least : l.read ≤ l.written;
}

abbrev pub decreases-loop-written : goal.decreases-loop-written
decreases-loop-written g l = length (g.S.CodeUnits.units l.src) - l.read
