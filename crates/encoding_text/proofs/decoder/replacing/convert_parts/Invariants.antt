use Rattle.std.proofs.Common.{◌≡◌, ◌-◌, ◌≤◌, [], true, length}
use Rattle.encoding_text.proofs.RepairingLemmas.{Repaired}
use Rattle.encoding_text.proofs.decoder.replacing.convert_parts.Given as goal

abbrev pub invariant-loop-dst : goal.invariant-loop-dst
invariant-loop-dst g l = record {
  neutral : l.pending ≡ [];
  repaired : Repaired g.U.CodeUnit.encode [] l.src true l.initial.dst l.dst l.read l.written l.replaced [] [];
  read_within : l.read ≤ length l.src;
  within : l.written ≤ length l.dst;
  counted : l.replaced ≤ l.read;
}

abbrev pub decreases-loop-dst : goal.decreases-loop-dst
decreases-loop-dst g l = length l.initial.src - l.read
