use Rattle.std.proofs.Common.{◌≤◌, length}
use Rattle.std.specs.Io.KnownBytes.{Keeps, append_known}
use Rattle.utf8_repair.proofs.streams.BufferedWriter.send.Given as goal

abbrev pub invariant-loop-self : goal.invariant-loop-self
invariant-loop-self g l = record {
  within : length l.self.held ≤ length l.initial.self.held;
  kept : Keeps (append_known (g.W.Write.contents l.initial.self.inner) l.initial.self.held) (append_known (g.W.Write.contents l.self.inner) l.self.held);
}

abbrev pub decreases-loop-self : goal.decreases-loop-self
decreases-loop-self g l = length l.self.held
