use Rattle.std.proofs.Common.{◌+◌, ◌-◌, length, take}
use Rattle.encoding_streams.specs.DecoderSteps.{AreReplacingSteps, Continues, shown}
use Rattle.encoding_streams.specs.ExactCalls.{IsPendingOf}
use Rattle.encoding_streams.proofs.decoder.replacing.replace_all.Given as goal

abbrev pub invariant-loop-result : goal.invariant-loop-result
invariant-loop-result g l =
    record {
      steps : AreReplacingSteps g.U.CodeUnit.encode g.U.Output.replacing
          (shown l.fn.state) l.src l.fn.dst l.dst l.last l.read l.written l.replaced (shown l.state);
      exact : Continues g.U.CodeUnit.encode g.U.CodeUnit.need (shown l.fn.state) (shown l.state) l.src (length l.fn.dst) l.last l.read
          (take l.written l.dst) l.replaced;
      pending : IsPendingOf l.state.bom l.state.encoding l.state.pending;
    }

abbrev pub decreases-loop-result : goal.decreases-loop-result
decreases-loop-result g l = length l.state.pending + (length l.src - l.read)
