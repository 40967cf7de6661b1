use Rattle.std.proofs.Common.{◌≡◌, ◌≢◌, ◌-◌, [], length}
use Rattle.encoding_streams.specs.Utf16Parts.{IsPendingUtf16}
use Rattle.encoding_streams.specs.Utf16Steps.{Advances}
use Rattle.encoding_streams.proofs.utf16_decoder.decode.Given as goal

abbrev pub invariant-loop-read : goal.invariant-loop-read
invariant-loop-read g l =
    record {
      advanced : Advances l.order g.U.CodeUnit.encode l.fn.pending l.src l.fn.dst l.dst l.read l.written l.pending;
      still_pending : IsPendingUtf16 l.order l.pending;
      kept : l.pending ≢ [] → (l.read ≡ 0) × (l.pending ≡ l.fn.pending);
    }

abbrev pub decreases-loop-read : goal.decreases-loop-read
decreases-loop-read g l = length l.src - l.read
