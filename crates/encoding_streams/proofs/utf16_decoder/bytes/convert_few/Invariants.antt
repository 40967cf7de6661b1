use Rattle.std.proofs.Common.{[], encode_utf8}
use Rattle.encoding_streams.specs.Utf16Steps.{Advances}
use Rattle.encoding_streams.proofs.utf16_decoder.bytes.convert_few.Given as goal

abbrev pub invariant-loop-left : goal.invariant-loop-left
invariant-loop-left l = Advances l.order encode_utf8 [] l.src l.fn.dst l.dst l.read l.written []

abbrev pub decreases-loop-left : goal.decreases-loop-left
decreases-loop-left l = l.left
