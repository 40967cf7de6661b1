use Rattle.std.proofs.Common.{◌-◌, [], length}
use Rattle.std.specs.Char.Escape.{encode_utf16}
use Rattle.encoding_streams.specs.Utf16Steps.{Advances}
use Rattle.encoding_streams.proofs.utf16_decoder.units.convert_units.Given as goal

abbrev pub invariant-loop-order : goal.invariant-loop-order
invariant-loop-order l = Advances l.order encode_utf16 [] l.src l.fn.dst l.dst l.read l.written []

abbrev pub decreases-loop-order : goal.decreases-loop-order
decreases-loop-order l = length l.src - l.read
