use Rattle.std.proofs.Common.{◌+◌, ◌-◌, length}
use Rattle.engine_example.proofs.EnginePieceLemmas.{AreYieldedUpTo}
use Rattle.engine_example.proofs.block_of_piece.Given as goal

abbrev pub invariant-loop-text : goal.invariant-loop-text
invariant-loop-text l = AreYieldedUpTo l.fn.decoder l.piece l.last l.block.items l.read l.decoder

abbrev pub decreases-loop-text : goal.decreases-loop-text
decreases-loop-text l = length l.decoder + (length l.piece - l.read)
