use Rattle.std.proofs.Common.{◌↔◌, length}
use Rattle.encoding_definitions.specs.Bidi.{IsBidiBytes}
use Rattle.encoding_text.proofs.mem.bidi.is_utf8_bidi.Given as goal

abbrev pub invariant-loop-rest : goal.invariant-loop-rest
invariant-loop-rest l = IsBidiBytes l.rest ↔ IsBidiBytes l.buffer

abbrev pub decreases-loop-rest : goal.decreases-loop-rest
decreases-loop-rest l = length l.rest
