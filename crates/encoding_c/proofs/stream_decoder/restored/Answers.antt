use Rattle.std.proofs.Common.{arith}
use Rattle.encoding_c.proofs.DecoderStateLemmas.{represented}
use Rattle.encoding_c.proofs.stream_decoder.restored.Goals as goal

pub returns : goal.returns
returns c =
    represented c.args.state.now c.encoding_of-encoding.result c.bom_of-bom.result c.from_state-2.result c.from.result c.from.ensures
    (omega (arith, c.from.ensures, c.if-state-gt-MAX_PENDING.false)) c.encoding_of-encoding.ensures c.bom_of-bom.ensures
    c.from_state-2.ensures.of.0 c.from_state-2.ensures.of.1 c.from_state-2.ensures.state
    c.from_state-2.ensures.other
