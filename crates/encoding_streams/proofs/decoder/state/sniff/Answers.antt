use Rattle.std.proofs.Common.{arith}
use Rattle.encoding_streams.proofs.SniffLemmas.{sniff_off}
use Rattle.encoding_streams.proofs.decoder.state.sniff.Goals as goal

pub returns-then-is_off : goal.returns-then-is_off
returns-then-is_off c =
    let s = c.args.state.now in
    sniff_off s.encoding s.bom s.pending c.args.src.now c.args.last (c.is_off.ensures.off c.if-is_off.true)
    (omega (arith, c.len-length.ensures.length, c.len-length.ensures.within))
