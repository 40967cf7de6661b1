use Rattle.std.proofs.Common.{arith}
use Rattle.encoding_text.proofs.Utf16BytesLemmas.{encodes_one_more}
use Rattle.encoding_text.proofs.utf_16.encode_utf16_bytes.Goals as goal

pub loop-i-preserved : goal.loop-i-preserved
loop-i-preserved c =
    let within = c.min-count.ensures in
    encodes_one_more c.args.order c.args.src.now c.args.dst.now c.loop-i.dst c.encode_unit.result c.loop-i.i c.encode_unit.ensures
    (omega (arith, within, c.loop-i-test.true)) (omega (arith, within, c.loop-i-test.true, c.loop-i.auto.dst)) c.loop-i.invariant
