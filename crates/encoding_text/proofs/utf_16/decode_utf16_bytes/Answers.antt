use Rattle.std.proofs.Common.{arith}
use Rattle.encoding_text.proofs.Utf16BytesLemmas.{decodes_one_more}
use Rattle.encoding_text.proofs.utf_16.decode_utf16_bytes.Goals as goal

pub loop-i-preserved : goal.loop-i-preserved
loop-i-preserved c =
    let within = c.min-count.ensures in
    decodes_one_more c.args.order c.args.src.now c.args.dst.now c.loop-i.dst c.loop-i.i c.decode_unit.result c.decode_unit.ensures
    (omega (arith, within, c.loop-i-test.true)) (omega (arith, within, c.loop-i-test.true, c.loop-i.auto.dst)) c.loop-i.invariant
