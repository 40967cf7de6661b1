use Rattle.std.proofs.Common.{[], arith}
use Rattle.encoding_kernels.proofs.ScanLemmas.{WritesPrefix_copy, stride_part, copied_first}
use Rattle.encoding_text.proofs.mem.latin1.convert_latin1_to_utf16.Goals as goal

pub loop-stride-preserved : goal.loop-stride-preserved
loop-stride-preserved c =
    let here = c.loop-stride.invariant in
    let part = stride_part 16 c.args.src.now c.as_chunks.ensures.front c.as_chunks.ensures.front_len [] here.place c.loop-stride-test.true in
    record { place = omega (arith, here.place); copied = copied_first part here.copied c.requires.dst_length 16 (omega arith) c.unpack.ensures }

pub loop-i-preserved : goal.loop-i-preserved
loop-i-preserved c =
    WritesPrefix_copy c.args.dst.now c.loop-i.dst c.args.src.now c.loop-i.i _ c.loop-i.invariant c.loop-i-test.true (omega arith) c.from.ensures
