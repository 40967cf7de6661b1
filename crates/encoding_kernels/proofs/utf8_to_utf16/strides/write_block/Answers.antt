use Rattle.std.proofs.Common.{arith}
use Rattle.encoding_kernels.proofs.GroupLemmas.{group_first, group_whole}
use Rattle.encoding_kernels.proofs.Utf8ToUtf16LoopLemmas.{due_block}
use Rattle.encoding_kernels.proofs.utf8_to_utf16.strides.write_block.Goals as goal

pub returns-clause-written : goal.returns-clause-written
returns-clause-written c =
    let src = c.args.src.now in
    let write = c.write_stride in
    let stored = group_first src c.args.dst.now write.new.dst _ c.whole_end-end.result _ _ (omega arith) write.auto.dst write.ensures in
    due_block src c.args.dst.now c.write_stride.new.dst _ _ _ c.requires.text (omega arith)
    (group_whole src c.args.dst.now c.write_stride.new.dst c.whole_end-end.result _ _ c.requires.text c.whole_end-end.ensures.end.2 stored)
