use Rattle.std.proofs.Common.{arith, drop, refl, subst}
use Rattle.std.proofs.lemmas.List.{take_rest}
use Rattle.encoding_kernels.specs.EndingUnits.{WritesCompressed}
use Rattle.encoding_kernels.proofs.GroupLemmas.{tail_written}
use Rattle.encoding_kernels.proofs.Utf8ToUtf16LoopLemmas.{due_exact, putting_all, putting_more}
use Rattle.encoding_kernels.proofs.utf8_to_utf16.strides.write_tail.Goals as goal

pub loop-read-preserved : goal.loop-read-preserved
loop-read-preserved c =
    let done = c.loop-read.invariant in
    let puts = rw (take_rest c.args.src.now c.loop-read.read) at c.write_character-bytes.ensures.written in
    putting_more c.args.src.now c.args.dst.now c.loop-read.dst c.write_character-bytes.new.dst c.loop-read.read c.loop-read.written _ _ (omega arith) done
    (due_exact (drop c.loop-read.read c.args.src.now) _ c.write_character-bytes.new.dst _ _ done.rest puts)

pub returns-then-read-src : goal.returns-then-read-src
returns-then-read-src c = putting_all c.args.src.now c.args.dst.now c.loop-read.dst c.loop-read.read c.loop-read.written c.requires.text
    c.requires.dst_length.1 (omega arith) c.loop-read.invariant

pub returns-then-is_below : goal.returns-then-is_below
returns-then-is_below c =
    let l = c.loop-read in
    let write = c.write_stride in
    tail_written c.args.src.now _ c.args.dst.now l.dst write.new.dst l.read l.written _ _ c.requires.text c.requires.dst_length.1 l.auto.dst l.invariant refl
    write.auto.dst c.with_zeros-lanes.ensures (subst (WritesCompressed _ _ _ _ write.result) (omega arith) write.ensures)

pub returns : goal.returns
returns c =
    let l = c.loop-read in
    let write = c.write_stride-2 in
    tail_written c.args.src.now _ c.args.dst.now l.dst write.new.dst l.read l.written _ _ c.requires.text c.requires.dst_length.1 l.auto.dst l.invariant refl
    write.auto.dst c.with_zeros-lanes.ensures (subst (WritesCompressed _ _ _ _ write.result) (omega arith) write.ensures)
