use Rattle.std.proofs.Common.{◌-◌, arith, drop, length}
use Rattle.std.proofs.lemmas.List.{length-drop, length-take, take_rest}
use Rattle.encoding_kernels.proofs.Utf8ToUtf16LoopLemmas.{due_exact, putting_fits, putting_more, putting_rest}
use Rattle.encoding_kernels.proofs.utf8_to_utf16.text.convert_short.Goals as goal

pub loop-read-preserved : goal.loop-read-preserved
loop-read-preserved c =
    let done = c.loop-read.invariant in
    let puts = rw (take_rest c.args.src.now c.loop-read.read) at c.write_triples.ensures in
    putting_more c.args.src.now c.args.dst.now c.loop-read.dst c.write_triples.new.dst c.loop-read.read c.loop-read.written _ _ (omega arith) done
    (due_exact (drop c.loop-read.read c.args.src.now) _ c.write_triples.new.dst _ _ done.rest puts)

pub write_tail-requires-clause-dst_length : goal.write_tail-requires-clause-dst_length
write_tail-requires-clause-dst_length c =
    let l = c.loop-read in
    let src = c.args.src.now in (
      omega (arith, length-take (length src - l.read) (drop l.read src), length-drop l.read src),
      putting_fits src c.args.dst.now l.dst l.read l.written c.requires.dst_length l.auto.dst l.invariant,
    )

pub write_strides-requires-clause-dst_length : goal.write_strides-requires-clause-dst_length
write_strides-requires-clause-dst_length c =
    let l = c.loop-read in
    let src = c.args.src.now in (
      omega (arith, length-take (length src - l.read) (drop l.read src), length-drop l.read src),
      putting_fits src c.args.dst.now l.dst l.read l.written c.requires.dst_length l.auto.dst l.invariant,
    )

pub write_strides-requires-2-clause-dst_length : goal.write_strides-requires-2-clause-dst_length
write_strides-requires-2-clause-dst_length c =
    let l = c.loop-read in
    let src = c.args.src.now in (
      omega (arith, length-take (length src - l.read) (drop l.read src), length-drop l.read src),
      putting_fits src c.args.dst.now l.dst l.read l.written c.requires.dst_length l.auto.dst l.invariant,
    )

pub returns-then-src-read-lt-STRIDE_AND_BEFORE : goal.returns-then-src-read-lt-STRIDE_AND_BEFORE
returns-then-src-read-lt-STRIDE_AND_BEFORE c =
    let l = c.loop-read in
    putting_rest c.args.src.now c.args.dst.now l.dst c.write_tail.new.dst l.read l.written _ c.requires.text c.requires.dst_length l.auto.dst l.invariant
    (rw (take_rest c.args.src.now l.read) at c.write_tail.ensures)

pub returns-then-pass_short : goal.returns-then-pass_short
returns-then-pass_short c =
    let l = c.loop-read in
    putting_rest c.args.src.now c.args.dst.now l.dst c.write_strides.new.dst l.read l.written _ c.requires.text c.requires.dst_length l.auto.dst l.invariant
    (rw (take_rest c.args.src.now l.read) at c.write_strides.ensures)

pub returns : goal.returns
returns c =
    let l = c.loop-read in
    putting_rest c.args.src.now c.args.dst.now l.dst c.write_strides-2.new.dst l.read l.written _ c.requires.text c.requires.dst_length l.auto.dst l.invariant
    (rw (take_rest c.args.src.now l.read) at c.write_strides-2.ensures)
