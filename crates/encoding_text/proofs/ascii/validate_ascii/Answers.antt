use Rattle.std.proofs.Common.{[], ◌+◌, ◌<◌, length, refl, arith}
use Rattle.std.proofs.lemmas.Option.{slice_get-get_or}
use Rattle.encoding_kernels.proofs.ScanLemmas.{ascii_prefix_at, first_part, stride_part, group_part, below_more, ascii_prefix_in, ascii_prefix_first}
use Rattle.encoding_text.proofs.ascii.validate_ascii.Goals as goal

pub returns-then-run-lt-STRIDE : goal.returns-then-run-lt-STRIDE
returns-then-run-lt-STRIDE c =
    let strides = c.as_chunks.ensures in
    let part = first_part 16 c.args.bytes.now c.in-Some.first.now strides.front strides.front_len c.in-Some.ensures.value in
    let run = c.run_len_below-run.result in
    let short : run < length c.args.bytes.now = omega (arith, part.within, c.if-run-lt-STRIDE.true) in
    (slice_get-get_or c.args.bytes.now run 0 short, ascii_prefix_first part c.run_len_below-run.ensures c.if-run-lt-STRIDE.true)

pub loop-sixteen-preserved : goal.loop-sixteen-preserved
loop-sixteen-preserved c =
    let strides = c.as_chunks.ensures in
    let groups = c.as_chunks-2.ensures in
    let here = c.loop-sixteen.invariant in
    let part = group_part 16 c.args.bytes.now strides.front strides.front_len 16 [] groups.front groups.front_len
    c.loop-sixteen-test.true c.as_flattened.ensures.value here.place in
    record { place = omega (arith, here.place); below = below_more part here.below 256 (omega arith) (c.if-not-are_256_below.ensures.0 refl) }

pub loop-i-preserved : goal.loop-i-preserved
loop-i-preserved c =
    let strides = c.as_chunks.ensures in
    let groups = c.as_chunks-3.ensures in
    let here = c.loop-i.invariant in
    let part = group_part 16 c.args.bytes.now strides.front strides.front_len 4 [] groups.front groups.front_len
    c.loop-i-test.true c.as_flattened-in-loop-i.ensures.value here.place in
    record { place = omega (arith, here.place); below = below_more part here.below 64 (omega arith) (c.if-not-are_bytes_below.ensures.0 refl) }

pub returns-then-run-lt-STRIDE-2 : goal.returns-then-run-lt-STRIDE-2
returns-then-run-lt-STRIDE-2 c =
    let strides = c.as_chunks.ensures in
    let here = c.loop-i-2.invariant in
    let part = stride_part 16 c.args.bytes.now strides.front strides.front_len [] here.place c.loop-i-2-test.true in
    let place = c.loop-i-2.at + c.run_len_below-run-in-loop-i-2.result in
    let short : place < length c.args.bytes.now = omega (arith, part.within, c.if-run-lt-STRIDE-2.true) in
    (slice_get-get_or c.args.bytes.now place 0 short, ascii_prefix_in part here.below c.run_len_below-run-in-loop-i-2.ensures c.if-run-lt-STRIDE-2.true)

pub loop-i-2-preserved : goal.loop-i-2-preserved
loop-i-2-preserved c =
    let strides = c.as_chunks.ensures in
    let here = c.loop-i-2.invariant in
    let part = stride_part 16 c.args.bytes.now strides.front strides.front_len [] here.place c.loop-i-2-test.true in
    let run = c.run_len_below-run-in-loop-i-2.ensures in
    record {
      place = omega (arith, here.place);
      below = below_more part here.below 16 (omega arith)
          (λ k from to. run.pass k from (omega (arith, to, c.if-run-lt-STRIDE-2.false)));
    }

pub returns-then-bytes-i-ge-ASCII_END : goal.returns-then-bytes-i-ge-ASCII_END
returns-then-bytes-i-ge-ASCII_END c =
    let prefix = ascii_prefix_at c.args.bytes.now c.loop-i-3.i c.loop-i-3-test.true c.loop-i-3.invariant c.if-bytes-i-ge-ASCII_END.true in
    (slice_get-get_or c.args.bytes.now c.loop-i-3.i 0 c.loop-i-3-test.true, prefix)
