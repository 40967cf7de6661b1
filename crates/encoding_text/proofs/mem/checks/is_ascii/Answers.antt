use Rattle.std.proofs.Common.{[], refl, arith}
use Rattle.encoding_kernels.proofs.ScanLemmas.{first_part, stride_part, group_part, below_more, part_below}
use Rattle.encoding_text.proofs.mem.checks.is_ascii.Goals as goal

pub returns-then-not-are_bytes_below : goal.returns-then-not-are_bytes_below
returns-then-not-are_bytes_below c =
    let strides = c.as_chunks.ensures in
    let part = first_part 16 c.args.buffer.now c.in-Some.first.now strides.front strides.front_len c.in-Some.ensures.value in
    (λ e. absurd (cc), λ ascii. c.if-not-are_bytes_below.ensures.1 (part_below part ascii))

pub returns-then-not-are_256_below : goal.returns-then-not-are_256_below
returns-then-not-are_256_below c =
    let strides = c.as_chunks.ensures in
    let groups = c.as_chunks-2.ensures in
    let here = c.loop-sixteen.invariant in
    let part = group_part 16 c.args.buffer.now strides.front strides.front_len 16 [] groups.front groups.front_len
    c.loop-sixteen-test.true c.as_flattened.ensures.value here.place in
    (λ e. absurd (cc), λ ascii. c.if-not-are_256_below.ensures.1 (part_below part ascii))

pub loop-sixteen-preserved : goal.loop-sixteen-preserved
loop-sixteen-preserved c =
    let strides = c.as_chunks.ensures in
    let groups = c.as_chunks-2.ensures in
    let here = c.loop-sixteen.invariant in
    let part = group_part 16 c.args.buffer.now strides.front strides.front_len 16 [] groups.front groups.front_len
    c.loop-sixteen-test.true c.as_flattened.ensures.value here.place in
    record { place = omega (arith, here.place); below = below_more part here.below 256 (omega arith) (c.if-not-are_256_below.ensures.0 refl) }

pub returns-then-not-are_bytes_below-2 : goal.returns-then-not-are_bytes_below-2
returns-then-not-are_bytes_below-2 c =
    let strides = c.as_chunks.ensures in
    let groups = c.as_chunks-3.ensures in
    let here = c.loop-i.invariant in
    let part = group_part 16 c.args.buffer.now strides.front strides.front_len 4 [] groups.front groups.front_len
    c.loop-i-test.true c.as_flattened-in-loop-i.ensures.value here.place in
    (λ e. absurd (cc), λ ascii. c.if-not-are_bytes_below-2.ensures.1 (part_below part ascii))

pub loop-i-preserved : goal.loop-i-preserved
loop-i-preserved c =
    let strides = c.as_chunks.ensures in
    let groups = c.as_chunks-3.ensures in
    let here = c.loop-i.invariant in
    let part = group_part 16 c.args.buffer.now strides.front strides.front_len 4 [] groups.front groups.front_len
    c.loop-i-test.true c.as_flattened-in-loop-i.ensures.value here.place in
    record { place = omega (arith, here.place); below = below_more part here.below 64 (omega arith) (c.if-not-are_bytes_below-2.ensures.0 refl) }

pub returns-then-not-are_bytes_below-3 : goal.returns-then-not-are_bytes_below-3
returns-then-not-are_bytes_below-3 c =
    let strides = c.as_chunks.ensures in
    let here = c.loop-i-2.invariant in
    let part = stride_part 16 c.args.buffer.now strides.front strides.front_len [] here.place c.loop-i-2-test.true in
    (λ e. absurd (cc), λ ascii. c.if-not-are_bytes_below-3.ensures.1 (part_below part ascii))

pub loop-i-2-preserved : goal.loop-i-2-preserved
loop-i-2-preserved c =
    let strides = c.as_chunks.ensures in
    let here = c.loop-i-2.invariant in
    let part = stride_part 16 c.args.buffer.now strides.front strides.front_len [] here.place c.loop-i-2-test.true in
    record { place = omega (arith, here.place); below = below_more part here.below 16 (omega arith) (c.if-not-are_bytes_below-3.ensures.0 refl) }
