use Rattle.std.proofs.Common.{[], Some, take, slice_index, ◌+◌, refl, arith}
use Rattle.encoding_kernels.proofs.ScanLemmas.{WritesPrefix_copy, first_part, stride_part, group_part, below_more}
use Rattle.encoding_kernels.proofs.ScanLemmas.{first_other_in, first_other_first, first_other_at, below_next, copied_first}
use Rattle.encoding_kernels.proofs.ScanLemmas.{copied_start, fitting_room, found_fitting, found_none, copied_fitting, copied_all}
use Rattle.encoding_definitions.proofs.PrefixesLemmas.{WritesPrefix-length}
use Rattle.encoding_text.proofs.ascii.basic_latin_to_ascii.Goals as goal

pub returns-then-run-lt-STRIDE-clause-found : goal.returns-then-run-lt-STRIDE-clause-found
returns-then-run-lt-STRIDE-clause-found c =
    let strides = c.as_chunks.ensures in
    let xs = take c.min.result c.args.src.now in
    let part = first_part 16 xs c.in-Some.first.now strides.front strides.front_len c.in-Some.ensures.value in
    let found = first_other_first part c.units_run_len_below-run.ensures c.if-run-lt-STRIDE.true in
    found_fitting c.args.src.now c.args.dst.now c.min.result c.min.ensures
    (Some (slice_index xs c.units_run_len_below-run.result, c.units_run_len_below-run.result)) found

pub returns-then-run-lt-STRIDE-clause-copied : goal.returns-then-run-lt-STRIDE-clause-copied
returns-then-run-lt-STRIDE-clause-copied c =
    let strides = c.as_chunks.ensures in
    let xs = take c.min.result c.args.src.now in
    let part = first_part 16 xs c.in-Some.first.now strides.front strides.front_len c.in-Some.ensures.value in
    let room = fitting_room c.args.src.now c.args.dst.now c.min.result c.min.ensures in
    let copied = copied_start part room c.units_run_len_below-run.result c.units_run_len_below-run.ensures.within c.pack_first.ensures in
    copied_fitting c.args.src.now c.args.dst.now c.min.result c.min.ensures copied

pub loop-four-preserved : goal.loop-four-preserved
loop-four-preserved c =
    let strides = c.as_chunks.ensures in
    let groups = c.as_chunks-2.ensures in
    let here = c.loop-four.invariant in
    let xs = take c.min.result c.args.src.now in
    let part = group_part 16 xs strides.front strides.front_len 4 [] groups.front groups.front_len
    c.loop-four-test.true c.as_flattened-block.ensures.value here.place in
    let room = fitting_room c.args.src.now c.args.dst.now c.min.result c.min.ensures in
    record {
      place = omega (arith, here.place);
      below = below_more part here.below 64 (omega arith) (c.if-not-are_units_below.ensures.0 refl);
      copied = copied_first part here.copied room 64 (omega arith) c.pack.ensures;
    }

pub returns-then-run-lt-STRIDE-2-clause-found : goal.returns-then-run-lt-STRIDE-2-clause-found
returns-then-run-lt-STRIDE-2-clause-found c =
    let strides = c.as_chunks.ensures in
    let here = c.loop-i.invariant in
    let xs = take c.min.result c.args.src.now in
    let part = stride_part 16 xs strides.front strides.front_len [] here.place c.loop-i-test.true in
    let found = first_other_in part here.below c.units_run_len_below-run-in-loop-i.ensures c.if-run-lt-STRIDE-2.true in
    found_fitting c.args.src.now c.args.dst.now c.min.result c.min.ensures
    (Some (slice_index xs (c.loop-i.at + c.units_run_len_below-run-in-loop-i.result), c.loop-i.at + c.units_run_len_below-run-in-loop-i.result)) found

pub returns-then-run-lt-STRIDE-2-clause-copied : goal.returns-then-run-lt-STRIDE-2-clause-copied
returns-then-run-lt-STRIDE-2-clause-copied c =
    let strides = c.as_chunks.ensures in
    let here = c.loop-i.invariant in
    let xs = take c.min.result c.args.src.now in
    let part = stride_part 16 xs strides.front strides.front_len [] here.place c.loop-i-test.true in
    let room = fitting_room c.args.src.now c.args.dst.now c.min.result c.min.ensures in
    let copied = copied_first part here.copied room c.units_run_len_below-run-in-loop-i.result c.units_run_len_below-run-in-loop-i.ensures.within
    c.pack_first-then-run-lt-STRIDE-2.ensures in
    copied_fitting c.args.src.now c.args.dst.now c.min.result c.min.ensures copied

pub loop-i-preserved : goal.loop-i-preserved
loop-i-preserved c =
    let strides = c.as_chunks.ensures in
    let here = c.loop-i.invariant in
    let xs = take c.min.result c.args.src.now in
    let part = stride_part 16 xs strides.front strides.front_len [] here.place c.loop-i-test.true in
    let run = c.units_run_len_below-run-in-loop-i.ensures in
    let room = fitting_room c.args.src.now c.args.dst.now c.min.result c.min.ensures in
    record {
      place = omega (arith, here.place);
      below = below_more part here.below 16 (omega arith) (λ k from to. run.pass k from (omega (arith, to, c.if-run-lt-STRIDE-2.false)));
      copied = copied_first part here.copied room 16 (omega arith) c.pack-in-loop-i.ensures;
    }

pub returns-then-fitting-i-ge-BASIC_LATIN_END-clause-found : goal.returns-then-fitting-i-ge-BASIC_LATIN_END-clause-found
returns-then-fitting-i-ge-BASIC_LATIN_END-clause-found c =
    let xs = take c.min.result c.args.src.now in
    let found = first_other_at xs c.loop-i-2.i c.loop-i-2-test.true c.loop-i-2.invariant.below c.if-fitting-i-ge-BASIC_LATIN_END.true in
    found_fitting c.args.src.now c.args.dst.now c.min.result c.min.ensures (Some (slice_index xs c.loop-i-2.i, c.loop-i-2.i)) found

pub loop-i-2-preserved : goal.loop-i-2-preserved
loop-i-2-preserved c =
    let here = c.loop-i-2.invariant in
    let xs = take c.min.result c.args.src.now in
    let room = fitting_room c.args.src.now c.args.dst.now c.min.result c.min.ensures in
    record {
      below = below_next 0x80 xs c.loop-i-2.i here.below c.if-fitting-i-ge-BASIC_LATIN_END.false;
      copied = WritesPrefix_copy c.args.dst.now c.loop-i-2.dst xs c.loop-i-2.i _
          here.copied c.loop-i-2-test.true (omega (arith, room, WritesPrefix-length _ _ _ _ here.copied)) refl;
    }

pub returns-clause-found : goal.returns-clause-found
returns-clause-found c =
    found_none c.args.src.now c.args.dst.now c.min.result c.min.ensures c.loop-i-2.i c.loop-i-2.invariant.below c.loop-i-2-test.false

pub returns-clause-copied : goal.returns-clause-copied
returns-clause-copied c =
    copied_all c.args.src.now c.args.dst.now c.min.result c.min.ensures c.loop-i-2-test.false c.loop-i-2.invariant.copied
