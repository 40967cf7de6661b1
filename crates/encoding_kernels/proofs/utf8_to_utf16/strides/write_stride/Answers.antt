use Rattle.std.proofs.Common.{◌+◌, ◌-◌, ◌/◌, ◌++◌, ◌≤◌, ◌∙◌, arith, bit_and, drop, inl, inr, length, length-take-le, replicate, sym, subst, take}
use Rattle.std.specs.Int.RustNames.{count_ones}
use Rattle.std.proofs.lemmas.Bool.{cases_lt}
use Rattle.encoding_kernels.specs.EndingUnits.{WritesCompressed, ends_after, units_after}
use Rattle.encoding_kernels.proofs.CompressLemmas.{reaches_more}
use Rattle.encoding_kernels.proofs.GroupLemmas.{stored_apart, stored_few, stored_within, stride_exact, stride_spare}
use Rattle.encoding_kernels.proofs.utf8_to_utf16.strides.write_stride.Goals as goal

pub returns-then-this-ge8 : goal.returns-then-this-ge8
returns-then-this-ge8 g c =
    let room : 16 ≤ length c.args.dst.now = elim (cases_lt g.row.ROOM 16) [
      | inl l ↦ absurd (omega (arith, c.requires.spare l, c.if-this-ge8.true))
      | inr b ↦ omega (arith, b, c.requires.dst_length.0)
    ] in
    reaches_more _ (omega (arith, c.if-this-ge8.true))
    (stride_spare c.args.src.now c.args.at c.args.from c.args.to c.args.dst.now c.requires.within c.requires.part c.units_of_stride.ensures
    room c.ends_of_stride-kept.ensures.mask c.compress-first.ensures c.compress-last.ensures)

pub returns-then-this-ge-STRIDE : goal.returns-then-this-ge-STRIDE
returns-then-this-ge-STRIDE g c =
    let room : 16 ≤ length c.args.dst.now = elim c.then-this-ge-STRIDE.either [
      | inl b ↦ omega (arith, b, c.requires.dst_length.0)
      | inr b ↦ b.1
    ] in
    reaches_more _ (omega arith)
    (stride_exact c.args.src.now c.args.at c.args.from c.args.to c.args.dst.now c.requires.within c.requires.part c.units_of_stride.ensures
    room c.ends_of_stride-kept.ensures.mask c.compress-first.ensures c.compress-last.ensures)

pub slice_bounds-copy_from_slice-end : goal.slice_bounds-copy_from_slice-end
slice_bounds-copy_from_slice-end g c =
    let stored = stride_spare c.args.src.now c.args.at c.args.from c.args.to (replicate 16 0) c.requires.within c.requires.part c.units_of_stride.ensures
    (omega arith) c.ends_of_stride-kept.ensures.mask c.compress-first.ensures c.compress-last.ensures in
    let few = stored_few _ _ _ stored in
    omega (arith, few, c.requires.dst_length.1)

pub slice_bounds-copy_from_slice-end-2 : goal.slice_bounds-copy_from_slice-end-2
slice_bounds-copy_from_slice-end-2 g c =
    let stored = stride_spare c.args.src.now c.args.at c.args.from c.args.to (replicate 16 0) c.requires.within c.requires.part c.units_of_stride.ensures
    (omega arith) c.ends_of_stride-kept.ensures.mask c.compress-first.ensures c.compress-last.ensures in
    let few = stored_few _ _ _ stored in
    sym (length-take-le _ c.args.dst.now (omega (arith, few, c.requires.dst_length.1)))

pub slice_bounds-units-end : goal.slice_bounds-units-end
slice_bounds-units-end g c =
    let stored = stride_spare c.args.src.now c.args.at c.args.from c.args.to (replicate 16 0) c.requires.within c.requires.part c.units_of_stride.ensures
    (omega arith) c.ends_of_stride-kept.ensures.mask c.compress-first.ensures c.compress-last.ensures in
    stored_within stored

pub slice_bounds-copy_from_slice-end-3 : goal.slice_bounds-copy_from_slice-end-3
slice_bounds-copy_from_slice-end-3 g c =
    let stored = stride_spare c.args.src.now c.args.at c.args.from c.args.to (replicate 16 0) c.requires.within c.requires.part c.units_of_stride.ensures
    (omega arith) c.ends_of_stride-kept.ensures.mask c.compress-first.ensures c.compress-last.ensures in
    sym (length-take-le _ _ (stored_within stored))

pub copy_from_slice-requires : goal.copy_from_slice-requires
copy_from_slice-requires g c =
    let stored = stride_spare c.args.src.now c.args.at c.args.from c.args.to (replicate 16 0) c.requires.within c.requires.part c.units_of_stride.ensures
    (omega arith) c.ends_of_stride-kept.ensures.mask c.compress-first.ensures c.compress-last.ensures in
    let few = stored_few _ _ _ stored in
    length-take-le _ c.args.dst.now (omega (arith, few, c.requires.dst_length.1)) ∙ sym (length-take-le _ _ (stored_within stored))

pub returns : goal.returns
returns g c =
    let src = c.args.src.now in
    let stored = stride_spare c.args.src.now c.args.at c.args.from c.args.to (replicate 16 0) c.requires.within c.requires.part c.units_of_stride.ensures
    (omega arith) c.ends_of_stride-kept.ensures.mask c.compress-first.ensures c.compress-last.ensures in
    let count = count_ones (bit_and c.ends_of_stride-kept.result 255) + count_ones (c.ends_of_stride-kept.result / 256) in
    let none = c.requires.spare c.if-this-ge-STRIDE.false in
    subst (λ us. WritesCompressed (take (c.args.to - c.args.from) (drop (c.args.at + c.args.from) (ends_after 0 src)))
    (take (c.args.to - c.args.from) (drop (c.args.at + c.args.from) (units_after 0 0 0 src))) c.args.dst.now (us ++ drop count c.args.dst.now)
    count (count + g.row.SPARE))
    (sym c.copy_from_slice.ensures.after)
    (subst (WritesCompressed _ _ _ _ count) (omega (arith, none)) (stored_apart _ _ _ _ c.args.dst.now count _ (stored_within stored) stored))
