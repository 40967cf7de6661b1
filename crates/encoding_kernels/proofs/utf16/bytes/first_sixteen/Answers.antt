use Rattle.std.proofs.Common.{◌*◌, ◌/◌, length, length-drop, replicate, refl}
use Rattle.encoding_kernels.proofs.UnitBytesLemmas.{few_units, from_eights, length-units_of}
use Rattle.encoding_kernels.proofs.utf16.bytes.first_sixteen.Goals as goal

pub returns-then-count-ge-HALF_STRIDE : goal.returns-then-count-ge-HALF_STRIDE
returns-then-count-ge-HALF_STRIDE c = (
  c.joined_eights.ensures.lane_count,
  from_eights _ _ _ _ _ (length-units_of c.args.big c.args.src.now) c.if-count-ge-HALF_STRIDE.true c.if-count-ge-STRIDE.false c.eight_units.ensures
      c.eight_units-last.ensures c.joined_eights.ensures.lanes,
)

pub returns : goal.returns
returns c = few_units c.args.big c.args.src.now _ _ _ _ refl c.if-count-ge-STRIDE.false c.copy_from_slice.ensures.after
    (length-drop (2 * (length c.args.src.now / 2)) (replicate 32 0)) c.sixteen_units-2.ensures
