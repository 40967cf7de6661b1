use Rattle.encoding_kernels.proofs.VectorLemmas.{HasLanes-itself, HasLanes-swizzle, swizzle_ok}
use Rattle.encoding_kernels.proofs.UniformLemmas.{compressed}
use Rattle.encoding_kernels.proofs.simd.compress.keep_pairs.Goals as goal

pub swizzle : goal.swizzle
swizzle c = swizzle_ok (HasLanes-itself 16 c.places_by.result c.places_by.ensures.lane_count) c.places_by.ensures.within

pub returns-clause-lane_count : goal.returns-clause-lane_count
returns-clause-lane_count c = (HasLanes-swizzle c.args.pairs
    (HasLanes-itself 16 c.places_by.result c.places_by.ensures.lane_count) c.places_by.ensures.within).long

pub returns-clause-kept : goal.returns-clause-kept
returns-clause-kept c tests eight mask =
    let places = c.places_by.ensures in
    compressed tests c.args.pairs c.places_by.result c.args.mask eight places.lane_count places.within mask (places.kept tests eight mask)
