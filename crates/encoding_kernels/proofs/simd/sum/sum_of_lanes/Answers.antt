use Rattle.std.proofs.Common.{ap, arith, map, map-id, w16}
use Rattle.std.specs.Simd.Lanes.{sum_l}
use Rattle.std.proofs.lemmas.Simd.{fold-sum, sum_fits}
use Rattle.encoding_kernels.proofs.SumLemmas.{lanes_fit}
use Rattle.encoding_kernels.proofs.simd.sum.sum_of_lanes.Goals as goal

pub overflow_add-lanes : goal.overflow_add-lanes
overflow_add-lanes g c =
    sum_fits w16 0 (map (λ x. x) c.args.lanes)
    (omega (arith, lanes_fit g.row.N c.args.lanes c.fits-lanes.0 c.requires c.fits-lanes.1, ap sum_l (map-id c.args.lanes)))

pub returns : goal.returns
returns g c = omega (arith, c.from.ensures, fold-sum 0 (map (λ x. x) c.args.lanes), ap sum_l (map-id c.args.lanes))
