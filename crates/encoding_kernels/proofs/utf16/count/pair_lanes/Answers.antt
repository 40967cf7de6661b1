use Rattle.encoding_kernels.proofs.VectorLemmas.{HasLanes-cast}
use Rattle.encoding_kernels.proofs.CountLemmas.{pairs_are, pairs_fit}
use Rattle.encoding_kernels.proofs.utf16.count.pair_lanes.Goals as goal

pub overflow_cast-result : goal.overflow_cast-result
overflow_cast-result g c = pairs_fit g.row.N c.args.units c.args.next c.fits-units.0 c.fits-next.0 c.fits-units.1 c.fits-next.1

pub returns : goal.returns
returns g c = HasLanes-cast (pairs_are g.row.N c.args.units c.args.next c.fits-units.0 c.fits-next.0 c.fits-units.1 c.fits-next.1)
