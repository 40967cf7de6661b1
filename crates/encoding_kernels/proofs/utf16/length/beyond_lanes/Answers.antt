use Rattle.encoding_kernels.proofs.VectorLemmas.{HasLanes-cast}
use Rattle.encoding_kernels.proofs.SumLemmas.{beyond_are, beyond_fit}
use Rattle.encoding_kernels.proofs.utf16.length.beyond_lanes.Goals as goal

pub overflow_cast-result : goal.overflow_cast-result
overflow_cast-result g c = beyond_fit g.row.N c.args.units c.args.next c.fits-units.0 c.fits-next.0 c.fits-units.1 c.fits-next.1

pub returns : goal.returns
returns g c = HasLanes-cast (beyond_are g.row.N c.args.units c.args.next c.fits-units.0 c.fits-next.0 c.fits-units.1 c.fits-next.1)
