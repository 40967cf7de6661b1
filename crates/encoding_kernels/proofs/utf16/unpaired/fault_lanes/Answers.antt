use Rattle.encoding_kernels.proofs.VectorLemmas.{HasLanes-cast}
use Rattle.encoding_kernels.proofs.UnpairedLemmas.{faults_are, faults_fit}
use Rattle.encoding_kernels.proofs.utf16.unpaired.fault_lanes.Goals as goal

pub overflow_cast-result : goal.overflow_cast-result
overflow_cast-result g c = faults_fit g.row.N c.args.units c.args.before c.fits-units.0 c.fits-before.0

pub returns : goal.returns
returns g c = HasLanes-cast (faults_are g.row.N c.args.units c.args.before c.fits-units.0 c.fits-before.0)
