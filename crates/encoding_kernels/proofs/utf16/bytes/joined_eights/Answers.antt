use Rattle.std.proofs.Common.{w16}
use Rattle.std.proofs.lemmas.Simd.{below_from_Fits}
use Rattle.encoding_kernels.proofs.MovedLemmas.{eights_joined}
use Rattle.encoding_kernels.proofs.utf16.bytes.joined_eights.Goals as goal

pub returns-clause-lanes : goal.returns-clause-lanes
returns-clause-lanes c =
    eights_joined c.args.first c.args.last c.args.count c.fits-first.0 c.fits-last.0 (below_from_Fits w16 c.args.last c.fits-last.1) c.requires.count.0
    c.requires.count.1
