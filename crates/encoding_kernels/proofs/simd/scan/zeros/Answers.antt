use Rattle.encoding_kernels.proofs.MaskLemmas.{zeros_before}
use Rattle.encoding_kernels.proofs.simd.scan.zeros.Goals as goal

pub returns : goal.returns
returns g c =
    let first =
    zeros_before g.row.N c.requires c.args.lanes c.fits-lanes.0 c.run_before.result c.run_before.ensures.none_failing c.run_before.ensures.first_failing in
    record { within = first.0; zeros = first.1 }
