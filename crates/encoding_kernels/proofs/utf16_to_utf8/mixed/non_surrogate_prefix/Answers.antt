use Rattle.encoding_kernels.proofs.MixedLemmas.{before_first}
use Rattle.encoding_kernels.proofs.utf16_to_utf8.mixed.non_surrogate_prefix.Goals as goal

pub returns : goal.returns
returns c =
    let first =
    before_first c.args.units c.fits-units.0 c.fits-units.1 c.run_before.result c.run_before.ensures.none_failing c.run_before.ensures.first_failing in
    record { within = first.0; plain = first.1 }
