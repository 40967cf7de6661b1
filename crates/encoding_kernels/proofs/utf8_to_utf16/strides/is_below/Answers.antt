use Rattle.std.proofs.Common.{arith, eqb-true, w8, leb}
use Rattle.std.proofs.lemmas.Bool.{leb-false}
use Rattle.encoding_kernels.proofs.VectorLemmas.{HasLanes-itself, HasLanes-splat}
use Rattle.encoding_kernels.proofs.MaskLemmas.{tests_of, none_is_first}
use Rattle.encoding_kernels.proofs.utf8_to_utf16.strides.is_below.Goals as goal

pub returns : goal.returns
returns c t k l =
    let tests = tests_of w8 leb (HasLanes-splat 16 c.args.bound) (HasLanes-itself 16 c.args.block c.fits-block.0) in
    leb-false _ _ ((none_is_first tests (omega arith) (eqb-true _ _ t)).before k l)
