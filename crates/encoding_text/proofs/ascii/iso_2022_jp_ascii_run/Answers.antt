use Rattle.std.proofs.Common.{arith}
use Rattle.encoding_kernels.proofs.MaskLemmas.{none_is_first, lowest_is_first}
use Rattle.encoding_text.proofs.WholePrefixesLemmas.{other_tests, run_of_own}
use Rattle.encoding_text.proofs.ascii.iso_2022_jp_ascii_run.Goals as goal

pub returns-then-others-eq0 : goal.returns-then-others-eq0
returns-then-others-eq0 c =
    let stride = c.args.stride.now in
    run_of_own stride 16 16 c.told-stride (none_is_first (other_tests stride c.told-stride) (omega arith) c.if-others-eq0.true)

pub returns-else-others-eq0 : goal.returns-else-others-eq0
returns-else-others-eq0 c =
    let stride = c.args.stride.now in
    run_of_own stride 16 _ c.told-stride (lowest_is_first (other_tests stride c.told-stride) (omega arith) (omega arith))
