use Rattle.std.proofs.Common.{◌+◌, ◌*◌, ◌/◌, ◌^◌, ◌%◌, bit_and}
use Rattle.encoding_kernels.proofs.VectorLemmas.{HasLanes-itself, HasLanes-splat, HasLanes-zip2, HasLanes_same}
use Rattle.encoding_kernels.proofs.CodeUnitLemmas.{high_bits_lane}
use Rattle.encoding_kernels.proofs.utf8_to_utf16.strides.high_bits.Goals as goal

pub returns : goal.returns
returns c f one =
    let before = HasLanes-zip2 (λ a b. a * 2 ^ b % 2 ^ 8) one (HasLanes-splat 16 2) in
    let shifted = HasLanes-zip2 (λ a b. a / 2 ^ b) (HasLanes-itself 16 c.args.block c.fits-block.0) (HasLanes-splat 16 4) in
    let last = HasLanes-zip2 bit_and shifted (HasLanes-splat 16 3) in
    HasLanes_same (HasLanes-zip2 (λ a b. (a + b) % 2 ^ 8) before last) (λ k l. high_bits_lane _ _)
