use Rattle.std.proofs.Common.{get_or, ◌+◌, ◌^◌, ◌%◌, arith, ltb, leb, w8}
use Rattle.encoding_kernels.proofs.VectorLemmas.{HasLanes-itself, HasLanes-splat, HasLanes-zip2, HasLanes_same}
use Rattle.encoding_kernels.proofs.MaskLemmas.{chosen_by, tests_of}
use Rattle.encoding_kernels.proofs.CodeUnitLemmas.{bytes_below, lower_bits_lanes, lower_lane, short_lower_lane}
use Rattle.encoding_kernels.proofs.utf8_to_utf16.strides.lower_bytes.Goals as goal

pub returns-then-this-lt4 : goal.returns-then-this-lt4
returns-then-this-lt4 g c x y a two one short =
    let v = c.args.block in
    let small = short (omega arith) in
    let bytes = HasLanes-itself 16 v c.fits-block.0 in
    HasLanes_same (chosen_by (tests_of w8 ltb bytes (HasLanes-splat 16 0x80)) bytes (lower_bits_lanes one v c.fits-block.0))
    (λ k l. short_lower_lane (x k) (y k) (a k) (get_or v k 0) (small k l).0 (small k l).1 (bytes_below v c.fits-block.0 c.fits-block.1 k l))

pub returns : goal.returns
returns g c x y a two one short =
    let v = c.args.block in
    let bytes = HasLanes-itself 16 v c.fits-block.0 in
    let high = HasLanes-zip2 (λ a b. (a + b) % 2 ^ 8) (c.high_bits.ensures a one) (HasLanes-splat 16 0xC0) in
    let longer = chosen_by (tests_of w8 leb (HasLanes-splat 16 0xF0) two) high (lower_bits_lanes one v c.fits-block.0) in
    HasLanes_same (chosen_by (tests_of w8 ltb bytes (HasLanes-splat 16 0x80)) bytes longer)
    (λ k l. lower_lane (x k) (y k) (a k) (get_or v k 0) (bytes_below v c.fits-block.0 c.fits-block.1 k l))
