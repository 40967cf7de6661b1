use Rattle.std.proofs.Common.{ap, get_or, ◌+◌, ◌-◌, ◌^◌, ◌%◌, arith, bit_and, bit_or, ltb, leb, w8}
use Rattle.encoding_kernels.proofs.VectorLemmas.{HasLanes-itself, HasLanes-splat, HasLanes-zip2, HasLanes_same}
use Rattle.encoding_kernels.proofs.MaskLemmas.{chosen, chosen_by, tests_of}
use Rattle.encoding_kernels.proofs.CodeUnitLemmas.{bytes_below, short_upper_lane, upper_bits_lanes, upper_lane}
use Rattle.encoding_kernels.proofs.Utf8LookupLemmas.{difference}
use Rattle.encoding_kernels.proofs.utf8_to_utf16.strides.upper_bytes.Goals as goal

pub returns-then-this-lt4 : goal.returns-then-this-lt4
returns-then-this-lt4 g c x y a three two one short =
    let v = c.args.block in
    let small = short (omega arith) in
    let bytes = HasLanes-itself 16 v c.fits-block.0 in
    HasLanes_same
    (chosen_by (tests_of w8 ltb bytes (HasLanes-splat 16 0x80)) (HasLanes-splat 16 0)
    (upper_bits_lanes one y (HasLanes_same (difference 16 c.args.two 0xE0 c.fits-two (omega arith)) (λ k l. ap (λ b. b - 0xE0) (two.each k l)))))
    (λ k l. short_upper_lane (x k) (y k) (a k) (get_or v k 0) (small k l).0 (small k l).1 (bytes_below v c.fits-block.0 c.fits-block.1 k l))

pub returns : goal.returns
returns g c x y a three two one short =
    let v = c.args.block in
    let bytes = HasLanes-itself 16 v c.fits-block.0 in
    let carried = chosen 0xD8 0xD7 (tests_of w8 leb (HasLanes-splat 16 0x40) (c.high_bits.ensures a one)) in
    let high = HasLanes-zip2 (λ a b. (a + b) % 2 ^ 8) carried (HasLanes-zip2 bit_and two (HasLanes-splat 16 7)) in
    let low = chosen 0xDC 0 (tests_of w8 leb (HasLanes-splat 16 0xF0) three) in
    let bits = upper_bits_lanes one y (HasLanes_same (difference 16 c.args.two 0xE0 c.fits-two (omega arith)) (λ k l. ap (λ b. b - 0xE0) (two.each k l))) in
    let longer = chosen_by (tests_of w8 leb (HasLanes-splat 16 0xF0) two) high (HasLanes-zip2 bit_or bits low) in
    HasLanes_same (chosen_by (tests_of w8 ltb bytes (HasLanes-splat 16 0x80)) (HasLanes-splat 16 0) longer)
    (λ k l. upper_lane (x k) (y k) (a k) (get_or v k 0) (bytes_below v c.fits-block.0 c.fits-block.1 k l))
