use Rattle.std.proofs.Common.{arith}
use Rattle.encoding_kernels.proofs.CountLemmas.{parts_total}
use Rattle.encoding_kernels.proofs.utf8.count.parts_of_utf8.Goals as goal

pub overflow_sub-result : goal.overflow_sub-result
overflow_sub-result c =
    let (parts, are, long) = c.utf16_length_of_utf8.ensures in
    omega (arith, c.count_four_bytes.ensures, long, parts_total c.args.bytes.now parts are)

pub returns : goal.returns
returns c =
    let (parts, are, long) = c.utf16_length_of_utf8.ensures in
    (parts, are, omega (arith, c.count_four_bytes.ensures, long, parts_total c.args.bytes.now parts are))
