use Rattle.std.proofs.Common.{not, nat_eq, drop, length-drop, arith}
use Rattle.encoding_kernels.specs.KnownLengths.{begins, begins_few}
use Rattle.encoding_kernels.proofs.KnownLengthLemmas.{ascii_begun}
use Rattle.encoding_kernels.proofs.SumLemmas.{total_most}
use Rattle.encoding_kernels.proofs.utf8.known.count_begun.Goals as goal

pub overflow_add-result : goal.overflow_add-result
overflow_add-result g c =
    let bs = c.args.bytes.now in
    let ascii = c.prefix_len_below-ascii.result in
    let pairs = not (nat_eq g.row.PAIRS 0) in
    omega (
      arith,
      c.sum_from.ensures,
      total_most (begins pairs) (begins_few pairs) (drop ascii bs),
      length-drop ascii bs,
      c.prefix_len_below-ascii.ensures.within,
      c.well_formed,
    )

pub returns : goal.returns
returns g c =
    let begun = ascii_begun (not (nat_eq g.row.PAIRS 0)) c.args.bytes.now c.prefix_len_below-ascii.result c.prefix_len_below-ascii.ensures.within
    c.prefix_len_below-ascii.ensures.below in
    omega (arith, begun, c.sum_from.ensures)
