use Rattle.std.proofs.Common.{arith}
use Rattle.encoding_kernels.proofs.CountLemmas.{parts_most, repaired_sum, same_length}
use Rattle.encoding_kernels.proofs.utf8.repaired.repaired_length.Goals as goal

pub overflow_mul-beyond_one : goal.overflow_mul-beyond_one
overflow_mul-beyond_one c =
    let (parts, are, long) = c.parts_of_utf8-parts.ensures in
    record { fits = omega (arith, long, (parts_most c.args.bytes.now parts are).0) }

pub overflow_sub-beyond_one : goal.overflow_sub-beyond_one
overflow_sub-beyond_one c =
    let (parts, are, long) = c.parts_of_utf8-parts.ensures in
    omega (arith, long, c.sum_below_three.ensures, (repaired_sum c.args.bytes.now parts are).1)

pub overflow_add-parts : goal.overflow_add-parts
overflow_add-parts c =
    let (parts, are, long) = c.parts_of_utf8-parts.ensures in
    record { fits = omega (arith, long, c.count_four_bytes.ensures, (parts_most c.args.bytes.now parts are).1) }

pub returns : goal.returns
returns c =
    let (parts, are, long) = c.parts_of_utf8-parts.ensures in
    let sum = repaired_sum c.args.bytes.now parts are in (
      parts,
      are,
      same_length c.checked_add.result _ _
          (omega (arith, long, c.count_four_bytes.ensures, c.sum_below_three.ensures, sum.0, sum.1)) c.checked_add.ensures,
    )
