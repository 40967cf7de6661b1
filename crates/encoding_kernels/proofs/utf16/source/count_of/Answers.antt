use Rattle.std.proofs.Common.{arith}
use Rattle.encoding_kernels.proofs.utf16.source.count_of.Goals as goal

pub returns-clause-code_units : goal.returns-clause-code_units
returns-clause-code_units c = λ k. omega (arith, c.type_inv.src k)
