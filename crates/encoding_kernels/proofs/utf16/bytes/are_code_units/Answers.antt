use Rattle.std.proofs.Common.{arith}
use Rattle.encoding_kernels.proofs.UnitBytesLemmas.{units_of-fit}
use Rattle.encoding_kernels.proofs.utf16.bytes.are_code_units.Goals as goal

pub returns : goal.returns
returns c = units_of-fit c.args.big c.args.src.now (λ k. omega (arith, c.type_inv.src k))
