use Rattle.std.proofs.Common.{ap, length, arith}
use denote.Param.{number}
use Rattle.encoding_kernels.specs.UnitBytes.{bytes_in}
use Rattle.encoding_kernels.specs.contracts.utf16.source.UnitBytesCodeUnits.TheImpl.{BIG-type}
use Rattle.encoding_kernels.proofs.UnitBytesLemmas.{length-units_of}
use Rattle.encoding_kernels.proofs.utf16.source.UnitBytesCodeUnits.eight.Goals as goal

pub eight_units-requires : goal.eight_units-requires
eight_units-requires g c = omega (
  arith,
  c.requires,
  length-units_of (BIG-type (number g.row.BIG)) (bytes_in c.args.self.pairs.now),
  ap length c.as_flattened.ensures.value,
)
