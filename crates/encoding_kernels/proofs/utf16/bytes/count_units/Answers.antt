use Rattle.std.proofs.Common.{sym, subst}
use Rattle.encoding_definitions.specs.Utf16.{AreCodeUnits}
use Rattle.encoding_kernels.specs.UnitBytes.{units_of}
use Rattle.encoding_kernels.proofs.UnitBytesLemmas.{pairs_within}
use Rattle.encoding_kernels.proofs.utf16.bytes.count_units.Goals as goal

pub returns-clause-count : goal.returns-clause-count
returns-clause-count c = sym (pairs_within c.args.big c.args.pairs.now c.told-pairs)

pub returns-clause-code_units : goal.returns-clause-code_units
returns-clause-code_units c = subst (λ bs. AreCodeUnits (units_of c.args.big bs)) c.as_flattened.ensures.value c.are_code_units.ensures
