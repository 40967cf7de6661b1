use Rattle.encoding_kernels.proofs.BidiUnitLookupLemmas.{uppers_are, uppers_fit, lowers_are, lowers_fit}
use Rattle.encoding_kernels.proofs.VectorLemmas.{HasLanes-cast}
use Rattle.encoding_kernels.proofs.bidi.units.bytes_of_32.Goals as goal

pub overflow_cast-result : goal.overflow_cast-result
overflow_cast-result c = uppers_fit c.args.at c.args.units.now c.requires (λ k. (c.type_inv.units k).fits)

pub overflow_cast-result-2 : goal.overflow_cast-result-2
overflow_cast-result-2 c = lowers_fit c.args.at c.args.units.now c.requires (λ k. (c.type_inv.units k).fits)

pub returns-clause-upper : goal.returns-clause-upper
returns-clause-upper c = HasLanes-cast (uppers_are c.args.at c.args.units.now c.requires (λ k. (c.type_inv.units k).fits))

pub returns-clause-lower : goal.returns-clause-lower
returns-clause-lower c = HasLanes-cast (lowers_are c.args.at c.args.units.now c.requires (λ k. (c.type_inv.units k).fits))
