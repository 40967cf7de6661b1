use Rattle.encoding_runs.proofs.MalformationLemmas.{one_kind}
use Rattle.encoding_runs.proofs.laws.law_malformations.Goals as goal

pub returns : goal.returns
returns c = record { one = one_kind }
