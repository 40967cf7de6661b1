use Rattle.std.proofs.lemmas.List.{take_rest}
use Rattle.encoding_runs.proofs.MalformationLemmas.{next_kind}
use Rattle.encoding_runs.proofs.malformed.next_malformation.Goals as goal

pub returns-clause-kind : goal.returns-clause-kind
returns-clause-kind c = next_kind _ _ _ _ c.in_ok-found.ensures.if_some (rw take_rest at c.why_malformed-kind.ensures)
