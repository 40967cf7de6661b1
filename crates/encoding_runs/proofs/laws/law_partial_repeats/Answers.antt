use Rattle.encoding_runs.proofs.RepeatLemmas.{joined, progress}
use Rattle.encoding_runs.proofs.laws.law_partial_repeats.Goals as goal

pub returns : goal.returns
returns c = record { joined = joined; progress = progress }
