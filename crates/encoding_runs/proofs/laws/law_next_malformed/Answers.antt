use Rattle.encoding_runs.proofs.MalformedLemmas.{next_size, found_parts, found_count}
use Rattle.encoding_runs.proofs.laws.law_next_malformed.Goals as goal

pub returns : goal.returns
returns c = record { size = next_size; found = found_parts; malformed_count = λ bs parts are. found_count 0 parts }
