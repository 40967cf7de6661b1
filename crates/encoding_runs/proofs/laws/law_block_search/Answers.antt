use Rattle.encoding_runs.proofs.SearchLawLemmas.{search_prefix, search_whole, search_one, search_indices}
use Rattle.encoding_runs.proofs.laws.law_block_search.Goals as goal

pub returns : goal.returns
returns c = record { prefix = search_prefix; whole = search_whole; one = search_one; indices = search_indices }
