use Rattle.encoding_runs.proofs.BlockRepairLemmas.{blocks_prefix, blocks_whole}
use Rattle.encoding_runs.proofs.laws.law_block_repair.Goals as goal

pub returns : goal.returns
returns c = record { prefix = blocks_prefix; whole = blocks_whole }
