use Rattle.encoding_runs.proofs.EncoderChainLemmas.{chain_encodes}
use Rattle.encoding_runs.proofs.EncoderRunLemmas.{chain_completes, chain_whole}
use Rattle.encoding_runs.proofs.laws.law_encoder_cuts.Goals as goal

pub returns : goal.returns
returns c = record {
  first_parts = chain_encodes;
  completes = chain_completes;
  whole = chain_whole;
}
