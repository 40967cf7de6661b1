use Rattle.encoding_definitions.proofs.DecompositionLemmas.{has_parts, same_parts, parts-bytes, has_final, final_prefix}
use Rattle.encoding_definitions.proofs.LossyLemmas.{repaired-utf8_lossy}
use Rattle.encoding_runs.proofs.FinalLemmas.{final_text, final_first}
use Rattle.encoding_runs.proofs.MalformedLemmas.{well_formed, repaired_utf8}
use Rattle.encoding_runs.proofs.laws.law_parts.Goals as goal

pub returns : goal.returns
returns c = record {
  exist = has_parts;
  one = same_parts;
  joined = parts-bytes;
  well_formed = well_formed;
  final_exist = has_final;
  final_stay = λ bs rest more parts all. final_prefix bs parts rest more all;
  final_are = λ bs rest parts starts pending stays. final_first bs parts rest (record { starts = starts; stable = λ _. stays }) pending;
  final_text = final_text;
  lossy = repaired-utf8_lossy;
  repaired = repaired_utf8;
}
