use Rattle.encoding_text.proofs.OneResultLemmas.{one_utf8_result, one_utf16_result}
use Rattle.encoding_text.proofs.BorrowedLemmas.{one_piece}
use Rattle.encoding_runs.proofs.MixedLemmas.{one_call_yields, mixed_parts, same_results}
use Rattle.encoding_runs.proofs.CompletionLemmas.{reads_text, queried_fits}
use Rattle.encoding_runs.proofs.laws.law_mixed_calls.Goals as goal

pub returns : goal.returns
returns c = record {
  one_utf16 = one_utf16_result;
  one_utf8 = one_utf8_result;
  one_piece = one_piece;
  one_call = one_call_yields;
  mixed = mixed_parts;
  same = same_results;
  text = reads_text;
  queried = queried_fits;
}
