use Rattle.std.proofs.Common.{[], ◌∙◌, sym}
use Rattle.std.proofs.lemmas.List.{append-nil}
use Rattle.std.proofs.lemmas.Str.{encode_same}
use Rattle.encoding_definitions.proofs.EncodingLemmas.{decode_utf8_scalar, IsSequence-encode, sequence_ends}
use Rattle.encoding_runs.proofs.laws.law_sequences.Goals as goal

pub returns : goal.returns
returns c = record {
  spelled = decode_utf8_scalar;
  each = IsSequence-encode;
  one = λ d e h k same. (encode_same d e [] [] (append-nil _ ∙ same ∙ sym (append-nil _))).0;
  none_begins_another = sequence_ends;
}
