use Rattle.std.proofs.Common.{◌∙◌, ap, encode_utf8_all}
use Rattle.encoding_definitions.proofs.Utf16Lemmas.{parts_of, parts_exist, parts_unique}
use Rattle.encoding_definitions.proofs.Utf16LawLemmas.{parts-encode, scalars-encode, scalars_lossy, text_back, utf8_of_all}
use Rattle.encoding_definitions.proofs.Utf16PrefixLemmas.{IsUtf8-units}
use Rattle.encoding_runs.proofs.laws.law_utf16_round_trip.Goals as goal

pub returns : goal.returns
returns c = record {
  exist = λ us a. (parts_of us, parts_exist us a);
  one = parts_unique;
  lossy = scalars_lossy;
  characters = parts-encode;
  scalars = scalars-encode;
  text = text_back;
  utf8 = λ us text u. (IsUtf8-units us text u, u.written ∙ utf8_of_all u.parts ∙ ap encode_utf8_all (scalars_lossy us u.parts u.are_parts));
}
