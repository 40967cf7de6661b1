use Rattle.std.proofs.Common.{◌++◌, ap, ◌∙◌}
use Rattle.std.proofs.lemmas.Grind.{flat_map-append}
use Rattle.std.specs.Char.Escape.{encode_utf16}
use Rattle.encoding_text.specs.Parts.{lossy_scalar, lossy_utf16}
use Rattle.decoder_example.proofs.YieldedLemmas.{final_calls}
use Rattle.decoder_example.proofs.streams.law_yielded_stays.Goals as goal

pub returns : goal.returns
returns c = λ p stream calls pending chain unmarked all.
    let yielded = c.law_mixed_calls.ensures.mixed p stream calls pending chain in
    let are_final = final_calls c.law_parts.ensures.final_are p stream calls yielded unmarked all in
    record {
      parts = yielded.parts;
      yielded = yielded.in_sequence;
      are_final = are_final;
      utf8 = λ more all. c.law_parts.ensures.final_text (p ++ stream) _ more yielded.parts all are_final;
      utf16 = λ more all are.
          let (others, whole) = c.law_parts.ensures.final_stay (p ++ stream) _ more yielded.parts all are_final are in
          (lossy_utf16 others, ap lossy_utf16 whole ∙ flat_map-append (λ part. encode_utf16 (lossy_scalar part)) yielded.parts others);
    }
