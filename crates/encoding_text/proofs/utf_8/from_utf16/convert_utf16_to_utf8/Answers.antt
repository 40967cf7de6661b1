use Rattle.std.proofs.Common.{length, ap, ◌∙◌, encode_utf8_all}
use Rattle.encoding_definitions.proofs.Utf16LawLemmas.{scalars_lossy, utf8_of_all}
use Rattle.encoding_definitions.proofs.Utf16PrefixLemmas.{room_for_all, IsUtf8-units}
use Rattle.encoding_text.proofs.utf_8.from_utf16.convert_utf16_to_utf8.Goals as goal

pub returns-clause-all : goal.returns-clause-all
returns-clause-all c = (room_for_all c.args.src.now (length c.args.dst.now) _ _ c.requires.dst_length c.convert_utf16_to_utf8_partial-written.ensures.longest).1

pub returns-clause-text : goal.returns-clause-text
returns-clause-text c = IsUtf8-units c.args.src.now _ (returns-clause-all c)

pub returns-clause-lossy : goal.returns-clause-lossy
returns-clause-lossy c =
    let u = returns-clause-all c in
    u.written ∙ utf8_of_all u.parts ∙ ap encode_utf8_all (scalars_lossy c.args.src.now u.parts u.are_parts)

pub returns-clause-unchanged_after : goal.returns-clause-unchanged_after
returns-clause-unchanged_after c = c.convert_utf16_to_utf8_partial-written.ensures.unchanged_after
