use Rattle.std.proofs.Common.{refl}
use Rattle.encoding_text.proofs.ConvertingLemmas.{text_prefix, text_read, text_all_read}
use Rattle.encoding_text.proofs.mem.to_utf16.convert_utf8_to_utf16_without_replacement.Goals as goal

pub returns-then-read-src-clause-whole : goal.returns-then-read-src-clause-whole
returns-then-read-src-clause-whole c =
    (λ _. text_read _ _ _ _ _ c.convert_utf8_to_utf16_up_to_invalid-read.ensures c.requires.dst_length c.if-read-src.true, λ _. refl)

pub returns-then-read-src-clause-text : goal.returns-then-read-src-clause-text
returns-then-read-src-clause-text c = (_, text_prefix _ _ _ _ _ c.convert_utf8_to_utf16_up_to_invalid-read.ensures c.requires.dst_length, refl)

pub returns-else-read-src-clause-whole : goal.returns-else-read-src-clause-whole
returns-else-read-src-clause-whole c =
    (λ none. cc, λ text. absurd (c.if-read-src.false (text_all_read _ _ _ _ _ c.convert_utf8_to_utf16_up_to_invalid-read.ensures c.requires.dst_length text)))

pub returns-else-read-src-clause-text : goal.returns-else-read-src-clause-text
returns-else-read-src-clause-text c = (_, text_prefix _ _ _ _ _ c.convert_utf8_to_utf16_up_to_invalid-read.ensures c.requires.dst_length, tt)
