use Rattle.std.proofs.Common.{arith}
use Rattle.std.specs.Char.Escape.{encode_utf16}
use Rattle.encoding_text.proofs.ConvertingLemmas.{converted_again, converted_first_ascii, converts_all, converts_over}
use Rattle.encoding_text.proofs.Latin1ConversionLemmas.{ascii_taken}
use Rattle.encoding_text.proofs.utf_8.to_utf16.convert_after_ascii.Goals as goal

pub returns-then-blocks-src : goal.returns-then-blocks-src
returns-then-blocks-src c =
    let blocks = c.unpack_blocks-blocks.ensures in
    let start = converted_first_ascii _ _ _ _ _ blocks.within (ascii_taken _ _ blocks.ascii) blocks.copied in
    converts_all encode_utf16 _ _ _ _ _ (omega arith) start

pub convert_after_blocks-requires-clause-start : goal.convert_after_blocks-requires-clause-start
convert_after_blocks-requires-clause-start c =
    let blocks = c.unpack_blocks-blocks.ensures in
    let start = converted_first_ascii _ _ _ _ _ blocks.within (ascii_taken _ _ blocks.ascii) blocks.copied in
    converted_again encode_utf16 _ _ _ _ _ start

pub returns : goal.returns
returns c =
    let blocks = c.unpack_blocks-blocks.ensures in
    let start = converted_first_ascii _ _ _ _ _ blocks.within (ascii_taken _ _ blocks.ascii) blocks.copied in
    converts_over encode_utf16 _ _ _ _ _ _ _ _ start c.convert_after_blocks.ensures.after c.convert_after_blocks.ensures.converts
