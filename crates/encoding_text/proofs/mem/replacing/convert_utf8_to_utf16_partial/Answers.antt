use Rattle.encoding_text.proofs.mem.replacing.convert_utf8_to_utf16_partial.Goals as goal

pub returns : goal.returns
returns c = (c.convert_parts-read.result.2, c.convert_parts-read.ensures)
