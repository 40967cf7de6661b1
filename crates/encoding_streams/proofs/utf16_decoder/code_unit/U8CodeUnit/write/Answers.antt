use Rattle.encoding_streams.proofs.Utf16WriteLemmas.{writes_utf8}
use Rattle.encoding_streams.proofs.utf16_decoder.code_unit.U8CodeUnit.write.Goals as goal

pub returns : goal.returns
returns c =
    let converted = c.convert_utf16_to_utf8_partial.ensures in
    writes_utf8 _ _ _ _ _ c.requires.valid converted.longest converted.unchanged_after
