use Rattle.encoding_text.proofs.EncodingLemmas.{length_encode_utf8_le}
use Rattle.encoding_streams.proofs.utf16_decoder.code_unit.U8CodeUnit.max_units_per_scalar.Goals as goal

pub returns-clause-holds_any : goal.returns-clause-holds_any
returns-clause-holds_any c = length_encode_utf8_le
