use Rattle.std.proofs.Common.{arith}
use Rattle.std.proofs.lemmas.Str.{length-encode}
use Rattle.encoding_text.proofs.decoder.replacing.U8Replacing.replacement_length.Goals as goal

pub returns-clause-length : goal.returns-clause-length
returns-clause-length c = omega (arith, length-encode 0xFFFD)
