use Rattle.std.proofs.Common.{arith}
use Rattle.std.proofs.lemmas.Str.{length-encode}
use Rattle.encoding_text.proofs.decoder.replacing.U8Replacing.write_replacement.Goals as goal

pub write_scalar-requires-clause-dst_length : goal.write_scalar-requires-clause-dst_length
write_scalar-requires-clause-dst_length c = omega (arith, c.requires.dst_length, length-encode 0xFFFD)
