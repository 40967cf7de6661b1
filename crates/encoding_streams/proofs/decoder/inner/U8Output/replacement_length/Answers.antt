use Rattle.std.proofs.Common.{refl, arith}
use Rattle.std.proofs.lemmas.Str.{length-encode, len_utf8_bounds}
use Rattle.encoding_streams.proofs.decoder.inner.U8Output.replacement_length.Goals as goal

pub returns-clause-length : goal.returns-clause-length
unfolding lib.Utf8.encode
returns-clause-length c = refl

pub returns-clause-some_units : goal.returns-clause-some_units
returns-clause-some_units c = λ x scalar. omega (arith, length-encode x, len_utf8_bounds x)
