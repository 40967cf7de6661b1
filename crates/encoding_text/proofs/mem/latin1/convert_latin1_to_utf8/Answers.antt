use Rattle.std.proofs.Common.{arith}
use Rattle.encoding_text.proofs.Latin1ConversionLemmas.{latin1_fits_twice}
use Rattle.encoding_text.proofs.mem.latin1.convert_latin1_to_utf8.Goals as goal

pub returns : goal.returns
returns c =
    let call = c.convert_latin1_to_utf8_partial-written in
    let whole = latin1_fits_twice c.args.src.now _ call.result.0 _ (λ i. omega (arith, c.type_inv.src i)) c.requires.dst_length call.ensures.prefix in
    record { written = rw whole at call.ensures.written }
