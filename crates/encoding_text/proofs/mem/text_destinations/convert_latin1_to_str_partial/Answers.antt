use Rattle.std.proofs.Common.{◌<◌, take, arith, IsUtf8, encode_utf8_all}
use Rattle.encoding_kernels.proofs.ScanLemmas.{Each-take}
use Rattle.encoding_text.proofs.Latin1ConversionLemmas.{IsUtf8-bytes}
use Rattle.encoding_definitions.proofs.ClearingLemmas.{clears_after, text_stays}
use Rattle.encoding_text.proofs.mem.text_destinations.convert_latin1_to_str_partial.Goals as goal

pub returns : goal.returns
returns c =
    let call = c.convert_latin1_to_utf8_partial-read in
    let read = call.result.0 in
    let text : IsUtf8 (encode_utf8_all (take read c.args.src.now)) = IsUtf8-bytes (take read c.args.src.now)
    (λ i. Each-take (λ b. b < 256) (omega arith) c.args.src.now read (λ k _. omega (arith, c.type_inv.src k)) i) in
    record {
      prefix = call.ensures.prefix;
      written = clears_after c.args.dst.now call.new.dst c.clear.new.bytes 16 _ _ call.ensures.written c.clear.ensures;
      text = text_stays c.args.dst.now call.new.dst c.clear.new.bytes 16 _ _ call.ensures.written c.clear.ensures c.requires.text text;
    }
