use Rattle.std.proofs.Common.{arith}
use Rattle.encoding_text.proofs.Latin1ConversionLemmas.{IsUtf8-bytes}
use Rattle.encoding_definitions.proofs.ClearingLemmas.{clears_after, text_stays}
use Rattle.encoding_text.proofs.mem.text_destinations.convert_latin1_to_str.Goals as goal

pub returns : goal.returns
returns c =
    let call = c.convert_latin1_to_utf8-end in
    record {
      written = clears_after c.args.dst.now call.new.dst c.clear.new.bytes 16 _ _ call.ensures.written c.clear.ensures;
      text = text_stays c.args.dst.now call.new.dst c.clear.new.bytes 16 _ _ call.ensures.written c.clear.ensures c.requires.text
          (IsUtf8-bytes c.args.src.now (λ i. omega (arith, c.type_inv.src i)));
    }
