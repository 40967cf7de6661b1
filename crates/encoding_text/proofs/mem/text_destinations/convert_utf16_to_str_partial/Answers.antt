use Rattle.encoding_definitions.proofs.Utf16PrefixLemmas.{IsUtf8-longest}
use Rattle.encoding_definitions.proofs.ClearingLemmas.{clears_after, only_continuation, written_stays, text_stays}
use Rattle.encoding_text.proofs.mem.text_destinations.convert_utf16_to_str_partial.Goals as goal

pub returns : goal.returns
returns c =
    let call = c.convert_utf16_to_utf8_partial-read in
    let cleared = only_continuation call.new.dst _ call.result.1 c.clear_continuation_bytes.ensures in
    let same = written_stays c.args.dst.now call.new.dst c.clear_continuation_bytes.new.bytes 0 _ _ call.ensures.unchanged_after cleared in
    record {
      longest = rw same call.ensures.longest;
      within = call.ensures.within;
      unchanged_after = rw same (clears_after c.args.dst.now call.new.dst c.clear_continuation_bytes.new.bytes 0 _ _ call.ensures.unchanged_after cleared);
      text = text_stays c.args.dst.now call.new.dst c.clear_continuation_bytes.new.bytes 0 _ _ call.ensures.unchanged_after cleared c.requires.text
          (IsUtf8-longest _ _ _ _ call.ensures.longest);
    }
