use Rattle.std.proofs.Common.{refl, sym}
use Rattle.std.proofs.lemmas.Str.{chars-IsAscii}
use Rattle.encoding_definitions.proofs.PrefixesLemmas.{WritesPrefix-same}
use Rattle.encoding_text.proofs.mem.utf8_to_latin1.convert_utf8_to_latin1.Goals as goal

pub returns-then-write_short_ascii : goal.returns-then-write_short_ascii
returns-then-write_short_ascii c =
    let call = c.if-write_short_ascii.ensures in
    record { written = WritesPrefix-same _ _ _ _ _ _ (call.1 refl) refl (sym (chars-IsAscii c.args.src.now (call.0.0 refl))) }
