use Rattle.std.proofs.Common.{subst, sym, IsUtf8}
use Rattle.encoding_definitions.specs.Prefixes.{IsLongestPrefix}
use Rattle.encoding_text.proofs.ConvertingLemmas.{whole_fits, text_prefix}
use Rattle.encoding_c.proofs.conversions.encoding_text_mem_convert_utf8_to_utf16_without_replacement.Goals as goal

pub returns-clause-prefix : goal.returns-clause-prefix
returns-clause-prefix c room =
    let d = c.convert_utf8_to_utf16_up_to_invalid-read.ensures in
    subst (λ n. IsLongestPrefix IsUtf8 c.args.src.now n) (sym (whole_fits _ _ _ _ _ d room).0) d.text.prefix

pub returns-clause-written : goal.returns-clause-written
returns-clause-written c room = text_prefix _ _ _ _ _ c.convert_utf8_to_utf16_up_to_invalid-read.ensures room
