use Rattle.std.proofs.Common.{subst, IsUtf8}
use Rattle.encoding_definitions.proofs.PrefixesLemmas.{written_is}
use Rattle.encoding_streams.proofs.TextDestinationLemmas.{replaced_text}
use Rattle.encoding_streams.proofs.decoder.Decoder.decode_to_utf8.Goals as goal

pub returns-clause-text : goal.returns-clause-text
returns-clause-text c =
    let made = c.replace.ensures.call.replaces in
    subst IsUtf8 (written_is _ _ _ _ made.writes) (replaced_text _ _ _ _ _ _ _ _ _ made)
