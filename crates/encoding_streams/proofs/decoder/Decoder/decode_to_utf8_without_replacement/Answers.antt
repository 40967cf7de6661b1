use Rattle.std.proofs.Common.{subst, IsUtf8}
use Rattle.encoding_definitions.proofs.PrefixesLemmas.{written_is}
use Rattle.encoding_streams.proofs.TextDestinationLemmas.{decoded_text}
use Rattle.encoding_streams.proofs.decoder.Decoder.decode_to_utf8_without_replacement.Goals as goal

pub returns-clause-text : goal.returns-clause-text
returns-clause-text c =
    let made = c.decode.ensures.reports.call in
    subst IsUtf8 (written_is _ _ _ _ made.writes) (decoded_text _ _ made.parts made.decoded)
