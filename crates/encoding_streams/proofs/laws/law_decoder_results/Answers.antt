use Rattle.std.specs.Char.Escape.{encode_utf16}
use Rattle.std.proofs.Common.{encode_utf8}
use Rattle.encoding_streams.proofs.DecoderResultLemmas.{call_same, turns_same}
use Rattle.encoding_streams.proofs.laws.law_decoder_results.Goals as goal

pub returns-clause-utf16 : goal.returns-clause-utf16
returns-clause-utf16 c = λ old new other src out others room read more last answer outcome h k.
    call_same encode_utf16 2 old src room last answer outcome read more out others new other h k

pub returns-clause-utf8 : goal.returns-clause-utf8
returns-clause-utf8 c = λ old new other src out others room read more last answer outcome h k.
    call_same encode_utf8 4 old src room last answer outcome read more out others new other h k

pub returns-clause-replacing_utf16 : goal.returns-clause-replacing_utf16
returns-clause-replacing_utf16 c = λ old new other src out others room read more replaced again last answer outcome (hs, h) (ks, k).
    turns_same encode_utf16 2 hs ks old src room last answer outcome read more out others replaced again new other h k

pub returns-clause-replacing_utf8 : goal.returns-clause-replacing_utf8
returns-clause-replacing_utf8 c = λ old new other src out others room read more replaced again last answer outcome (hs, h) (ks, k).
    turns_same encode_utf8 4 hs ks old src room last answer outcome read more out others replaced again new other h k
