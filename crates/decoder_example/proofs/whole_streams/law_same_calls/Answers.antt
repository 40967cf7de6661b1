use Rattle.decoder_example.proofs.whole_streams.law_same_calls.Goals as goal

pub returns-clause-utf16 : goal.returns-clause-utf16
returns-clause-utf16 c = λ old new other src out others room read more last answer outcome h k.
    let (same, reads, outs, states) = c.law_decoder_results.ensures.utf16 old new other src out others room read more last answer outcome h k in
    (outs, states)

pub returns-clause-utf8 : goal.returns-clause-utf8
returns-clause-utf8 c = λ old new other src out others room read more last answer outcome h k.
    let (same, reads, outs, states) = c.law_decoder_results.ensures.utf8 old new other src out others room read more last answer outcome h k in
    (outs, states)

pub returns-clause-replacing_utf16 : goal.returns-clause-replacing_utf16
returns-clause-replacing_utf16 c = λ old new other src out others room read more replaced again last answer outcome h k.
    let (same, reads, outs, counts, states) =
    c.law_decoder_results.ensures.replacing_utf16 old new other src out others room read more replaced again last answer outcome h k in
    (outs, states)

pub returns-clause-replacing_utf8 : goal.returns-clause-replacing_utf8
returns-clause-replacing_utf8 c = λ old new other src out others room read more replaced again last answer outcome h k.
    let (same, reads, outs, counts, states) =
    c.law_decoder_results.ensures.replacing_utf8 old new other src out others room read more replaced again last answer outcome h k in
    (outs, states)
