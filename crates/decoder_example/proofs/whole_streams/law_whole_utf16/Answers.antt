use Rattle.std.proofs.Common.{[]}
use Rattle.decoder_example.proofs.whole_streams.law_whole_utf16.Goals as goal

pub returns-clause-utf16 : goal.returns-clause-utf16
returns-clause-utf16 c = λ order b calls none chain some.
    let made = c.law_utf16_calls.ensures.utf16 order [] b calls none chain in
    (made.parts, made.all some, made.in_sequence)

pub returns-clause-utf8 : goal.returns-clause-utf8
returns-clause-utf8 c = λ order b calls none chain some.
    let made = c.law_utf16_calls.ensures.utf8 order [] b calls none chain in
    (made.parts, made.all some, made.in_sequence)

pub returns-clause-same_utf16 : goal.returns-clause-same_utf16
returns-clause-same_utf16 c = λ order p src out other q after room read more last answer outcome h k.
    let (same, reads, outs, rest) = c.law_utf16_calls.ensures.one_utf16 order p src out other q after room read more last answer outcome h k in
    (reads, outs)

pub returns-clause-same_utf8 : goal.returns-clause-same_utf8
returns-clause-same_utf8 c = λ order p src out other q after room read more last answer outcome h k.
    let (same, reads, outs, rest) = c.law_utf16_calls.ensures.one_utf8 order p src out other q after room read more last answer outcome h k in
    (reads, outs)
