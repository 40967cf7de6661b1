use Rattle.encoding_runs.proofs.BidiLawLemmas.{in_utf8, in_utf16}
use Rattle.encoding_runs.proofs.laws.law_bidi_agrees.Goals as goal

pub returns : goal.returns
returns c = record { utf8 = in_utf8; utf16 = in_utf16 }
