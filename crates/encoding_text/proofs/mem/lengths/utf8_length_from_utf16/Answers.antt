use Rattle.encoding_text.proofs.SufficesLemmas.{units_suffice}
use Rattle.encoding_text.proofs.mem.lengths.utf8_length_from_utf16.Goals as goal

pub returns-clause-suffices : goal.returns-clause-suffices
returns-clause-suffices c = λ room read out h d.
    let (text, units, size) = c.utf8_length_of_units.ensures in
    units_suffice c.args.src.now text c.utf8_length_of_units.result room read out units size h d
