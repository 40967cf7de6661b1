use Rattle.encoding_text.proofs.SufficesLemmas.{latin1_suffices}
use Rattle.encoding_text.proofs.mem.lengths.utf8_length_from_latin1.Goals as goal

pub returns-clause-suffices : goal.returns-clause-suffices
returns-clause-suffices c = λ room read out h d.
    latin1_suffices c.args.src.now c.utf8_length_of_latin1.result room read out c.utf8_length_of_latin1.ensures h d
