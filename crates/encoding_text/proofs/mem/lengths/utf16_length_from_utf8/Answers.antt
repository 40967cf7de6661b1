use Rattle.std.specs.Char.Escape.{encode_utf16}
use Rattle.encoding_text.proofs.SufficesLemmas.{parts_suffice}
use Rattle.encoding_text.proofs.mem.lengths.utf16_length_from_utf8.Goals as goal

pub returns-clause-suffices : goal.returns-clause-suffices
returns-clause-suffices c =
    let (parts, are, size) = c.utf16_length_of_utf8.ensures in
    parts_suffice encode_utf16 c.args.src.now parts c.utf16_length_of_utf8.result are size
