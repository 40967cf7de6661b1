use Rattle.std.proofs.Common.{arith}
use Rattle.utf8_check_library.proofs.place.Place.after_character.Goals.{in-Characters, in-Bytes}
use Rattle.utf8_check_library.proofs.place.Place.after_character.Goals as goal

pub overflow_add-result-2 : goal.overflow_add-result-2
overflow_add-result-2 c = elim c.match-columns.branch [
  | in-Characters w ↦ omega (arith, w.width-is, c.requires.column)
  | in-Bytes w ↦ omega (arith, w.width-is, w.len_utf8.ensures.len, c.requires.column)
]
