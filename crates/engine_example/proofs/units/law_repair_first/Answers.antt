use Rattle.std.proofs.Common.{sym, map}
use Rattle.encoding_text.specs.Utf16.{Character16}
use Rattle.engine_example.proofs.RoundTripLemmas.{written_same}
use Rattle.engine_example.proofs.units.law_repair_first.Goals as goal

pub returns : goal.returns
returns c = λ units repaired out are.
    let (cs, valid) = c.law_surrogate_repair.ensures.valid units repaired are in
    let counts = c.law_surrogate_repair.ensures.counts units repaired in (
      (λ w. written_same units repaired out (map Character16 cs) valid w (sym (counts w.parts (map Character16 cs) are w.are_parts valid))),
      (λ w. written_same repaired units out are.parts are.are_parts w (counts are.parts w.parts are are.are_parts w.are_parts)),
    )
