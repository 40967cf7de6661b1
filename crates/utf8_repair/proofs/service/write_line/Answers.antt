use Rattle.std.proofs.Common.{arith, length, take-add, ap}
use Rattle.std.proofs.lemmas.List.{take_rest, length-drop}
use Rattle.std.proofs.KnownBytes.{Appends-trans}
use Rattle.utf8_repair.proofs.service.write_line.Goals as goal

pub loop-at-preserved : goal.loop-at-preserved
loop-at-preserved g c =
    let at = c.loop-at.at in
    let text = c.args.text.now in
    let more = rw take_rest at c.in-Ok.ensures.bytes in
    record {
      within = omega (arith, c.in-Ok.ensures.bound, ap length (take_rest text at), length-drop at text);
      wrote = rw take-add (Appends-trans _ _ _ _ _ c.loop-at.invariant.wrote more);
    }
