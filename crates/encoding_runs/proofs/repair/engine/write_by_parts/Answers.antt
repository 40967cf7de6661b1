use Rattle.std.proofs.Common.{arith, length, take-add, ap, ◌∙◌}
use Rattle.std.proofs.lemmas.List.{take_rest, length-drop}
use Rattle.std.proofs.KnownBytes.{Appends-trans}
use Rattle.encoding_runs.proofs.repair.engine.write_by_parts.Goals as goal

pub loop-at-preserved : goal.loop-at-preserved
loop-at-preserved g c =
    let at = c.loop-at.at in
    let bytes = c.args.bytes.now in
    let e = c.in-Some.ensures in
    let more = rw take_rest at e.bytes in
    record {
      within = omega (arith, e.bound, ap length (take_rest bytes at), length-drop at bytes);
      wrote = rw take-add (Appends-trans _ _ _ _ _ c.loop-at.invariant.wrote more);
      failed = e.failed ∙ c.loop-at.invariant.failed;
      keeps = g.met.W.Sink.keeps_on _ _ _ c.loop-at.invariant.keeps e.keeps;
    }
