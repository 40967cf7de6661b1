use Rattle.std.proofs.Common.{◌+◌, arith, length, take-add, ap}
use Rattle.std.proofs.lemmas.List.{take_rest, length-drop}
use Rattle.std.proofs.KnownBytes.{Appends-trans}
use Rattle.utf8_check_library.proofs.LineLemmas.{on_err, prefix_by_length, prefix_taken}
use Rattle.utf8_check_library.proofs.line.write_bytes.Goals as goal

pub loop-at-preserved : goal.loop-at-preserved
loop-at-preserved g c =
    let at = c.loop-at.at in
    let bytes = c.args.bytes.now in
    let more = rw take_rest at c.in_ok-count.ensures.ok in
    record {
      within = omega (arith, c.in_ok-count.ensures.bound, ap length (take_rest bytes at), length-drop at bytes);
      wrote = rw take-add (Appends-trans _ _ _ _ _ c.loop-at.invariant.wrote more);
    }

pub returns-in_err-count-clause-err : goal.returns-in_err-count-clause-err
returns-in_err-count-clause-err g c =
    on_err c.from_residual.result
    (prefix_taken c.loop-at.at c.args.bytes.now (g.W.Write.contents c.args.writer.now) (g.W.Write.contents c.loop-at.writer)
    (g.W.Write.contents c.write_some.new.writer) c.loop-at.invariant.wrote c.in_err-count.ensures.err)

pub returns-then-count-eq0-clause-err : goal.returns-then-count-eq0-clause-err
returns-then-count-eq0-clause-err g c =
    let more = rw take_rest at c.in_ok-count.ensures.ok in
    prefix_by_length (c.loop-at.at + c.in_ok-count.count) c.args.bytes.now (g.W.Write.contents c.args.writer.now) (g.W.Write.contents c.write_some.new.writer)
    (rw take-add (Appends-trans _ _ _ _ _ c.loop-at.invariant.wrote more))
