use Rattle.std.proofs.Common.{◌+◌, [], arith, refl}
use Rattle.std.proofs.KnownBytes.{Appends-nil}
use Rattle.std.proofs.lemmas.List.{length-append, length-drop, take_rest}
use Rattle.encoding_runs.proofs.SearchLemmas.{step_finds}
use Rattle.utf8_check_library.proofs.LineLemmas.{on_err}
use Rattle.utf8_check_library.proofs.CheckLemmas.{block_ended, block_enough, block_failed, block_place, block_step, checks_nothing, count_fits, not_ended}
use Rattle.utf8_check_library.proofs.CheckLemmas.{piece_fits, reports_few}
use Rattle.utf8_check_library.proofs.input.check_block.Goals as goal

pub loop-at-init : goal.loop-at-init
loop-at-init g c = record {
  checked = ([], Appends-nil (g.W.Write.contents c.args.writer.now), checks_nothing _ _ _ _ _ _);
  offset = omega arith;
  within = omega arith;
  none = λ _. refl;
}

pub returns-in-InputEmpty-clause-ok : goal.returns-in-InputEmpty-clause-ok
returns-in-InputEmpty-clause-ok g c =
    let step = rw (take_rest c.args.src.now c.loop-at.at, c.in-InputEmpty.is) at c.next_piece-read.ensures.step in
    let before = c.loop-at.invariant in
    block_ended _ _ _ _ _ _ _ _ _ _ _ _ _ _ before.checked _ _ _ c.next_piece-read.ensures.offset step before.within

pub returns-in-InputEmpty-clause-few : goal.returns-in-InputEmpty-clause-few
returns-in-InputEmpty-clause-few g c = λ quiet. omega (arith, c.loop-at.invariant.none quiet)

pub report-requires : goal.report-requires
report-requires g c =
    let step = rw take_rest at c.next_piece-read.ensures.step in
    let before = c.loop-at.invariant in
    let fits = piece_fits _ _ _ _ _ _ _ step in
    let read = (step_finds _ _ _ _ _ _ _ step).yielded.within in
    let size = length-drop c.loop-at.at c.args.src.now in
    record {
      line = λ list.
          let place = block_place _ _ _ _ _ _ _ _ _ _ _ before.checked.2 list in
          omega (arith, fits, read, size, before.offset, before.within, place.0, c.requires.line list, c.requires.offset);
      column = λ list.
          let place = block_place _ _ _ _ _ _ _ _ _ _ _ before.checked.2 list in
          omega (arith, fits, read, size, before.offset, before.within, place.1, c.requires.column list, c.requires.offset);
    }

pub returns-in_err-count-clause-err : goal.returns-in_err-count-clause-err
returns-in_err-count-clause-err g c =
    let step = rw take_rest at c.next_piece-read.ensures.step in
    let (text, next, prefix, reports) = c.in_err-count.ensures.err in
    on_err c.from_residual.result
    (block_failed _ _ _ _ _ _ _ c.args.src.now _ c.loop-at.at _ _ _ _ c.loop-at.invariant.checked _ text 1 _ _ _ next _
    c.next_piece-read.ensures.offset step prefix reports)

pub overflow_add-count : goal.overflow_add-count
overflow_add-count g c =
    let step = rw take_rest at c.next_piece-read.ensures.step in
    let (text, appended, reports) = c.in_ok-count.ensures.ok in
    let more =
    block_step _ _ _ _ _ _ _ c.args.src.now _ c.loop-at.at _ _ _ _ c.loop-at.invariant.checked _ text _ _ _ _ _ _ c.next_piece-read.ensures.offset
    step appended reports in
    let fits = count_fits (c.args.name.now, c.args.columns) c.args.mode _ _ _ c.args.last _ _ _ _ _ more.2 in
    omega (arith, fits.0, length-append c.args.search.now.0 c.args.src.now, c.requires.offset)

pub loop-at-preserved : goal.loop-at-preserved
loop-at-preserved g c =
    let step = rw take_rest at c.next_piece-read.ensures.step in
    let (text, appended, reports) = c.in_ok-count.ensures.ok in
    let before = c.loop-at.invariant in
    record {
      checked = block_step _ _ _ _ _ _ _ _ _ _ _ _ _ _ before.checked _ text _ _ _ _ _ _ c.next_piece-read.ensures.offset step appended reports;
      offset = omega (arith, c.next_piece-read.ensures.offset, before.offset);
      within = omega (arith, (step_finds _ _ _ _ _ _ _ step).yielded.within, length-drop c.loop-at.at c.args.src.now, before.within);
      none = not_ended _ _ _ c.ends_after.ensures.1 c.if-ends_after.false;
    }

pub returns-then-ends_after-clause-ok : goal.returns-then-ends_after-clause-ok
returns-then-ends_after-clause-ok g c =
    let step = rw take_rest at c.next_piece-read.ensures.step in
    let (text, appended, reports) = c.in_ok-count.ensures.ok in
    let more =
    block_step _ _ _ _ _ _ _ c.args.src.now _ c.loop-at.at _ _ _ _ c.loop-at.invariant.checked _ text _ _ _ _ _ _ c.next_piece-read.ensures.offset
    step appended reports in
    block_enough _ _ _ _ _ _ _ c.args.src.now _ (c.loop-at.at + c.next_piece-read.result.1) _ _ _ _ more (c.ends_after.ensures.0 c.if-ends_after.true)

pub returns-then-ends_after-clause-few : goal.returns-then-ends_after-clause-few
returns-then-ends_after-clause-few g c =
    let (text, appended, reports) = c.in_ok-count.ensures.ok in
    λ quiet. omega (arith, c.loop-at.invariant.none quiet, reports_few _ _ _ _ _ _ _ reports)
