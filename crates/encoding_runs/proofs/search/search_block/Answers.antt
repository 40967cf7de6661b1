use Rattle.std.proofs.Common.{◌≡◌, ◌+◌, length, ap, refl, subst, true, true≢false, arith, rules}
use Rattle.std.proofs.lemmas.Bool.Decides.{nat_tests}
use Rattle.std.proofs.lemmas.List.{length-drop, take_rest}
use Rattle.encoding_definitions.specs.Sequence.{IsPending}
use Rattle.encoding_definitions.proofs.PrefixesLemmas.{WritesPrefix-length}
use Rattle.encoding_runs.specs.declared.search.SearchPiece.TheVariants.{InputEmpty}
use Rattle.encoding_runs.proofs.SearchLemmas.{done_passed, done_stored, none_found, search_ended}
use Rattle.encoding_runs.proofs.search.search_block.Goals as goal

pub loop-block-init : goal.loop-block-init
loop-block-init c =
    let pending : IsPending c.args.search.now.0 = subst IsPending (ap (λ s. s.0) c.search.view_is) c.search.invariant.1 in
    search rules

pub returns-in-InputEmpty-clause-block : goal.returns-in-InputEmpty-clause-block
returns-in-InputEmpty-clause-block c =
    let step = rw (take_rest c.args.src.now c.loop-block.block.read, c.in-InputEmpty.is) at c.next_piece-read.ensures.step in
    let before = c.loop-block.invariant in
    let done = done_passed _ _ _ _ _ _ _ _ _ _ before.done before.offset InputEmpty _ _ step refl in
    let all : c.loop-block.block.read + c.next_piece-read.result.1 ≡ length c.args.src.now =
    omega (arith, step.answer.0, length-drop c.loop-block.block.read c.args.src.now, before.done.2.yielded.within) in
    search_ended _ _ _ _ _ _ _ _ _ c.next_piece-read.new.self.1 done (omega (arith, c.next_piece-read.ensures.offset, before.offset)) true
    (subst IsPending (ap (λ s. s.0) c.search.view_is) c.search.invariant.1)
    ((λ _. (all, step.answer.2)), λ _. refl) (λ e. absurd (true≢false e))

pub loop-block-preserved-in-Malformed : goal.loop-block-preserved-in-Malformed
loop-block-preserved-in-Malformed c =
    let step = rw (take_rest c.args.src.now c.loop-block.block.read, c.in-Malformed.is) at c.next_piece-read.ensures.step in
    let before = c.loop-block.invariant in
    let done = done_stored _ _ _ _ _ _ _ _ _ _ before.done before.offset c.in-Malformed.malformation c.in-Malformed.field-1 _ _ step
    (grind (arith, nat_tests, c.if-block-found.false, before.within)) in
    record {
      done = done;
      offset = omega (arith, c.next_piece-read.ensures.offset, before.offset);
      within = omega (arith, done.1.fits, WritesPrefix-length _ _ _ _ done.1);
      unfinished = before.unfinished;
    }

pub loop-block-preserved : goal.loop-block-preserved
loop-block-preserved c =
    let step = rw take_rest at c.next_piece-read.ensures.step in
    let before = c.loop-block.invariant in
    record {
      done = done_passed _ _ _ _ _ _ _ _ _ _ before.done before.offset _ _ _ step (none_found _ c.in_default.not-Malformed);
      offset = omega (arith, c.next_piece-read.ensures.offset, before.offset);
      within = before.within;
      unfinished = before.unfinished;
    }
