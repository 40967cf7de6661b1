use Rattle.std.proofs.Common.{◌≡◌, ◌<◌, ℕ, List, [], arith, false, take, refl, true, IfErr}
use Rattle.std.proofs.KnownBytes.{Appends-nil, Consumes-nil, Keeps-refl}
use Rattle.std.proofs.lemmas.Bool.Decides.{nat_tests}
use Rattle.std.proofs.lemmas.List.{length-take}
use Rattle.utf8_check_library.proofs.CheckLemmas.{checks_nothing, flush_failed, input_count, input_ended, input_enough, input_grows, input_length, input_next}
use Rattle.utf8_check_library.proofs.CheckLemmas.{input_place, input_stopped, not_ended, write_failed}
use Rattle.utf8_check_library.proofs.input.check.Goals as goal

pub loop-columns-init : goal.loop-columns-init
loop-columns-init g c =
    rw c.new-search.ensures (record {
      checked = (
        [],
        [],
        Consumes-nil (g.R.Read.remaining c.args.reader.now),
        Appends-nil
            (g.W.Write.contents c.args.writer.now),
        checks_nothing (c.args.name.now, c.args.columns) c.args.mode (1, 1) 0 [] false,
      );
      none = λ _. refl;
    })

pub check_block-requires-clause-line : goal.check_block-requires-clause-line
check_block-requires-clause-line g c = λ list. (input_place _ _ _ _ _ _ _ _ _ _ c.loop-columns.invariant.checked list).0

pub check_block-requires-clause-column : goal.check_block-requires-clause-column
check_block-requires-clause-column g c = λ list. (input_place _ _ _ _ _ _ _ _ _ _ c.loop-columns.invariant.checked list).1

pub returns-in-Err-check_block-clause-err : goal.returns-in-Err-check_block-clause-err
returns-in-Err-check_block-clause-err g c =
    let block : List ℕ = take c.in-Ok.read c.read_block.new.buffer in
    let (text, count, rest, next, end, prefix, done) = c.in-Err-check_block.ensures.err in
    write_failed _ _ _ _ _ _ _ _ _ _ c.loop-columns.invariant.checked block _ _ _ text count rest next end c.in-Ok.ensures.ok
    (λ is_last. c.in-Ok.ensures.end (grind (arith, nat_tests, is_last)) (omega (arith, c.read_block.auto.buffer)))
    prefix done

pub returns-in-Err-flush-clause-err : goal.returns-in-Err-flush-clause-err
returns-in-Err-flush-clause-err g c =
    let block : List ℕ = take c.in-Ok.read c.read_block.new.buffer in
    flush_failed _ _ _ _ _ _ _ _ _ _ c.loop-columns.invariant.checked block _ _ _ _ _ _ _ c.in-Ok.ensures.ok c.in-Ok-check_block.ensures.ok _
    (grind (arith, nat_tests, c.if-last.false)) c.in-Err-flush.ensures.bytes

pub returns-clause-err : goal.returns-clause-err
returns-clause-err g c =
    let before = c.loop-columns.invariant in (
      before.checked.0,
      omega (arith, input_length _ _ _ _ _ _ _ _ _ _ before.checked, c.offset.ensures, c.loop-columns-test.false),
      input_stopped _ _ _ _ _ _ _ _ _ _ before.checked _ (Keeps-refl _) c.in_neutral_state-neutral-2.ensures.pending before.none,
    )

pub overflow_add-total : goal.overflow_add-total
overflow_add-total g c =
    let block : List ℕ = take c.in-Ok.read c.read_block.new.buffer in
    let few = input_count _ _ _ _ _ _ _ _ _ _ c.loop-columns.invariant.checked block _ _ _ _ _ _ _ c.in-Ok.ensures.ok c.in-Ok-check_block.ensures.ok in
    omega (
      arith,
      few,
      length-take c.in-Ok.read c.read_block.new.buffer,
      c.in-Ok.ensures.bound,
      c.read_block.auto.buffer,
      c.offset.ensures,
      c.loop-columns-test.true,
    )

pub returns-then-last-clause-ok : goal.returns-then-last-clause-ok
returns-then-last-clause-ok g c =
    let block : List ℕ = take c.in-Ok.read c.read_block.new.buffer in
    let before = c.loop-columns.invariant in
    let none : c.in-Ok.read ≡ 0 = grind (arith, nat_tests, c.if-last.true) in
    input_ended _ _ _ _ _ _ _ _ _ _ before.checked block _ _ _ _ _ _ _ c.in-Ok.ensures.ok c.in-Ok-check_block.ensures.ok
    (grind (arith, nat_tests, c.if-last.true))
    (c.in-Ok.ensures.end none (omega (arith, c.read_block.auto.buffer))) before.none c.in-Ok-check_block.ensures.few

pub returns-then-ends_after-clause-ok : goal.returns-then-ends_after-clause-ok
returns-then-ends_after-clause-ok g c =
    let block : List ℕ = take c.in-Ok.read c.read_block.new.buffer in
    let before = c.loop-columns.invariant in
    input_enough _ _ _ _ _ _ _ _ _ _ before.checked block _ _ _ _ _ _ _ c.in-Ok.ensures.ok c.in-Ok-check_block.ensures.ok
    (grind (arith, nat_tests, c.if-last.false))
    (c.ends_after.ensures.0 c.if-ends_after.true) before.none c.in-Ok-check_block.ensures.few

pub loop-columns-smaller : goal.loop-columns-smaller
loop-columns-smaller g c =
    let block : List ℕ = take c.in-Ok.read c.read_block.new.buffer in
    let none = not_ended _ _ _ c.ends_after.ensures.1 c.if-ends_after.false in
    let grows = input_grows _ _ _ _ _ _ _ _ _ _ c.loop-columns.invariant.checked block _ _ _ _ _ _ _ c.in-Ok.ensures.ok c.in-Ok-check_block.ensures.ok none in
    let some : 0 < c.in-Ok.read = grind (arith, nat_tests, c.if-last.false) in
    omega (arith, grows, some, length-take c.in-Ok.read c.read_block.new.buffer, c.in-Ok.ensures.bound, c.offset.ensures, c.loop-columns-test.true)

pub loop-columns-preserved : goal.loop-columns-preserved
loop-columns-preserved g c =
    let block : List ℕ = take c.in-Ok.read c.read_block.new.buffer in
    let before = c.loop-columns.invariant in
    let none = not_ended _ _ _ c.ends_after.ensures.1 c.if-ends_after.false in
    record {
      checked =
          input_next _ _ _ _ _ _ _ _ _ _ before.checked block _ _ _ _ _ _ _ c.in-Ok.ensures.ok c.in-Ok-check_block.ensures.ok _
          (grind (arith, nat_tests, c.if-last.false)) none c.flush.ensures.bytes;
      none = λ quiet. omega (arith, before.none quiet, none quiet);
    }
