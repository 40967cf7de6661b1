use Rattle.std.proofs.Common.{◌≡◌, length, true, true≢false, refl, sym, subst, arith}
use Rattle.std.proofs.lemmas.List.{length-drop, take_rest}
use Rattle.encoding_definitions.proofs.PrefixesLemmas.{WritesPrefix-length, written_is}
use Rattle.encoding_c.proofs.SearchStateLemmas.{Stores, stored_more, stored_none, stored_ended}
use Rattle.encoding_c.proofs.search.search_into.Goals as goal

pub returns-then-block-clause-block : goal.returns-then-block-clause-block
returns-then-block-clause-block c =
    let here = c.loop-count.invariant in
    let call = c.search_block-block in
    let (out, w, b) = rw (take_rest c.args.src.now c.loop-count.read) at call.ensures.block in
    let done = stored_more _ _ _ _ _ _ _ _ _ _ here.done here.offset _ _ _ _ out _ _ b
    (subst (Stores c.loop-count.found c.loop-count.count c.store-count.new.found c.store-count.result) (sym (written_is _ _ _ _ w))
    c.store-count.ensures.stored) in
    let all = b.finished.0 c.if-block.true in
    stored_ended _ _ _ _ _ _ _ _ _ call.new.search.1 done (omega (arith, call.ensures.offset, here.offset)) true here.pending
    ((λ _. (omega (arith, all.0, length-drop c.loop-count.read c.args.src.now, here.read_within), all.1)), λ _. refl)
    (λ e. absurd (true≢false e))

pub loop-count-preserved : goal.loop-count-preserved
loop-count-preserved c =
    let here = c.loop-count.invariant in
    let call = c.search_block-block in
    let (out, w, b) = rw (take_rest c.args.src.now c.loop-count.read) at call.ensures.block in
    let done = stored_more _ _ _ _ _ _ _ _ _ _ here.done here.offset _ _ _ _ out _ _ b
    (subst (Stores c.loop-count.found c.loop-count.count c.store-count.new.found c.store-count.result) (sym (written_is _ _ _ _ w))
    c.store-count.ensures.stored) in
    record {
      pending = here.pending;
      done = done;
      offset = omega (arith, call.ensures.offset, here.offset);
      within = omega (arith, done.1.count, done.1.fits, WritesPrefix-length _ _ _ _ done.1);
      read_within = omega (arith, b.yielded.within, length-drop c.loop-count.read c.args.src.now, here.read_within);
    }

pub returns-clause-block : goal.returns-clause-block
returns-clause-block c =
    let here = c.loop-count.invariant in
    let call = c.search_block-block-2 in
    let (out, w, b) = rw (take_rest c.args.src.now c.loop-count.read) at call.ensures.block in
    let done = stored_none _ _ _ _ _ _ _ _ _ _ here.done here.offset _ _ out _ _ b (omega (arith, b.fits)) in
    let full : c.loop-count.count ≡ length c.loop-count.found = omega (arith, here.within, c.loop-count-test.false) in
    stored_ended _ _ _ _ _ _ _ _ _ call.new.search.1 done (omega (arith, call.ensures.offset, here.offset)) call.result.finished here.pending (
      (λ e. let all = b.finished.0 e in (omega (arith, all.0, length-drop c.loop-count.read c.args.src.now, here.read_within), all.1)),
      λ all. b.finished.1 (omega (arith, all.0, length-drop c.loop-count.read c.args.src.now), all.1),
    )
    (λ _. omega (arith, full, WritesPrefix-length _ _ _ _ here.done.1))
