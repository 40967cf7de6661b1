use Rattle.std.proofs.Common.{◌<◌, length, slice_index, inr, arith, subst, sym}
use Rattle.std.proofs.lemmas.Bool.{both_ways}
use Rattle.std.proofs.lemmas.List.{length-take}
use Rattle.encoding_definitions.specs.Sequence.{IsSecond}
use Rattle.encoding_definitions.proofs.SequenceLemmas.{length-IsIncomplete}
use Rattle.encoding_text.specs.Steps.{GoesOn}
use Rattle.encoding_text.proofs.CallLemmas.{begins_before}
use Rattle.encoding_text.proofs.FirstLemmas.{single, incomplete_none, next_longer, next_rejected, next_whole, several_length, shows_malformed, whole_incomplete}
use Rattle.encoding_text.proofs.utf_8.first.First.by_bytes.Goals as goal
use Rattle.encoding_text.proofs.utf_8.first.First.by_bytes.Goals.{then-known-eq1, else-known-eq1}

pub returns-then-not-begins_several : goal.returns-then-not-begins_several
returns-then-not-begins_several c =
    shows_malformed c.args.bytes.now 1 (omega arith) c.requires.not_empty (λ last. single c.args.bytes.now c.requires.lead last c.requires.not_empty
    (λ o. both_ways _ c.if-not-begins_several.true (c.begins_several.ensures.1 o)))

pub loop-known-init : goal.loop-known-init
loop-known-init c =
    let bytes = c.args.bytes.now in
    let begins = c.begins_several.ensures.0 c.if-not-begins_several.false in
    let long = several_length (slice_index bytes 0) c.sequence_length-length.result begins c.sequence_length-length.ensures in
    record {
      some = omega arith;
      within = c.requires.not_empty;
      at_most = omega (arith, long);
      begun = λ _. begins_before bytes c.requires.not_empty begins;
      whole = λ l. absurd (omega (arith, long, l));
    }

pub returns-then-known-bytes : goal.returns-then-known-bytes
returns-then-known-bytes c =
    let begun = whole_incomplete c.args.bytes.now c.loop-known.known (omega arith) (c.loop-known.invariant.begun (omega arith)) in
    (incomplete_none c.args.bytes.now begun, inr begun)

pub returns-then-not-goes_on : goal.returns-then-not-goes_on
returns-then-not-goes_on c =
    let bytes = c.args.bytes.now in
    let known = c.loop-known.known in
    let had = c.loop-known.invariant in
    let begun = had.begun (omega arith) in
    let inside : known < length bytes = omega (arith, had.within) in
    shows_malformed bytes known (omega (arith, length-IsIncomplete _ begun, had.within, length-take known bytes)) had.within
    (λ last. next_rejected bytes known c.sequence_length-length.result had.some inside begun c.sequence_length-length.ensures last
    (λ g. both_ways _ c.if-not-goes_on.true (elim c.if-known-eq1.branch [
      | then-known-eq1 w ↦ let s = g.0 w.if-known-eq1.true in
          rw w.goes_on-is (w.is_second-goes_on.ensures.1 (subst (λ k. IsSecond (slice_index bytes 0) (slice_index bytes k)) w.if-known-eq1.true s))
      | else-known-eq1 w ↦ rw w.goes_on-is (w.is_continuation-goes_on.ensures.1 (g.1 w.if-known-eq1.false))
    ])))

pub loop-known-preserved : goal.loop-known-preserved
loop-known-preserved c =
    let bytes = c.args.bytes.now in
    let known = c.loop-known.known in
    let n = c.sequence_length-length.result in
    let had = c.loop-known.invariant in
    let begun = had.begun (omega arith) in
    let inside : known < length bytes = omega (arith, had.within) in
    let next = slice_index bytes known in
    let goes_on : GoesOn (slice_index bytes 0) known next = elim c.if-known-eq1.branch [
      | then-known-eq1 w ↦ let s = w.is_second-goes_on.ensures.0 (rw w.goes_on-is at c.if-not-goes_on.false) in
          (λ e. subst (λ k. IsSecond (slice_index bytes 0) (slice_index bytes k)) (sym e) s, λ n. absurd (n w.if-known-eq1.true))
      | else-known-eq1 w ↦ let s = w.is_continuation-goes_on.ensures.0 (rw w.goes_on-is at c.if-not-goes_on.false) in
          (λ e. absurd (w.if-known-eq1.false e), λ _. s)
    ] in
    record {
      some = omega arith;
      within = omega (arith, inside);
      at_most = omega arith;
      begun = λ l. next_longer bytes known n had.some inside begun c.sequence_length-length.ensures goes_on l;
      whole = λ l. (omega (arith, had.some), next_whole bytes known n had.some inside begun c.sequence_length-length.ensures goes_on (omega (arith, l)));
    }

pub returns : goal.returns
returns c =
    let had = c.loop-known.invariant in
    let whole = had.whole (omega arith) in
    (whole.0, had.within, whole.1)
