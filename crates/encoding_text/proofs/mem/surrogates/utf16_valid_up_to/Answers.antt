use Rattle.std.proofs.Common.{◌+◌, [], arith, refl}
use Rattle.encoding_kernels.specs.Neighbors.{PairUp}
use Rattle.encoding_kernels.proofs.PairsLemmas.{paired_joined, paired_clear}
use Rattle.encoding_kernels.proofs.ScanLemmas.{group_part}
use Rattle.encoding_definitions.proofs.SurrogateLemmas.{valid_more_one, valid_more_two, valid_stop}
use Rattle.encoding_text.proofs.mem.surrogates.utf16_valid_up_to.Goals as goal
use Rattle.encoding_text.proofs.mem.surrogates.utf16_valid_up_to.Goals.{then-expected-gt0+else-not-are_paired}
use Rattle.encoding_text.proofs.mem.surrogates.utf16_valid_up_to.Goals.{else-expected-gt0+else-is_after_high_surrogate+else-not-has_no_surrogate}
use Rattle.encoding_text.proofs.mem.surrogates.utf16_valid_up_to.Goals.{then-not-is_high_surrogate-via-then-not-is_high_surrogate}
use Rattle.encoding_text.proofs.mem.surrogates.utf16_valid_up_to.Goals.{then-not-is_high_surrogate-via-else-not-is_high_surrogate+then-at-buffer}
use Rattle.encoding_text.proofs.mem.surrogates.utf16_valid_up_to.Goals.{
  then-not-is_high_surrogate-via-else-not-is_high_surrogate+else-at-buffer+then-not-is_low_surrogate,
}

pub loop-four-preserved : goal.loop-four-preserved
loop-four-preserved c =
    let us = c.args.buffer.now in
    let at = c.loop-four.at in
    let here = c.loop-four.invariant in
    let strides = c.as_chunks.ensures in
    let fours = c.as_chunks-2.ensures in
    let four : PairUp us at (at + 64) = elim c.if-expected-gt0.branch [
      | then-expected-gt0+else-not-are_paired w ↦ w.if-not-are_paired.ensures refl
      | else-expected-gt0+else-is_after_high_surrogate+else-not-has_no_surrogate w ↦
          let part = group_part 16 us strides.front strides.front_len 4 [] fours.front fours.front_len
          c.loop-four-test.true w.as_flattened.ensures.value here.place in
          paired_clear us w.as_flattened.result.now at 64 part.is
          (w.if-not-has_no_surrogate.ensures refl) (λ h. cc ((w.if-is_after_high_surrogate.ensures {u = tt}).1 h))
    ] in
    record { place = omega (arith, here.place); paired = paired_joined us 0 at at (at + 64) here.paired four (omega arith) }

pub loop-at-preserved-then-not-is_surrogate : goal.loop-at-preserved-then-not-is_surrogate
loop-at-preserved-then-not-is_surrogate c = record {
  within = omega arith;
  valid = valid_more_one c.args.buffer.now c.loop-at.at c.loop-at-test.true (omega (arith, c.type_inv.buffer c.loop-at.at)) c.loop-at.invariant.valid
      (λ l h. cc ((c.if-not-is_surrogate.ensures {u = tt}).1 (l, h)));
}

pub returns-then-not-is_high_surrogate : goal.returns-then-not-is_high_surrogate
returns-then-not-is_high_surrogate c =
    let here = (c.if-not-is_surrogate.ensures {u = tt}).0 refl in
    valid_stop c.args.buffer.now c.loop-at.at (omega arith) c.loop-at.invariant.valid (λ _. (
      here.0,
      here.1,
      λ i p. elim c.then-not-is_high_surrogate.branch [
        | then-not-is_high_surrogate-via-then-not-is_high_surrogate w ↦ cc ((w.if-not-is_high_surrogate.ensures {u = tt}).1 (p.0, omega (arith, p.1)))
        | then-not-is_high_surrogate-via-else-not-is_high_surrogate+then-at-buffer w ↦ omega arith
        | then-not-is_high_surrogate-via-else-not-is_high_surrogate+else-at-buffer+then-not-is_low_surrogate w ↦
            cc ((w.if-not-is_low_surrogate.ensures {u = tt}).1 (p.2, omega (arith, p.3)))
      ],
    ))

pub loop-at-preserved : goal.loop-at-preserved
loop-at-preserved c =
    let high = (c.if-not-is_high_surrogate.ensures {u = tt}).0 refl in
    let low = (c.if-not-is_low_surrogate.ensures {u = tt}).0 refl in
    record {
      within = omega arith;
      valid = valid_more_two c.args.buffer.now c.loop-at.at (omega arith) c.loop-at.invariant.valid
          (high.0, omega (arith, high.1), low.0, omega (arith, low.1));
    }
