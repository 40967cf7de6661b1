use Rattle.std.proofs.Common.{◌+◌, ◌-◌, inl, inr, arith}
use Rattle.std.proofs.lemmas.Bool.{cases_lt}
use Rattle.encoding_kernels.proofs.PairsLemmas.{pairs_up, pairs_first}
use Rattle.encoding_kernels.proofs.utf16.validate.paired_run.Goals as goal

pub returns-then-at-gt0 : goal.returns-then-at-gt0
returns-then-at-gt0 c =
    let at = c.args.at in
    let run = c.run_length.result in
    let units = c.type_inv.units in
    let paired = pairs_up c.args.units.now (at - 1) (at - 1 + run) at (at + run) (omega arith) (omega arith) (λ k. (units k).fits) c.run_length.ensures.pass in
    (c.run_length.ensures.within, paired)

pub returns-then-first-lt-HALF_STRIDE : goal.returns-then-first-lt-HALF_STRIDE
returns-then-first-lt-HALF_STRIDE c =
    let first = c.run_length-first in
    let not_low = c.if-is_low_surrogate.ensures {u = tt} in
    let paired = pairs_first c.args.units.now c.args.at (first.result + 1) (omega arith) (omega arith) (λ h. cc (not_low.1 h)) (λ k. (c.type_inv.units k).fits)
    (λ k from to. first.ensures.pass k from (omega arith)) in
    (omega (arith, first.ensures.within), paired)

pub returns : goal.returns
returns c =
    let first = c.run_length-first in
    let second = c.run_length-2 in
    let not_low = c.if-is_low_surrogate.ensures {u = tt} in
    let paired = pairs_first c.args.units.now c.args.at (8 + second.result) (omega arith) (omega arith) (λ h. cc (not_low.1 h)) (λ k. (c.type_inv.units k).fits)
    (λ k from to. elim (cases_lt k 8) [
      | inl l ↦ first.ensures.pass k from (omega (arith, c.if-first-lt-HALF_STRIDE.false))
      | inr l ↦ second.ensures.pass k (omega arith) (omega arith)
    ]) in
    (omega (arith, second.ensures.within), paired)
