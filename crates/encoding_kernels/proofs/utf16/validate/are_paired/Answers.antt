use Rattle.std.proofs.Common.{◌+◌, ◌-◌, inl, inr, arith}
use Rattle.std.proofs.lemmas.Bool.{cases_lt}
use Rattle.encoding_kernels.proofs.MaskLemmas.{and_both, none_marked}
use Rattle.encoding_kernels.proofs.PairsLemmas.{pairs_up, pairs_first}
use Rattle.encoding_kernels.proofs.utf16.validate.are_paired.Goals as goal

pub returns-then-at-gt0 : goal.returns-then-at-gt0
returns-then-at-gt0 g c t =
    let at = c.args.at in
    let n = g.row.N in
    pairs_up c.args.units.now (at - 1) (at - 1 + n) at (at + n) (omega arith) (omega arith) (λ k. (c.type_inv.units k).fits)
    ((none_marked c.failing.ensures).0 t)

pub returns : goal.returns
returns g c t =
    let half = c.requires.half in
    let halves = and_both _ _ t in
    let not_low = c.if-is_low_surrogate.ensures {u = tt} in
    pairs_first c.args.units.now c.args.at g.row.N (omega arith) (omega arith) (λ h. cc (not_low.1 h)) (λ k. (c.type_inv.units k).fits)
    (λ k from to. elim (cases_lt k g.row.H) [
      | inl l ↦ (none_marked c.failing-2.ensures).0 halves.0 k from (omega arith)
      | inr l ↦ (none_marked c.failing-3.ensures).0 halves.1 k (omega arith) (omega (arith, half))
    ])
