use Rattle.std.proofs.Common.{◌≡◌, ℕ, ◌+◌, ◌-◌, bit_or, arith}
use Rattle.std.proofs.lemmas.Bool.{eqb-true}
use Rattle.std.proofs.lemmas.Nat.{le_or_l, le_or_r}
use Rattle.encoding_kernels.proofs.PairsLemmas.{paired_joined, pairs_up}
use Rattle.encoding_streams.proofs.utf16_decoder.paired.are_paired.Goals as goal

-- no mask has a bit
zero_l : (a b : ℕ) → bit_or a b ≡ 0 → a ≡ 0
zero_l a b e = omega (arith, e, le_or_l a b)

zero_r : (a b : ℕ) → bit_or a b ≡ 0 → b ≡ 0
zero_r a b e = omega (arith, e, le_or_r a b)

pub returns : goal.returns
returns g c t =
    let us = g.S.CodeUnits.units c.args.src in
    let at = c.args.at in
    let some = c.requires.within.0 in
    let units = c.requires.code_units in
    let all = eqb-true _ _ t in
    let three = zero_l _ _ all in
    let two = zero_l _ _ three in
    let first = pairs_up us (at - 1) _ at (at + 16) (omega (arith, some)) (omega (arith, some)) units (c.faults.ensures.none.0 (zero_l _ _ two)) in
    let second = pairs_up us (at + 16 - 1) _ (at + 16) (at + 32) (omega arith) (omega arith) units (c.faults-2.ensures.none.0 (zero_r _ _ two)) in
    let third = pairs_up us (at + 32 - 1) _ (at + 32) (at + 48) (omega arith) (omega arith) units (c.faults-3.ensures.none.0 (zero_r _ _ three)) in
    let fourth = pairs_up us (at + 48 - 1) _ (at + 48) (at + 64) (omega arith) (omega arith) units (c.faults-4.ensures.none.0 (zero_r _ _ all)) in
    paired_joined us at (at + 48) (at + 48) (at + 64)
    (paired_joined us at (at + 32) (at + 32) (at + 48) (paired_joined us at (at + 16) (at + 16) (at + 32) first second (omega arith)) third (omega arith))
    fourth (omega arith)
