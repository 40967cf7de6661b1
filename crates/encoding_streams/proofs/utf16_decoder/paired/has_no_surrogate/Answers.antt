use Rattle.std.proofs.Common.{◌≡◌, ℕ, List, ◌+◌, ◌-◌, ◌%◌, ◌^◌, ◌<◌, ◌≤◌, ◌∙◌, inl, inr, w16, ltb, take, drop, sym, ap, get_or, arith}
use Rattle.std.proofs.lemmas.Bool.{cases_lt}
use Rattle.std.proofs.lemmas.List.{length-drop, length-take, length-take-le, get_or-take, get_or-drop, get_or_past}
use Rattle.encoding_definitions.specs.Utf16.{AreCodeUnits}
use Rattle.encoding_kernels.proofs.VectorLemmas.{HasLanes_loaded, HasLanes_same, HasLanes-splat, HasLanes-zip2}
use Rattle.encoding_kernels.proofs.MaskLemmas.{tests_of, chosen_by, none_passes}
use Rattle.encoding_kernels.proofs.PairsLemmas.{none_in_block}
use Rattle.encoding_streams.proofs.utf16_decoder.paired.has_no_surrogate.Goals as goal

-- a code unit of a block
in_block : (us : List ℕ) (at k : ℕ) → k < 64 → get_or (take 64 (drop at us)) k 0 ≡ get_or us (at + k) 0
in_block us at k l = get_or-take 64 (drop at us) k 0 l ∙ get_or-drop at us k 0

block_units : (us : List ℕ) (at : ℕ) → AreCodeUnits us → (k : ℕ) → get_or (take 64 (drop at us)) k 0 < 2 ^ 16
block_units us at units k = elim (cases_lt k 64) [
  | inl l ↦ omega (arith, in_block us at k l, units (at + k))
  | inr l ↦ omega (arith, get_or_past (take 64 (drop at us)) k 0 (omega (arith, l, length-take 64 (drop at us))))
]

pub returns : goal.returns
returns g c t =
    let us = g.S.CodeUnits.units c.args.src in
    let at = c.args.at in
    let block = take 64 (drop at us) in
    let loaded = λ (n : ℕ) (l : n ≤ 48) (lanes : List ℕ) (e : lanes ≡ take 16 (drop (at + n) us)).
    HasLanes-zip2 (λ a b. (a + (2 ^ 16 - b)) % 2 ^ 16)
    (HasLanes_same (HasLanes_loaded (at + n) 16 us lanes (omega (arith, l, c.requires.within.0)) e)
    (λ k m. ap (λ i. get_or us i 0) {x = at + n + k} {y = at + (n + k)} (omega arith) ∙ sym (in_block us at (n + k) (omega (arith, l, m)))))
    (HasLanes-splat 16 0xD800) in
    let first = loaded 0 (omega arith) _ (c.sixteen.ensures ∙ ap (λ i. take 16 (drop i us)) {x = at} {y = at + 0} (omega arith)) in
    let second = loaded 16 (omega arith) _ c.sixteen-2.ensures in
    let third = loaded 32 (omega arith) _ c.sixteen-3.ensures in
    let fourth = loaded 48 (omega arith) _ c.sixteen-4.ensures in
    let lower = chosen_by (tests_of w16 ltb first second) first second in
    let upper = chosen_by (tests_of w16 ltb third fourth) third fourth in
    let lowest = chosen_by (tests_of w16 ltb lower upper) lower upper in
    none_in_block block (length-take-le 64 (drop at us) (omega (arith, length-drop at us, c.requires.within.0)))
    (block_units us at c.requires.code_units)
    ((none_passes (tests_of w16 ltb lowest (HasLanes-splat 16 0x800)) (omega arith)).0 t)
