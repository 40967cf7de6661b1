use Rattle.std.proofs.Common.{ℕ, ◌+◌, ◌*◌, ◌<◌, ◌∷◌, ◌∙◌, arith, get_or}
use Rattle.encoding_kernels.proofs.VectorLemmas.{HasLanes_same}
use Rattle.encoding_kernels.proofs.CodeUnitLemmas.{parts, shifted_below, stride_halves}
use Rattle.encoding_kernels.proofs.utf8_to_utf16.strides.units_of_stride.Goals as goal

pub returns : goal.returns
returns g c =
    let src = c.args.src.now in
    let at = c.args.at in
    let small : g.row.N < 4 → (k : ℕ) → k < 16 → (get_or (0 ∷ 0 ∷ 0 ∷ src) (at + k) 0 < 0xF0) × (get_or (0 ∷ 0 ∷ src) (at + k) 0 < 0xF0) =
    λ less k l. shifted_below 0xF0 (at + 16) src (omega arith) (c.requires.short less) (at + k) (omega arith) in
    let lower = c.lower_bytes.ensures (λ k. get_or (0 ∷ 0 ∷ 0 ∷ src) (at + k) 0) _ _ c.requires.two_before c.requires.one_before small in
    let upper = c.upper_bytes.ensures _ _ _ c.requires.three_before c.requires.two_before c.requires.one_before small in
    stride_halves src _ _ at c.requires.within (
      HasLanes_same c.join_bytes.ensures.lanes (λ k l. (λ i. lower.each k (omega arith) i + 0x100 * upper.each k (omega arith) i) ∙ parts _),
      HasLanes_same c.join_bytes.ensures.last (λ k l. (λ i. lower.each (8 + k) (omega arith) i + 0x100 * upper.each (8 + k) (omega arith) i) ∙ parts _),
    )
