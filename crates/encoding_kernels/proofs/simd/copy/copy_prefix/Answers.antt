use Rattle.std.proofs.Common.{◌≡◌, ℕ, ◌/◌, ◌-◌, ◌<◌, ◌≤◌, List, [], ◌∷◌, ◌++◌, length, drop, slice_index, slice_set, refl, arith}
use Rattle.encoding_kernels.proofs.simd.copy.copy_prefix.Goals as goal

copied : (src dst : List ℕ) → 0 < length src → length src ≤ 3 → length src ≤ length dst
    → slice_set (slice_set (slice_set dst 0 (slice_index src 0)) (length src / 2) (slice_index src (length src / 2))) (length src - 1)
    (slice_index src (length src - 1)) ≡ src ++ drop (length src) dst
copied [] dst some few room = absurd (omega (arith, some))
copied (a ∷ []) [] some few room = absurd (omega (arith, room))
copied (a ∷ []) (x ∷ dst) some few room = refl
copied (a ∷ b ∷ []) [] some few room = absurd (omega (arith, room))
copied (a ∷ b ∷ []) (x ∷ []) some few room = absurd (omega (arith, room))
copied (a ∷ b ∷ []) (x ∷ y ∷ dst) some few room = refl
copied (a ∷ b ∷ c ∷ []) [] some few room = absurd (omega (arith, room))
copied (a ∷ b ∷ c ∷ []) (x ∷ []) some few room = absurd (omega (arith, room))
copied (a ∷ b ∷ c ∷ []) (x ∷ y ∷ []) some few room = absurd (omega (arith, room))
copied (a ∷ b ∷ c ∷ []) (x ∷ y ∷ z ∷ dst) some few room = refl
copied (a ∷ b ∷ c ∷ d ∷ src) dst some few room = absurd (omega (arith, few))

pub returns-in-1-to-max : goal.returns-in-1-to-max
returns-in-1-to-max c = record {
  count = refl;
  fits = c.requires;
  placed = copied c.args.src.now c.args.dst.now (omega arith) (omega arith) c.requires;
}
