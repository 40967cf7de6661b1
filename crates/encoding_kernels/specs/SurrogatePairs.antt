-- Steps of a conversion to UTF-8 by vectors: code units below U+0800 and surrogate pairs, with two bytes for each half.
use Rattle.std.specs.Prelude.{◌≡◌, ℕ, zero, suc, ◌+◌, ◌-◌, ◌*◌, ◌/◌, ◌%◌, ◌<◌, ◌≤◌, ◌⊎◌, ◌↔◌, List, []}
use Rattle.std.specs.Prelude.{◌∷◌, ◌++◌, if◌then◌else◌, nat_lt, nat_le, encode_utf8, slice_index}
use Rattle.encoding_definitions.specs.Utf16.{IsHighSurrogate, IsLowSurrogate}

-- the code unit is below U+0800, or a surrogate
abbrev pub IsTwoByteOrHalf : ℕ → Type 0
IsTwoByteOrHalf u = (u < 0x800) ⊎ ((0xD800 ≤ u) × (u ≤ 0xDFFF))

-- each of the n code units from `at` on is such a unit, and is a low surrogate if and only if it follows a high one
pub record AreTwoByteOrPaired (us : List ℕ) (at n : ℕ) : Type 0 where
  pub each : (k : ℕ) → at ≤ k → k < at + n → IsTwoByteOrHalf (slice_index us k)
  pub whole : 0 < n → IsLowSurrogate (slice_index us at) → ⊥
  pub paired : (k : ℕ) → at ≤ k → k + 1 < at + n → IsHighSurrogate (slice_index us k) ↔ IsLowSurrogate (slice_index us (k + 1))

-- the bytes of the code unit u after p: of a pair the high surrogate has the first two, and the low one the others
abbrev pub half_bytes : ℕ → ℕ → List ℕ
half_bytes p u = if nat_lt u 0x800 then encode_utf8 u
    else (if nat_lt u 0xDC00 then ((u + 64) / 256 + 24) ∷ ((u + 64) / 4 % 64 + 128) ∷ []
    else (128 + p % 4 * 16 + u / 64 % 16) ∷ (128 + u % 64) ∷ [])

-- these bytes are both, or the first if the code unit is ASCII
abbrev pub EncodesHalf : ℕ → ℕ → ℕ → ℕ → Type 0
EncodesHalf p u x y = (if nat_le 0x80 u then x ∷ y ∷ [] else x ∷ []) ≡ half_bytes p u

-- the values of f at the n indices from `at` on, concatenated
unfoldable pub concatenated : (ℕ → List ℕ) → ℕ → ℕ → List ℕ
concatenated f at zero = []
concatenated f at (suc n) = f at ++ concatenated f (at + 1) n

-- the bytes of the n code units from `at` on
abbrev pub halves_from : List ℕ → ℕ → ℕ → List ℕ
halves_from us at n = concatenated (λ k. half_bytes (slice_index us (k - 1)) (slice_index us k)) at n
