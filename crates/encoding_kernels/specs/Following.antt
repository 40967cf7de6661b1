-- Well-formed UTF-8 as a rule on each byte and the three before it, with zeros before the first.
use Rattle.std.specs.Prelude.{◌≡◌, ℕ, ◌<◌, ◌≤◌, ◌⊎◌, List, ◌∷◌, slice_index}
use Rattle.encoding_definitions.specs.Sequence.{IsContinuation, IsSecond}

-- b may follow x, y and a, in this order
pub record IsValidAfter (x y a b : ℕ) : Type 0 where
  pub second : 0xC0 ≤ a → IsSecond a b
  pub third : 0xE0 ≤ y → IsContinuation b
  pub fourth : 0xF0 ≤ x → IsContinuation b
  pub first : x < 0xF0 → y < 0xE0 → a < 0xC0 → (b < 0x80) ⊎ (0xC0 ≤ b)

-- the byte at index i may follow the three before it
abbrev pub IsValidAt : List ℕ → ℕ → Type 0
IsValidAt bs i = IsValidAfter (slice_index (0 ∷ 0 ∷ 0 ∷ bs) i) (slice_index (0 ∷ 0 ∷ bs) i) (slice_index (0 ∷ bs) i) (slice_index bs i)

-- the same for each byte before index n
pub record ValidUpTo (bs : List ℕ) (n : ℕ) : Type 0 where
  pub each : (i : ℕ) → i < n → IsValidAt bs i

-- no character is cut at index i
abbrev pub IsClosedAt : List ℕ → ℕ → Type 0
IsClosedAt bs i = (slice_index (0 ∷ 0 ∷ 0 ∷ bs) i < 0xF0) × (slice_index (0 ∷ 0 ∷ bs) i < 0xE0) × (slice_index (0 ∷ bs) i < 0xC0)

-- the bytes in `from..to` are ASCII
pub record AsciiBetween (bs : List ℕ) (from to : ℕ) : Type 0 where
  pub each : (i : ℕ) → from ≤ i → i < to → slice_index bs i < 0x80

-- each of the first n lanes is zero
pub record IsZeroTo (lanes : List ℕ) (n : ℕ) : Type 0 where
  pub each : (i : ℕ) → i < n → slice_index lanes i ≡ 0
