-- Units that may come in pairs, as a rule on each and the one before it, with zero before the first.
use Rattle.std.specs.Prelude.{ℕ, ◌<◌, ◌≤◌, ◌↔◌, Bool, not, ◌||◌, if◌then◌else◌, nat_eq, nat_le, List, ◌∷◌, slice_index, bit_and}
use Rattle.encoding_definitions.specs.Sequence.{IsContinuation}
use Rattle.encoding_definitions.specs.Utf16.{IsHighSurrogate, IsLowSurrogate}

-- a unit in `from..to` is a low surrogate if and only if it follows a high one
pub record PairUp (us : List ℕ) (from to : ℕ) : Type 0 where
  pub each : (k : ℕ) → from ≤ k → k < to → IsLowSurrogate (slice_index us k) ↔ IsHighSurrogate (slice_index (0 ∷ us) k)

-- none of the code units is a surrogate
abbrev pub HaveNoSurrogate : List ℕ → Type 0
HaveNoSurrogate us = (k : ℕ) → 0xD800 ≤ slice_index us k → slice_index us k ≤ 0xDFFF → ⊥

-- a byte is a continuation byte if and only if it follows a byte from 0xC0 on, and those are only 0xC2 and 0xC3
pub record FitsLatin1 (before byte : ℕ) : Type 0 where
  pub low : byte < 0xC4
  pub lead : 0xC0 ≤ byte → 0xC2 ≤ byte
  pub follows : IsContinuation byte ↔ (0xC0 ≤ before)

-- the same for the bytes in `from..to`
pub record FitLatin1 (bs : List ℕ) (from to : ℕ) : Type 0 where
  pub each : (k : ℕ) → from ≤ k → k < to → FitsLatin1 (slice_index (0 ∷ bs) k) (slice_index bs k)

-- a code unit is a low surrogate or the one before it a high one, and not both
abbrev pub pair_fault : ℕ → ℕ → Bool
pair_fault unit before = let low = nat_eq (bit_and unit 0xFC00) 0xDC00 in let high = nat_eq (bit_and before 0xFC00) 0xD800 in (if low then not high else high)

-- a byte may not follow the one before it in the UTF-8 of Latin1
abbrev pub latin1_fault : ℕ → ℕ → Bool
latin1_fault byte before =
    let lead = nat_le 0xC0 before in
    (if nat_eq (bit_and byte 0xC0) 0x80 then not lead else lead) || (nat_eq (bit_and byte 0xFE) 0xC0 || nat_le 0xC4 byte)
