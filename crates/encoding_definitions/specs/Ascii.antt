-- ASCII prefixes of bytes and of UTF-16 code units: the longest prefixes that are ASCII by std's `IsAscii`, each below
-- 0x80.
use Rattle.std.specs.Prelude.{◌≡◌, ◌≢◌, ℕ, ◌<◌, List, length, slice_index, slice_get, Option, Some, None}
use Rattle.std.specs.Str.{IsAscii}
use Rattle.encoding_definitions.specs.Prefixes.{IsLongestPrefix}

-- the result is the first unit that isn't ASCII and its index, or none if all are ASCII
abbrev pub IsFirstOther : List ℕ → Option (ℕ × ℕ) → Type 0
IsFirstOther xs None = IsAscii xs
IsFirstOther xs (Some (unit, place)) = (slice_get xs place ≡ Some unit) × IsLongestPrefix IsAscii xs place

-- the length of the ASCII prefix, by that result
abbrev pub prefix_length_by : List ℕ → Option (ℕ × ℕ) → ℕ
prefix_length_by xs None = length xs
prefix_length_by xs (Some (unit, place)) = place

-- each byte is below 0x80, and none is an escape or shift byte: Encoding Standard, ISO-2022-JP decoder
abbrev pub IsIso2022JpAscii : List ℕ → Type 0
IsIso2022JpAscii bytes = (i : ℕ) →
    (slice_index bytes i < 0x80) × (slice_index bytes i ≢ 0x1B) × (slice_index bytes i ≢ 0x0E) × (slice_index bytes i ≢ 0x0F)
