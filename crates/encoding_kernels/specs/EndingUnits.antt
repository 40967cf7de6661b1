-- The code units of well-formed UTF-8 by its bytes: with which bytes a code unit ends, and which unit that is.
use Rattle.std.specs.Prelude.{◌≡◌, ℕ, zero, suc, false, ◌+◌, ◌*◌, ◌/◌, ◌%◌, ◌<◌, ◌≤◌, Bool, true, ◌&&◌, if◌then◌else◌, nat_lt, nat_le}
use Rattle.std.specs.Prelude.{◌==◌, List, [], ◌∷◌, ◌++◌, length, take, drop, replicate, slice_index, bit_or, encode_utf8_all}
use Rattle.std.specs.Str.{all_scalars, IsUtf8, chars}
use Rattle.std.specs.Char.Escape.{encode_utf16}
use Rattle.std.specs.List.{flat_map}

-- ---- lanes of a vector that are kept
-- the elements whose mark is set
unfoldable pub keep : List Bool → List ℕ → List ℕ
keep [] us = []
keep (m ∷ ms) [] = []
keep (m ∷ ms) (u ∷ us) = (if m then u ∷ [] else []) ++ keep ms us

-- of the n indices from `at` on, those whose bit is set in the mask
unfoldable pub places_from : ℕ → ℕ → ℕ → List ℕ
places_from zero at mask = []
places_from (suc n) at mask = (if mask % 2 == 1 then at ∷ [] else []) ++ places_from n (at + 1) (mask / 2)

-- the indices of eight lanes whose bit is set, followed by zeros
unfoldable pub compressed_places : ℕ → List ℕ
compressed_places mask = take 8 (places_from 8 0 mask ++ replicate 8 0)

-- the indices of the two bytes of each of these lanes
unfoldable pub bytes_at : List ℕ → List ℕ
bytes_at [] = []
bytes_at (k ∷ ks) = (2 * k) ∷ (2 * k + 1) ∷ bytes_at ks

unfoldable pub byte_places : ℕ → List ℕ
byte_places mask = bytes_at (compressed_places mask)

-- the `count` elements whose mark is set are written at the start; of the rest, only indices below `reach` may have
-- changed
pub record WritesCompressed (marks : List Bool) (us old new : List ℕ) (count reach : ℕ) : Type 0 where
  pub counted : count ≡ length (keep marks us)
  pub placed : take count new ≡ keep marks us
  pub following : drop reach new ≡ drop reach old

-- ---- the code unit that ends with a byte
-- whether one ends with the byte b after a
abbrev pub ends_unit : ℕ → ℕ → Bool
ends_unit a b = nat_lt b 0xC0 && nat_lt a 0xE0

-- the last six bits of each
abbrev pub low_bits : ℕ → ℕ → ℕ
low_bits a b = a % 64 * 64 + b % 64

-- the upper byte of the unit that ends after y and a, if it is no surrogate
abbrev pub upper_of : ℕ → ℕ → ℕ
upper_of y a = (if nat_le 0xE0 y then y % 16 * 16 else 0) + a % 64 / 4

-- the unit that ends with the byte b after x, y and a: a sequence of four ends its two units with its last two bytes
abbrev pub unit_at : ℕ → ℕ → ℕ → ℕ → ℕ
unit_at x y a b = if nat_lt b 0x80 then b
    else (if nat_le 0xF0 y then 0xD7C0 + (y % 8 * 256 + low_bits a b / 16)
    else (if nat_le 0xF0 x then bit_or (upper_of y a) 0xDC * 0x100 + low_bits a b % 0x100
    else (if nat_le 0xE0 y then y % 16 * 4096 + low_bits a b else low_bits a b)))

-- the same for the byte at index k, with zeros before the first
abbrev pub unit_lane : List ℕ → ℕ → ℕ
unit_lane bs k = unit_at (slice_index (0 ∷ 0 ∷ 0 ∷ bs) k) (slice_index (0 ∷ 0 ∷ bs) k) (slice_index (0 ∷ bs) k) (slice_index bs k)

-- the same for each byte, after x, y and a
unfoldable pub units_after : ℕ → ℕ → ℕ → List ℕ → List ℕ
units_after x y a [] = []
units_after x y a (b ∷ bs) = unit_at x y a b ∷ units_after y a b bs

unfoldable pub ends_after : ℕ → List ℕ → List Bool
ends_after a [] = []
ends_after a (b ∷ bs) = ends_unit a b ∷ ends_after b bs

-- none ends with a byte in `from..to`
abbrev pub NoUnitEnds : List ℕ → ℕ → ℕ → Type 0
NoUnitEnds src from to = (k : ℕ) → from ≤ k → k < to → ends_unit (slice_index (0 ∷ src) k) (slice_index src k) ≡ false

-- The code units that end with the first `read` bytes are at the start of the destination. Of the rest of it only indices
-- below `reach` may have changed.
pub record StoresUnits (src old new : List ℕ) (read written reach : ℕ) : Type 0 where
  pub placed : take written new ≡ keep (take read (ends_after 0 src)) (take read (units_after 0 0 0 src))
  pub counted : written ≡ length (keep (take read (ends_after 0 src)) (take read (units_after 0 0 0 src)))
  pub few : written ≤ read
  pub same_length : length new ≡ length old
  pub following : drop reach new ≡ drop reach old

-- if a character begins with the byte, it has three bytes
abbrev pub BeginsThree : ℕ → Type 0
BeginsThree b = (0xE0 ≤ b) × (b < 0xF0)

-- the unit of three bytes
abbrev pub triple_unit : ℕ → ℕ → ℕ → ℕ
triple_unit a b c = a % 16 * 4096 + low_bits b c

-- ---- text
-- the number of code units in the UTF-16 of the text
unfoldable pub units_in : List ℕ → ℕ
units_in text = length (flat_map encode_utf16 (chars text))

-- The first characters of the text, `read` bytes, are converted to `written` code units at the start of the
-- destination. Of the rest of the destination only indices below `reach` may have changed.
pub record WritesUtf16 (src old new : List ℕ) (read written reach : ℕ) : Type 0 where
  pub taken : List ℕ
  pub are_scalars : all_scalars taken ≡ true
  pub within : read ≤ length src
  pub spelled : encode_utf8_all taken ≡ take read src
  pub rest : IsUtf8 (drop read src)
  pub counted : written ≡ length (flat_map encode_utf16 taken)
  pub placed : take written new ≡ flat_map encode_utf16 taken
  pub following : drop reach new ≡ drop reach old
