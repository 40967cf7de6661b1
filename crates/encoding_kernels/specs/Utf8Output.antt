-- What steps of the conversion from UTF-16 to UTF-8 write, and what they change after it.
use Rattle.std.specs.Prelude.{◌≡◌, ℕ, ◌+◌, ◌*◌, ◌<◌, ◌≤◌, List, ◌++◌, true, encode_utf8, encode_utf8_all, slice_index, length, take, drop}
use Rattle.std.specs.Char.{IsScalar}
use Rattle.std.specs.Char.Escape.{encode_utf16}
use Rattle.std.specs.List.{flat_map}
use Rattle.std.specs.Str.{all_scalars}
use Rattle.encoding_definitions.specs.Prefixes.{WritesPrefix}
use Rattle.encoding_definitions.specs.Utf16.{IsUtf8OfPrefix}

-- none of the code units is a surrogate
abbrev pub AreBmpScalars : List ℕ → Type 0
AreBmpScalars us = (k : ℕ) → (0xD800 ≤ slice_index us k) × (slice_index us k ≤ 0xDFFF) → ⊥

-- `count` bytes are written at `at`, and after them at most `spill` bytes are changed
pub record Spills (old new : List ℕ) (at count spill : ℕ) (out : List ℕ) : Type 0 where
  pub counted : length out ≡ count
  pub prefix : take (at + count) new ≡ take at old ++ out
  pub following : drop (at + count + spill) new ≡ drop (at + count + spill) old
  pub long : length new ≡ length old

-- sixteen code units are no surrogates, and their UTF-8 is written at `at`; each has at least one byte
pub record StoresBlock (us old new : List ℕ) (at count spill : ℕ) : Type 0 where
  pub plain : AreBmpScalars us
  pub bounds : (16 ≤ count) × (count ≤ 48)
  pub few : spill ≤ 16
  pub stored : Spills old new at count spill (encode_utf8_all us)

-- the same for the first `read` code units at the start: what was changed after their UTF-8 is due to be overwritten
pub record SpillsBmp (us old new : List ℕ) (read count spill : ℕ) : Type 0 where
  pub within : read ≤ length us
  pub plain : AreBmpScalars (take read us)
  pub counted : length (encode_utf8_all (take read us)) ≡ count
  pub fits : count ≤ length old
  pub prefix : take count new ≡ encode_utf8_all (take read us)
  pub following : drop (count + spill) new ≡ drop (count + spill) old
  pub long : length new ≡ length old

-- blocks at the start: `left` bytes after theirs are due to be overwritten, of which `due` were before
pub record ConvertsDue (us old new : List ℕ) (due read count left : ℕ) : Type 0 where
  pub written : SpillsBmp us old new read count left
  pub covered : due ≤ count + left
  pub few : left ≤ 16
  pub fits : 0 < left → read + 16 ≤ length us
  pub bound : count ≤ 3 * read

-- the UTF-8 of the first `read` code units is written at the start, and the rest is unchanged
pub record ConvertsPrefix (us old new : List ℕ) (read count : ℕ) : Type 0 where
  pub prefix : IsUtf8OfPrefix us read (take count new)
  pub unchanged_after : WritesPrefix old new count (take count new)
  pub within : read ≤ length us

-- the first `read` code units are no surrogates, and their UTF-8 is written at the start
pub record WritesBmp (us old new : List ℕ) (read count : ℕ) : Type 0 where
  pub within : read ≤ length us
  pub plain : AreBmpScalars (take read us)
  pub written : WritesPrefix old new count (encode_utf8_all (take read us))

-- the first `read` code units are the UTF-16 of scalar values, whose UTF-8 is written at the start
pub record WritesScalars (us old new : List ℕ) (read count : ℕ) : Type 0 where
  pub within : read ≤ length us
  pub scalars : List ℕ
  pub are_scalars : all_scalars scalars ≡ true
  pub taken : flat_map encode_utf16 scalars ≡ take read us
  pub written : WritesPrefix old new count (flat_map encode_utf8 scalars)

-- the code units from the index on begin with a character
pub record IsCharacterAt (us : List ℕ) (at scalar : ℕ) : Type 0 where
  pub is_scalar : IsScalar scalar
  pub rest : List ℕ
  pub begins : drop at us ≡ encode_utf16 scalar ++ rest
