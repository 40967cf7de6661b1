-- Latin1: the scalar values up to 0xFF.
use Rattle.std.specs.Prelude.{◌≡◌, ℕ, ◌≤◌, List, slice_index, encode_utf8_all}

-- each scalar value, or each code unit, is up to 0xFF
abbrev pub IsLatin1 : List ℕ → Type 0
IsLatin1 xs = (i : ℕ) → slice_index xs i ≤ 0xFF

-- the bytes are the UTF-8 of Latin1 scalar values
abbrev pub IsUtf8Latin1 : List ℕ → Type 0
IsUtf8Latin1 bytes = (cs : List ℕ) × IsLatin1 cs × (encode_utf8_all cs ≡ bytes)
