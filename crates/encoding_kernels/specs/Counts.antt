-- How many parts a text has, by sums over its indices: of the characters of four bytes, of the surrogate pairs and of the
-- unpaired surrogates.
use Rattle.std.specs.Prelude.{ℕ, Bool, true, false, ◌&&◌, ◌≤◌, nat_le, List, slice_index}
use Rattle.std.proofs.Common.{lit≤}
use mir.Val.{bool_byte}
use Rattle.encoding_kernels.specs.Lengths.{goes_second, is_surrogate_pair}
use Rattle.encoding_kernels.specs.Neighbors.{pair_fault}

-- the four bytes are one character
abbrev pub is_four_bytes : ℕ → ℕ → ℕ → ℕ → Bool
is_four_bytes a b c d = ((goes_second a b && nat_le 0xF0 a) && (nat_le 0x80 c && nat_le c 0xBF)) && (nat_le 0x80 d && nat_le d 0xBF)

-- 1 if the bytes start with a character of four bytes, else 0
abbrev pub begins_four_bytes : List ℕ → ℕ
begins_four_bytes bs = bool_byte (is_four_bytes (slice_index bs 0) (slice_index bs 1) (slice_index bs 2) (slice_index bs 3))

-- 1 if the code units start with a surrogate pair, else 0
abbrev pub begins_pair : List ℕ → ℕ
begins_pair us = bool_byte (is_surrogate_pair (slice_index us 0) (slice_index us 1))

-- 1 if exactly one of these holds: the first code unit is a high surrogate, the second is a low one; else 0
abbrev pub begins_fault : List ℕ → ℕ
begins_fault us = bool_byte (pair_fault (slice_index us 1) (slice_index us 0))

-- no term is greater than 2
pub bool_few : (b : Bool) → bool_byte b ≤ 2
bool_few true = lit≤ tt
bool_few false = lit≤ tt
