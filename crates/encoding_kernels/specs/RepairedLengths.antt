-- The length of repaired text: three bytes for each part, except for characters of one, two and four bytes.
use Rattle.std.specs.Prelude.{ℕ, Bool, true, false, ◌&&◌, ◌≤◌, nat_lt, nat_le, if◌then◌else◌, List, slice_index}
use Rattle.std.proofs.Common.{lit≤}

-- the two bytes are one character
abbrev pub is_two_bytes : ℕ → ℕ → Bool
is_two_bytes a b = (nat_le 0xC2 a && nat_le a 0xDF) && (nat_le 0x80 b && nat_le b 0xBF)

-- how many bytes below three the character has that the byte a begins, if b follows it: none unless it has one or two
abbrev pub bytes_below_three_by : ℕ → ℕ → ℕ
bytes_below_three_by a b = if nat_lt a 0x80 then 2 else (if is_two_bytes a b then 1 else 0)

-- the same for the first byte
abbrev pub bytes_below_three : List ℕ → ℕ
bytes_below_three bs = bytes_below_three_by (slice_index bs 0) (slice_index bs 1)

-- no term is greater than 2
pub below_three_few : (bs : List ℕ) → bytes_below_three bs ≤ 2
below_three_few bs = two_of (nat_lt (slice_index bs 0) 0x80) (is_two_bytes (slice_index bs 0) (slice_index bs 1))
  where
    two_of : (p q : Bool) → (if p then 2 else (if q then 1 else 0)) ≤ 2
    two_of true q = lit≤ tt
    two_of false true = lit≤ tt
    two_of false false = lit≤ tt
