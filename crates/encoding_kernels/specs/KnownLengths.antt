-- What begins at each byte of a well-formed text.
use Rattle.std.specs.Prelude.{ℕ, Bool, true, false, ◌&&◌, ◌≤◌, if◌then◌else◌, nat_le, List, slice_index}
use Rattle.std.proofs.Common.{lit≤}

-- how many characters begin with the byte or, of pairs, how many code units they have in UTF-16
abbrev pub begins_by : Bool → ℕ → ℕ
begins_by pairs b = if (nat_le 0x80 b && nat_le b 0xBF) then 0 else (if (pairs && nat_le 0xF0 b) then 2 else 1)

-- the same for the first byte
abbrev pub begins : Bool → List ℕ → ℕ
begins pairs bs = begins_by pairs (slice_index bs 0)

-- no term is greater than 2
pub begins_few : (pairs : Bool) (bs : List ℕ) → begins pairs bs ≤ 2
begins_few pairs bs = two_of (nat_le 0x80 (slice_index bs 0) && nat_le (slice_index bs 0) 0xBF) (pairs && nat_le 0xF0 (slice_index bs 0))
  where
    two_of : (p q : Bool) → (if p then 0 else (if q then 2 else 1)) ≤ 2
    two_of true q = lit≤ tt
    two_of false true = lit≤ tt
    two_of false false = lit≤ tt
