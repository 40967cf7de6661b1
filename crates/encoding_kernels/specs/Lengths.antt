-- The length of a text in another encoding, as a sum over its indices, each term decided by the unit there and those
-- after it.
use Rattle.std.specs.Prelude.{ℕ, ◌+◌, Bool, true, false, ◌&&◌, ◌-◌, ◌≤◌, if◌then◌else◌, nat_le, List, [], ◌∷◌, slice_index}
use Rattle.std.proofs.Common.{lit≤}
use Rattle.std.proofs.Math.Nat.{sub-le}
use mir.Val.{bool_byte}
use Rattle.std.specs.Str.Lossy.{second_byte_min, second_byte_max}

-- the sum of f over the nonempty suffixes of the list
unfoldable pub sum_over_suffixes : (List ℕ → ℕ) → List ℕ → ℕ
sum_over_suffixes f [] = 0
sum_over_suffixes f (x ∷ xs) = f (x ∷ xs) + sum_over_suffixes f xs

-- 1 if the first unit is at least `least`, else 0
abbrev pub one_if_at_least : ℕ → List ℕ → ℕ
one_if_at_least least xs = bool_byte (nat_le least (slice_index xs 0))

-- the byte b may be the second of a sequence that a begins
abbrev pub goes_second : ℕ → ℕ → Bool
goes_second a b = (nat_le 0xC2 a && nat_le a 0xF4) && (nat_le (second_byte_min a) b && nat_le b (second_byte_max a))

-- if so, the byte c may be the third
abbrev pub goes_third : ℕ → ℕ → Bool
goes_third a c = nat_le 0xE0 a && (nat_le 0x80 c && nat_le c 0xBF)

-- how many of the bytes b and c are the second and the third of the sequence that a begins
abbrev pub continuations_by : ℕ → ℕ → ℕ → ℕ
continuations_by a b c = if goes_second a b then (if goes_third a c then 2 else 1) else 0

-- the same for the two bytes after the first one
abbrev pub continuations : List ℕ → ℕ
continuations bs = continuations_by (slice_index bs 0) (slice_index bs 1) (slice_index bs 2)

-- the code units are a surrogate pair
abbrev pub is_surrogate_pair : ℕ → ℕ → Bool
is_surrogate_pair u v = (nat_le 0xD800 u && nat_le u 0xDBFF) && (nat_le 0xDC00 v && nat_le v 0xDFFF)

-- how many bytes beyond one the UTF-8 of the code unit u has, if v follows it: a pair has two beyond those of its two
-- units, which count for the second
abbrev pub extra_bytes_by : ℕ → ℕ → ℕ
extra_bytes_by u v = if is_surrogate_pair u v then 0 else (if nat_le 0x800 u then 2 else (if nat_le 0x80 u then 1 else 0))

-- the same for the first code unit
abbrev pub extra_bytes : List ℕ → ℕ
extra_bytes us = extra_bytes_by (slice_index us 0) (slice_index us 1)

-- not more than all
pub fewer : (n m : ℕ) → n - m ≤ n
fewer n m = sub-le n m

-- no term is greater than 2
pub one_few : (least : ℕ) (xs : List ℕ) → one_if_at_least least xs ≤ 2
one_few least xs = elim (nat_le least (slice_index xs 0)) as (λ b. bool_byte b ≤ 2) [ true ↦ lit≤ tt | false ↦ lit≤ tt ]

pub continuations_few : (bs : List ℕ) → continuations bs ≤ 2
continuations_few bs = two_of (goes_second (slice_index bs 0) (slice_index bs 1)) (goes_third (slice_index bs 0) (slice_index bs 2))
  where
    two_of : (p q : Bool) → (if p then (if q then 2 else 1) else 0) ≤ 2
    two_of true true = lit≤ tt
    two_of true false = lit≤ tt
    two_of false q = lit≤ tt

pub extra_bytes_by_few : (u v : ℕ) → extra_bytes_by u v ≤ 2
extra_bytes_by_few u v = two_of (is_surrogate_pair u v) (nat_le 0x800 u) (nat_le 0x80 u)
  where
    two_of : (p q r : Bool) → (if p then 0 else (if q then 2 else (if r then 1 else 0))) ≤ 2
    two_of true q r = lit≤ tt
    two_of false true r = lit≤ tt
    two_of false false true = lit≤ tt
    two_of false false false = lit≤ tt

pub extra_bytes_few : (us : List ℕ) → extra_bytes us ≤ 2
extra_bytes_few us = extra_bytes_by_few (slice_index us 0) (slice_index us 1)
