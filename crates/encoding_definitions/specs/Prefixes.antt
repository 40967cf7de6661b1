-- Longest prefixes: of a kind, and of the characters that fit into a destination.
use Rattle.std.specs.Prelude.{◌≡◌, ℕ, ◌+◌, ◌<◌, ◌≤◌, List, ◌++◌, length, take, drop}
use Rattle.std.specs.List.{flat_map}

-- n is the greatest length of a prefix of xs that is of the kind
pub record IsLongestPrefix {A : Type 0} (IsKind : List A → Type 0) (xs : List A) (n : ℕ) : Type 0 where
  pub within : n ≤ length xs
  pub kind : IsKind (take n xs)
  pub longest : (m : ℕ) → m ≤ length xs → IsKind (take m xs) → m ≤ n

-- The longest prefix of the characters whose joined output is no longer than `room`. Each character has the source that
-- it takes and the output that it writes. `read` is the length of the source that the prefix takes, and `out` is its
-- output. Encoding Standard, `encodeInto`.
pub record IsLongestFittingPrefix {C A : Type 0} (source : C → List ℕ) (output : C → List A) (characters : List C) (room read : ℕ) (out : List A) : Type 0 where
  pub count : ℕ
  pub within : count ≤ length characters
  pub taken : read ≡ length (flat_map source (take count characters))
  pub written : out ≡ flat_map output (take count characters)
  pub fits : length out ≤ room
  pub longest : count < length characters → room < length (flat_map output (take (count + 1) characters))

-- the first `written` items of a destination are `out`, and the rest is unchanged
pub record WritesPrefix {A : Type 0} (old new : List A) (written : ℕ) (out : List A) : Type 0 where
  pub count : written ≡ length out
  pub fits : written ≤ length old
  pub placed : new ≡ out ++ drop written old
