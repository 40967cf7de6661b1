-- What a read from a source and a write to a sink do.
use Rattle.std.specs.Prelude.{◌≡◌, ℕ, ◌<◌, Bool, true, List, length, take, Option, MatchOption}
use Rattle.std.specs.Io.KnownBytes.{Consumes, IsAtEnd, Keeps, Appends}

-- `Some n`: the first n known bytes are read into the start of the buffer; no byte in a non-empty buffer is the end.
-- `None`: no byte is read.
abbrev pub ReadMoves : Option (List ℕ) → Option (List ℕ) → Option ℕ → List ℕ → Type 0
ReadMoves old new r buffer = MatchOption r (Keeps old new) (λ n. Consumes old new (take n buffer) × (n ≡ 0 → 0 < length buffer → IsAtEnd new))

-- `Some n`: the first n bytes are appended to the known ones. `None`: nothing is.
abbrev pub WriteMoves : Option (List ℕ) → Option (List ℕ) → Option ℕ → List ℕ → Type 0
WriteMoves old new r bytes = MatchOption r (Keeps old new) (λ n. Appends old new (take n bytes))

-- `None` is a failure, and `Some` leaves unchanged whether there was one
abbrev pub FailsOnNone : Option ℕ → Bool → Bool → Type 0
FailsOnNone r old new = MatchOption r (new ≡ true) (λ _. new ≡ old)

-- a read of no byte into a non-empty buffer sees the end, and no other read changes whether it was seen
abbrev pub EndsOnZero : Option ℕ → ℕ → Bool → Bool → Type 0
EndsOnZero r room old new = MatchOption r (new ≡ old) (λ n. (n ≡ 0 → 0 < room → new ≡ true) × ((n ≡ 0 → room ≡ 0) → new ≡ old))
