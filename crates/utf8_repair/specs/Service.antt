-- What a run does to its reader and its writer, by their known bytes before and after it.
use Rattle.std.specs.Prelude.{◌≡◌, ◌<◌, ◌-◌, ◌^◌, ℕ, nat_eq, Bool, true, List, [], length, take, Option, if◌then◌else◌, codes}
use Rattle.std.specs.Io.KnownBytes.{Appends, Consumes, IsAtEnd}
use Rattle.encoding_runs.specs.Repairs.{IsPendingOutput, IsPrefix, HoldsRounds, RepairsAll, RepairsFinal}

-- A prefix of the text due was written: a proper prefix if a write failed, and all of it if only the flush did. It has
-- at least the text of the final parts of all except the last bytes, and of all bytes once the end was seen.
abbrev pub WritesPrefixOfPendingOutput : List ℕ → Bool → Option (List ℕ) → Option (List ℕ) → Type 0
WritesPrefixOfPendingOutput bs ended old new = (text : List ℕ) × (out : List ℕ) × IsPendingOutput bs ended text × IsPrefix out text × Appends old new out
    × (rounds : HoldsRounds bs out) × (ended ≡ true → rounds.before ≡ length bs)

-- these bytes were read, with nothing left if their end was seen, and a prefix of the text due was written
abbrev pub RepairsPrefix : List ℕ → Bool → Option (List ℕ) → Option (List ℕ) → Option (List ℕ) → Option (List ℕ) → Type 0
RepairsPrefix bs ended unread left old new = Consumes unread left bs × (ended ≡ true → IsAtEnd left) × WritesPrefixOfPendingOutput bs ended old new

-- What a run with this status did to its reader and its writer: all was read and repaired, without U+FFFD (0) or with some (1); a
-- read failed (3) or the end wasn't seen (5), and the text of the final parts was written.
pub record IsServed (status : ℕ) (unread left old new : Option (List ℕ)) : Type 0 where
  pub unchanged : status ≡ 0 → (bytes : List ℕ) × RepairsAll bytes unread left old new 0
  pub replaced : status ≡ 1 → (bytes : List ℕ) × (n : ℕ) × (0 < n) × RepairsAll bytes unread left old new n
  pub read_fault : status ≡ 3 → (bytes : List ℕ) × RepairsFinal bytes unread left old new
  pub limit : status ≡ 5 → (bytes : List ℕ) × (length bytes ≡ 2 ^ 64 - 1) × RepairsFinal bytes unread left old new

-- a prefix of the text was written: nothing, some, or all of it
abbrev pub WritesPrefixOf : List ℕ → Option (List ℕ) → Option (List ℕ) → Type 0
WritesPrefixOf text old new = (n : ℕ) × Appends old new (take n text)

-- the line of a status, in ASCII
abbrev pub line_of : ℕ → List ℕ
line_of status =
    if nat_eq status 2 then codes "usage: utf8_repair\n"
    else if nat_eq status 3 then codes "utf8_repair: read fault\n"
    else if nat_eq status 4 then codes "utf8_repair: write fault\n"
    else if nat_eq status 5 then codes "utf8_repair: limit\n"
    else if nat_eq status 6 then codes "utf8_repair: no arguments\n"
    else []
