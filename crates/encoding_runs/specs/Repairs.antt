-- What the repair engine writes for the bytes that it read.
use Rattle.std.specs.Prelude.{◌≡◌, ◌≢◌, ℕ, ◌+◌, ◌≤◌, Bool, true, false, List, [], ◌++◌, length, take, Option}
use Rattle.std.specs.Io.KnownBytes.{Appends, Consumes, IsAtEnd}
use Rattle.encoding_definitions.specs.Parts.{Part, ArePartsOf, AreFinal, lossy_utf8, malformed_count}

-- text is that of the bytes, with U+FFFD for each malformed sequence
abbrev pub IsLossyDecodeOf : List ℕ → List ℕ → Type 0
IsLossyDecodeOf bs text = (parts : List Part) × ArePartsOf bs parts × (text ≡ lossy_utf8 parts)

-- the same, and n of the parts are malformed
abbrev pub IsLossyDecodeWith : List ℕ → List ℕ → ℕ → Type 0
IsLossyDecodeWith bs text n = (parts : List Part) × ArePartsOf bs parts × (text ≡ lossy_utf8 parts) × (n ≡ malformed_count parts)

-- text is that of the final parts of the bytes, the same for any continuation
abbrev pub IsFinalText : List ℕ → List ℕ → Type 0
IsFinalText bs text = (parts : List Part) × (rest : List ℕ) × AreFinal bs parts rest × (text ≡ lossy_utf8 parts)

-- out is a prefix of the text
abbrev pub IsPrefix : List ℕ → List ℕ → Type 0
IsPrefix out text = (rest : List ℕ) × (text ≡ out ++ rest)

-- out is a proper prefix of the text
abbrev pub IsProperPrefix : List ℕ → List ℕ → Type 0
IsProperPrefix out text = (rest : List ℕ) × (rest ≢ []) × (text ≡ out ++ rest)

-- the repaired text was appended to the output, and n parts are malformed
abbrev pub WritesRepaired : List ℕ → Option (List ℕ) → Option (List ℕ) → ℕ → Type 0
WritesRepaired bs old new n = (text : List ℕ) × IsLossyDecodeWith bs text n × Appends old new text

-- exactly the text of the final parts was appended
abbrev pub WritesFinal : List ℕ → Option (List ℕ) → Option (List ℕ) → Type 0
WritesFinal bs old new = (text : List ℕ) × IsFinalText bs text × Appends old new text

-- a proper prefix of the repaired text was appended
abbrev pub Stops : List ℕ → Option (List ℕ) → Option (List ℕ) → Type 0
Stops bs old new = (text : List ℕ) × (out : List ℕ) × IsLossyDecodeOf bs text × IsProperPrefix out text × Appends old new out

-- the text due for the bytes: all of it once the end was seen, and before that the text of the final parts
abbrev pub IsPendingOutput : List ℕ → Bool → List ℕ → Type 0
IsPendingOutput bs ended text = (ended ≡ true → IsLossyDecodeOf bs text) × (ended ≡ false → IsFinalText bs text)

-- out has at least the text of the final parts of the first bytes: of all except at most the last 1,024
pub record HoldsRounds (bs out : List ℕ) : Type 0 where
  pub before : ℕ
  pub within : before ≤ length bs
  pub one_round : length bs ≤ before + 1024
  pub final_text : List ℕ
  pub was_final : IsFinalText (take before bs) final_text
  pub whole_rounds : IsPrefix final_text out

-- A write failed while the bytes were read. A proper prefix of the text due was appended. It has at least the text of
-- the final parts of all except the last bytes, and of all bytes once the end was seen.
abbrev pub StopsReading : List ℕ → Bool → Option (List ℕ) → Option (List ℕ) → Type 0
StopsReading bs ended old new = (text : List ℕ) × (out : List ℕ) × IsPendingOutput bs ended text × IsProperPrefix out text × Appends old new out
    × (rounds : HoldsRounds bs out) × (ended ≡ true → rounds.before ≡ length bs)

-- all bytes were read to the end, and their repaired text was written; n parts are malformed
abbrev pub RepairsAll : List ℕ → Option (List ℕ) → Option (List ℕ) → Option (List ℕ) → Option (List ℕ) → ℕ → Type 0
RepairsAll bs unread left old new n = Consumes unread left bs × IsAtEnd left × WritesRepaired bs old new n

-- these bytes were read, and exactly the text of their final parts was written
abbrev pub RepairsFinal : List ℕ → Option (List ℕ) → Option (List ℕ) → Option (List ℕ) → Option (List ℕ) → Type 0
RepairsFinal bs unread left old new = Consumes unread left bs × WritesFinal bs old new

-- these bytes were read, with nothing left if their end was seen, and a write failed before all of the text due was
-- written
abbrev pub RepairsProperPrefix : List ℕ → Bool → Option (List ℕ) → Option (List ℕ) → Option (List ℕ) → Option (List ℕ) → Type 0
RepairsProperPrefix bs ended unread left old new = Consumes unread left bs × (ended ≡ true → IsAtEnd left) × StopsReading bs ended old new
