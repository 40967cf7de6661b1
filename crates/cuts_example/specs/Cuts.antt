-- Bytes that are cut such that their pieces can be repaired separately.
use Rattle.std.specs.Prelude.{◌≡◌, ℕ, ◌+◌, ◌<◌, List, [], ◌∷◌, ◌++◌, ◌⊎◌, map}
use Rattle.encoding_runs.specs.Parts.{Part, ArePartsOf}
use Rattle.encoding_runs.specs.MalformedSequences.{malformed_indices}
use Rattle.encoding_runs.specs.Repairs.{IsLossyDecodeWith}
use Rattle.encoding_runs.specs.Calls.{Call, IsChain}
use Rattle.encoding_runs.specs.Searches.{IsBlockSearch, StartInTurn, IsFinished}
use Rattle.encoding_runs.specs.declared.search.SearchedBlock.{SearchedBlock}
use Rattle.encoding_runs.specs.declared.search.StreamMalformation.{StreamMalformation}
use Rattle.cuts_example.specs.declared.RepairedPiece.{RepairedPiece}

-- the last of the bytes is ASCII
abbrev pub EndsWithAscii : List ℕ → Type 0
EndsWithAscii bs = (prefix : List ℕ) × (b : ℕ) × (b < 0x80) × (bs ≡ prefix ++ b ∷ [])

-- no bytes, or bytes that end with ASCII
abbrev pub MayBeCutAfter : List ℕ → Type 0
MayBeCutAfter bs = (bs ≡ []) ⊎ EndsWithAscii bs

-- after each piece but the last the bytes may be cut
abbrev pub AreCut : List (List ℕ) → Type 0
AreCut [] = Unit {0}
AreCut (piece ∷ []) = Unit {0}
AreCut (piece ∷ next ∷ pieces) = MayBeCutAfter piece × AreCut (next ∷ pieces)

-- it has the repaired text of the bytes, and counts their malformed sequences
abbrev pub IsRepairOf : List ℕ → RepairedPiece → Type 0
IsRepairOf bs repaired = IsLossyDecodeWith bs repaired.text.items repaired.replaced

-- the offset and the length of each malformed sequence of the bytes, in order
abbrev pub AreMalformedSequencesOf : List ℕ → List (ℕ × ℕ) → Type 0
AreMalformedSequencesOf bs found = (parts : List Part) × ArePartsOf bs parts × (found ≡ malformed_indices 0 parts)

-- the same offsets and lengths with n bytes before them
abbrev pub following : ℕ → List (ℕ × ℕ) → List (ℕ × ℕ)
following n found = map (λ part. (n + part.0, part.1)) found

-- calls of `search_block` over all of the bytes, in any blocks and into any arrays; the last one is finished
abbrev pub SearchAll : List ℕ → List (Call (ℕ × ℕ) SearchedBlock StreamMalformation) → Type 0
SearchAll bs calls = StartInTurn [] 0 calls × IsChain IsBlockSearch [] bs calls × IsFinished calls
