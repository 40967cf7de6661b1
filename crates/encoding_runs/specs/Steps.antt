-- What private functions say of their steps; no public contract cites these. Of a run: the reports of its calls, in
-- order. Of the engine: what one round reads, how far the rounds have come, and the parts whose text it has written.
use Rattle.std.specs.Prelude.{ℕ, ◌+◌, List, [], ◌∷◌, ◌++◌, length, ◌≡◌, Bool, false, Option, encode_utf8, ◌<◌, ◌≤◌, true}
use Rattle.encoding_definitions.specs.Prefixes.{WritesPrefix}
use Rattle.encoding_text.specs.Decoding.{DecodeStep}
use Rattle.encoding_text.specs.declared.decoder.DecoderResult.{DecoderResult}
use Rattle.encoding_text.specs.declared.decoder.DecoderResult.TheVariants.{InputEmpty, OutputFull, Malformed}
use Rattle.encoding_runs.specs.declared.run.turns.Turn.{Turn}
use Rattle.encoding_runs.specs.declared.run.decoding.Report.{Report}
use Rattle.encoding_runs.specs.declared.run.decoding.Outcome.{Outcome}
use Rattle.encoding_runs.specs.Calls.{Call}
use Rattle.encoding_runs.specs.Runs.{IsRun}
use Rattle.std.specs.Io.KnownBytes.{Appends, Consumes, IsAtEnd}
use Rattle.encoding_definitions.specs.Parts.{Part, StartsWith, lossy_utf8, malformed_count}
use Rattle.encoding_text.specs.declared.decoder.Piece.{Piece}
use Rattle.encoding_text.specs.declared.decoder.Piece.TheVariants.{Text, Char, Malformed, InputEmpty}
use Rattle.encoding_runs.specs.Repairs.{IsProperPrefix}
use Rattle.encoding_definitions.specs.Sequence.{IsPending}

-- the report of a result, if it is one, of a malformed sequence after `place` units of output
abbrev pub report_of : DecoderResult → ℕ → List Report
report_of InputEmpty place = []
report_of OutputFull place = []
report_of (Malformed k second) place = record { place = place; length = k } ∷ []

-- the reports of calls whose output starts at offset `place`
abbrev pub reports_of_calls : {A : Type 0} → ℕ → List (Call ℕ DecoderResult A) → List Report
reports_of_calls place [] = []
reports_of_calls place (call ∷ calls) = report_of call.result (place + length call.out) ++ reports_of_calls (place + length call.out) calls

-- a run that also wrote the reports of its calls; the rest of the reports is unchanged
pub record IsReportedRun {A : Type 0} (encode : ℕ → List A) (need : ℕ) (p src : List ℕ) (turns : List Turn) (old new : List A) (old_reports new_reports : List Report) (outcome : Outcome) (q : List ℕ) : Type 0 where
  pub run : IsRun (DecodeStep encode need) p src turns old new outcome.read outcome.written outcome.result q
  pub reports : WritesPrefix old_reports new_reports outcome.reports (reports_of_calls 0 run.calls)

-- what is written for a piece: U+FFFD for a malformed sequence
abbrev pub text_of : Piece → List ℕ
text_of (Text t) = t.now
text_of (Char c) = encode_utf8 c
text_of (Malformed k) = 0xEF ∷ 0xBF ∷ 0xBD ∷ []
text_of InputEmpty = []

-- the number of malformed sequences of a piece
abbrev pub malformed_in : Piece → ℕ
malformed_in (Text t) = 0
malformed_in (Char c) = 0
malformed_in (Malformed k) = 1
malformed_in InputEmpty = 0

-- The parts are the first parts of the bytes, and rest follows them. Unless the bytes are the last, they are the first
-- parts for any continuation.
pub record AreFirst (last : Bool) (bs : List ℕ) (parts : List Part) (rest : List ℕ) : Type 0 where
  pub starts : StartsWith bs parts rest
  pub stable : last ≡ false → (more : List ℕ) → StartsWith (bs ++ more) parts (rest ++ more)

-- the text of first parts was written, up to the rest, and n of these parts are malformed
pub record WritesParts (last : Bool) (bs rest : List ℕ) (old new : Option (List ℕ)) (n : ℕ) : Type 0 where
  pub parts : List Part
  pub first : AreFirst last bs parts rest
  pub bytes : Appends old new (lossy_utf8 parts)
  pub malformed : n ≡ malformed_count parts

-- a proper prefix of the text of first parts was written
pub record StopsInParts (last : Bool) (bs : List ℕ) (old new : Option (List ℕ)) : Type 0 where
  pub parts : List Part
  pub rest : List ℕ
  pub first : AreFirst last bs parts rest
  pub out : List ℕ
  pub less : IsProperPrefix out (lossy_utf8 parts)
  pub bytes : Appends old new out

-- One read into a buffer of length `room` yielded these bytes. There were none if and only if it saw the end.
pub record ReadsRound (room : ℕ) (bytes : List ℕ) (last : Bool) (unread left : Option (List ℕ)) (before after : Bool) : Type 0 where
  pub consumed : Consumes unread left bytes
  pub within : length bytes ≤ room
  pub going_on : last ≡ false → (0 < length bytes) × (after ≡ before)
  pub at_end : last ≡ true → (bytes ≡ []) × (after ≡ true) × IsAtEnd left

-- The rounds have read `read` bytes and written the text of their final parts. Bytes are pending, and n parts are
-- malformed.
pub record Reaches (unread left old new : Option (List ℕ)) (read n : ℕ) (pending : List ℕ) : Type 0 where
  pub input : List ℕ
  pub consumed : Consumes unread left input
  pub count : read ≡ length input
  pub wrote : WritesParts false input pending old new n
  pub still_open : IsPending pending
