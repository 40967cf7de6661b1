-- A run of a decoder or an encoder: one call for each turn, which says how much of the source and of the destination
-- the call uses. Each call starts with what the previous one left pending. What a run of a decoder delivers, and what a
-- run of an encoder writes.
use Rattle.std.specs.Prelude.{ℕ, min, Bool, ◌&&◌, nat_le, ◌≡◌, ◌+◌, ◌-◌, ◌*◌, ◌≤◌, true, List, [], ◌∷◌, length, map, Option, None, Some, All}
use Rattle.encoding_runs.specs.declared.run.turns.Turn.{Turn}
use Rattle.std.specs.List.{last_or, flat_map}
use Rattle.encoding_definitions.specs.Prefixes.{WritesPrefix}
use Rattle.encoding_runs.specs.Calls.{CallRelation, Call, IsChain, read_in_all, output_of, pending_after, YieldTheParts, EncodesFirstParts}
use Rattle.encoding_definitions.specs.Parts.{Part, Character, IllFormed, characters_of}
use Rattle.encoding_text.specs.Decoding.{DecodeStep, AreDecoded}
use Rattle.encoding_text.specs.declared.decoder.DecoderResult.TheVariants.{InputEmpty}
use Rattle.encoding_runs.specs.declared.run.decoding.Report.{Report}
use Rattle.encoding_runs.specs.declared.run.decoding.Outcome.{Outcome}
use Rattle.encoding_text.specs.Encoding.{EncodeStep}
use Rattle.encoding_runs.specs.declared.run.encoding.EncodeOutcome.{EncodeOutcome}

-- its space, with `left` of the destination left
abbrev pub room_of : Turn → ℕ → ℕ
room_of turn left = min turn.room left

-- the call is marked last: the turn has `last` set, and its piece is all that is unread
abbrev pub is_marked_last : Turn → ℕ → Bool
is_marked_last turn unread = turn.last && nat_le unread turn.take

-- The calls are those of the turns, one for each, with `unread` of the source unread and `left` of the destination
-- left. The form of a call is its space.
abbrev pub AreOfTurns : {Result A : Type 0} → ℕ → ℕ → List Turn → List (Call ℕ Result A) → Type 0
AreOfTurns unread left [] [] = Unit {0}
AreOfTurns unread left (turn ∷ turns) (call ∷ calls) =
    (call.piece ≡ turn.take) × (call.form ≡ room_of turn left) × (call.last ≡ is_marked_last turn unread)
    × AreOfTurns (unread - call.read) (left - length call.out) turns calls
AreOfTurns unread left _ _ = ⊥

-- A run that starts with p pending: its calls, and their totals. The rest of the destination is unchanged.
pub record IsRun {Result A : Type 0} (Does : CallRelation ℕ Result A) (p src : List ℕ) (turns : List Turn) (old new : List A) (read written : ℕ) (result : Option Result) (q : List ℕ) : Type 0 where
  pub calls : List (Call ℕ Result A)
  pub chain : IsChain Does p src calls
  pub of_turns : AreOfTurns (length src) (length old) turns calls
  pub reads : read ≡ read_in_all calls
  pub writes : WritesPrefix old new written (output_of calls)
  pub returns : result ≡ last_or None (map (λ call. call.result) calls)
  pub leaves : q ≡ pending_after p calls

-- each turn takes at least one unit, has space for any character, and has `last` set
abbrev pub EachMakesProgress : ℕ → List Turn → Type 0
EachMakesProgress need turns = All (λ turn. (1 ≤ turn.take) × (need ≤ turn.room) × (turn.last ≡ true)) turns

-- with at least `2 * length src + 2` such turns, and a destination of the queried length, the run reaches the end of
-- the source, and its last result is `empty`
abbrev pub Completes : {Result : Type 0} → Result → (ℕ → ℕ → ℕ) → ℕ → List ℕ → List ℕ → List Turn → ℕ → Option Result → Type 0
Completes empty query need p src turns room result =
    2 * length src + 2 ≤ length turns → EachMakesProgress need turns → query (length src) (length p) ≤ room → result ≡ Some empty

-- the reports of the malformed sequences among parts whose output starts at offset `place`: the offset of each in the
-- output, and its length
abbrev pub reports_of : {A : Type 0} → (ℕ → List A) → ℕ → List Part → List Report
reports_of encode place [] = []
reports_of encode place (Character c ∷ parts) = reports_of encode (place + length (encode c)) parts
reports_of encode place (IllFormed bytes ∷ parts) = record { place = place; length = length bytes } ∷ reports_of encode place parts

-- What a run delivers: the first parts of the pending bytes and its source, which its calls yield in sequence. It
-- writes their characters, and reports their malformed sequences. The rest of the destination and of the reports is
-- unchanged.
pub record Delivers {A : Type 0} (encode : ℕ → List A) (need : ℕ) (p src : List ℕ) (turns : List Turn) (old new : List A) (old_reports new_reports : List Report) (outcome : Outcome) (q : List ℕ) : Type 0 where
  pub run : IsRun (DecodeStep encode need) p src turns old new outcome.read outcome.written outcome.result q
  pub yielded : YieldTheParts (λ room. AreDecoded encode) (λ result. result ≡ InputEmpty) p src run.calls
  pub characters : WritesPrefix old new outcome.written (flat_map encode (characters_of yielded.parts))
  pub malformed : WritesPrefix old_reports new_reports outcome.reports (reports_of encode 0 yielded.parts)
  pub at_most_three : length q ≤ 3

-- a run, and the first parts of the pending surrogate and the source, whose UTF-8 it writes
pub record EncodesByTurns (surrogate src : List ℕ) (turns : List Turn) (old new : List ℕ) (outcome : EncodeOutcome) (after : List ℕ) : Type 0 where
  pub run : IsRun EncodeStep surrogate src turns old new outcome.read outcome.written outcome.result after
  pub encodes : EncodesFirstParts surrogate src run.calls outcome.read (output_of run.calls) after
