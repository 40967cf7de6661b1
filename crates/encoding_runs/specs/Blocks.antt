-- The repair of a stream by blocks: one call on the next bytes, and successive calls.
use Rattle.std.specs.Prelude.{◌≡◌, ◌↔◌, ℕ, ◌+◌, ◌-◌, ◌<◌, ◌≤◌, Bool, true, false, List, [], ◌∷◌, length, drop, encode_utf8}
use Rattle.encoding_definitions.specs.Parts.{Part, lossy_utf8, malformed_count, Yields}
use Rattle.encoding_definitions.specs.Converting.{FittingBegins}
use Rattle.encoding_definitions.specs.Sequence.{IsPending}
use Rattle.encoding_runs.specs.declared.repair.blocks.RepairedBlock.{RepairedBlock}
use Rattle.encoding_runs.specs.Calls.{Call, read_in_all, output_of, pending_after, some_last}

-- Why a call stops before it is finished, with `read` of this source read and `left` bytes of space left. Less is left
-- than the longest character has: with that much the decoder continues the pending bytes, and reports. If only U+FFFD
-- for the pending bytes is left to write, it doesn't fit. With nothing pending, no character that fits comes next.
pub record WantsSpace (src : List ℕ) (read left : ℕ) (q : List ℕ) : Type 0 where
  pub few : left < 4
  pub at_end : read ≡ length src → left < 3
  pub next : q ≡ [] → FittingBegins encode_utf8 (drop read src) left → ⊥

-- One call with p pending, on the next bytes and into `room` bytes. It writes the text of the first parts of both, and
-- counts the malformed sequences among them. It is finished if and only if all was read and, if these bytes are the
-- last, nothing is pending.
pub record IsBlockRepair (p src : List ℕ) (room : ℕ) (last : Bool) (block : RepairedBlock) (read : ℕ) (out q : List ℕ) : Type 0 where
  pub parts : List Part
  pub was_pending : IsPending p
  pub yielded : Yields p src last parts read q
  pub text : out ≡ lossy_utf8 parts
  pub fits : length out ≤ room
  pub replaced : block.replaced ≡ malformed_count parts
  pub finished : (block.finished ≡ true) ↔ ((read ≡ length src) × (last ≡ true → q ≡ []))
  pub full : block.finished ≡ false → WantsSpace src read (room - length out) q

-- the number of malformed sequences for which calls wrote U+FFFD
abbrev pub replaced_in_all : List (Call ℕ RepairedBlock ℕ) → ℕ
replaced_in_all [] = 0
replaced_in_all (call ∷ calls) = call.result.replaced + replaced_in_all calls

-- Calls over b write the text of a prefix of its parts, and count the malformed sequences among them. If no call is
-- marked last, it is a prefix for any continuation of b. Once a call marked last is finished, it is all parts.
pub record RepairTheParts (p b : List ℕ) (calls : List (Call ℕ RepairedBlock ℕ)) : Type 0 where
  pub parts : List Part
  pub prefix : Yields p b (some_last calls) parts (read_in_all calls) (pending_after p calls)
  pub text : output_of calls ≡ lossy_utf8 parts
  pub replaced : replaced_in_all calls ≡ malformed_count parts
