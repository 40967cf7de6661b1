-- Calls of a new encoder by turns.
use Rattle.std.specs.Prelude.{ℕ, ◌+◌, ◌*◌, ◌≤◌, List, [], length}
use Rattle.encoding_text.specs.Encoding.{EncodeStep}
use Rattle.encoding_text.specs.declared.utf_8.encoder.EncoderResult.{EncoderResult}
use Rattle.encoding_runs.specs.declared.run.turns.Turn.{Turn}
use Rattle.encoding_runs.specs.Calls.{Call, IsChain}
use Rattle.encoding_runs.specs.Runs.{AreOfTurns, EachMakesProgress}

-- the turns are enough for all of the code units, and so is the destination
pub record AreEnough (units : List ℕ) (turns : List Turn) (room : ℕ) (calls : List (Call ℕ EncoderResult ℕ)) : Type 0 where
  pub chain : IsChain EncodeStep [] units calls
  pub of_turns : AreOfTurns (length units) room turns calls
  pub many : 2 * length units + 2 ≤ length turns
  pub each : EachMakesProgress 4 turns
  pub fits : 3 * length units ≤ room
