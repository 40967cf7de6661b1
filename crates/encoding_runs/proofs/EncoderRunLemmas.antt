-- A run of an encoder: what it writes, and enough turns for all of the source.
use Rattle.std.proofs.Common.{◌≡◌, ℕ, ◌+◌, ◌*◌, ◌<◌, ◌≤◌, inl, inr, Bool, List, ◌++◌, length, map, take, drop, None, refl, sym, ap, ◌∙◌, arith}
use Rattle.std.specs.Prelude.{min}
use Rattle.std.specs.List.{last_or}
use Rattle.std.proofs.lemmas.Bool.{cases_lt}
use Rattle.std.proofs.lemmas.List.{length-drop, length-take, take_min, take-append-le}
use Rattle.std.proofs.lemmas.List.Elements.{recursion_from_All}
use Rattle.encoding_definitions.specs.Prefixes.{WritesPrefix}
use Rattle.encoding_definitions.specs.Utf16.{AreCodeUnits, IsUtf8OfUnits}
use Rattle.encoding_text.specs.Encoding.{IsPendingSurrogate, EncodeStep}
use Rattle.encoding_text.specs.declared.utf_8.encoder.EncoderResult.{EncoderResult}
use Rattle.encoding_text.specs.declared.utf_8.encoder.EncoderResult.TheVariants.{InputEmpty}
use Rattle.encoding_definitions.proofs.PrefixesLemmas.{WritesPrefix-length, written_prefix}
use Rattle.encoding_text.proofs.EncoderLemmas.{enough_room}
use Rattle.encoding_text.proofs.EncoderCallLemmas.{at_most_one_pending, read_within, room_left, gets_on, all_encoded}
use Rattle.encoding_runs.specs.declared.run.turns.Turn.{Turn}
use Rattle.encoding_runs.specs.declared.run.encoding.EncodeOutcome.{EncodeOutcome}
use Rattle.encoding_runs.specs.Runs.{room_of, is_marked_last, AreOfTurns, IsRun, EachMakesProgress, Completes, EncodesByTurns}
use Rattle.encoding_runs.specs.Calls.{Call, IsChain, output_of}
use Rattle.encoding_runs.proofs.TurnLemmas.{same_call}
use Rattle.encoding_runs.proofs.CompletionLemmas.{GoesOn, marked, EachGetsOn, turns_complete}
use Rattle.encoding_runs.proofs.EncoderChainLemmas.{chain_encodes}
use Rattle.encoding_kernels.proofs.UpToSurrogateLemmas.{written_within}

-- ---- what a run writes
pub run_encodes : (surrogate src : List ℕ) (turns : List Turn) (old new : List ℕ) (outcome : EncodeOutcome) (after : List ℕ)
    → IsPendingSurrogate surrogate → AreCodeUnits src
    → IsRun EncodeStep surrogate src turns old new outcome.read outcome.written outcome.result after → EncodesByTurns surrogate src turns old new outcome after
run_encodes surrogate src turns old new outcome after h a run = record {
  run = run;
  encodes = rw (sym run.reads, sym run.leaves) at (chain_encodes surrogate src run.calls h a run.chain);
}

-- ---- the call of a turn
module _ (surrogate unread left sub : List ℕ) (turn : Turn) (piece room : ℕ) (last : Bool) (r : EncoderResult) (read written : ℕ) (after : List ℕ)
    (p : piece ≡ min turn.take (length unread))
    (q : room ≡ room_of turn (length left)) (l : last ≡ is_marked_last turn (length unread))
    (c : EncodeStep surrogate (take piece unread) (length (take room left)) last r read (take written sub) after)
    (w : WritesPrefix (take room left) sub written (take written sub)) where
  pub turn_call : EncodeStep surrogate (take turn.take unread) (room_of turn (length left)) (is_marked_last turn (length unread)) r read
      (take written (sub ++ drop room left)) after
  turn_call =
      same_call EncodeStep surrogate surrogate _ _ _ _ _ _ r read _ _ after c refl (ap (λ n. take n unread) p ∙ take_min turn.take unread)
      (length-take room left ∙ omega (arith, q)) l (sym (take-append-le written sub (drop room left) (omega (arith, w.fits, WritesPrefix-length _ _ _ _ w))))

  pub turn_rest : WritesPrefix left (sub ++ drop room left) written (take written (sub ++ drop room left))
  turn_rest = written_prefix _ _ _ _ (written_within left sub room written (take written sub) w)

-- ---- enough turns
abbrev Fits : List ℕ → List ℕ → ℕ → Type 0
Fits surrogate unread left = 3 * (length unread + length surrogate) ≤ left

abbrev work : List ℕ → List ℕ → ℕ
work surrogate unread = 2 * length unread + length surrogate

each_on : EachGetsOn EncodeStep InputEmpty 4 Fits work
each_on surrogate unread left turn r read out after (one, has_room, to_be_last) enough c =
    let piece = length-take turn.take unread in
    let few = at_most_one_pending surrogate c.surrogate_before in
    let rest = length-drop read unread in
    let within = read_within _ _ _ _ _ _ _ _ c in (
      omega (arith, room_left _ _ _ _ _ _ _ _ c),
      elim (cases_lt 0 (length unread)) [
        | inl some ↦ inl (omega (arith, gets_on _ _ _ _ _ _ _ _ c (omega arith) (λ small. omega (arith, small))))
        | inr none ↦
            let marks = marked turn (length unread) to_be_last (omega arith) in
            let all = enough_room _ _ _ _ _ _ _ _ (omega arith) c in
            inr (marks, all, omega (arith, ap length (all_encoded _ _ _ _ _ _ _ _ c marks all).1))
      ],
    )

-- ---- enough turns for a source
module _ (surrogate src : List ℕ) (turns : List Turn) (room : ℕ) (calls : List (Call ℕ EncoderResult ℕ)) (h : IsPendingSurrogate surrogate) where
  pub chain_completes : IsChain EncodeStep surrogate src calls → AreOfTurns (length src) room turns calls
      → Completes InputEmpty (λ n pending. 3 * (n + pending)) 4 surrogate src turns room (last_or None (map (λ call. call.result) calls))
  chain_completes chain t many g enough =
      (turns_complete EncodeStep InputEmpty 4 Fits work each_on turns calls surrogate src room None (recursion_from_All (GoesOn 4) turns g) enough chain t
      (inl (omega (arith, at_most_one_pending surrogate h)))).0

  pub chain_whole : AreCodeUnits src → IsChain EncodeStep surrogate src calls → AreOfTurns (length src) room turns calls
      → 2 * length src + 2 ≤ length turns → EachMakesProgress 4 turns → 3 * (length src + length surrogate) ≤ room
      → IsUtf8OfUnits (surrogate ++ src) (output_of calls)
  chain_whole a chain t many g enough =
      let fewer : work surrogate src < length turns = omega (arith, at_most_one_pending surrogate h) in
      let some =
      (turns_complete EncodeStep InputEmpty 4 Fits work each_on turns calls surrogate src room None (recursion_from_All (GoesOn 4) turns g) enough chain t
      (inl fewer)).1 fewer in
      let first = chain_encodes surrogate src calls h a chain in
      record { parts = first.parts; are_parts = first.all some; written = first.written }

pub run_completes : (surrogate src : List ℕ) (turns : List Turn) (old new : List ℕ) (outcome : EncodeOutcome) (after : List ℕ) → IsPendingSurrogate surrogate
    → IsRun EncodeStep surrogate src turns old new outcome.read outcome.written outcome.result after
    → Completes InputEmpty (λ n pending. 3 * (n + pending)) 4 surrogate src turns (length old) outcome.result
run_completes surrogate src turns old new outcome after h run many g enough =
    run.returns ∙ chain_completes surrogate src turns (length old) run.calls h run.chain run.of_turns many g enough
