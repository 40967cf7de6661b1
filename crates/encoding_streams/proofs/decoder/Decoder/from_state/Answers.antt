use Rattle.std.proofs.Common.{◌≡◌, length, sym, ap, ◌∙◌, arith}
use Rattle.std.proofs.lemmas.Bool.Decides.{nat_tests}
use Rattle.std.proofs.lemmas.List.{nil_from_length}
use Rattle.encoding_streams.proofs.PendingCallLemmas.{at_most_three}
use Rattle.encoding_streams.proofs.decoder.Decoder.from_state.Goals.{then-is_empty-via-then-is_empty, then-is_empty-via-else-is_empty+then-pending-gt3}
use Rattle.encoding_streams.proofs.decoder.Decoder.from_state.Goals.{then-is_empty-via-else-is_empty+else-pending-gt3+then-not-is_pending_of}
use Rattle.encoding_streams.proofs.decoder.Decoder.from_state.Goals as goal

pub returns-then-is_empty-clause-state : goal.returns-then-is_empty-clause-state
returns-then-is_empty-clause-state c = λ pending. elim c.then-is_empty.branch [
  | then-is_empty-via-then-is_empty w ↦
      let none : length c.args.pending.now ≡ 0 = let is = sym c.is_empty.ensures ∙ w.if-is_empty.true in grind (arith, nat_tests) in
      ap (λ s. s.pending) c.new_decoder_with.ensures ∙ sym (nil_from_length c.args.pending.now none)
  | then-is_empty-via-else-is_empty+then-pending-gt3 w ↦
      absurd (omega (arith, w.if-pending-gt3.true, at_most_three c.args.bom c.args.encoding c.args.pending.now pending))
  | then-is_empty-via-else-is_empty+else-pending-gt3+then-not-is_pending_of w ↦
      absurd (w.is_pending_of.ensures.no w.if-not-is_pending_of.true pending)
]
