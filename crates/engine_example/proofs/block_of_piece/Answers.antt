use Rattle.std.proofs.Common.{ℕ, arith, append-nil}
use Rattle.std.proofs.lemmas.Grind.{common_steps}
use Rattle.std.proofs.lemmas.List.{take_rest}
use Rattle.std.specs.Char.Escape.{encode_utf16}
use Rattle.encoding_text.proofs.RepairingLemmas.{lossy-characters}
use Rattle.engine_example.proofs.EnginePieceLemmas.{yielded_on}
use Rattle.engine_example.proofs.block_of_piece.Goals as goal

pub loop-text-preserved-in-Continue-1 : goal.loop-text-preserved-in-Continue-1
loop-text-preserved-in-Continue-1 c =
    let call = rw (take_rest c.args.piece.now c.loop-text.read, c.in-Text.is) at c.decode_borrowed_raw-bytes.ensures in
    yielded_on c.law_mixed_calls.ensures.one_call _ _ _ _ _ _ _ _ _ _ c.loop-text.invariant call
    (λ parts h. rw (h, lossy-characters encode_utf16 _) c.in_ok-append_text-in-Text.ensures)

pub loop-text-preserved-in-Continue-branch-2 : goal.loop-text-preserved-in-Continue-branch-2
loop-text-preserved-in-Continue-branch-2 c =
    let call = rw (take_rest c.args.piece.now c.loop-text.read, c.in-Char.is) at c.decode_borrowed_raw-bytes.ensures in
    yielded_on c.law_mixed_calls.ensures.one_call _ _ _ _ _ _ _ _ _ _ c.loop-text.invariant call
    (λ parts h. rw (h, append-nil {A = ℕ}) (grind (arith, common_steps)))

pub loop-text-preserved : goal.loop-text-preserved
loop-text-preserved c =
    let call = rw (take_rest c.args.piece.now c.loop-text.read, c.in-Malformed.is) at c.decode_borrowed_raw-bytes.ensures in
    yielded_on c.law_mixed_calls.ensures.one_call _ _ _ _ _ _ _ _ _ _ c.loop-text.invariant call
    (λ parts (x, h, l). rw h c.in_ok-push-in-Malformed.ensures.items)
