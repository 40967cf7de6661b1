use Rattle.std.proofs.Common.{◌≡◌, ℕ, arith, inr, length, [], ◌∷◌, take, drop, sym, refl}
use Rattle.std.proofs.lemmas.List.{length-take, take-append-drop}
use Rattle.encoding_definitions.proofs.SequenceLemmas.{length-IsIncomplete}
use Rattle.encoding_text.proofs.CallLemmas.{ended_open}
use Rattle.encoding_text.proofs.FirstLemmas.{pending_rest}
use Rattle.encoding_text.proofs.PendingLemmas.{kept_bytes}
use Rattle.encoding_text.proofs.decoder.pending.Pending.end_after_two.Goals as goal

pub slice_bounds-bytes-end : goal.slice_bounds-bytes-end
slice_bounds-bytes-end c =
    let begun = pending_rest c.args.rest.now c.requires.not_empty c.in-Incomplete.ensures.1 in
    omega (arith, length-IsIncomplete _ begun)

pub slice_bounds-copy_from_slice-end : goal.slice_bounds-copy_from_slice-end
slice_bounds-copy_from_slice-end c =
    let begun = pending_rest c.args.rest.now c.requires.not_empty c.in-Incomplete.ensures.1 in
    omega (arith, length-IsIncomplete _ begun, length-take {A = ℕ} (length c.args.rest.now) (0 ∷ 0 ∷ 0 ∷ 0 ∷ []))

pub copy_from_slice-requires : goal.copy_from_slice-requires
copy_from_slice-requires c =
    let begun = pending_rest c.args.rest.now c.requires.not_empty c.in-Incomplete.ensures.1 in
    omega (arith, length-IsIncomplete _ begun, length-take {A = ℕ} (length c.args.rest.now) (0 ∷ 0 ∷ 0 ∷ 0 ∷ []))

pub invariant_of-self : goal.invariant_of-self
invariant_of-self c =
    let bytes = c.args.rest.now in
    let begun = pending_rest bytes c.requires.not_empty c.in-Incomplete.ensures.1 in
    let copied : c.copy_from_slice.new.self ≡ bytes = c.copy_from_slice.ensures.after in
    (length-IsIncomplete _ begun, inr (rw (copied, kept_bytes) begun))

pub returns-in-Incomplete : goal.returns-in-Incomplete
returns-in-Incomplete c =
    let bytes = c.args.rest.now in
    let begun = pending_rest bytes c.requires.not_empty c.in-Incomplete.ensures.1 in
    let copied : c.copy_from_slice.new.self ≡ bytes = c.copy_from_slice.ensures.after in
    ended_open _ _ _ _ _ begun (rw (copied, kept_bytes) refl) c.end.ensures

pub unreachable-requires : goal.unreachable-requires
unreachable-requires c =
    let rest = c.args.rest.now in
    c.requires.no_character (take 1 rest) (drop 1 rest) (sym (take-append-drop 1 rest)) (c.in-Ascii.ensures {u = tt}).1

pub unreachable-requires-in-Character : goal.unreachable-requires-in-Character
unreachable-requires-in-Character c =
    let rest = c.args.rest.now in
    let n = c.in-Character.field-0 in
    c.requires.no_character (take n rest) (drop n rest) (sym (take-append-drop n rest)) (c.in-Character.ensures {u = tt}).2
