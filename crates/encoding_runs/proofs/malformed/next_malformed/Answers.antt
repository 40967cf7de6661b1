use Rattle.std.proofs.Common.{ap, arith, length, refl}
use Rattle.std.proofs.lemmas.List.{take_rest}
use Rattle.encoding_runs.proofs.MalformedLemmas.{reported_next, none_is_text, next_not_text}
use Rattle.encoding_runs.proofs.malformed.next_malformed.Goals as goal

pub returns-in-Malformed : goal.returns-in-Malformed
returns-in-Malformed c =
    let call = rw (c.new_inner.ensures, c.in-Malformed.is, take_rest) at c.decode_borrowed_raw.ensures in
    let long = ap length (take_rest c.args.src.now c.utf8_valid_up_to-place.result) in
    let next = reported_next _ _ _ _ _ _ c.utf8_valid_up_to-place.ensures (omega (arith, long)) (λ l. omega (arith, long)) call in
    record { if_some = rw c.from.ensures next; if_none = (λ e. cc, λ text. absurd (next_not_text _ _ _ next text)) }

pub returns-in_default-clause-if_none : goal.returns-in_default-clause-if_none
returns-in_default-clause-if_none c =
    let call = rw (c.new_inner.ensures, take_rest) at c.decode_borrowed_raw.ensures in
    let long = ap length (take_rest c.args.src.now c.utf8_valid_up_to-place.result) in
    (λ e. none_is_text _ _ _ _ _ _ c.utf8_valid_up_to-place.ensures (omega (arith, long)) (λ l. omega (arith, long)) call c.in_default.not-Malformed, λ t. refl)
