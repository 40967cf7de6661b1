use Rattle.std.proofs.Common.{◌≡◌, ◌∷◌, ◌∙◌, [], length, arith, rules, sym, ap, subst}
use Rattle.encoding_text.specs.Encoding.{IsPendingSurrogate, pending_units}
use Rattle.encoding_text.proofs.EncoderLemmas.{some_there, call_full, call_then, call_then_rest, enough_room}
use Rattle.encoding_text.proofs.utf_8.encoder.Utf8Encoder.encode_from_utf16_raw.Goals as goal

pub returns-in_default-clause-suffices : goal.returns-in_default-clause-suffices
returns-in_default-clause-suffices c = λ h.
    enough_room _ c.args.src.now (length c.args.dst.now) c.args.last _ _ _ _ (omega (arith, h)) c.encode_fresh.ensures.call

pub returns-then-utf8_length-dst-clause-call : goal.returns-then-utf8_length-dst-clause-call
returns-then-utf8_length-dst-clause-call c =
    let surrogate : c.args.self.now ≡ c.in-Some.high ∷ [] = sym c.self.view_is ∙ ap pending_units c.in-Some.is in
    let high = subst IsPendingSurrogate (ap pending_units c.in-Some.is) c.self.invariant in
    let some = some_there c.is_empty.result c.args.last (length c.args.src.now) c.is_empty.ensures c.else-is_empty.either in
    let first = c.first_with_pending-scalar.ensures in
    call_full c.args.self.now c.args.src.now c.in-Some.high (length c.args.dst.now) c.args.last surrogate high _ _ first.scalar first.taken some
    (λ k. omega (arith, c.type_inv.src k)) (omega (arith, c.if-utf8_length-dst.true, c.utf8_length.ensures))

pub returns : goal.returns
returns c =
    let surrogate : c.args.self.now ≡ c.in-Some.high ∷ [] = sym c.self.view_is ∙ ap pending_units c.in-Some.is in
    let high = subst IsPendingSurrogate (ap pending_units c.in-Some.is) c.self.invariant in
    let some = some_there c.is_empty.result c.args.last (length c.args.src.now) c.is_empty.ensures c.else-is_empty.either in
    let first = c.first_with_pending-scalar.ensures in
    let then = c.encode_fresh-result.ensures in
    let whole =
    call_then c.args.self.now c.args.src.now _ _ _ c.in-Some.high _ _ _ _ _ c.args.last _ _ surrogate high first.scalar first.taken some
    c.write_scalar-first.ensures then.call then.unchanged_after in
    record {
      call = whole;
      within = search rules;
      unchanged_after = call_then_rest c.args.self.now c.args.src.now _ _ _ c.in-Some.high _ _ _ _ _ c.args.last _ _ surrogate high first.scalar first.taken
          some c.write_scalar-first.ensures then.call then.unchanged_after;
      suffices = λ h. enough_room c.args.self.now c.args.src.now (length c.args.dst.now) c.args.last _ _ _ _ h whole;
    }
