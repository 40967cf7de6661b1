use Rattle.std.proofs.Common.{◌≡◌, ◌∷◌, ◌∙◌, [], length, arith, rules, sym, ap, subst}
use Rattle.encoding_text.specs.Encoding.{IsPendingSurrogate, pending_units}
use Rattle.encoding_text.proofs.EncoderCallLemmas.{text_waits, text_call, text_call_rest, enough_for_text}
use Rattle.encoding_text.proofs.utf_8.encoder.Utf8Encoder.encode_from_utf8_raw.Goals as goal

pub returns-in_default-clause-suffices : goal.returns-in_default-clause-suffices
returns-in_default-clause-suffices c = λ h.
    enough_for_text _ c.args.src.now (length c.args.dst.now) _ _ _ _ c.utf8.src (omega (arith, h)) c.encode_text-result.ensures.call

pub returns-then-utf8_length-dst-clause-call : goal.returns-then-utf8_length-dst-clause-call
returns-then-utf8_length-dst-clause-call c =
    let surrogate : c.args.self.now ≡ c.in-Some.field-0 ∷ [] = sym c.self.view_is ∙ ap pending_units c.in-Some.is in
    let high = subst IsPendingSurrogate (ap pending_units c.in-Some.is) c.self.invariant in
    text_waits c.args.self.now c.args.src.now c.in-Some.field-0 (length c.args.dst.now) surrogate high
    (omega (arith, c.if-utf8_length-dst.true, c.utf8_length.ensures))

pub returns : goal.returns
returns c =
    let surrogate : c.args.self.now ≡ c.in-Some.field-0 ∷ [] = sym c.self.view_is ∙ ap pending_units c.in-Some.is in
    let high = subst IsPendingSurrogate (ap pending_units c.in-Some.is) c.self.invariant in
    let then = c.encode_text-result-2.ensures in
    let whole =
    text_call c.args.self.now c.args.src.now _ _ _ c.in-Some.field-0 _ _ _ _ surrogate high c.write_scalar-first.ensures then.call then.unchanged_after in
    record {
      call = whole;
      within = search rules;
      unchanged_after = text_call_rest c.args.self.now c.args.src.now _ _ _ c.in-Some.field-0 _ _ _ _ surrogate high c.write_scalar-first.ensures then.call
          then.unchanged_after;
      suffices = λ h. enough_for_text c.args.self.now c.args.src.now (length c.args.dst.now) _ _ _ _ c.utf8.src h whole;
    }
