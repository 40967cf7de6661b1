use Rattle.std.proofs.Common.{◌↔◌, inl, inr, subst}
use Rattle.std.specs.Prelude.{Any}
use Rattle.std.specs.Str.{chars}
use Rattle.std.proofs.lemmas.Str.{encodes-chars, scalars-chars}
use Rattle.encoding_text.specs.Bidi.{IsRightToLeft, IsBidiBytes}
use Rattle.engine_example.proofs.units.text_has_right_to_left.Goals as goal

pub returns : goal.returns
returns c =
    let bs = c.args.text.now in
    let agree =
    subst (λ xs. Any IsRightToLeft (chars bs) ↔ IsBidiBytes xs) (encodes-chars bs c.utf8.text)
    (c.law_bidi_agrees.ensures.utf8 (chars bs) (scalars-chars bs c.utf8.text)) in
    (λ t. agree.1 (inr (c.is_str_bidi.ensures.0 t)), λ a. c.is_str_bidi.ensures.1 (elim (agree.0 a) [ inl none ↦ absurd (none c.utf8.text) | inr text ↦ text ]))
