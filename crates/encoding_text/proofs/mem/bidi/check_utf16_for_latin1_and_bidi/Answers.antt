use Rattle.std.proofs.Common.{◌≤◌, refl, sym, subst, arith}
use Rattle.std.proofs.lemmas.List.{take_rest}
use Rattle.encoding_definitions.specs.Bidi.{IsBidiUnits}
use Rattle.encoding_definitions.proofs.BidiUnitsLemmas.{bidi_whole, bidi_rest}
use Rattle.encoding_kernels.proofs.ScanLemmas.{Each-take}
use Rattle.encoding_text.proofs.mem.bidi.check_utf16_for_latin1_and_bidi.Goals as goal

pub returns-then-is_utf16_bidi : goal.returns-then-is_utf16_bidi
returns-then-is_utf16_bidi c =
    let rest = subst IsBidiUnits (take_rest c.args.buffer.now _) ((c.if-is_utf16_bidi.ensures {u = tt}).0 refl) in (
      λ w. c.if-prefix-buffer.false (c.skip_units_below-prefix.ensures.whole (λ k _. omega (arith, w k))),
      bidi_whole _ _
          (λ k. omega (arith, c.type_inv.buffer k)) rest,
    )

pub returns-else-is_utf16_bidi : goal.returns-else-is_utf16_bidi
returns-else-is_utf16_bidi c = (
  λ w. c.if-prefix-buffer.false (c.skip_units_below-prefix.ensures.whole (λ k _. omega (arith, w k))),
  λ b. let none = (c.if-is_utf16_bidi.ensures {u = tt}).1 (subst IsBidiUnits (sym (take_rest c.args.buffer.now _))
      (bidi_rest _ _ (λ k. omega (arith, c.type_inv.buffer k))
      (Each-take (λ u. u ≤ 0xFF) (omega arith) _ _ (λ k h. omega (arith, c.skip_units_below-prefix.ensures.below k h))) b)) in cc,
)
