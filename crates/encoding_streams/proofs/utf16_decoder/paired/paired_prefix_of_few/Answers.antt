use Rattle.std.proofs.Common.{◌≡◌, ◌↔◌, true, ◌∷◌, slice_index, ◌∙◌, subst, arith}
use Rattle.encoding_definitions.specs.Utf16.{IsHighSurrogate, IsLowSurrogate}
use Rattle.encoding_streams.proofs.Utf16PairedLemmas.{next_is, paired_unit, same_test}
use Rattle.encoding_streams.proofs.utf16_decoder.paired.paired_prefix_of_few.Goals as goal

pub loop-at-preserved : goal.loop-at-preserved
loop-at-preserved g c =
    let us = g.S.CodeUnits.units c.args.src in
    let at = c.loop-at.at in
    let kept = c.loop-at.invariant in
    record {
      within = omega arith;
      paired = paired_unit us at kept.paired
          (subst (λ u. IsLowSurrogate u ↔ IsHighSurrogate (slice_index (0 ∷ us) at)) c.unit_at-unit.ensures
          (same_test _ _ _ _ c.is_low_surrogate.ensures kept.before c.if-is_low_surrogate-follows_high.false));
      before = subst (λ u. (c.is_high_surrogate-follows_high.result ≡ true) ↔ IsHighSurrogate u) (c.unit_at-unit.ensures ∙ next_is us at)
          c.is_high_surrogate-follows_high.ensures;
    }
