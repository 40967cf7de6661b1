use Rattle.std.proofs.Common.{arith, refl}
use Rattle.encoding_kernels.proofs.BidiLemmas.{none_joined, none_before, bidi_of_place, place_of_bidi}
use Rattle.encoding_text.proofs.mem.bidi.has_right_to_left.Goals as goal

pub returns-then-has_right_to_left_between : goal.returns-then-has_right_to_left_between
returns-then-has_right_to_left_between c = let found = c.if-has_right_to_left_between.ensures.found refl in
    (λ e. bidi_of_place c.args.bytes.now found.0 c.requires found.1 found.2, λ b. refl)

pub loop-at-preserved : goal.loop-at-preserved
loop-at-preserved c =
    let bs = c.args.bytes.now in
    let place = c.skip_clear-from.result in
    record {
      within = omega (arith, c.min.ensures);
      none = none_joined bs 0 place _ (none_joined bs 0 c.loop-at.at place c.loop-at.invariant.none c.skip_clear-from.ensures.no_rtl)
          (c.if-has_right_to_left_between.ensures.no_right_to_left refl);
    }

pub returns : goal.returns
returns c = (
  λ e. absurd (cc),
  λ b. let found = place_of_bidi c.args.bytes.now b in absurd (c.loop-at.invariant.none.each found.0 (omega arith) (omega (arith, found.1)) found.2),
)

pub loop-at-init : goal.loop-at-init
loop-at-init c = let run = c.prefix_len_below-at.ensures in
    record { within = run.within; none = none_before c.args.bytes.now c.prefix_len_below-at.result run.below }
