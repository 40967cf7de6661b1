use Rattle.std.proofs.Common.{◌+◌, arith, refl, subst}
use Rattle.encoding_kernels.specs.RightToLeft.{NoneRightToLeft}
use Rattle.encoding_definitions.proofs.BidiUnitsLemmas.{bidi_at, bidi_place}
use Rattle.encoding_kernels.proofs.BidiLemmas.{units_joined, unit_none}
use Rattle.encoding_text.proofs.mem.bidi.is_utf16_bidi.Goals as goal

pub loop-i-init : goal.loop-i-init
loop-i-init c =
    units_joined c.args.buffer.now 0 c.loop-at.at c.loop-at.at _ c.loop-at.invariant.none c.skip_by_vectors-from.ensures.no_right_to_left (omega arith)

pub returns-then-is_utf16_code_unit_bidi : goal.returns-then-is_utf16_code_unit_bidi
returns-then-is_utf16_code_unit_bidi c =
    let here = (c.if-is_utf16_code_unit_bidi.ensures {u = tt}).0 refl in
    (λ e. bidi_at c.args.buffer.now c.loop-i.i (λ k. omega (arith, c.type_inv.buffer k)) (omega (arith, c.min.ensures)) here, λ b. refl)

pub returns : goal.returns
returns c = (
  λ e. absurd (cc),
  λ b. let found = bidi_place c.args.buffer.now b in absurd (c.loop-at.invariant.none.each found.0 (omega arith) (omega (arith, found.1)) found.2),
)

pub loop-i-preserved : goal.loop-i-preserved
loop-i-preserved c =
    let us = c.args.buffer.now in
    let i = c.loop-i.i in
    let none = unit_none us i (λ r. let none = (c.if-is_utf16_code_unit_bidi.ensures {u = tt}).1 r in cc) in
    units_joined us 0 i i (i + 1) c.loop-i.invariant none (omega arith)

pub loop-at-preserved : goal.loop-at-preserved
loop-at-preserved c =
    let to = c.skip_by_vectors-from.result + c.min.result in
    record {
      within = omega (arith, c.min.ensures);
      none = subst (NoneRightToLeft c.args.buffer.now 0) {x = c.loop-i.i} {y = to} (omega arith) c.loop-i.invariant;
    }
