use Rattle.std.proofs.Common.{◌≡◌, ◌+◌, ◌-◌, ◌≤◌, inl, inr, take, length, ap, refl, arith}
use Rattle.std.proofs.lemmas.Bool.{cases_lt}
use Rattle.encoding_definitions.proofs.PrefixesLemmas.{WritesPrefix-nil, WritesPrefix-length, WritesPrefix-same, WritesPrefix_again}
use Rattle.encoding_kernels.proofs.ScanLemmas.{WritesPrefix_block}
use Rattle.encoding_text.proofs.ascii.prefixes.copy_blocks.Goals as goal

pub returns-then-dst-src-clause-copied : goal.returns-then-dst-src-clause-copied
returns-then-dst-src-clause-copied c = WritesPrefix-nil c.args.dst.now

pub returns-then-dst-src-clause-ascii : goal.returns-then-dst-src-clause-ascii
returns-then-dst-src-clause-ascii c = λ k l. absurd (omega arith)

pub loop-at-init : goal.loop-at-init
loop-at-init c = record { within = omega arith; below = λ k l. absurd (omega arith); copied = WritesPrefix-nil c.args.dst.now }

pub loop-at-preserved : goal.loop-at-preserved
loop-at-preserved c =
    let here = c.loop-at.invariant in
    let at = c.loop-at.at in
    record {
      within = omega arith;
      below = λ k l. elim (cases_lt k at) [ inl p ↦ here.below k p | inr p ↦ c.if-are_bytes_below.ensures.0 refl k p l ];
      copied = WritesPrefix_block c.args.dst.now c.loop-at.dst c.copy.new.dst c.args.src.now at 64 here.copied (omega arith)
          (omega (arith, WritesPrefix-length _ _ _ _ here.copied, c.if-dst-src.false)) c.copy.ensures;
    }

pub returns-then-are_bytes_below-2-clause-ascii : goal.returns-then-are_bytes_below-2-clause-ascii
returns-then-are_bytes_below-2-clause-ascii c = λ k l.
    elim (cases_lt k c.loop-at.at) [
      | inl p ↦ c.loop-at.invariant.below k p
      | inr p ↦ c.if-are_bytes_below-2.ensures.0 refl k (omega (arith, c.if-at-last.true)) (omega arith)
    ]

pub returns-then-are_bytes_below-2-clause-copied : goal.returns-then-are_bytes_below-2-clause-copied
returns-then-are_bytes_below-2-clause-copied c =
    let src = c.args.src.now in
    let last = length src - 64 in
    let copied = c.loop-at.invariant.copied in
    let end : last + 64 ≡ length src = omega arith in
    let all = WritesPrefix_again c.args.dst.now c.loop-at.dst _ src c.loop-at.at last 64 copied (omega (arith, c.if-at-last.true)) (omega arith)
    (omega arith)
    (omega (arith, WritesPrefix-length _ _ _ _ copied, c.if-dst-src.false)) c.copy-then-are_bytes_below-2.ensures in
    WritesPrefix-same _ _ _ _ _ _ all end (ap (λ k. take k src) end)

pub returns-clause-within : goal.returns-clause-within
returns-clause-within c = omega (arith, c.run_len_below-run.ensures.within, c.min-place.ensures)

pub returns-clause-ascii : goal.returns-clause-ascii
returns-clause-ascii c =
    let r = c.run_len_below-run.ensures in
    let place = c.min-place.ensures in
    λ k l. elim (cases_lt k c.loop-at.at) [ inl p ↦ c.loop-at.invariant.below k p | inr p ↦ r.pass k (omega (arith, place)) l ]

pub returns-clause-copied : goal.returns-clause-copied
returns-clause-copied c =
    let copied = c.loop-at.invariant.copied in
    let r = c.run_len_below-run.ensures in
    let place = c.min-place.ensures in
    let end = c.min-place.result + c.run_len_below-run.result in
    let onward : c.loop-at.at ≤ end = elim (cases_lt end c.loop-at.at) [
      | inl l ↦ absurd (r.stops (omega (arith, place, c.loop-at.invariant.within)) (c.loop-at.invariant.below end l))
      | inr b ↦ b
    ] in
    WritesPrefix_again c.args.dst.now c.loop-at.dst _ c.args.src.now c.loop-at.at c.min-place.result c.run_len_below-run.result copied
    (omega (arith, place)) onward (omega (arith, r.within, place))
    (omega (arith, WritesPrefix-length _ _ _ _ copied, c.if-dst-src.false, r.within, place)) c.copy_run_of_block.ensures
