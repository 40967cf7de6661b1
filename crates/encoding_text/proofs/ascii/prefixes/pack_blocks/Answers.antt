use Rattle.std.proofs.Common.{◌≡◌, ◌+◌, ◌-◌, inl, inr, take, length, ap, refl, arith}
use Rattle.std.proofs.lemmas.Bool.{cases_lt}
use Rattle.encoding_definitions.proofs.PrefixesLemmas.{WritesPrefix-length, WritesPrefix-same, WritesPrefix_again}
use Rattle.encoding_kernels.proofs.ScanLemmas.{WritesPrefix_block}
use Rattle.encoding_text.proofs.ascii.prefixes.pack_blocks.Goals as goal

pub loop-at-preserved : goal.loop-at-preserved
loop-at-preserved c =
    let here = c.loop-at.invariant in
    let at = c.loop-at.at in
    record {
      within = omega arith;
      below = λ k l. elim (cases_lt k at) [ inl p ↦ here.below k p | inr p ↦ c.if-are_units_below.ensures.0 refl k p l ];
      copied = WritesPrefix_block c.args.dst.now c.loop-at.dst c.pack.new.dst c.args.src.now at 64 here.copied (omega arith)
          (omega (arith, WritesPrefix-length _ _ _ _ here.copied, c.requires.dst_length)) c.pack.ensures;
    }

pub returns-then-are_units_below-2-clause-copied : goal.returns-then-are_units_below-2-clause-copied
returns-then-are_units_below-2-clause-copied c =
    let src = c.args.src.now in
    let last = length src - 64 in
    let copied = c.loop-at.invariant.copied in
    let end : last + 64 ≡ length src = omega arith in
    let all = WritesPrefix_again c.args.dst.now c.loop-at.dst _ src c.loop-at.at last 64 copied (omega (arith, c.if-at-last.true)) (omega arith)
    (omega arith)
    (omega (arith, WritesPrefix-length _ _ _ _ copied, c.requires.dst_length)) c.pack-then-are_units_below-2.ensures in
    WritesPrefix-same _ _ _ _ _ _ all end (ap (λ k. take k src) end)
