use Rattle.std.proofs.Common.{◌≡◌, ◌+◌, inl, inr, arith, subst}
use Rattle.std.proofs.lemmas.Bool.{cases_lt}
use Rattle.encoding_definitions.proofs.PrefixesLemmas.{WritesPrefix-length}
use Rattle.encoding_kernels.specs.Scans.{BelowUpTo}
use Rattle.encoding_kernels.specs.UnitBytes.{units_of}
use Rattle.encoding_kernels.proofs.ScanLemmas.{below_joined}
use Rattle.encoding_kernels.proofs.UnitBytesLemmas.{Copied, length-units_of, one_unit_more, copied_prefix, copied_on, copied_put}
use Rattle.encoding_kernels.proofs.utf16.bytes.copy_ascii_units.Goals as goal

pub loop-dst-preserved : goal.loop-dst-preserved
loop-dst-preserved c =
    let here = c.loop-dst.invariant in
    let ascii = c.are_64_ascii.ensures c.if-are_64_ascii.true in
    let below = below_joined 0x80 (units_of c.args.big c.args.src.now) c.loop-dst.at 64 here.below ascii in
    let next = copied_on here.copied 64 ascii (λ l. absurd (omega (arith, l))) c.pack_64.ensures in
    record { within = omega (arith, next.fits, WritesPrefix-length _ _ _ _ next); below = below; copied = copied_prefix below next }

pub returns-then-run-lt-STRIDE-2-clause-copied : goal.returns-then-run-lt-STRIDE-2-clause-copied
returns-then-run-lt-STRIDE-2-clause-copied c =
    let run = c.copy_ascii_of_sixteen-run-in-loop-dst-2 in
    let here = c.loop-dst-2.invariant.copied in
    let long = WritesPrefix-length _ _ _ _ here.written in
    copied_put here run.result run.ensures.ascii run.ensures.stops
    (omega (arith, c.requires, length-units_of c.args.big c.args.src.now, long, run.ensures.within, c.loop-dst-2-test.true))
    (omega (arith, run.ensures.within, c.loop-dst-2-test.true)) run.ensures.copied

pub loop-dst-2-preserved : goal.loop-dst-2-preserved
loop-dst-2-preserved c =
    let us = units_of c.args.big c.args.src.now in
    let at = c.loop-dst-2.at in
    let run = c.copy_ascii_of_sixteen-run-in-loop-dst-2 in
    let whole : run.result ≡ 16 = omega (arith, run.ensures.within, c.if-run-lt-STRIDE-2.false) in
    let here = c.loop-dst-2.invariant in
    let long = WritesPrefix-length _ _ _ _ here.copied.written in
    let below = below_joined 0x80 us at run.result here.below run.ensures.ascii in
    let next = copied_put here.copied run.result run.ensures.ascii run.ensures.stops
    (omega (arith, c.requires, length-units_of c.args.big c.args.src.now, long, run.ensures.within, c.loop-dst-2-test.true))
    (omega (arith, run.ensures.within, c.loop-dst-2-test.true)) run.ensures.copied in
    record {
      within = omega (arith, whole, next.fits, WritesPrefix-length _ _ _ _ next);
      below = subst (λ n. BelowUpTo 0x80 us (at + n)) whole below;
      copied = subst (λ n. Copied c.args.dst.now run.new.dst us (at + n)) whole (copied_prefix below next);
    }

pub loop-at-preserved : goal.loop-at-preserved
loop-at-preserved c =
    let us = units_of c.args.big c.args.src.now in
    let at = c.loop-at.at in
    let here = c.loop-at.invariant in
    let long = WritesPrefix-length _ _ _ _ here.copied in
    let next = one_unit_more c.args.dst.now c.loop-at.dst us at c.unit_at-unit.result c.unit_at-unit.ensures
    (omega (arith, c.requires, length-units_of c.args.big c.args.src.now, long)) (omega arith) here.copied in
    record {
      within = omega (arith, long, WritesPrefix-length _ _ _ _ next);
      below = λ k l. elim (cases_lt k at) [
        | inl p ↦ here.below k p
        | inr p ↦ let e : k ≡ at = omega arith in rw e (omega (arith, c.unit_at-unit.ensures, c.if-unit-ge-BASIC_LATIN_END.false))
      ];
      copied = next;
    }
