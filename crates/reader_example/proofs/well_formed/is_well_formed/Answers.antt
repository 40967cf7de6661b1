use Rattle.std.proofs.Common.{◌==◌, refl, ap, arith}
use Rattle.std.proofs.lemmas.Bool.{eqb-true}
use Rattle.std.proofs.lemmas.Bool.Decides.{nat_tests}
use Rattle.encoding_text.proofs.PrefixesLemmas.{WritesPrefix-length}
use Rattle.reader_example.proofs.WellFormedLemmas.{none_yet, next, some_malformed, all_whole}
use Rattle.reader_example.proofs.well_formed.is_well_formed.Goals as goal

pub loop-init : goal.loop-init
loop-init g c = record {
  none = rw c.new_inner-decoder.ensures (none_yet (g.R.Read.remaining c.args.reader.now));
  block = refl;
  room = refl;
}

pub returns-then-repaired-gt0-clause-answer : goal.returns-then-repaired-gt0-clause-answer
returns-then-repaired-gt0-clause-answer g c =
    let (out, writes, repair) = c.repair_block-repaired.ensures in
    let read = c.in_ok-count.ensures in
    some_malformed _ _ _ _ _ _ _ _ repair c.law_block_repair.ensures.prefix c.law_parts.ensures.exist c.law_parts.ensures.well_formed _ _ _
    c.loop.invariant.none read.bytes.0
    (λ marked. read.bytes.1 (eqb-true _ _ marked) (omega (arith, c.loop.invariant.block, c.read.auto.buf))) c.if-repaired-gt0.true

pub returns-then-last-clause-answer : goal.returns-then-last-clause-answer
returns-then-last-clause-answer g c =
    let (out, writes, repair) = c.repair_block-repaired.ensures in
    let read = c.in_ok-count.ensures in
    all_whole _ _ _ _ _ _ _ _ repair c.law_block_repair.ensures.whole c.law_parts.ensures.well_formed _ _ _ c.loop.invariant.none read.bytes.0
    (ap (λ n. n == 0) c.if-last.true) (read.bytes.1 c.if-last.true (omega (arith, c.loop.invariant.block, c.read.auto.buf))) c.if-repaired-gt0.false
    (omega (arith, read.bound, c.loop.invariant.block, c.read.auto.buf)) (omega (arith, c.loop.invariant.room))

pub loop-preserved : goal.loop-preserved
loop-preserved g c =
    let (out, writes, repair) = c.repair_block-repaired.ensures in
    let read = c.in_ok-count.ensures in
    record {
      none = next _ _ _ _ _ _ _ _ repair _ _ _ c.loop.invariant.none read.bytes.0 (grind (arith, nat_tests, c.if-last.false)) c.if-repaired-gt0.false
          (omega (arith, read.bound, c.loop.invariant.block, c.read.auto.buf)) (omega (arith, c.loop.invariant.room));
      block = omega (arith, c.loop.invariant.block, c.read.auto.buf);
      room = omega (arith, c.loop.invariant.room, WritesPrefix-length _ _ _ _ writes);
    }
