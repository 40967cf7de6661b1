use Rattle.std.proofs.Common.{arith}
use Rattle.std.proofs.lemmas.Bool.{both_ways}
use Rattle.encoding_definitions.proofs.Latin1Lemmas.{latin1_more_one, latin1_more_two, latin1_stop}
use Rattle.encoding_text.proofs.mem.checks.longest_latin1.Goals as goal
use Rattle.encoding_text.proofs.mem.checks.longest_latin1.Goals.{then-byte-lt-LATIN1_LEAD-via-then-byte-lt-LATIN1_LEAD}
use Rattle.encoding_text.proofs.mem.checks.longest_latin1.Goals.{then-byte-lt-LATIN1_LEAD-via-else-byte-lt-LATIN1_LEAD+then-byte-ge-BEYOND_LATIN1}
use Rattle.encoding_text.proofs.mem.checks.longest_latin1.Goals.{
  then-byte-lt-LATIN1_LEAD-via-else-byte-lt-LATIN1_LEAD+else-byte-ge-BEYOND_LATIN1+then-read-buffer,
}

pub loop-read-preserved-then-byte-lt128 : goal.loop-read-preserved-then-byte-lt128
loop-read-preserved-then-byte-lt128 c = record {
  within = omega arith;
  latin1 = latin1_more_one c.args.buffer.now c.loop-read.read (omega arith) c.loop-read.invariant.latin1 (omega arith);
}

pub returns-then-byte-lt-LATIN1_LEAD : goal.returns-then-byte-lt-LATIN1_LEAD
returns-then-byte-lt-LATIN1_LEAD c = latin1_stop c.args.buffer.now c.loop-read.read (omega arith) c.loop-read.invariant.latin1 (λ l. (
  omega arith,
  λ p q r s t. elim c.then-byte-lt-LATIN1_LEAD.branch [
    | then-byte-lt-LATIN1_LEAD-via-then-byte-lt-LATIN1_LEAD w ↦ omega arith
    | then-byte-lt-LATIN1_LEAD-via-else-byte-lt-LATIN1_LEAD+then-byte-ge-BEYOND_LATIN1 w ↦ omega arith
    | then-byte-lt-LATIN1_LEAD-via-else-byte-lt-LATIN1_LEAD+else-byte-ge-BEYOND_LATIN1+then-read-buffer w ↦ omega arith
  ],
))

pub returns-then-not-is_continuation : goal.returns-then-not-is_continuation
returns-then-not-is_continuation c = latin1_stop c.args.buffer.now c.loop-read.read (omega arith) c.loop-read.invariant.latin1 (λ l. (
  omega arith,
  λ p q r s t. both_ways _ c.if-not-is_continuation.true (c.is_continuation.ensures.1 (s, t)),
))

pub loop-read-preserved : goal.loop-read-preserved
loop-read-preserved c =
    let second = c.is_continuation.ensures.0 c.if-not-is_continuation.false in
    record {
      within = omega arith;
      latin1 = latin1_more_two c.args.buffer.now c.loop-read.read (omega arith) c.loop-read.invariant.latin1 (omega arith) (omega arith) second.0 second.1;
    }
