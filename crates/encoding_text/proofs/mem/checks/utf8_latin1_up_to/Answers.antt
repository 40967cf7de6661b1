use Rattle.std.proofs.Common.{arith}
use Rattle.encoding_kernels.specs.Scans.{BelowUpTo}
use Rattle.encoding_definitions.proofs.Latin1Lemmas.{latin1_stop}
use Rattle.encoding_kernels.proofs.PairsLemmas.{ascii_latin1}
use Rattle.encoding_text.proofs.WholePrefixesLemmas.{whole_latin1}
use Rattle.encoding_text.proofs.mem.checks.utf8_latin1_up_to.Goals as goal

pub returns-then-buffer-run-ge-BEYOND_LATIN1 : goal.returns-then-buffer-run-ge-BEYOND_LATIN1
returns-then-buffer-run-ge-BEYOND_LATIN1 c =
    let bytes = c.args.buffer.now in
    let run = c.run_len_below-run.result in
    let high = c.if-buffer-run-ge-BEYOND_LATIN1.true in
    let below : BelowUpTo 0x80 bytes run = λ k l. c.run_len_below-run.ensures.pass k (omega arith) (omega (arith, l)) in
    latin1_stop bytes run (omega arith) (ascii_latin1 bytes run (omega arith) below) (λ l. (omega (arith, high), λ p q r s t. omega (arith, high, q)))

pub returns-then-is_short : goal.returns-then-is_short
returns-then-is_short c = whole_latin1 c.args.buffer.now (c.is_short.ensures.0 c.if-is_short.true)
