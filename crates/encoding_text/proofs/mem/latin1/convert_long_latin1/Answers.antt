use Rattle.std.proofs.Common.{arith}
use Rattle.encoding_definitions.proofs.PrefixesLemmas.{WritesPrefix_over}
use Rattle.encoding_text.proofs.Latin1ConversionLemmas.{ascii_spelled, latin1_fits_all, prefix_had}
use Rattle.encoding_text.proofs.mem.latin1.convert_long_latin1.Goals as goal

pub returns-then-ascii-src-clause-written : goal.returns-then-ascii-src-clause-written
returns-then-ascii-src-clause-written c = ascii_spelled _ _ _ _ c.copy_blocks-ascii.ensures.ascii c.copy_blocks-ascii.ensures.copied

pub returns-then-ascii-src-clause-prefix : goal.returns-then-ascii-src-clause-prefix
returns-then-ascii-src-clause-prefix c =
    let w = returns-then-ascii-src-clause-written c in
    latin1_fits_all c.args.src.now _ _ (omega (arith, c.if-ascii-src.true)) (omega (arith, c.if-ascii-src.true)) (omega (arith, w.count, w.fits))

pub convert_latin1_turns-requires-clause-read : goal.convert_latin1_turns-requires-clause-read
convert_latin1_turns-requires-clause-read c =
    (c.copy_blocks-ascii.ensures.within, (ascii_spelled _ _ _ _ c.copy_blocks-ascii.ensures.ascii c.copy_blocks-ascii.ensures.copied).count)

pub convert_latin1_turns-requires-clause-written : goal.convert_latin1_turns-requires-clause-written
convert_latin1_turns-requires-clause-written c = prefix_had (ascii_spelled _ _ _ _ c.copy_blocks-ascii.ensures.ascii c.copy_blocks-ascii.ensures.copied)

pub returns-clause-written : goal.returns-clause-written
returns-clause-written c = WritesPrefix_over _ _ _ _ _ _ _ c.copy_blocks-ascii.ensures.copied c.convert_latin1_turns.ensures.written
    c.convert_latin1_turns.ensures.onward
