use Rattle.std.proofs.Common.{arith, take, encode_utf8_all, subst}
use Rattle.std.proofs.lemmas.List.{take_all}
use Rattle.encoding_definitions.specs.Prefixes.{WritesPrefix}
use Rattle.encoding_definitions.proofs.PrefixesLemmas.{WritesPrefix_over}
use Rattle.encoding_text.proofs.Latin1ConversionLemmas.{latin1_fits_written}
use Rattle.encoding_text.proofs.mem.latin1.convert_few_latin1.Goals as goal
use Rattle.encoding_text.proofs.mem.latin1.convert_few_latin1.Goals.{then-src-read-lt-STRIDE+in_default, else-src-read-lt-STRIDE}

pub returns-then-src-lt-HALF_STRIDE-clause-prefix : goal.returns-then-src-lt-HALF_STRIDE-clause-prefix
returns-then-src-lt-HALF_STRIDE-clause-prefix c = latin1_fits_written c.args.dst.now _ c.args.src.now _ c.write_least_latin1.ensures.written

pub returns-then-src-lt-STRIDE-clause-prefix : goal.returns-then-src-lt-STRIDE-clause-prefix
returns-then-src-lt-STRIDE-clause-prefix c = latin1_fits_written c.args.dst.now _ c.args.src.now _ c.write_few_latin1.ensures.written

pub returns-then-read-src-clause-prefix : goal.returns-then-read-src-clause-prefix
returns-then-read-src-clause-prefix c =
    let src = c.args.src.now in
    let blocks = c.convert_latin1_blocks-read in
    let written : WritesPrefix c.args.dst.now blocks.new.dst blocks.result.1 (encode_utf8_all src) =
    subst (λ xs. WritesPrefix c.args.dst.now blocks.new.dst blocks.result.1 (encode_utf8_all xs))
    (take_all blocks.result.0 src (omega (arith, c.if-read-src.true))) blocks.ensures.written in
    rw c.if-read-src.true (latin1_fits_written c.args.dst.now _ src _ written)

pub returns-in-Some-clause-prefix : goal.returns-in-Some-clause-prefix
returns-in-Some-clause-prefix c =
    latin1_fits_written c.args.dst.now _ c.args.src.now _ (c.in-Some.ensures.finished c.args.dst.now c.convert_latin1_blocks-read.ensures.written)

pub returns-clause-written : goal.returns-clause-written
returns-clause-written c =
    let blocks = c.convert_latin1_blocks-read in
    let had : WritesPrefix c.args.dst.now c.if-src-read-lt-STRIDE.dst blocks.result.1 (encode_utf8_all (take blocks.result.0 c.args.src.now)) =
    elim c.if-src-read-lt-STRIDE.branch [
      | then-src-read-lt-STRIDE+in_default w ↦ rw (w.dst-is, w.in_default.ensures.full) blocks.ensures.written
      | else-src-read-lt-STRIDE w ↦ rw w.dst-is blocks.ensures.written
    ] in
    WritesPrefix_over _ _ _ _ _ _ _ had c.convert_latin1_turns-2.ensures.written c.convert_latin1_turns-2.ensures.onward
