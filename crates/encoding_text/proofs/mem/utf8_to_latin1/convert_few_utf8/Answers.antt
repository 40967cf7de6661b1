use Rattle.std.proofs.Common.{arith, sym, take}
use Rattle.std.specs.Str.{chars}
use Rattle.std.proofs.lemmas.List.{length-take}
use Rattle.encoding_definitions.specs.Prefixes.{WritesPrefix}
use Rattle.encoding_definitions.proofs.Latin1Lemmas.{latin1_chars}
use Rattle.encoding_definitions.proofs.PrefixesLemmas.{WritesPrefix_over}
use Rattle.encoding_text.proofs.mem.utf8_to_latin1.convert_few_utf8.Goals as goal
use Rattle.encoding_text.proofs.mem.utf8_to_latin1.convert_few_utf8.Goals.{then-src-gt-STRIDE+then-read-src+then-src-read-lt-STRIDE+in_default}
use Rattle.encoding_text.proofs.mem.utf8_to_latin1.convert_few_utf8.Goals.{else-src-gt-STRIDE}

pub convert_utf8_blocks-read-requires-clause-rest : goal.convert_utf8_blocks-read-requires-clause-rest
convert_utf8_blocks-read-requires-clause-rest c = sym (latin1_chars c.args.src.now c.requires.latin1).1

pub returns-in-Some : goal.returns-in-Some
returns-in-Some c =
    let had = c.convert_utf8_blocks-read.ensures.written in
    let last = c.in-Some.ensures.finished in
    record {
      written = WritesPrefix_over _ _ _ _ _ _ _ had last
          (omega (arith, had.count, last.count, length-take c.convert_utf8_blocks-read.result.1 (chars c.args.src.now)));
    }

pub returns : goal.returns
returns c =
    let blocks = c.convert_utf8_blocks-read in
    let cs = chars c.args.src.now in
    let turns = c.convert_utf8_turns.ensures.written in
    let had : WritesPrefix c.args.dst.now c.if-src-gt-STRIDE.dst blocks.result.1 (take blocks.result.1 cs) = elim c.if-src-gt-STRIDE.branch [
      | then-src-gt-STRIDE+then-read-src+then-src-read-lt-STRIDE+in_default w ↦ rw (w.dst-is, w.in_default.ensures.full) blocks.ensures.written
      | else-src-gt-STRIDE w ↦ rw w.dst-is blocks.ensures.written
    ] in
    record { written = WritesPrefix_over _ _ _ _ _ _ _ had turns (omega (arith, had.count, turns.count, length-take blocks.result.1 cs)) }
