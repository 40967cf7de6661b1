use Rattle.std.proofs.Common.{◌∙◌, arith, ap, sym, refl, take}
use Rattle.std.specs.Str.{chars}
use Rattle.std.proofs.lemmas.List.{length-take, take_all}
use Rattle.std.proofs.lemmas.Str.{chars-IsAscii}
use Rattle.encoding_definitions.proofs.Latin1Lemmas.{latin1_chars}
use Rattle.encoding_definitions.proofs.PrefixesLemmas.{WritesPrefix-length, WritesPrefix-same, WritesPrefix_over}
use Rattle.encoding_text.proofs.Latin1ConversionLemmas.{ascii_start, ascii_taken, prefix_had}
use Rattle.encoding_text.proofs.mem.utf8_to_latin1.convert_long_utf8.Goals as goal

pub returns-then-ascii-src : goal.returns-then-ascii-src
returns-then-ascii-src c =
    let src = c.args.src.now in
    let n = c.copy_blocks-ascii.result in
    let call = c.copy_blocks-ascii.ensures in
    record {
      written = WritesPrefix-same _ _ _ _ _ _ call.copied refl (sym (chars-IsAscii (take n src) (ascii_taken src n call.ascii))
          ∙ ap chars (take_all n src (omega (arith, c.if-ascii-src.true))));
    }

pub convert_utf8_turns-requires-clause-rest : goal.convert_utf8_turns-requires-clause-rest
convert_utf8_turns-requires-clause-rest c =
    let src = c.args.src.now in
    let n = c.copy_blocks-ascii.result in
    let call = c.copy_blocks-ascii.ensures in
    let text = latin1_chars src c.requires.latin1 in
    let had = prefix_had call.copied in
    let start = ascii_start src (chars src) c.copy_blocks-ascii.new.dst n text.0 text.1 call.within (ascii_taken src n call.ascii) had.1
    (omega (arith, WritesPrefix-length _ _ _ _ call.copied, c.requires.dst_length)) in
    start.0

pub convert_utf8_turns-requires-clause-written : goal.convert_utf8_turns-requires-clause-written
convert_utf8_turns-requires-clause-written c =
    let src = c.args.src.now in
    let n = c.copy_blocks-ascii.result in
    let call = c.copy_blocks-ascii.ensures in
    let text = latin1_chars src c.requires.latin1 in
    let had = prefix_had call.copied in
    let start = ascii_start src (chars src) c.copy_blocks-ascii.new.dst n text.0 text.1 call.within (ascii_taken src n call.ascii) had.1
    (omega (arith, WritesPrefix-length _ _ _ _ call.copied, c.requires.dst_length)) in
    prefix_had start.1

pub returns : goal.returns
returns c =
    let src = c.args.src.now in
    let n = c.copy_blocks-ascii.result in
    let call = c.copy_blocks-ascii.ensures in
    let text = latin1_chars src c.requires.latin1 in
    let had = prefix_had call.copied in
    let start = ascii_start src (chars src) c.copy_blocks-ascii.new.dst n text.0 text.1 call.within (ascii_taken src n call.ascii) had.1
    (omega (arith, WritesPrefix-length _ _ _ _ call.copied, c.requires.dst_length)) in
    let turns = c.convert_utf8_turns.ensures.written in
    record { written = WritesPrefix_over _ _ _ _ _ _ _ call.copied turns (omega (arith, start.1.count, length-take n (chars src), turns.count)) }
