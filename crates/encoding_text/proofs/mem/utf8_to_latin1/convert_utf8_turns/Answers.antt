use Rattle.std.proofs.Common.{◌≡◌, ℕ, ◌≤◌, List, arith, ap, take, length, drop, encode_utf8_all}
use Rattle.encoding_definitions.specs.Prefixes.{WritesPrefix}
use Rattle.std.specs.Str.{chars}
use Rattle.std.proofs.lemmas.List.{take_all, length-drop, length-take}
use Rattle.std.proofs.lemmas.Str.{length-le-encodes}
use Rattle.encoding_definitions.proofs.PrefixesLemmas.{WritesPrefix-length, WritesPrefix_over}
use Rattle.encoding_definitions.proofs.Latin1Lemmas.{latin1_chars}
use Rattle.encoding_text.proofs.Latin1ConversionLemmas.{ascii_on, two_after, character_on, had_prefix, prefix_had}
use Rattle.encoding_text.proofs.mem.utf8_to_latin1.convert_utf8_turns.Goals as goal

pub loop-read-init : goal.loop-read-init
loop-read-init c = record { within = c.requires.within; rest = c.requires.rest; written = had_prefix _ _ _ c.requires.written.0 c.requires.written.1 }

pub bounds-src-read : goal.bounds-src-read
bounds-src-read c = omega (arith, c.copy_ascii-prefix.ensures.within.0, c.if-read-src.false)

pub bounds-src-read-in-loop-read : goal.bounds-src-read-in-loop-read
bounds-src-read-in-loop-read c =
    let src = c.args.src.now in
    let text = latin1_chars src c.requires.latin1 in
    let had = c.loop-read.invariant in
    let call = c.copy_ascii-prefix.ensures in
    (two_after src (chars src) c.args.dst.now c.loop-read.dst c.copy_ascii-prefix.new.dst c.loop-read.read c.loop-read.written c.copy_ascii-prefix.result
    text.0 had.rest had.written call.within.0 call.ascii call.copied had.within
    (omega (arith, call.within.0, c.if-read-src.false)) c.requires.dst_length call.stops).1

pub bounds-dst-written : goal.bounds-dst-written
bounds-dst-written c =
    let src = c.args.src.now in
    let text = latin1_chars src c.requires.latin1 in
    let had = c.loop-read.invariant in
    let call = c.copy_ascii-prefix.ensures in
    let two =
    two_after src (chars src) c.args.dst.now c.loop-read.dst c.copy_ascii-prefix.new.dst c.loop-read.read c.loop-read.written c.copy_ascii-prefix.result
    text.0 had.rest had.written call.within.0 call.ascii call.copied had.within
    (omega (arith, call.within.0, c.if-read-src.false)) c.requires.dst_length call.stops in
    omega (arith, two.0, c.requires.dst_length, WritesPrefix-length _ _ _ _ had.written)

pub convert_utf8_blocks-end-requires-clause-within : goal.convert_utf8_blocks-end-requires-clause-within
convert_utf8_blocks-end-requires-clause-within c =
    let src = c.args.src.now in
    let text = latin1_chars src c.requires.latin1 in
    let had = c.loop-read.invariant in
    let call = c.copy_ascii-prefix.ensures in
    let two =
    two_after src (chars src) c.args.dst.now c.loop-read.dst c.copy_ascii-prefix.new.dst c.loop-read.read c.loop-read.written c.copy_ascii-prefix.result
    text.0 had.rest had.written call.within.0 call.ascii call.copied had.within
    (omega (arith, call.within.0, c.if-read-src.false)) c.requires.dst_length call.stops in
    omega (arith, two.1)

pub convert_utf8_blocks-end-requires-clause-rest : goal.convert_utf8_blocks-end-requires-clause-rest
convert_utf8_blocks-end-requires-clause-rest c =
    let src = c.args.src.now in
    let text = latin1_chars src c.requires.latin1 in
    let had = c.loop-read.invariant in
    let call = c.copy_ascii-prefix.ensures in
    (two_after src (chars src) c.args.dst.now c.loop-read.dst c.copy_ascii-prefix.new.dst c.loop-read.read c.loop-read.written c.copy_ascii-prefix.result
    text.0 had.rest had.written call.within.0 call.ascii call.copied had.within
    (omega (arith, call.within.0, c.if-read-src.false)) c.requires.dst_length call.stops).5

pub convert_utf8_blocks-end-requires-clause-written : goal.convert_utf8_blocks-end-requires-clause-written
convert_utf8_blocks-end-requires-clause-written c =
    let src = c.args.src.now in
    let text = latin1_chars src c.requires.latin1 in
    let had = c.loop-read.invariant in
    let call = c.copy_ascii-prefix.ensures in
    prefix_had
    (character_on src (chars src) c.args.dst.now c.loop-read.dst c.copy_ascii-prefix.new.dst c.loop-read.read c.loop-read.written c.copy_ascii-prefix.result
    text.0 had.rest had.written call.within.0 call.ascii call.copied had.within
    (omega (arith, call.within.0, c.if-read-src.false)) c.requires.dst_length call.stops)

pub loop-read-preserved : goal.loop-read-preserved
loop-read-preserved c =
    let src = c.args.src.now in
    let text = latin1_chars src c.requires.latin1 in
    let had = c.loop-read.invariant in
    let call = c.copy_ascii-prefix.ensures in
    let blocks = c.convert_utf8_blocks-end.ensures in
    let one =
    character_on src (chars src) c.args.dst.now c.loop-read.dst c.copy_ascii-prefix.new.dst c.loop-read.read c.loop-read.written c.copy_ascii-prefix.result
    text.0 had.rest had.written call.within.0 call.ascii call.copied had.within
    (omega (arith, call.within.0, c.if-read-src.false)) c.requires.dst_length call.stops in
    record { within = blocks.within.1; rest = blocks.rest; written = WritesPrefix_over _ _ _ _ _ _ _ one blocks.written blocks.onward }

pub loop-read-preserved-then-src-read-lt-STRIDE : goal.loop-read-preserved-then-src-read-lt-STRIDE
loop-read-preserved-then-src-read-lt-STRIDE c =
    let src = c.args.src.now in
    let text = latin1_chars src c.requires.latin1 in
    let had = c.loop-read.invariant in
    let call = c.copy_ascii-prefix.ensures in
    let blocks = c.convert_utf8_blocks-end.ensures in
    let one =
    character_on src (chars src) c.args.dst.now c.loop-read.dst c.copy_ascii-prefix.new.dst c.loop-read.read c.loop-read.written c.copy_ascii-prefix.result
    text.0 had.rest had.written call.within.0 call.ascii call.copied had.within
    (omega (arith, call.within.0, c.if-read-src.false)) c.requires.dst_length call.stops in
    record {
      within = blocks.within.1;
      rest = blocks.rest;
      written = rw c.in_default.ensures.full (WritesPrefix_over _ _ _ _ _ _ _ one blocks.written blocks.onward);
    }

-- all characters of the text are written
all_written : (src old new : List ℕ) (read written : ℕ) → length src ≤ read → drop read src ≡ encode_utf8_all (drop written (chars src))
    → WritesPrefix old new written (take written (chars src)) → WritesPrefix old new written (chars src)
all_written src old new read written end rest w =
    let cs = chars src in
    let none : length (encode_utf8_all (drop written cs)) ≡ 0 = omega (arith, length-drop read src, ap length rest) in
    let all : take written cs ≡ cs = take_all written cs (omega (arith, length-le-encodes (drop written cs), length-drop written cs)) in
    rw all at w

pub returns-then-read-src : goal.returns-then-read-src
returns-then-read-src c =
    let src = c.args.src.now in
    let text = latin1_chars src c.requires.latin1 in
    let had = c.loop-read.invariant in
    let call = c.copy_ascii-prefix.ensures in
    let next =
    ascii_on src (chars src) c.args.dst.now c.loop-read.dst c.copy_ascii-prefix.new.dst c.loop-read.read c.loop-read.written c.copy_ascii-prefix.result
    text.0 had.rest had.written call.within.0 call.ascii call.copied had.within in
    record { written = all_written src _ _ _ _ (omega (arith, c.if-read-src.true)) next.0 next.1 }

pub returns-after-loop-read : goal.returns-after-loop-read
returns-after-loop-read c = record { written = all_written c.args.src.now _ _ _ _ (omega arith) c.loop-read.invariant.rest c.loop-read.invariant.written }

pub finish_utf8-requires-clause-written : goal.finish_utf8-requires-clause-written
finish_utf8-requires-clause-written c = prefix_had c.convert_utf8_blocks-end.ensures.written

pub returns-in-Some : goal.returns-in-Some
returns-in-Some c =
    let src = c.args.src.now in
    let text = latin1_chars src c.requires.latin1 in
    let had = c.loop-read.invariant in
    let call = c.copy_ascii-prefix.ensures in
    let blocks = c.convert_utf8_blocks-end.ensures in
    let one =
    character_on src (chars src) c.args.dst.now c.loop-read.dst c.copy_ascii-prefix.new.dst c.loop-read.read c.loop-read.written c.copy_ascii-prefix.result
    text.0 had.rest had.written call.within.0 call.ascii call.copied had.within
    (omega (arith, call.within.0, c.if-read-src.false)) c.requires.dst_length call.stops in
    let done = WritesPrefix_over _ _ _ _ _ _ _ one blocks.written blocks.onward in
    let last = c.in-Some.ensures.finished in
    record {
      written =
          WritesPrefix_over _ _ _ _ _ _ _ done last (omega (arith, done.count, last.count, length-take c.convert_utf8_blocks-end.result.1 (chars src)));
    }
