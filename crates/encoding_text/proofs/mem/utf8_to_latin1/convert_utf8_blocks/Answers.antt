use Rattle.std.proofs.Common.{arith, refl, sym, take, length-take-le}
use Rattle.std.specs.Str.{chars}
use Rattle.encoding_definitions.proofs.Latin1Lemmas.{latin1_chars}
use Rattle.encoding_text.proofs.Latin1ConversionLemmas.{begins_apart, block_on, left_apart, had_prefix}
use Rattle.encoding_text.proofs.mem.utf8_to_latin1.convert_utf8_blocks.Goals as goal

pub loop-read-init : goal.loop-read-init
loop-read-init c = record {
  within = (omega arith, c.requires.within);
  onward = omega arith;
  rest = c.requires.rest;
  written = had_prefix _ _ _ c.requires.written.0 c.requires.written.1;
}

pub write_latin1_of_two-written-requires-clause-apart : goal.write_latin1_of_two-written-requires-clause-apart
write_latin1_of_two-written-requires-clause-apart c =
    let src = c.args.src.now in
    let text = latin1_chars src c.requires.latin1 in
    left_apart src (chars src) c.loop-read.read c.loop-read.written text.0 c.loop-read.invariant.rest

pub loop-read-preserved : goal.loop-read-preserved
loop-read-preserved c =
    let src = c.args.src.now in
    let cs = chars src in
    let text = latin1_chars src c.requires.latin1 in
    let had = c.loop-read.invariant in
    let call = c.write_latin1_of_two-written in
    let whole = c.whole_length-read.ensures in
    let next =
    block_on 31 src cs c.args.dst.now _ call.new.dst c.loop-read.read c.loop-read.written call.result c.whole_length-read.result
    text.0 had.rest had.written _ refl call.ensures.out_length (omega (arith, call.ensures.length_bound)) call.ensures.written (omega arith) whole in
    record { within = (omega (arith, had.within.0), omega (arith, whole)); onward = omega (arith, had.onward); rest = next.0; written = next.1 }

pub latin1_of-count-requires : goal.latin1_of-count-requires
latin1_of-count-requires c =
    let src = c.args.src.now in
    let text = latin1_chars src c.requires.latin1 in
    begins_apart src (chars src) c.loop-read-2.read c.loop-read-2.written text.0 c.loop-read-2.invariant.rest (omega arith)

pub loop-read-2-preserved : goal.loop-read-2-preserved
loop-read-2-preserved c =
    let src = c.args.src.now in
    let cs = chars src in
    let text = latin1_chars src c.requires.latin1 in
    let had = c.loop-read-2.invariant in
    let call = c.latin1_of-count.ensures in
    let count = c.latin1_of-count.result.1 in
    let whole = c.whole_length-read-in-loop-read-2.ensures in
    let next =
    block_on 15 src cs c.args.dst.now _ c.write_first.new.dst c.loop-read-2.read c.loop-read-2.written count c.whole_length-read-in-loop-read-2.result
    text.0 had.rest had.written (take count c.latin1_of-count.result.0) call.latin1_ended
    (sym (length-take-le count c.latin1_of-count.result.0 (omega (arith, call.lane_count, call.out_length)))) (omega (arith, call.out_length))
    c.write_first.ensures (omega arith) whole in
    record { within = (omega (arith, had.within.0), omega (arith, whole)); onward = omega (arith, had.onward); rest = next.0; written = next.1 }
