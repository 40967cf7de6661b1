use Rattle.std.proofs.Common.{◌-◌, ap, arith}
use Rattle.std.specs.Str.{chars}
use Rattle.encoding_definitions.proofs.Latin1Lemmas.{latin1_chars}
use Rattle.encoding_text.proofs.Latin1TailLemmas.{byte_before, last_before, last_apart, last_written, first_counts, written_within}
use Rattle.encoding_text.proofs.mem.utf8_to_latin1.finish_utf8.Goals as goal

pub overflow_sub-at : goal.overflow_sub-at
overflow_sub-at c =
    let src = c.args.src.now in
    let text = latin1_chars src c.requires.latin1 in
    let had = c.requires.written in
    let count = first_counts src (chars src) c.args.read c.args.written text.0 text.1 c.requires.left.0 c.requires.left.2 c.requires.rest
    (written_within _ _ _ had.0 had.1) in
    omega (arith, count, c.latin1_length_of_first.ensures (byte_before src))

pub latin1_of_after-count-requires : goal.latin1_of_after-count-requires
latin1_of_after-count-requires c =
    let src = c.args.src.now in
    let text = latin1_chars src c.requires.latin1 in
    last_apart src (chars src) text.0 text.1 c.requires.left.0

pub returns-clause-finished : goal.returns-clause-finished
returns-clause-finished c =
    let src = c.args.src.now in
    let text = latin1_chars src c.requires.latin1 in
    let had = c.requires.written in
    let first = c.latin1_length_of_first.ensures (byte_before src) in
    let block = c.latin1_of_after-count.ensures in
    last_written src
    (chars src) c.args.read c.args.written text.0 text.1 c.requires.left.0 c.requires.left.2 c.requires.rest c.args.dst.now c.write_first.new.dst
    c.latin1_of_after-count.result.0 _ c.latin1_of_after-count.result.1 (written_within _ _ _ had.0 had.1) had.1 (ap (λ n. c.args.written - n) first)
    (block.latin1_ended (byte_before src) (last_before src c.requires.left.0)) (omega (arith, block.lane_count, block.out_length))
    (omega (arith, block.out_length, c.if-dst-at-lt-STRIDE.false, had.0)) c.write_first.ensures
