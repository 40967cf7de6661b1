use Rattle.std.proofs.Common.{◌≤◌, take, arith}
use Rattle.std.proofs.lemmas.List.{length-take-le}
use Rattle.encoding_definitions.proofs.SequenceLemmas.{length-IsSequence}
use Rattle.encoding_kernels.proofs.Utf8ToUtf16LoopLemmas.{due_exact, first_character, puts_text}
use Rattle.encoding_kernels.proofs.utf8_to_utf16.text.convert_valid_utf8_to_utf16.Goals as goal

pub are_bytes_below-requires : goal.are_bytes_below-requires
are_bytes_below-requires c =
    let src = c.args.src.now in
    let n = c.sequence_length.result in
    let begins = first_character src n c.requires.text c.requires.dst_length.0 c.sequence_length.ensures in
    let size : n ≤ 4 = omega (arith, length-IsSequence (take n src) begins.sequence, length-take-le n src begins.within) in
    (omega (arith, c.if-src-gt-BLOCK.true), omega arith, omega arith)

pub returns-then-are_bytes_below-clause-written : goal.returns-then-are_bytes_below-clause-written
returns-then-are_bytes_below-clause-written c =
    due_exact c.args.src.now c.args.dst.now c.write_character.new.dst _ _ c.requires.text c.write_character.ensures.written

pub returns-then-src-lt-GROUP_OF_TEXT-clause-written : goal.returns-then-src-lt-GROUP_OF_TEXT-clause-written
returns-then-src-lt-GROUP_OF_TEXT-clause-written c =
    puts_text c.args.src.now c.args.dst.now c.convert_short.new.dst _ c.requires.text c.convert_short.ensures
