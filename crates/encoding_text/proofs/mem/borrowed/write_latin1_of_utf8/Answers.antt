use Rattle.std.proofs.Common.{arith}
use Rattle.encoding_text.proofs.Latin1ConversionLemmas.{ascii_latin1_rest, ascii_chars_prefix, written_after}
use Rattle.encoding_text.proofs.mem.borrowed.write_latin1_of_utf8.Goals as goal

pub convert_utf8_to_latin1_lossy-requires-clause-latin1 : goal.convert_utf8_to_latin1_lossy-requires-clause-latin1
convert_utf8_to_latin1_lossy-requires-clause-latin1 c = ascii_latin1_rest c.args.text.now c.args.prefix c.requires.ascii c.requires.latin1

pub returns : goal.returns
returns c =
    rw (ascii_chars_prefix c.args.text.now c.args.prefix c.requires.ascii) at
    (written_after c.args.text.now c.args.dst.now c.copy_from_slice.new.self c.convert_utf8_to_latin1_lossy.new.dst c.args.prefix
    c.convert_utf8_to_latin1_lossy.result _ c.requires.within (omega arith) c.copy_from_slice.ensures.after c.convert_utf8_to_latin1_lossy.ensures.written)
