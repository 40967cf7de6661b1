use Rattle.std.proofs.Common.{arith}
use Rattle.encoding_text.proofs.Latin1ConversionLemmas.{ascii_utf8_prefix, written_after}
use Rattle.encoding_text.proofs.mem.borrowed.write_utf8_of_latin1.Goals as goal

pub returns : goal.returns
returns c =
    rw (ascii_utf8_prefix c.args.bytes.now c.args.prefix c.requires.ascii) at
    (written_after c.args.bytes.now c.args.dst.now c.copy_from_slice.new.self c.convert_latin1_to_utf8.new.dst c.args.prefix
    c.convert_latin1_to_utf8.result _ c.requires.within (omega arith) c.copy_from_slice.ensures.after c.convert_latin1_to_utf8.ensures.written)
