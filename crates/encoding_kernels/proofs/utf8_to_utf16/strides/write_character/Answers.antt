use Rattle.std.proofs.Common.{length, length-take-le, sym}
use Rattle.encoding_kernels.proofs.Utf8ToUtf16LoopLemmas.{first_character, puts_character, character_fits}
use Rattle.encoding_kernels.proofs.utf8_to_utf16.strides.write_character.Goals as goal

pub slice_bounds-decode_utf8_scalar-end : goal.slice_bounds-decode_utf8_scalar-end
slice_bounds-decode_utf8_scalar-end c =
    let begins = first_character c.args.src.now c.sequence_length-length.result c.requires.text c.requires.dst_length.0 c.sequence_length-length.ensures in
    sym (length-take-le c.sequence_length-length.result c.args.src.now begins.within)

pub decode_utf8_scalar-scalar-requires : goal.decode_utf8_scalar-scalar-requires
decode_utf8_scalar-scalar-requires c =
    let begins = first_character c.args.src.now c.sequence_length-length.result c.requires.text c.requires.dst_length.0 c.sequence_length-length.ensures in
    record { sequence = begins.sequence }

pub unreachable-requires : goal.unreachable-requires
unreachable-requires c =
    let begins = first_character c.args.src.now c.sequence_length-length.result c.requires.text c.requires.dst_length.0 c.sequence_length-length.ensures in
    let s = c.decode_utf8_scalar-scalar.ensures in
    character_fits c.args.src.now c.sequence_length-length.result _
    (length c.args.dst.now) begins s.scalar s.spelled c.requires.dst_length.1 c.in_default.ensures.unfit.0

pub returns : goal.returns
returns c =
    let begins = first_character c.args.src.now c.sequence_length-length.result c.requires.text c.requires.dst_length.0 c.sequence_length-length.ensures in
    let s = c.decode_utf8_scalar-scalar.ensures in
    record {
      progress = begins.some;
      written = puts_character c.args.src.now c.args.dst.now c.write_utf16.new.dst c.sequence_length-length.result c.in-Some.units _ begins s.scalar s.spelled
          c.in-Some.ensures.written;
    }
