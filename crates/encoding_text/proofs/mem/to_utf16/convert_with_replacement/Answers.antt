use Rattle.std.proofs.Common.{[], arith, length, ap}
use Rattle.std.specs.Char.Escape.{encode_utf16}
use Rattle.std.proofs.lemmas.List.{drop_all, length-drop, take_rest}
use Rattle.encoding_text.proofs.ConvertingLemmas.{converts_prefix, none_after}
use Rattle.encoding_text.proofs.RepairingLemmas.{replaced_all, replaced_first, replaced_then, characters_short}
use Rattle.encoding_text.proofs.mem.to_utf16.convert_with_replacement.Goals as goal

pub returns-then-read-src-clause-converted : goal.returns-then-read-src-clause-converted
returns-then-read-src-clause-converted c =
    let d = converts_prefix encode_utf16 _ _ _ _ _ c.convert_beyond_ascii-read.ensures.converts in
    replaced_all _ _ _ _ _ (replaced_first _ _ _ _ _ d) (drop_all _ c.args.src.now (omega (arith, c.if-read-src.true)))

pub slice_bounds-convert_malformed-count : goal.slice_bounds-convert_malformed-count
slice_bounds-convert_malformed-count c = (converts_prefix encode_utf16 _ _ _ _ _ c.convert_beyond_ascii-read.ensures.converts).within

pub slice_bounds-convert_malformed-start : goal.slice_bounds-convert_malformed-start
slice_bounds-convert_malformed-start c =
    let d = converts_prefix encode_utf16 _ _ _ _ _ c.convert_beyond_ascii-read.ensures.converts in
    let short = characters_short _ _ _ _ _ d in
    omega (arith, d.within, short.0, short.1, c.requires.dst_length)

pub convert_malformed-requires : goal.convert_malformed-requires
convert_malformed-requires c =
    let src = c.args.src.now in
    let call = c.convert_beyond_ascii-read in
    let d = converts_prefix encode_utf16 _ _ _ _ _ call.ensures.converts in
    let short = characters_short _ _ _ _ _ d in
    record {
      no_character = rw (take_rest src call.result.0) (none_after _ _ _ _ _ call.ensures.converts (omega (arith, c.requires.dst_length)));
      dst_length = omega (
        arith,
        d.within,
        short.0,
        short.1,
        c.requires.dst_length,
        ap length (take_rest src call.result.0),
        ap length (take_rest call.new.dst call.result.1),
        length-drop call.result.0 src,
        length-drop call.result.1 call.new.dst,
      );
    }

pub returns-clause-converted : goal.returns-clause-converted
returns-clause-converted c =
    let d = converts_prefix encode_utf16 _ _ _ _ _ c.convert_beyond_ascii-read.ensures.converts in
    let rest = rw (take_rest c.args.src.now c.convert_beyond_ascii-read.result.0) at c.convert_malformed.ensures in
    replaced_then _ _ _ _ _ _ _ rest.0 [] (replaced_first _ _ _ _ _ d) rest.1 rest.2
