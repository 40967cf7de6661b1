use Rattle.std.proofs.Common.{◌-◌, ◌≤◌, arith, length-take, drop, sym, ◌∙◌}
use Rattle.std.specs.Char.Escape.{encode_utf16}
use Rattle.std.proofs.lemmas.List.{take_rest}
use Rattle.encoding_text.specs.Steps.{ConvertsSome}
use Rattle.encoding_text.proofs.ConvertingLemmas.{converted_again, converted_fitting_ascii, converted_rejected, converts_all, converts_longest, converts_over}
use Rattle.encoding_text.proofs.FirstLemmas.{shown_none}
use Rattle.encoding_text.proofs.WholePrefixesLemmas.{later_block_stops}
use Rattle.encoding_text.proofs.utf_8.to_utf16.convert_after_blocks.Goals as goal
use Rattle.encoding_text.proofs.utf_8.to_utf16.convert_after_blocks.Goals.{then-src-blocks-lt-ASCII_END+else-ascii-src, else-src-blocks-lt-ASCII_END}

pub unpack_rest-ascii-requires-clause-other : goal.unpack_rest-ascii-requires-clause-other
unpack_rest-ascii-requires-clause-other c =
    let src = c.args.src.now in
    let at = c.args.blocks in
    let room = c.min-fitting.result - at in
    λ long. let fits : 64 ≤ room = omega (arith, long, length-take room (drop at src)) in
    later_block_stops src at room fits (c.requires.stops (omega arith) (omega arith))

pub returns-then-ascii-src-clause-converts : goal.returns-then-ascii-src-clause-converts
returns-then-ascii-src-clause-converts c =
    let rest = c.unpack_rest-ascii.ensures in
    let start = converted_fitting_ascii _ _ _ _ _ _ _ _ c.requires.start rest.prefix rest.copied in
    converts_all encode_utf16 _ _ _ _ _ (omega arith) start

pub returns-then-is_some-clause-converts : goal.returns-then-is_some-clause-converts
returns-then-is_some-clause-converts c =
    let start : ConvertsSome encode_utf16 c.args.src.now c.args.dst.now c.if-src-blocks-lt-ASCII_END.dst c.if-src-blocks-lt-ASCII_END.ascii
    c.if-src-blocks-lt-ASCII_END.ascii =
    elim c.if-src-blocks-lt-ASCII_END.branch [
      | then-src-blocks-lt-ASCII_END+else-ascii-src w ↦
          rw (w.dst-is, w.ascii-is)
          (converted_fitting_ascii _ _ _ _ _ _ _ _ c.requires.start w.unpack_rest-ascii.ensures.prefix w.unpack_rest-ascii.ensures.copied)
      | else-src-blocks-lt-ASCII_END w ↦ rw (w.dst-is, w.ascii-is) c.requires.start
    ] in
    let none = rw take_rest at (shown_none _ _ c.of_two.ensures.no_character (sym c.is_some.ensures ∙ c.if-is_some.true)) in
    converts_longest encode_utf16 _ _ _ _ _ (converted_rejected encode_utf16 _ _ _ _ _ start none)

pub convert_turns-requires : goal.convert_turns-requires
convert_turns-requires c =
    elim c.if-src-blocks-lt-ASCII_END.branch [
      | then-src-blocks-lt-ASCII_END+else-ascii-src w ↦
          rw (w.dst-is, w.ascii-is)
          (converted_again encode_utf16 _ _ _ _ _
          (converted_fitting_ascii _ _ _ _ _ _ _ _ c.requires.start w.unpack_rest-ascii.ensures.prefix w.unpack_rest-ascii.ensures.copied))
      | else-src-blocks-lt-ASCII_END w ↦ rw (w.dst-is, w.ascii-is) c.requires.start
    ]

pub returns-clause-converts : goal.returns-clause-converts
returns-clause-converts c =
    let start : ConvertsSome encode_utf16 c.args.src.now c.args.dst.now c.if-src-blocks-lt-ASCII_END.dst c.if-src-blocks-lt-ASCII_END.ascii
    c.if-src-blocks-lt-ASCII_END.ascii =
    elim c.if-src-blocks-lt-ASCII_END.branch [
      | then-src-blocks-lt-ASCII_END+else-ascii-src w ↦
          rw (w.dst-is, w.ascii-is)
          (converted_fitting_ascii _ _ _ _ _ _ _ _ c.requires.start w.unpack_rest-ascii.ensures.prefix w.unpack_rest-ascii.ensures.copied)
      | else-src-blocks-lt-ASCII_END w ↦ rw (w.dst-is, w.ascii-is) c.requires.start
    ] in
    converts_over encode_utf16 _ _ _ _ _ _ _ _ start c.convert_turns.ensures.after c.convert_turns.ensures.converts
