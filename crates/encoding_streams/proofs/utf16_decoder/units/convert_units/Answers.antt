use Rattle.std.proofs.Common.{[], arith}
use Rattle.std.specs.Char.Escape.{encode_utf16}
use Rattle.encoding_streams.proofs.Utf16StepLemmas.{advance_none, advance_then}
use Rattle.encoding_streams.proofs.utf16_decoder.units.convert_units.Goals as goal

pub loop-order-init : goal.loop-order-init
loop-order-init c = advance_none c.args.order encode_utf16 [] c.args.src.now c.args.dst.now

pub overflow_add-read : goal.overflow_add-read
overflow_add-read c =
    omega (
      arith,
      (advance_then c.args.order encode_utf16 [] [] [] c.args.src.now _ _ _ _ _ _ _ c.loop-order.invariant c.convert_piece-more.ensures.characters).within,
    )

pub returns-then-extra-lt-PIECE : goal.returns-then-extra-lt-PIECE
returns-then-extra-lt-PIECE c =
    advance_then c.args.order encode_utf16 [] [] [] c.args.src.now _ _ _ _ _ _ _ c.loop-order.invariant c.convert_piece-more.ensures.characters

pub loop-order-preserved : goal.loop-order-preserved
loop-order-preserved c =
    advance_then c.args.order encode_utf16 [] [] [] c.args.src.now _ _ _ _ _ _ _ c.loop-order.invariant c.convert_piece-more.ensures.characters
