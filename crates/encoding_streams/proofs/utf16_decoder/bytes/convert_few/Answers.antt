use Rattle.std.proofs.Common.{[], encode_utf8, arith}
use Rattle.encoding_streams.proofs.Utf16StepLemmas.{advance_none, advance_then}
use Rattle.encoding_streams.proofs.utf16_decoder.bytes.convert_few.Goals as goal

pub loop-left-init : goal.loop-left-init
loop-left-init c = advance_none c.args.order encode_utf8 [] c.args.src.now c.args.dst.now

pub overflow_add-read : goal.overflow_add-read
overflow_add-read c =
    omega (
      arith,
      (advance_then c.args.order encode_utf8 [] [] [] c.args.src.now _ _ _ _ _ _ _ c.loop-left.invariant c.convert_one-bytes.ensures).within,
    )

pub loop-left-preserved : goal.loop-left-preserved
loop-left-preserved c =
    advance_then c.args.order encode_utf8 [] [] [] c.args.src.now _ _ _ _ _ _ _ c.loop-left.invariant c.convert_one-bytes.ensures

pub returns-then-bytes-eq0 : goal.returns-then-bytes-eq0
returns-then-bytes-eq0 c =
    advance_then c.args.order encode_utf8 [] [] [] c.args.src.now _ _ _ _ _ _ _ c.loop-left.invariant c.convert_one-bytes.ensures
