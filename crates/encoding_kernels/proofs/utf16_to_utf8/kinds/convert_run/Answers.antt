use Rattle.std.proofs.Common.{arith}
use Rattle.encoding_kernels.proofs.OverwriteLemmas.{due_block_from}
use Rattle.encoding_kernels.proofs.utf16_to_utf8.kinds.convert_run.Goals as goal

pub loop-read-preserved : goal.loop-read-preserved
loop-read-preserved g c =
    let here = c.loop-read.invariant in
    record {
      converted = due_block_from (g.S.CodeUnits.units c.args.src) c.sixteen-units.result c.args.dst.now c.loop-read.dst _ c.args.due c.loop-read.read
          c.loop-read.written c.loop-read.spilled _ _ c.sixteen-units.ensures here.converted (omega (arith)) c.requires.dst_length
          c.convert-bytes.ensures.stored;
      restored = λ r _. c.convert-bytes.ensures.restored r;
    }
