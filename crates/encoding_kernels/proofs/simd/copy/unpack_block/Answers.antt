use Rattle.std.proofs.Common.{arith}
use Rattle.encoding_kernels.proofs.VectorLemmas.{copied_after}
use Rattle.encoding_kernels.proofs.simd.copy.unpack_block.Goals as goal

pub returns : goal.returns
returns c =
    let two = copied_after c.args.at 16 16 _ _ _ _ (omega (arith, c.requires.0)) (omega (arith, c.requires.1)) c.unpack.ensures c.unpack-2.ensures in
    let three = copied_after c.args.at 32 16 _ _ _ _ (omega (arith, c.requires.0)) (omega (arith, c.requires.1)) two c.unpack-3.ensures in
    copied_after c.args.at 48 16 _ _ _ _ c.requires.0 c.requires.1 three c.unpack-4.ensures
