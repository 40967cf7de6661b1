use Rattle.encoding_kernels.proofs.JoinedLemmas.{others_join}
use Rattle.encoding_kernels.proofs.simd.scan.BytesBelowAllPassHALF_BLOCKTWO_BLOCKS.pass.Goals as goal

pub returns : goal.returns
returns c =
    let two = others_join c.others_of_32.ensures c.others_of_32-2.ensures in
    let three = others_join two c.others_of_32-3.ensures in
    let four = others_join three c.others_of_32-4.ensures in
    (λ t. four.zero.0 (c.is_zero.ensures.0 t), λ h. c.is_zero.ensures.1 (four.zero.1 h))
