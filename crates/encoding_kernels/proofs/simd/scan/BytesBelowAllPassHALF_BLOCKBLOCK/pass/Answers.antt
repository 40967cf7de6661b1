use Rattle.encoding_kernels.proofs.JoinedLemmas.{others_join}
use Rattle.encoding_kernels.proofs.simd.scan.BytesBelowAllPassHALF_BLOCKBLOCK.pass.Goals as goal

pub returns : goal.returns
returns c =
    let two = others_join c.others_of_32.ensures c.others_of_32-2.ensures in
    (λ t. two.zero.0 (c.is_zero.ensures.0 t), λ h. c.is_zero.ensures.1 (two.zero.1 h))
