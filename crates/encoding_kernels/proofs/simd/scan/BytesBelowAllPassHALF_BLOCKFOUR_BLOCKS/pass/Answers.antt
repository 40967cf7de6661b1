use Rattle.encoding_kernels.proofs.JoinedLemmas.{others_join}
use Rattle.encoding_kernels.proofs.simd.scan.BytesBelowAllPassHALF_BLOCKFOUR_BLOCKS.pass.Goals as goal

pub returns : goal.returns
returns c =
    let two = others_join c.others_of_32.ensures c.others_of_32-2.ensures in
    let three = others_join two c.others_of_32-3.ensures in
    let four = others_join three c.others_of_32-4.ensures in
    let five = others_join four c.others_of_32-5.ensures in
    let six = others_join five c.others_of_32-6.ensures in
    let seven = others_join six c.others_of_32-7.ensures in
    let eight = others_join seven c.others_of_32-8.ensures in
    (λ t. eight.zero.0 (c.is_zero.ensures.0 t), λ h. c.is_zero.ensures.1 (eight.zero.1 h))
