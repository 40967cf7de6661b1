use Rattle.encoding_kernels.proofs.BidiByteLookupLemmas.{none_in_64}
use Rattle.encoding_kernels.proofs.MaskLemmas.{or_zeros}
use Rattle.encoding_kernels.proofs.bidi.bytes.are_64_clear.Goals as goal

pub returns : goal.returns
returns c t =
    let a = c.groups_of_32-first.ensures in
    let b = c.groups_of_32-second.ensures in
    let zeros = or_zeros 32 _ _ a.length b.length (c.is_zero.ensures.0 t) in
    none_in_64 c.args.bytes.now c.args.at (λ i l. a.lanes i l (zeros.0.each i l)) (λ i l. b.lanes i l (zeros.1.each i l))
