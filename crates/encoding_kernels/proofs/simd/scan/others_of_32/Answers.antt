use Rattle.encoding_kernels.proofs.JoinedLemmas.{byte_others}
use Rattle.encoding_kernels.proofs.simd.scan.others_of_32.Goals as goal

pub returns : goal.returns
returns c = byte_others c.args.bound c.args.at c.args.bytes.now c.requires
