use Rattle.encoding_kernels.proofs.CopyLemmas.{first_and_last}
use Rattle.encoding_kernels.proofs.utf8.validate.first_and_last_eight.Goals as goal

pub returns : goal.returns
returns c = first_and_last c.args.src.now c.requires.0
