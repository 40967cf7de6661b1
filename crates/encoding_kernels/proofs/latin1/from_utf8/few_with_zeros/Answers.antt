use Rattle.std.proofs.Common.{◌∙◌, length}
use Rattle.encoding_definitions.proofs.PrefixesLemmas.{WritesPrefix-length}
use Rattle.encoding_kernels.proofs.VectorLemmas.{whole_chunk}
use Rattle.encoding_kernels.proofs.latin1.from_utf8.few_with_zeros.Goals as goal

pub returns : goal.returns
returns c =
    let copied = c.copy_prefix.ensures in
    whole_chunk 16 c.copy_prefix.new.dst (WritesPrefix-length _ _ (length c.args.src.now) c.args.src.now copied) ∙ copied.placed
