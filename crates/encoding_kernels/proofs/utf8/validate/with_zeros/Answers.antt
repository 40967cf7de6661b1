use Rattle.std.proofs.Common.{length}
use Rattle.encoding_kernels.proofs.CopyLemmas.{places_ok, with_zeros_is}
use Rattle.encoding_kernels.proofs.utf8.validate.with_zeros.Goals as goal

pub swizzle-bytes : goal.swizzle-bytes
swizzle-bytes c = places_ok (length c.args.src.now)

pub returns : goal.returns
returns c = with_zeros_is c.args.src.now c.first_and_last_eight-both.result c.requires.0 c.requires.1 c.first_and_last_eight-both.ensures
