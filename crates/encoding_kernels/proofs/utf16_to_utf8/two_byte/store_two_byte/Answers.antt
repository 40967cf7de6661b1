use Rattle.std.proofs.Common.{subst}
use Rattle.encoding_kernels.specs.Utf8Output.{Spills}
use Rattle.encoding_kernels.proofs.utf16_to_utf8.two_byte.store_two_byte.Goals as goal

pub returns-clause-stored : goal.returns-clause-stored
returns-clause-stored c = subst (Spills c.args.dst.now c.store_two.new.dst c.args.at _ 16) c.encode_two_byte-count.ensures.spelled c.store_two.ensures
