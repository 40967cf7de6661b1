use Rattle.std.proofs.Common.{subst}
use Rattle.encoding_kernels.specs.Utf8Output.{Spills}
use Rattle.encoding_kernels.proofs.Latin1ToUtf8Lemmas.{halves_spelled}
use Rattle.encoding_kernels.proofs.latin1.to_utf8.store_latin1.Goals as goal

pub returns-clause-stored : goal.returns-clause-stored
returns-clause-stored c =
    let e = c.encode_latin1-count in
    let spelled = halves_spelled c.args.block _ _ e.ensures.first_half e.ensures.second_half in
    subst (Spills c.args.dst.now c.store_two.new.dst c.args.at _ 16) spelled c.store_two.ensures
