use Rattle.std.proofs.Common.{refl, inr, arith}
use Rattle.encoding_streams.specs.declared.encoding.BomHandling.TheVariants.{Off}
use Rattle.encoding_streams.proofs.PendingCallLemmas.{at_most_three}
use Rattle.encoding_streams.proofs.decoder.state.is_pending_in.Goals as goal

pub returns-then-bytes-gt3-clause-no : goal.returns-then-bytes-gt3-clause-no
returns-then-bytes-gt3-clause-no c = λ no pending.
    let few = at_most_three Off c.args.encoding c.args.bytes.now (inr (refl, pending)) in omega (arith, few, c.if-bytes-gt3.true)
