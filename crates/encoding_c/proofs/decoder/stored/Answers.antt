use Rattle.std.proofs.Common.{◌≡◌, take, sym, subst}
use Rattle.encoding_definitions.specs.Sequence.{IsPending}
use Rattle.encoding_c.proofs.StateLemmas.{first_three}
use Rattle.encoding_c.proofs.decoder.stored.Goals as goal

pub returns : goal.returns
returns c =
    let p = c.pending-count.ensures in
    let same = first_three c.pending-count.result.0 c.args.decoder.now c.pending-count.result.1 p.count p.within p.bytes in
    record { left = λ _. sym same; other = λ n. absurd (n (p.within, subst IsPending (sym same) p.pending)) }
