use Rattle.std.proofs.Common.{◌≡◌, ◌≢◌, ◌∙◌, [], arith, ap, sym, refl, subst, length}
use Rattle.std.proofs.lemmas.List.{length-take}
use Rattle.encoding_definitions.specs.Sequence.{IsPending}
use Rattle.encoding_text.proofs.PendingLemmas.{pending_incomplete}
use Rattle.encoding_text.proofs.decoder.pending.Pending.end.Goals as goal

pub returns : goal.returns
returns c =
    let inside = c.self.inside in
    let long : length c.args.self.now ≡ inside.count =
    omega (arith, ap length c.self.view_is, length-take inside.count inside.bytes, c.self.told, c.self.invariant.0) in
    let some : c.args.self.now ≢ [] = λ e. omega (arith, long, ap length e) in
    (refl, sym long, c.self-2.view_is ∙ c.none.ensures, pending_incomplete _ some (subst IsPending c.self.view_is c.self.invariant.1), c.if-not-last.false)
