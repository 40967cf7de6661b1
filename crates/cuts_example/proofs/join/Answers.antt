use Rattle.std.proofs.Common.{◌≡◌, take, ap, ◌∙◌, arith, sum_by}
use Rattle.std.proofs.lemmas.Grind.{common_steps}
use Rattle.std.specs.List.{flat_map}
use Rattle.cuts_example.specs.declared.RepairedPiece.{RepairedPiece}
use Rattle.cuts_example.proofs.CutPieceLemmas.{all_joined}
use Rattle.cuts_example.proofs.join.Goals as goal

pub returns : goal.returns
returns c = λ pieces cut each.
    let (parts, are, text, count) = all_joined c.law_cut.ensures.repaired pieces c.args.repaired.now cut each in
    let all : take c.loop-piece.piece-index c.args.repaired.now ≡ c.args.repaired.now = grind (arith, common_steps) in (
      parts,
      are,
      c.loop-piece.invariant.text ∙ ap (flat_map (λ (piece : RepairedPiece). piece.text.items)) all ∙ text,
      c.loop-piece.invariant.count ∙ ap (sum_by (λ (piece : RepairedPiece). piece.replaced)) all ∙ count,
    )
