use Rattle.std.proofs.Common.{◌≡◌, ℕ, ◌<◌, List, [], ◌∷◌, ◌++◌, inr, length, take, drop, map, sym, ap, subst, ◌∙◌, arith, Bor, take-append-drop}
use Rattle.std.proofs.lemmas.List.{map_push, length-drop}
use Rattle.std.proofs.lemmas.Bool.Decides.{nat_tests}
use Rattle.std.specs.List.{AllByRecursion}
use Rattle.cuts_example.specs.Cuts.{EndsWithAscii, MayBeCutAfter, AreCut}
use Rattle.cuts_example.proofs.CutPieceLemmas.{AreCut-push, AllByRecursion-push, flat_map-push}
use Rattle.cuts_example.proofs.cut.Goals as goal

pub loop-rest-preserved : goal.loop-rest-preserved
loop-rest-preserved c =
    let now : Bor (List ℕ) → List ℕ = λ piece. piece.now in
    let items : c.push.new.self.items ≡ c.loop-rest.pieces.items ++ c.split_at.result.0 ∷ [] = c.in_ok-push.ensures.items in
    let prefix : c.split_at.result.0.now ≡ take c.cut_length.result c.loop-rest.rest.now = c.split_at.ensures.front in
    let back : c.split_at.result.1.now ≡ drop c.cut_length.result c.loop-rest.rest.now = c.split_at.ensures.back in
    let pushed : map now c.push.new.self.items ≡ map now c.loop-rest.pieces.items ++ c.split_at.result.0.now ∷ [] = ap (map now) items
    ∙ map_push now c.loop-rest.pieces.items c.split_at.result.0 in
    let some : 0 < length c.loop-rest.rest.now = grind (arith, nat_tests) in
    let following = c.loop-rest.invariant.following some in
    record {
      whole = rw items
          (flat_map-push now c.loop-rest.pieces.items c.split_at.result.0 c.loop-rest.rest.now c.split_at.result.1.now c.args.bytes.now
          c.loop-rest.invariant.whole
          (cc (take-append-drop c.cut_length.result c.loop-rest.rest.now)));
      following = λ more. let short : c.cut_length.result < length c.loop-rest.rest.now =
          omega (arith, ap length back, length-drop c.cut_length.result c.loop-rest.rest.now) in
          subst (AllByRecursion MayBeCutAfter) (sym pushed)
          (AllByRecursion-push MayBeCutAfter (map now c.loop-rest.pieces.items) c.split_at.result.0.now following
          (inr (subst EndsWithAscii (sym prefix) (c.cut_length.ensures.ascii short))));
      cut = subst AreCut (sym pushed) (AreCut-push (map now c.loop-rest.pieces.items) c.split_at.result.0.now following);
    }
