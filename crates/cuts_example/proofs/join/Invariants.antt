use Rattle.std.proofs.Common.{◌≡◌, take, sum_by}
use Rattle.std.specs.List.{flat_map}
use Rattle.cuts_example.proofs.join.Given as goal

abbrev pub invariant-loop-piece : goal.invariant-loop-piece
invariant-loop-piece l = record {
  text : l.whole.text.items ≡ flat_map (λ piece. piece.text.items) (take l.piece-index l.repaired);
  count : l.whole.replaced ≡ sum_by (λ piece. piece.replaced) (take l.piece-index l.repaired);
}
