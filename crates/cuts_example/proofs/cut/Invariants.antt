use Rattle.std.proofs.Common.{◌≡◌, ◌++◌, length, map, ◌<◌}
use Rattle.std.specs.List.{flat_map, AllByRecursion}
use Rattle.cuts_example.specs.Cuts.{MayBeCutAfter, AreCut}
use Rattle.cuts_example.proofs.cut.Given as goal

abbrev pub invariant-loop-rest : goal.invariant-loop-rest
invariant-loop-rest l = record {
  whole : flat_map (λ piece. piece.now) l.pieces.items ++ l.rest ≡ l.fn.bytes;
  following : 0 < length l.rest → AllByRecursion MayBeCutAfter (map (λ piece. piece.now) l.pieces.items);
  cut : AreCut (map (λ piece. piece.now) l.pieces.items);
}

abbrev pub decreases-loop-rest : goal.decreases-loop-rest
decreases-loop-rest l = length l.rest
