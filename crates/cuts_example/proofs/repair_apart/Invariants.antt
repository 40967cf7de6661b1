use Rattle.std.proofs.Common.{take, map}
use Rattle.std.specs.List.{AllZip}
use Rattle.cuts_example.specs.Cuts.{IsRepairOf}
use Rattle.cuts_example.proofs.repair_apart.Given as goal

abbrev pub invariant-loop-piece : goal.invariant-loop-piece
invariant-loop-piece l = AllZip IsRepairOf (map (λ piece. piece.now) (take l.piece-index l.piece-items)) l.repaired.items
