use Rattle.std.proofs.Common.{◌≡◌, ℕ, List, Option, Result, Ok, Err, IfErr, true}
use Rattle.encoding_runs.specs.Repairs.{Stops}
use Rattle.encoding_runs.specs.Steps.{StopsInParts}
use Rattle.encoding_runs.proofs.RepairLemmas.{stopped_all}
use Rattle.encoding_runs.proofs.repair.engine.repair_slice.Goals as goal

stopped : {F : Type 0} (write : F) (failed : Type 0) (bs : List ℕ) (old new : Option (List ℕ)) (r : Result ℕ F)
    → IfErr r (λ fault. (fault ≡ write) × failed × StopsInParts true bs old new) → IfErr r (λ fault. (fault ≡ write) × Stops bs old new)
stopped write failed bs old new (Ok n) e = e
stopped write failed bs old new (Err f) (is, has, stops) = (is, stopped_all true bs old new stops)

pub returns-clause-err : goal.returns-clause-err
returns-clause-err g c = stopped _ _ _ _ _ c.write_parts.result (rw c.new_inner-decoder.ensures at c.write_parts.ensures.err)
