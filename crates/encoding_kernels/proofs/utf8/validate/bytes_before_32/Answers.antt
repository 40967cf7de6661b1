use Rattle.std.proofs.Common.{◌∷◌, [], arith, take}
use Rattle.encoding_kernels.proofs.CodeUnitLemmas.{HasLanes-after, loaded_before, zeros_before}
use Rattle.encoding_kernels.proofs.utf8.validate.bytes_before_32.Goals as goal

pub returns-then-this-lt3-clause-three : goal.returns-then-this-lt3-clause-three
returns-then-this-lt3-clause-three g c =
    zeros_before 32 c.args.src.now _ (0 ∷ 0 ∷ 0 ∷ []) c.args.at (omega arith) (omega arith) (HasLanes-after (0 ∷ 0 ∷ 0 ∷ []) (take 32 c.args.src.now) 29)

pub returns-then-this-lt3-clause-two : goal.returns-then-this-lt3-clause-two
returns-then-this-lt3-clause-two g c =
    zeros_before 32 c.args.src.now _ (0 ∷ 0 ∷ []) c.args.at (omega arith) (omega arith) (HasLanes-after (0 ∷ 0 ∷ []) (take 32 c.args.src.now) 30)

pub returns-then-this-lt3-clause-one : goal.returns-then-this-lt3-clause-one
returns-then-this-lt3-clause-one g c =
    zeros_before 32 c.args.src.now _ (0 ∷ []) c.args.at (omega arith) (omega arith) (HasLanes-after (0 ∷ []) (take 32 c.args.src.now) 31)

pub returns-clause-three : goal.returns-clause-three
returns-clause-three g c = loaded_before 32 c.args.src.now (0 ∷ 0 ∷ 0 ∷ []) c.args.at (omega arith) (omega arith)

pub returns-clause-two : goal.returns-clause-two
returns-clause-two g c = loaded_before 32 c.args.src.now (0 ∷ 0 ∷ []) c.args.at (omega arith) (omega arith)

pub returns-clause-one : goal.returns-clause-one
returns-clause-one g c = loaded_before 32 c.args.src.now (0 ∷ []) c.args.at (omega arith) (omega arith)
