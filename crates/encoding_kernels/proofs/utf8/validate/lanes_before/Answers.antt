use Rattle.std.proofs.Common.{◌∷◌, []}
use Rattle.encoding_kernels.proofs.CodeUnitLemmas.{HasLanes-after}
use Rattle.encoding_kernels.proofs.utf8.validate.lanes_before.Goals as goal

pub returns-clause-three : goal.returns-clause-three
returns-clause-three c = HasLanes-after (0 ∷ 0 ∷ 0 ∷ []) c.args.block 13

pub returns-clause-two : goal.returns-clause-two
returns-clause-two c = HasLanes-after (0 ∷ 0 ∷ []) c.args.block 14

pub returns-clause-one : goal.returns-clause-one
returns-clause-one c = HasLanes-after (0 ∷ []) c.args.block 15
