use Rattle.std.proofs.Common.{}
use Rattle.utf8_repair.proofs.service.serve.Goals as goal

pub returns-clause-unchanged : goal.returns-clause-unchanged
returns-clause-unchanged g c = c.repair_and_flush-status.ensures.served.unchanged

pub returns-clause-replaced : goal.returns-clause-replaced
returns-clause-replaced g c = c.repair_and_flush-status.ensures.served.replaced

pub returns-clause-read_fault : goal.returns-clause-read_fault
returns-clause-read_fault g c = c.repair_and_flush-status.ensures.served.read_fault

pub returns-clause-limit : goal.returns-clause-limit
returns-clause-limit g c = c.repair_and_flush-status.ensures.served.limit
