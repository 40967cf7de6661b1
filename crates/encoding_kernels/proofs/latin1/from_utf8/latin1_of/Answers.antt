use Rattle.encoding_kernels.proofs.latin1.from_utf8.latin1_of.Goals as goal

pub returns-clause-latin1_ended : goal.returns-clause-latin1_ended
returns-clause-latin1_ended c = c.latin1_of_after.ensures.latin1_ended 0 c.lanes_before.ensures.one.each
