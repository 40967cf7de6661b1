use Rattle.std.proofs.Common.{rules}
use Rattle.encoding_definitions.proofs.SequenceLemmas.{IsSequence-some, length-IsSequence}
use Rattle.encoding_definitions.proofs.EncodingLemmas.{scalar_two, scalar_three, scalar_four}
use Rattle.encoding_kernels.proofs.scalar.decode_utf8_scalar.Goals as goal

pub returns-in-len2-clause-scalar : goal.returns-in-len2-clause-scalar
returns-in-len2-clause-scalar c =
    (scalar_two _ _ _ c.requires.sequence c.in-len2.len_at_least c.in-len2.len_below c.from-in-len2.ensures c.from-in-len2-2.ensures).0

pub returns-in-len2-clause-spelled : goal.returns-in-len2-clause-spelled
returns-in-len2-clause-spelled c =
    (scalar_two _ _ _ c.requires.sequence c.in-len2.len_at_least c.in-len2.len_below c.from-in-len2.ensures c.from-in-len2-2.ensures).1

pub returns-in-len3-clause-scalar : goal.returns-in-len3-clause-scalar
returns-in-len3-clause-scalar c =
    (scalar_three _ _ _ _ c.requires.sequence c.in-len3.len_at_least c.in-len3.len_below c.from-in-len3.ensures c.from-in-len3-2.ensures
    c.from-in-len3-3.ensures).0

pub returns-in-len3-clause-spelled : goal.returns-in-len3-clause-spelled
returns-in-len3-clause-spelled c =
    (scalar_three _ _ _ _ c.requires.sequence c.in-len3.len_at_least c.in-len3.len_below c.from-in-len3.ensures c.from-in-len3-2.ensures
    c.from-in-len3-3.ensures).1

pub returns-in-len4-clause-scalar : goal.returns-in-len4-clause-scalar
returns-in-len4-clause-scalar c =
    (scalar_four _ _ _ _ _ c.requires.sequence c.in-len4.len_at_least c.in-len4.len_below c.from-in-len4.ensures c.from-in-len4-2.ensures
    c.from-in-len4-3.ensures c.from-in-len4-4.ensures).0

pub returns-in-len4-clause-spelled : goal.returns-in-len4-clause-spelled
returns-in-len4-clause-spelled c =
    (scalar_four _ _ _ _ _ c.requires.sequence c.in-len4.len_at_least c.in-len4.len_below c.from-in-len4.ensures c.from-in-len4-2.ensures
    c.from-in-len4-3.ensures c.from-in-len4-4.ensures).1

-- a sequence has one to four bytes
pub unreachable-requires : goal.unreachable-requires
unreachable-requires c = search (rules, IsSequence-some c.args.bytes.now c.requires.sequence, length-IsSequence c.args.bytes.now c.requires.sequence)
