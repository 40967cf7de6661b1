use Rattle.std.proofs.Common.{[], false, inl, refl}
use Rattle.decoder_example.proofs.YieldedLemmas.{start_stays}
use Rattle.decoder_example.proofs.streams.law_incomplete_stays.Goals as goal

pub returns : goal.returns
returns c = λ start q returned read incomplete. start_stays start q returned read incomplete (c.law_mixed_calls.ensures.one_piece [] start false (inl refl))
