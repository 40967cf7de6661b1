use Rattle.std.proofs.Common.{inl, [], refl, subst}
use Rattle.encoding_runs.specs.Calls.{IsChain}
use Rattle.encoding_runs.specs.MixedCalls.{MixedDecodeStep}
use Rattle.decoder_example.proofs.YieldedLemmas.{none_left}
use Rattle.decoder_example.proofs.streams.law_next_stream.Goals as goal

pub returns : goal.returns
returns c = λ stream next calls others news chain some others_chain.
    let yielded = c.law_mixed_calls.ensures.mixed [] stream calls (inl refl) chain in
    let none = none_left stream calls yielded (c.law_parts.ensures.joined stream yielded.parts (yielded.all some)) in
    c.law_mixed_calls.ensures.same [] next others news (subst (λ p. IsChain MixedDecodeStep p next others) none others_chain)
