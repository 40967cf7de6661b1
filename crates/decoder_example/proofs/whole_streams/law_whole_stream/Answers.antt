use Rattle.std.proofs.Common.{encode_utf8, subst}
use Rattle.std.specs.Char.Escape.{encode_utf16}
use Rattle.std.specs.List.{flat_map}
use Rattle.encoding_streams.specs.Decoders.{YieldParts, YieldText, left}
use Rattle.encoding_streams.specs.DecoderCalls.{replaced_in_all, state_after, unread_after}
use Rattle.encoding_streams.specs.MixedDecoderCalls.{after_mixed, unread_by_mixed}
use Rattle.decoder_example.proofs.whole_streams.law_whole_stream.Goals as goal

pub returns-clause-utf16 : goal.returns-clause-utf16
returns-clause-utf16 c = λ state stream calls made some.
    let text = c.law_decoder_calls.ensures.utf16 state stream calls made in
    let e = (left (state_after state calls) (unread_after stream calls)).0 in (
      e,
      subst (λ rest. YieldText encode_utf16 (left state stream) (e, rest) (flat_map (λ call. call.out) calls) (replaced_in_all calls))
          (text.all some) text.text,
    )

pub returns-clause-utf8 : goal.returns-clause-utf8
returns-clause-utf8 c = λ state stream calls made some.
    let text = c.law_decoder_calls.ensures.utf8 state stream calls made in
    let e = (left (state_after state calls) (unread_after stream calls)).0 in (
      e,
      subst (λ rest. YieldText encode_utf8 (left state stream) (e, rest) (flat_map (λ call. call.out) calls) (replaced_in_all calls))
          (text.all some) text.text,
    )

pub returns-clause-mixed : goal.returns-clause-mixed
returns-clause-mixed c = λ state stream calls made some.
    let given = c.law_mixed_decoder_calls.ensures state stream calls made in
    let e = (left (after_mixed state calls) (unread_by_mixed stream calls)).0 in
    (e, given.parts, subst (λ rest. YieldParts (left state stream) (e, rest) given.parts) (given.all some) given.yields, given.in_sequence)
