use Rattle.std.proofs.Common.{length}
use Rattle.std.specs.Char.Escape.{encode_utf16}
use Rattle.encoding_definitions.proofs.EncodingLemmas.{length-encode_utf16-le}
use Rattle.encoding_runs.specs.MixedCalls.{ToUtf16, Decoded}
use Rattle.encoding_streams.proofs.InnerLemmas.{utf8_call, utf16_call, quiet_utf8, quiet_utf16}
use Rattle.encoding_streams.proofs.InnerLemmas.{utf8_step, utf16_step}
use Rattle.encoding_streams.proofs.decoder.inner.U16Output.decode.Goals as goal

pub returns-in-OfUtf8-clause-call : goal.returns-in-OfUtf8-clause-call
returns-in-OfUtf8-clause-call c =
    let made = c.decode_to_utf16_raw in
    let (out, writes, is_call) = made.ensures.call in
    let first = c.law_mixed_calls.ensures.one_call _ _ (ToUtf16 (length c.args.dst.now)) _ (Decoded made.result.0) _ _ _ is_call in
    rw c.in-OfUtf8.is (utf8_call encode_utf16 2 _ _ _ _ _ _ _ _ _ out writes is_call first.parts first.yielded first.prefix)

pub returns-in-OfUtf16-clause-call : goal.returns-in-OfUtf16-clause-call
returns-in-OfUtf16-clause-call c =
    let made = c.decode_to_utf16_raw-in-OfUtf16 in
    rw (c.in-OfUtf16.is, made.ensures.order) (utf16_call encode_utf16 2 c.in-OfUtf16.decoder.order length-encode_utf16-le _ _ _ _ _ _ _ _ _ made.ensures.call)

pub returns-in-OfUtf8-clause-suffices : goal.returns-in-OfUtf8-clause-suffices
returns-in-OfUtf8-clause-suffices c = rw c.in-OfUtf8.is (λ m l e h. c.decode_to_utf16_raw.ensures.suffices m l h)

pub returns-in-OfUtf8-clause-suffices_between_reports : goal.returns-in-OfUtf8-clause-suffices_between_reports
returns-in-OfUtf8-clause-suffices_between_reports c = rw c.in-OfUtf8.is (λ m l e h. c.decode_to_utf16_raw.ensures.suffices m l h)

pub returns-in-OfUtf8-clause-quiet : goal.returns-in-OfUtf8-clause-quiet
returns-in-OfUtf8-clause-quiet c =
    let (out, writes, is_call) = c.decode_to_utf16_raw.ensures.call in
    quiet_utf8 encode_utf16 2 _ _ _ _ _ _ _ _ _ out writes is_call

pub returns-in-OfUtf16-clause-quiet : goal.returns-in-OfUtf16-clause-quiet
returns-in-OfUtf16-clause-quiet c =
    quiet_utf16 encode_utf16 2 c.in-OfUtf16.decoder.order length-encode_utf16-le _ _ _ _ _ _ _ _ _ c.decode_to_utf16_raw-in-OfUtf16.ensures.call

pub returns-in-OfUtf8-clause-step : goal.returns-in-OfUtf8-clause-step
returns-in-OfUtf8-clause-step c =
    rw c.in-OfUtf8.is (utf8_step encode_utf16 2 _ _ _ _ _ _ _ _ _ c.decode_to_utf16_raw.ensures.call)

pub returns-in-OfUtf16-clause-step : goal.returns-in-OfUtf16-clause-step
returns-in-OfUtf16-clause-step c =
    let made = c.decode_to_utf16_raw-in-OfUtf16 in
    rw c.in-OfUtf16.is (utf16_step encode_utf16 2 c.in-OfUtf16.decoder.order _ _ _ _ _ _ _ _ _ made.ensures.call)
