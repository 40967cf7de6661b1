use Rattle.std.proofs.Common.{◌-◌, length, arith}
use Rattle.std.specs.Prelude.{encode_utf8}
use Rattle.encoding_definitions.proofs.EncodingLemmas.{length_encode_utf8_le}
use Rattle.encoding_runs.specs.MixedCalls.{ToUtf8, Decoded}
use Rattle.encoding_streams.proofs.InnerLemmas.{utf8_call, utf16_call, quiet_utf8, quiet_utf16, queried_utf8}
use Rattle.encoding_streams.proofs.InnerLemmas.{utf8_step, utf16_step}
use Rattle.encoding_streams.proofs.decoder.inner.U8Output.decode.Goals as goal

pub returns-in-OfUtf8-clause-call : goal.returns-in-OfUtf8-clause-call
returns-in-OfUtf8-clause-call c =
    let made = c.decode_to_utf8_raw in
    let (out, writes, is_call) = made.ensures.call in
    let first = c.law_mixed_calls.ensures.one_call _ _ (ToUtf8 (length c.args.dst.now)) _ (Decoded made.result.0) _ _ _ is_call in
    rw c.in-OfUtf8.is (utf8_call encode_utf8 4 _ _ _ _ _ _ _ _ _ out writes is_call first.parts first.yielded first.prefix)

pub returns-in-OfUtf16-clause-call : goal.returns-in-OfUtf16-clause-call
returns-in-OfUtf16-clause-call c =
    let made = c.decode_to_utf8_raw-in-OfUtf16 in
    rw (c.in-OfUtf16.is, made.ensures.order) (utf16_call encode_utf8 4 c.in-OfUtf16.decoder.order length_encode_utf8_le _ _ _ _ _ _ _ _ _ made.ensures.call)

pub returns-in-OfUtf8-clause-suffices_replacing : goal.returns-in-OfUtf8-clause-suffices_replacing
unfolding lib.Utf8.encode
returns-in-OfUtf8-clause-suffices_replacing c = rw c.in-OfUtf8.is (λ m l e h r. c.decode_to_utf8_raw.ensures.suffices_replacing m l h r)

pub returns-in-OfUtf16-clause-suffices_replacing : goal.returns-in-OfUtf16-clause-suffices_replacing
unfolding lib.Utf8.encode
returns-in-OfUtf16-clause-suffices_replacing c =
    let made = c.decode_to_utf8_raw-in-OfUtf16 in
    let order = c.in-OfUtf16.decoder.order in
    let before = c.in-OfUtf16.decoder.pending in
    rw (c.in-OfUtf16.is, made.ensures.order) (λ m l e h r. omega (
      arith,
      made.ensures.suffices_replacing m l e (omega (arith, h, queried_utf8 order m (length before))) r,
      queried_utf8 order (m - made.result.1) (length made.new.self.pending),
    ))

pub returns-in-OfUtf8-clause-quiet : goal.returns-in-OfUtf8-clause-quiet
returns-in-OfUtf8-clause-quiet c =
    let (out, writes, is_call) = c.decode_to_utf8_raw.ensures.call in
    quiet_utf8 encode_utf8 4 _ _ _ _ _ _ _ _ _ out writes is_call

pub returns-in-OfUtf16-clause-quiet : goal.returns-in-OfUtf16-clause-quiet
returns-in-OfUtf16-clause-quiet c =
    quiet_utf16 encode_utf8 4 c.in-OfUtf16.decoder.order length_encode_utf8_le _ _ _ _ _ _ _ _ _ c.decode_to_utf8_raw-in-OfUtf16.ensures.call

pub returns-in-OfUtf8-clause-step : goal.returns-in-OfUtf8-clause-step
returns-in-OfUtf8-clause-step c =
    rw c.in-OfUtf8.is (utf8_step encode_utf8 4 _ _ _ _ _ _ _ _ _ c.decode_to_utf8_raw.ensures.call)

pub returns-in-OfUtf16-clause-step : goal.returns-in-OfUtf16-clause-step
returns-in-OfUtf16-clause-step c =
    let made = c.decode_to_utf8_raw-in-OfUtf16 in
    rw c.in-OfUtf16.is (utf16_step encode_utf8 4 c.in-OfUtf16.decoder.order _ _ _ _ _ _ _ _ _ made.ensures.call)
