use Rattle.std.proofs.Common.{◌≡◌, ◌++◌, ◌-◌, length, take, subst}
use Rattle.encoding_definitions.specs.Surrogates.{HasUnpaired}
use Rattle.encoding_text.specs.Encoding.{pending_units}
use Rattle.encoding_text.proofs.EncoderCountLemmas.{replaces}
use Rattle.encoding_text.proofs.utf_8.encoder.Utf8Encoder.encode_from_utf16_with_count.Goals as goal

pub returns-clause-replaced : goal.returns-clause-replaced
returns-clause-replaced c =
    let call = c.encode_from_utf16_raw-result in
    let read = call.result.1 in
    let n = c.unpaired_with_pending-replaced.result in
    let before : pending_units c.self.inside.surrogate ≡ c.args.self.now = c.self.view_is in
    let counted =
    subst (λ xs. HasUnpaired (take (length (xs ++ take read c.args.src.now) - c.pending_count.result) (xs ++ take read c.args.src.now)) n) before
    c.unpaired_with_pending-replaced.ensures in
    replaces c.args.self.now c.args.src.now _ c.args.last _ read _ call.new.self call.ensures.call n
    (subst (λ k. HasUnpaired (take (length (c.args.self.now ++ take read c.args.src.now) - k) (c.args.self.now ++ take read c.args.src.now)) n)
    c.pending_count.ensures.pending_length counted)
