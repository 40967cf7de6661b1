use Rattle.std.proofs.Common.{◌≡◌, sym, ◌∙◌}
use Rattle.encoding_streams.specs.Decoders.{decoding}
use Rattle.encoding_streams.specs.DecoderSteps.{shown}
use Rattle.encoding_streams.proofs.SniffCallLemmas.{as_shown}
use Rattle.encoding_streams.proofs.ExactLemmas.{exact_as, exact_off}
use Rattle.encoding_streams.proofs.PendingCallLemmas.{exact_lengths, exact_pending}
use Rattle.encoding_streams.proofs.decoder.state.decode.Goals as goal

pub returns-then-is_plain-clause-reports : goal.returns-then-is_plain-clause-reports
returns-then-is_plain-clause-reports g c =
    let old = c.args.state.now in
    let made = c.decode_neutral_utf8 in
    let new = made.new.state in
    let off = c.is_plain.ensures.off c.if-is_plain.true in
    let old_is : decoding old.encoding old.pending ≡ shown old = λ i. record { encoding = old.encoding; bom = (sym off) i; pending = old.pending } in
    let new_is : decoding old.encoding new.pending ≡ shown new =
    λ i. record { encoding = (sym made.ensures.kept.1) i; bom = (sym (made.ensures.kept.0 ∙ off)) i; pending = new.pending } in
    as_shown g.U.CodeUnit.encode g.U.CodeUnit.need g.U.Output.query g.U.Output.replacing _ _ (shown old) (shown new) _ _ _ _ _ _ _ old_is new_is
    made.ensures.reports

pub returns-then-is_plain-clause-exact : goal.returns-then-is_plain-clause-exact
returns-then-is_plain-clause-exact g c =
    let old = c.args.state.now in
    let made = c.decode_neutral_utf8 in
    let new = made.new.state in
    let off = c.is_plain.ensures.off c.if-is_plain.true in
    let old_is : decoding old.encoding old.pending ≡ shown old = λ i. record { encoding = old.encoding; bom = (sym off) i; pending = old.pending } in
    let new_is : decoding old.encoding new.pending ≡ shown new =
    λ i. record { encoding = (sym made.ensures.kept.1) i; bom = (sym (made.ensures.kept.0 ∙ off)) i; pending = new.pending } in
    exact_as g.U.CodeUnit.encode g.U.CodeUnit.need _ _ (shown old) (shown new) _ _ _ _ _ _ old_is new_is
    (exact_off g.U.CodeUnit.encode g.U.CodeUnit.need c.replacement_length-length.ensures.some_units _ _ _ _ _ _ _ _ _ made.ensures.decodes)

pub returns-then-is_plain-clause-pending : goal.returns-then-is_plain-clause-pending
returns-then-is_plain-clause-pending g c =
    exact_pending g.U.CodeUnit.encode g.U.CodeUnit.need _ _ _ _ _ _ _ _ c.requires.pending (returns-then-is_plain-clause-exact g c)

pub returns-then-is_plain-clause-lengths : goal.returns-then-is_plain-clause-lengths
returns-then-is_plain-clause-lengths g c =
    exact_lengths g.U.CodeUnit.encode g.U.CodeUnit.need _ _ _ _ _ _ _ _ c.requires.pending (returns-then-is_plain-clause-exact g c)
