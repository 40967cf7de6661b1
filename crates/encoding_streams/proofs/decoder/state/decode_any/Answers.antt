use Rattle.std.proofs.Common.{◌≡◌, inl, inr, [], length, take, sym, ap, subst, ◌∙◌, arith}
use Rattle.std.proofs.lemmas.List.{take_rest, length-drop}
use Rattle.encoding_text.specs.declared.decoder.DecoderResult.TheVariants.{OutputFull}
use Rattle.encoding_streams.specs.Decoders.{decoding}
use Rattle.encoding_streams.specs.DecoderSteps.{Reports, shown}
use Rattle.encoding_streams.specs.ExactCalls.{IsExactCall}
use Rattle.encoding_streams.proofs.SniffCallLemmas.{early_reports, sniffed_reports, as_shown, no_progress_reports}
use Rattle.encoding_streams.proofs.ExactLemmas.{again_is, early_exact, sniffed_exact, no_progress_exact}
use Rattle.encoding_streams.proofs.ExactReplacingLemmas.{length_written}
use Rattle.encoding_streams.proofs.PendingCallLemmas.{exact_lengths, exact_pending}
use Rattle.encoding_streams.proofs.decoder.state.decode_any.Goals as goal

pub returns-then-is_at_end-clause-reports : goal.returns-then-is_at_end-clause-reports
returns-then-is_at_end-clause-reports g c =
    let facts = c.replacement_length-length.ensures in
    early_reports g.U.CodeUnit.encode g.U.CodeUnit.need g.U.Output.query g.U.Output.replacing facts.grows facts.grows_replacing _ _ _ _ _ _
    c.sniff-sniffed.ensures
    (c.is_at_end.ensures.yes c.if-is_at_end.true)

pub returns-clause-reports : goal.returns-clause-reports
returns-clause-reports g c =
    let facts = c.replacement_length-length.ensures in
    let mid = c.sniff-sniffed.new.state in
    let made = c.decode_decided-result in
    let new = made.new.state in
    let (off, goes_on) = c.is_at_end.ensures.no c.if-is_at_end.false in
    let old_is : decoding mid.encoding mid.pending ≡ shown mid = λ i. record { encoding = mid.encoding; bom = (sym off) i; pending = mid.pending } in
    let new_is : decoding mid.encoding new.pending ≡ shown new =
    λ i. record { encoding = (sym made.ensures.kept.1) i; bom = (sym (made.ensures.kept.0 ∙ off)) i; pending = new.pending } in
    sniffed_reports g.U.CodeUnit.encode g.U.CodeUnit.need g.U.Output.query g.U.Output.replacing facts.grows facts.grows_replacing _ (shown mid) _ _ _ _
    c.sniff-sniffed.ensures _ _ _ _ (shown new) goes_on
    (as_shown g.U.CodeUnit.encode g.U.CodeUnit.need g.U.Output.query g.U.Output.replacing _ _ (shown mid) (shown new) _ _ _ _ _ _ _ old_is new_is
    made.ensures.reports)

pub returns-clause-free : goal.returns-clause-free
returns-clause-free g c = λ report some.
    let sniffed = c.sniff-sniffed in
    let size = ap length (take_rest c.args.src.now sniffed.result) ∙ length-drop sniffed.result c.args.src.now in
    c.decode_decided-result.ensures.free report (elim (c.is_at_end.ensures.no c.if-is_at_end.false).1 [
      | inl none ↦ omega (arith, some, size, none, ap length (sniffed.ensures.stays none).1)
      | inr more ↦ omega (arith, more, size)
    ])

pub returns-then-is_at_end-clause-exact : goal.returns-then-is_at_end-clause-exact
returns-then-is_at_end-clause-exact g c =
    early_exact g.U.CodeUnit.encode g.U.CodeUnit.need _ _ _ _ _ _ c.sniff-sniffed.ensures (c.is_at_end.ensures.yes c.if-is_at_end.true)

pub returns-clause-exact : goal.returns-clause-exact
returns-clause-exact g c =
    let mid = c.sniff-sniffed.new.state in
    let made = c.decode_decided-result in
    let new = made.new.state in
    let off = (c.is_at_end.ensures.no c.if-is_at_end.false).0 in
    let new_is : shown new ≡ decoding mid.encoding new.pending =
    λ i. record { encoding = made.ensures.kept.1 i; bom = (made.ensures.kept.0 ∙ off) i; pending = new.pending } in
    let moves = c.makes_no_progress.ensures.no c.if-makes_no_progress.false in
    let size = length_written _ _ _ _ made.ensures.reports.call.writes in
    sniffed_exact g.U.CodeUnit.encode g.U.CodeUnit.need _ (shown mid) _ _ _ _ c.sniff-sniffed.ensures off _ _ _ (shown new)
    (λ no_progress. absurd (moves (no_progress.0, no_progress.1, omega (arith, size, ap length no_progress.2)))) (λ _. new_is) made.ensures.decodes

pub returns-clause-pending : goal.returns-clause-pending
returns-clause-pending g c =
    exact_pending g.U.CodeUnit.encode g.U.CodeUnit.need _ _ _ _ _ _ _ _ c.requires.pending (returns-clause-exact g c)

pub returns-clause-lengths : goal.returns-clause-lengths
returns-clause-lengths g c =
    exact_lengths g.U.CodeUnit.encode g.U.CodeUnit.need _ _ _ _ _ _ _ _ c.requires.pending (returns-clause-exact g c)

pub returns-then-is_at_end-clause-pending : goal.returns-then-is_at_end-clause-pending
returns-then-is_at_end-clause-pending g c =
    exact_pending g.U.CodeUnit.encode g.U.CodeUnit.need _ _ _ _ _ _ _ _ c.requires.pending (returns-then-is_at_end-clause-exact g c)

pub returns-then-makes_no_progress-clause-exact : goal.returns-then-makes_no_progress-clause-exact
returns-then-makes_no_progress-clause-exact g c =
    let old = c.args.state.now in
    let mid = c.sniff-sniffed.new.state in
    let made = c.decode_decided-result in
    let new = made.new.state in
    let off = (c.is_at_end.ensures.no c.if-is_at_end.false).0 in
    let (full, none, nothing) = c.makes_no_progress.ensures.yes c.if-makes_no_progress.true in
    let same : record { encoding = mid.encoding; bom = old.bom; pending = new.pending }
    ≡ record { encoding = new.encoding; bom = old.bom; pending = new.pending } =
    λ i. record { encoding = (sym made.ensures.kept.1) i; bom = old.bom; pending = new.pending } in
    subst (IsExactCall g.U.CodeUnit.encode g.U.CodeUnit.need (shown old) c.args.src.now (length c.args.dst.now) c.args.last OutputFull 0 []) same
    (no_progress_exact g.U.CodeUnit.encode g.U.CodeUnit.need (shown old) (shown mid) _ _ _ _ c.sniff-sniffed.ensures
    c.replacement_length-length.ensures.some_units _ _ _ new.pending (full, none, ap (λ n. take n made.new.dst) nothing) made.ensures.decodes off)

pub returns-then-makes_no_progress-clause-pending : goal.returns-then-makes_no_progress-clause-pending
returns-then-makes_no_progress-clause-pending g c =
    exact_pending g.U.CodeUnit.encode g.U.CodeUnit.need _ _ _ _ _ _ _ _ c.requires.pending (returns-then-makes_no_progress-clause-exact g c)

pub returns-then-makes_no_progress-clause-reports : goal.returns-then-makes_no_progress-clause-reports
returns-then-makes_no_progress-clause-reports g c =
    let facts = c.replacement_length-length.ensures in
    let old = c.args.state.now in
    let sniffed = c.sniff-sniffed in
    let mid = sniffed.new.state in
    let made = c.decode_decided-result in
    let new = made.new.state in
    let (off, goes_on) = c.is_at_end.ensures.no c.if-is_at_end.false in
    let (full, none, nothing) = c.makes_no_progress.ensures.yes c.if-makes_no_progress.true in
    let old_is : decoding mid.encoding mid.pending ≡ shown mid = λ i. record { encoding = mid.encoding; bom = (sym off) i; pending = mid.pending } in
    let new_is : decoding mid.encoding new.pending ≡ shown new =
    λ i. record { encoding = (sym made.ensures.kept.1) i; bom = (sym (made.ensures.kept.0 ∙ off)) i; pending = new.pending } in
    let is = again_is g.U.CodeUnit.encode g.U.CodeUnit.need (shown old) (shown mid) _ _ _ _ sniffed.ensures facts.some_units _ _ _ new.pending
    (full, none, ap (λ n. take n made.new.dst) nothing) made.ensures.decodes in
    let same : shown old ≡ record { encoding = new.encoding; bom = old.bom; pending = new.pending } =
    sym is ∙ (λ i. record { encoding = (sym made.ensures.kept.1) i; bom = old.bom; pending = new.pending }) in
    subst (Reports g.U.CodeUnit.encode g.U.CodeUnit.need g.U.Output.query g.U.Output.replacing (shown old) c.args.src.now c.args.dst.now made.new.dst
    c.args.last OutputFull 0 0) same
    (no_progress_reports g.U.CodeUnit.encode g.U.CodeUnit.need g.U.Output.query g.U.Output.replacing (shown old) (shown new) _ _ _ _ _ _ _ full none nothing
    (made.ensures.kept.1 ∙ ap (λ s. s.encoding) is) (ap (λ s. s.pending) is)
    (sniffed_reports g.U.CodeUnit.encode g.U.CodeUnit.need g.U.Output.query g.U.Output.replacing facts.grows facts.grows_replacing _ (shown mid) _ _ _ _
    sniffed.ensures _ _ _ _ (shown new) goes_on
    (as_shown g.U.CodeUnit.encode g.U.CodeUnit.need g.U.Output.query g.U.Output.replacing _ _ (shown mid) (shown new) _ _ _ _ _ _ _ old_is new_is
    made.ensures.reports)))
