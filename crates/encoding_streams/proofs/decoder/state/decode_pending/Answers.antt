use Rattle.std.proofs.Common.{◌≡◌, ◌+◌, ◌-◌, ◌++◌, length, take, drop, ap, refl, sym, ◌∙◌, arith, length-append}
use Rattle.std.proofs.lemmas.Bool.{both_ways}
use Rattle.std.proofs.lemmas.List.{length-drop}
use Rattle.encoding_streams.specs.DecoderSteps.{state_of}
use Rattle.encoding_streams.proofs.DecoderCallLemmas.{rest_of_held, rest_within, suffix_is}
use Rattle.encoding_streams.proofs.ReportedCallLemmas.{free_held, held_reports, inner_now, inner_reports, stop_free, stop_reports, two_free, two_reports}
use Rattle.encoding_streams.proofs.ExactLemmas.{decodes_idle, held_decodes, step_of, stop_decodes, two_decode}
use Rattle.encoding_streams.proofs.SniffCallLemmas.{idle_reports}
use Rattle.encoding_streams.proofs.ReportedCallLemmas.{not_report}
use Rattle.encoding_streams.proofs.decoder.state.decode_pending.Goals as goal

pub suffix-state-requires-clause-at_most_three : goal.suffix-state-requires-clause-at_most_three
suffix-state-requires-clause-at_most_three g c =
    let made = c.decode-result in
    let first = inner_reports g.U.CodeUnit.encode g.U.CodeUnit.need g.U.Output.query g.U.Output.replacing _ _ c.new-inner.result made.new.decoder _ _ _ _ _ _ _
    c.new-inner.ensures (record {
      call = made.ensures.call;
      suffices = made.ensures.suffices;
      between_reports = made.ensures.suffices_between_reports;
      replaced = made.ensures.suffices_replacing;
    }) in
    omega (
      arith,
      rest_within g.U.CodeUnit.encode g.U.CodeUnit.need _ _ _ c.args.src.now _ _ c.args.last _ _ _ first.call,
      c.bytes-count.ensures.count,
      ap
          length c.bytes-count.ensures.bytes,
      c.bytes-count.ensures.within,
      c.pending_length.ensures.length,
    )

pub suffix-state-requires-clause-within : goal.suffix-state-requires-clause-within
suffix-state-requires-clause-within g c =
    let made = c.decode-result in
    let first = inner_reports g.U.CodeUnit.encode g.U.CodeUnit.need g.U.Output.query g.U.Output.replacing _ _ c.new-inner.result made.new.decoder _ _ _ _ _ _ _
    c.new-inner.ensures (record {
      call = made.ensures.call;
      suffices = made.ensures.suffices;
      between_reports = made.ensures.suffices_between_reports;
      replaced = made.ensures.suffices_replacing;
    }) in
    omega (
      arith,
      rest_within g.U.CodeUnit.encode g.U.CodeUnit.need _ _ _ c.args.src.now _ _ c.args.last _ _ _ first.call,
      c.bytes-count.ensures.count,
      ap
          length c.bytes-count.ensures.bytes,
      c.bytes-count.ensures.within,
      c.pending_length.ensures.length,
    )

pub with_rest-requires : goal.with_rest-requires
with_rest-requires g c =
    let made = c.decode-result in
    let first = inner_reports g.U.CodeUnit.encode g.U.CodeUnit.need g.U.Output.query g.U.Output.replacing _ _ c.new-inner.result made.new.decoder _ _ _ _ _ _ _
    c.new-inner.ensures (record {
      call = made.ensures.call;
      suffices = made.ensures.suffices;
      between_reports = made.ensures.suffices_between_reports;
      replaced = made.ensures.suffices_replacing;
    }) in
    record {
      at_most_three =
          omega (
            arith,
            rest_within g.U.CodeUnit.encode g.U.CodeUnit.need _ _ _ c.args.src.now _ _ c.args.last _ _ _ first.call,
            c.bytes-count.ensures.count,
            ap
                length c.bytes-count.ensures.bytes,
            c.bytes-count.ensures.within,
            c.pending_length.ensures.length,
          );
    }

pub returns-then-not-is_all_read-clause-reports : goal.returns-then-not-is_all_read-clause-reports
returns-then-not-is_all_read-clause-reports g c =
    let made = c.decode-result in
    let first = inner_reports g.U.CodeUnit.encode g.U.CodeUnit.need g.U.Output.query g.U.Output.replacing _ _ c.new-inner.result made.new.decoder _ _ _ _ _ _ _
    c.new-inner.ensures (record {
      call = made.ensures.call;
      suffices = made.ensures.suffices;
      between_reports = made.ensures.suffices_between_reports;
      replaced = made.ensures.suffices_replacing;
    }) in
    let facts = c.replacement_length-length.ensures in
    let held = take c.bytes-count.result.1 c.bytes-count.result.0 in
    let q = (state_of made.new.decoder).pending in
    let rest = q ++ drop made.result.1 held in
    let count : c.pending_length.result + (c.bytes-count.result.1 - made.result.1) ≡ length rest =
    omega (
      arith,
      length-append q
          (drop made.result.1 held),
      length-drop made.result.1 held,
      c.bytes-count.ensures.count,
      ap length
          c.bytes-count.ensures.bytes,
      c.bytes-count.ensures.within,
      c.pending_length.ensures.length,
    ) in
    held_reports g.U.CodeUnit.encode g.U.CodeUnit.need g.U.Output.query g.U.Output.replacing facts.grows facts.grows_replacing _ _ held q c.args.src.now
    _ _ c.args.last _ _ _
    c.bytes-count.ensures.bytes first _ _ _ (λ all. both_ways _ c.if-not-is_all_read.true (c.is_all_read.ensures.1 all)) c.requires.some
    (omega (arith, c.bytes-count.ensures.count, c.bytes-count.ensures.within))
    (c.suffix-state.ensures ∙ suffix_is held _ rest _ (rest_of_held g.U.CodeUnit.encode g.U.CodeUnit.need _ _ _ c.args.src.now _ _ c.args.last _ _ _ first.call)
    (ap (λ n. length held - n) count)) count c.with_rest.ensures

pub returns-then-not-is_all_read-clause-free : goal.returns-then-not-is_all_read-clause-free
returns-then-not-is_all_read-clause-free g c =
    let made = c.decode-result in
    let first = inner_reports g.U.CodeUnit.encode g.U.CodeUnit.need g.U.Output.query g.U.Output.replacing _ _ c.new-inner.result made.new.decoder _ _ _ _ _ _ _
    c.new-inner.ensures (record {
      call = made.ensures.call;
      suffices = made.ensures.suffices;
      between_reports = made.ensures.suffices_between_reports;
      replaced = made.ensures.suffices_replacing;
    }) in
    λ report some. free_held g.U.CodeUnit.encode g.U.CodeUnit.need g.U.Output.query g.U.Output.replacing _ _ _ _ _ _ _ _ _ c.with_rest.ensures
    first.call.ends report
    (omega (arith, c.requires.some, ap length c.bytes-count.ensures.bytes))

pub returns-in-Some-clause-reports : goal.returns-in-Some-clause-reports
returns-in-Some-clause-reports g c =
    let made = c.decode-result in
    let first = inner_reports g.U.CodeUnit.encode g.U.CodeUnit.need g.U.Output.query g.U.Output.replacing _ _ c.new-inner.result made.new.decoder _ _ _ _ _ _ _
    c.new-inner.ensures (record {
      call = made.ensures.call;
      suffices = made.ensures.suffices;
      between_reports = made.ensures.suffices_between_reports;
      replaced = made.ensures.suffices_replacing;
    }) in
    let facts = c.replacement_length-length.ensures in
    stop_reports g.U.CodeUnit.encode g.U.CodeUnit.need g.U.Output.query g.U.Output.replacing facts.grows facts.grows_replacing _ _ _ _ c.args.src.now
    _ _ c.args.last _ _ _
    c.bytes-count.ensures.bytes first _ _ (c.is_all_read.ensures.0 c.if-not-is_all_read.false)
    (rw c.in-Some.is at c.stop.ensures) facts.holds facts.holds_replacing c.kept-state.ensures

pub returns-in-Some-clause-free : goal.returns-in-Some-clause-free
returns-in-Some-clause-free g c =
    let made = c.decode-result in
    let first = inner_reports g.U.CodeUnit.encode g.U.CodeUnit.need g.U.Output.query g.U.Output.replacing _ _ c.new-inner.result made.new.decoder _ _ _ _ _ _ _
    c.new-inner.ensures (record {
      call = made.ensures.call;
      suffices = made.ensures.suffices;
      between_reports = made.ensures.suffices_between_reports;
      replaced = made.ensures.suffices_replacing;
    }) in
    let facts = c.replacement_length-length.ensures in
    λ report some. stop_free g.U.CodeUnit.encode g.U.CodeUnit.need g.U.Output.query g.U.Output.replacing facts.grows facts.grows_replacing _ _ _ _
    c.args.src.now _ _ c.args.last _ _ _
    c.bytes-count.ensures.bytes first _
    (rw c.in-Some.is at c.stop.ensures) report

pub returns-clause-reports : goal.returns-clause-reports
returns-clause-reports g c =
    let made = c.decode-result in
    let first = inner_reports g.U.CodeUnit.encode g.U.CodeUnit.need g.U.Output.query g.U.Output.replacing _ _ c.new-inner.result made.new.decoder _ _ _ _ _ _ _
    c.new-inner.ensures (record {
      call = made.ensures.call;
      suffices = made.ensures.suffices;
      between_reports = made.ensures.suffices_between_reports;
      replaced = made.ensures.suffices_replacing;
    }) in
    let again = c.decode-result-2 in
    let now = inner_now g.U.CodeUnit.encode g.U.CodeUnit.need g.U.Output.query g.U.Output.replacing _ _ c.new-inner.result made.new.decoder _ _ _ _ _ _ _
    c.new-inner.ensures made.ensures.call in
    let second = inner_reports g.U.CodeUnit.encode g.U.CodeUnit.need g.U.Output.query g.U.Output.replacing _ _ made.new.decoder again.new.decoder _ _ _ _ _ _ _
    now (record {
      call = again.ensures.call;
      suffices = again.ensures.suffices;
      between_reports = again.ensures.suffices_between_reports;
      replaced = again.ensures.suffices_replacing;
    }) in
    let facts = c.replacement_length-length.ensures in
    two_reports g.U.CodeUnit.encode g.U.CodeUnit.need g.U.Output.query g.U.Output.replacing facts.grows facts.grows_replacing _ _ _ _ _ _ _ _ _ _ _
    c.bytes-count.ensures.bytes first _ _ _ _ _ _ (c.is_all_read.ensures.0 c.if-not-is_all_read.false) c.kept-state-2.ensures second

pub returns-clause-free : goal.returns-clause-free
returns-clause-free g c =
    let made = c.decode-result in
    let first = inner_reports g.U.CodeUnit.encode g.U.CodeUnit.need g.U.Output.query g.U.Output.replacing _ _ c.new-inner.result made.new.decoder _ _ _ _ _ _ _
    c.new-inner.ensures (record {
      call = made.ensures.call;
      suffices = made.ensures.suffices;
      between_reports = made.ensures.suffices_between_reports;
      replaced = made.ensures.suffices_replacing;
    }) in
    let again = c.decode-result-2 in
    let now = inner_now g.U.CodeUnit.encode g.U.CodeUnit.need g.U.Output.query g.U.Output.replacing _ _ c.new-inner.result made.new.decoder _ _ _ _ _ _ _
    c.new-inner.ensures made.ensures.call in
    let second = inner_reports g.U.CodeUnit.encode g.U.CodeUnit.need g.U.Output.query g.U.Output.replacing _ _ made.new.decoder again.new.decoder _ _ _ _ _ _ _
    now (record {
      call = again.ensures.call;
      suffices = again.ensures.suffices;
      between_reports = again.ensures.suffices_between_reports;
      replaced = again.ensures.suffices_replacing;
    }) in
    let facts = c.replacement_length-length.ensures in
    λ report some. two_free g.U.CodeUnit.encode g.U.CodeUnit.need g.U.Output.query g.U.Output.replacing facts.grows facts.grows_replacing _ _ _ _ _ _ _ _ _ _ _
    c.bytes-count.ensures.bytes first _ _ _ _ _ second again.ensures.quiet (rw c.in_default.is at c.stop.ensures) report

pub returns-then-is_idle-clause-reports : goal.returns-then-is_idle-clause-reports
returns-then-is_idle-clause-reports g c =
    idle_reports g.U.CodeUnit.encode g.U.CodeUnit.need g.U.Output.query g.U.Output.replacing _ _ _ _ (c.is_idle.ensures.yes c.if-is_idle.true)
    (omega (arith, c.len-pending.ensures.length, c.len-pending.ensures.within))

pub returns-then-is_idle-clause-decodes : goal.returns-then-is_idle-clause-decodes
returns-then-is_idle-clause-decodes g c =
    decodes_idle g.U.CodeUnit.encode g.U.CodeUnit.need _ _ _ _ _ c.requires.some (c.is_idle.ensures.yes c.if-is_idle.true)

pub returns-then-is_idle-clause-free : goal.returns-then-is_idle-clause-free
returns-then-is_idle-clause-free g c = λ report some. absurd (not_report _ refl report)

pub returns-then-not-is_all_read-clause-decodes : goal.returns-then-not-is_all_read-clause-decodes
returns-then-not-is_all_read-clause-decodes g c =
    let made = c.decode-result in
    let first = inner_reports g.U.CodeUnit.encode g.U.CodeUnit.need g.U.Output.query g.U.Output.replacing _ _ c.new-inner.result made.new.decoder _ _ _ _ _ _ _
    c.new-inner.ensures (record {
      call = made.ensures.call;
      suffices = made.ensures.suffices;
      between_reports = made.ensures.suffices_between_reports;
      replaced = made.ensures.suffices_replacing;
    }) in
    let step = step_of g.U.CodeUnit.encode g.U.CodeUnit.need _ _ _ c.new-inner.ensures _ _ _ _ _ _ _ made.ensures.step in
    let held = take c.bytes-count.result.1 c.bytes-count.result.0 in
    let q = (state_of made.new.decoder).pending in
    let rest = q ++ drop made.result.1 held in
    let count : c.pending_length.result + (c.bytes-count.result.1 - made.result.1) ≡ length rest =
    omega (
      arith,
      length-append q
          (drop made.result.1 held),
      length-drop made.result.1 held,
      c.bytes-count.ensures.count,
      ap length
          c.bytes-count.ensures.bytes,
      c.bytes-count.ensures.within,
      c.pending_length.ensures.length,
    ) in
    let final = c.suffix-state.ensures
    ∙ suffix_is held _ rest _ (rest_of_held g.U.CodeUnit.encode g.U.CodeUnit.need _ _ _ c.args.src.now _ _ c.args.last _ _ _ first.call)
    (ap (λ n. length held - n) count) in
    held_decodes g.U.CodeUnit.encode g.U.CodeUnit.need _ _ held q c.args.src.now _ _ c.args.last _ _ _ c.bytes-count.ensures.bytes c.requires.some
    (c.is_idle.ensures.no c.if-is_idle.false) _ first.call.writes step _ _ _ (λ all. both_ways _ c.if-not-is_all_read.true (c.is_all_read.ensures.1 all))
    final (count ∙ ap length (sym final)) c.with_rest.ensures

pub returns-in-Some-clause-decodes : goal.returns-in-Some-clause-decodes
returns-in-Some-clause-decodes g c =
    let made = c.decode-result in
    let step = step_of g.U.CodeUnit.encode g.U.CodeUnit.need _ _ _ c.new-inner.ensures _ _ _ _ _ _ _ made.ensures.step in
    stop_decodes g.U.CodeUnit.encode g.U.CodeUnit.need _ _ _ _ c.args.src.now _ _ c.args.last _ _ _ c.bytes-count.ensures.bytes c.requires.some
    (c.is_idle.ensures.no c.if-is_idle.false) _ made.ensures.call.writes step _ _ (c.is_all_read.ensures.0 c.if-not-is_all_read.false)
    (rw c.in-Some.is at c.stop.ensures) c.kept-state.ensures

pub returns-clause-decodes : goal.returns-clause-decodes
returns-clause-decodes g c =
    let made = c.decode-result in
    let again = c.decode-result-2 in
    let now = inner_now g.U.CodeUnit.encode g.U.CodeUnit.need g.U.Output.query g.U.Output.replacing _ _ c.new-inner.result made.new.decoder _ _ _ _ _ _ _
    c.new-inner.ensures made.ensures.call in
    let step = step_of g.U.CodeUnit.encode g.U.CodeUnit.need _ _ _ c.new-inner.ensures _ _ _ _ _ _ _ made.ensures.step in
    let second = step_of g.U.CodeUnit.encode g.U.CodeUnit.need _ _ _ now _ _ _ _ _ _ _ again.ensures.step in
    two_decode g.U.CodeUnit.encode g.U.CodeUnit.need _ _ _ _ c.args.src.now _ _ c.args.last _ _ _ c.bytes-count.ensures.bytes c.requires.some
    (c.is_idle.ensures.no c.if-is_idle.false) _ made.ensures.call.writes step _ _ _ _ _ _ _ (c.is_all_read.ensures.0 c.if-not-is_all_read.false)
    (rw c.in_default.is at c.stop.ensures) c.kept-state-2.ensures again.ensures.call.writes second
