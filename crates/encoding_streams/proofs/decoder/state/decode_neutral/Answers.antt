use Rattle.encoding_streams.proofs.ReportedCallLemmas.{inner_reports}
use Rattle.encoding_streams.proofs.ExactLemmas.{step_of}
use Rattle.encoding_streams.proofs.decoder.state.decode_neutral.Goals as goal

pub returns-clause-reports : goal.returns-clause-reports
returns-clause-reports g c =
    let made = c.decode-result in
    rw (c.requires.neutral, c.kept-state.ensures) (inner_reports g.U.CodeUnit.encode g.U.CodeUnit.need g.U.Output.query g.U.Output.replacing _ _
    c.new-inner.result made.new.decoder _ _ _ _ _ _ _ c.new-inner.ensures (record {
      call = made.ensures.call;
      suffices = made.ensures.suffices;
      between_reports = made.ensures.suffices_between_reports;
      replaced = made.ensures.suffices_replacing;
    }))

pub returns-clause-decodes : goal.returns-clause-decodes
returns-clause-decodes g c =
    let step = step_of g.U.CodeUnit.encode g.U.CodeUnit.need _ _ _ c.new-inner.ensures _ _ _ _ _ _ _ c.decode-result.ensures.step in
    rw (c.requires.neutral, c.kept-state.ensures) step
