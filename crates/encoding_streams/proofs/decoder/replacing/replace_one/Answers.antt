use Rattle.std.proofs.Common.{◌++◌, ◌∙◌, length, refl, ap, arith, sym, take}
use Rattle.std.proofs.lemmas.List.{take_rest, length-drop}
use Rattle.encoding_definitions.proofs.PrefixesLemmas.{WritesPrefix-length}
use Rattle.encoding_streams.proofs.ReplacingCallLemmas.{step_empty, step_full, step_replaced, fits_after}
use Rattle.encoding_streams.proofs.ExactReplacingLemmas.{both_written}
use Rattle.encoding_definitions.proofs.PrefixesLemmas.{written_is}
use Rattle.encoding_streams.proofs.decoder.replacing.replace_one.Goals as goal

pub write_replacement-requires : goal.write_replacement-requires
write_replacement-requires g c =
    let made = c.decode-result.ensures in
    let writes = made.reports.call.writes in
    record {
      fits = omega (
        arith,
        fits_after g.U.CodeUnit.encode g.U.CodeUnit.need g.U.Output.query g.U.Output.replacing _ _ _ _ _ _ _ _ _ made.reports _ _ c.in-Malformed.is made.free,
        c.replacement_length-replacement.ensures.length,
        c.replacement_length-replacement.ensures.at_most,
        ap length (take_rest c.decode-result.new.dst c.decode-result.result.2),
        length-drop c.decode-result.result.2 c.decode-result.new.dst,
        WritesPrefix-length _ _ _ _ writes,
      );
    }

pub returns-in-InputEmpty-clause-step : goal.returns-in-InputEmpty-clause-step
returns-in-InputEmpty-clause-step g c =
    step_empty g.U.CodeUnit.encode g.U.CodeUnit.need g.U.Output.query g.U.Output.replacing _ _ _ _ _ _ _ _ _ c.decode-result.ensures.reports c.in-InputEmpty.is

pub returns-in-OutputFull-clause-step : goal.returns-in-OutputFull-clause-step
returns-in-OutputFull-clause-step g c =
    step_full g.U.CodeUnit.encode g.U.CodeUnit.need g.U.Output.query g.U.Output.replacing _ _ _ _ _ _ _ _ _ c.decode-result.ensures.reports c.in-OutputFull.is

pub returns-in-Malformed-clause-step : goal.returns-in-Malformed-clause-step
returns-in-Malformed-clause-step g c =
    let size = c.replacement_length-replacement.ensures.length in
    rw size (step_replaced g.U.CodeUnit.encode g.U.CodeUnit.need g.U.Output.query g.U.Output.replacing _ _ _ _ _ _ _ _ _ c.decode-result.ensures.reports _ _ _ _
    c.in-Malformed.is refl (omega (arith, size, c.replacement_length-replacement.ensures.some)) c.write_replacement.ensures)

pub returns-in-InputEmpty-clause-exact : goal.returns-in-InputEmpty-clause-exact
returns-in-InputEmpty-clause-exact g c = rw c.in-InputEmpty.is at c.decode-result.ensures.exact

pub returns-in-OutputFull-clause-exact : goal.returns-in-OutputFull-clause-exact
returns-in-OutputFull-clause-exact g c = rw c.in-OutputFull.is at c.decode-result.ensures.exact

pub returns-in-Malformed-clause-exact : goal.returns-in-Malformed-clause-exact
returns-in-Malformed-clause-exact g c =
    let size = c.replacement_length-replacement.ensures.length in
    let made = c.decode-result.ensures in
    let puts = c.write_replacement.ensures in (
      _,
      _,
      take c.decode-result.result.2 c.decode-result.new.dst,
      rw size (both_written _ _ _ _ _ _ _ made.reports.call.writes puts
          ∙ ap (λ xs. take c.decode-result.result.2 c.decode-result.new.dst ++ xs) (sym (written_is _ _ _ _ puts))),
      rw c.in-Malformed.is at made.exact,
    )
