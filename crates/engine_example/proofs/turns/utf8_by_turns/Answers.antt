use Rattle.std.proofs.Common.{◌≡◌, ◌+◌, ◌*◌, ◌≤◌, ◌++◌, length, take, ap, sym, subst, ◌∙◌, arith}
use Rattle.std.proofs.lemmas.Grind.{common_steps}
use Rattle.std.proofs.lemmas.List.{take_at}
use Rattle.encoding_text.specs.Utf16.{IsUtf8OfUnits}
use Rattle.encoding_runs.specs.Calls.{output_of}
use Rattle.encoding_runs.specs.Runs.{EachMakesProgress}
use Rattle.engine_example.proofs.turns.utf8_by_turns.Goals as goal

pub returns : goal.returns
returns c =
    let us = c.args.units.now in
    let surrogate = c.new_inner-encoder.result in
    let run = c.run_from_utf16-outcome.ensures.delivers.run in
    let out = output_of run.calls in
    let many : 2 * length us + 2 ≤ length c.deref.result.now = grind (arith, common_steps) in
    let fits : 3 * (length us + length surrogate) ≤ length c.deref_mut.result.now = grind (arith, common_steps) in
    let each : EachMakesProgress 4 c.deref.result.now = subst (EachMakesProgress 4) (sym c.deref.ensures.value) c.in_ok-turns.ensures.each in
    let whole = c.law_encoder_cuts.ensures.whole surrogate us c.deref.result.now (length c.deref_mut.result.now) run.calls
    c.max_buffer_length_from_utf16_without_replacement.ensures.surrogate (λ k. omega (arith, c.type_inv.units k)) run.chain run.of_turns many each fits in
    let written : take c.run_from_utf16-outcome.result.written c.run_from_utf16-outcome.new.dst ≡ out =
    ap (take c.run_from_utf16-outcome.result.written) run.writes.placed ∙ take_at out _ c.run_from_utf16-outcome.result.written (sym run.writes.count) in
    let bytes : out ≡ c.truncate.new.self.items = grind (arith, common_steps) in
    subst (IsUtf8OfUnits us) bytes (subst (λ h. IsUtf8OfUnits (h ++ us) out) c.new_inner-encoder.ensures whole)
