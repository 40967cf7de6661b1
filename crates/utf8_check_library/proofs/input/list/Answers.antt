use Rattle.std.proofs.Common.{◌≡◌, ℕ, List, ap, ◌∙◌, arith, length, rules, take}
use Rattle.std.specs.Prelude.{min}
use Rattle.utf8_check_library.proofs.CheckLemmas.{report_malformed, take_three}
use Rattle.utf8_check_library.proofs.LineLemmas.{on_err}
use Rattle.utf8_check_library.specs.Lines.{line_of, next_place}
use Rattle.encoding_runs.specs.Parts.{IllFormed}
use Rattle.utf8_check_library.proofs.input.list.Goals as goal

pub returns-in_err-write_line-in-Malformed-clause-err : goal.returns-in_err-write_line-in-Malformed-clause-err
returns-in_err-write_line-in-Malformed-clause-err g c =
    let found = c.in-Malformed.found in
    let bytes : List ℕ = c.in-Malformed.bytes in
    let three : length bytes ≡ 3 = search rules in
    let few : c.min.result ≡ min found.length 3 = omega (arith, c.min.ensures, c.from.ensures) in
    let same : take c.min.result bytes ≡ take found.length bytes = ap (λ n. take n bytes) few ∙ take_three found.length bytes three in
    let place : ℕ × ℕ = (c.args.place.now.line, c.args.place.now.column) in
    on_err c.from_residual.result (
      line_of c.args.name.now c.args.place.now.line c.args.place.now.column found.offset (take c.min.result bytes) found.kind,
      next_place c.args.columns place (IllFormed (take c.min.result bytes)),
      c.in_err-write_line-in-Malformed.ensures.err,
      report_malformed (c.args.name.now, c.args.columns) place _ c.args.piece found bytes (take c.min.result bytes) c.in-Malformed.is same
          (λ i. next_place c.args.columns place (IllFormed (take c.min.result bytes))),
    )

pub returns-in_ok-write_line-in-Malformed-clause-ok : goal.returns-in_ok-write_line-in-Malformed-clause-ok
returns-in_ok-write_line-in-Malformed-clause-ok g c =
    let found = c.in-Malformed.found in
    let bytes : List ℕ = c.in-Malformed.bytes in
    let three : length bytes ≡ 3 = search rules in
    let few : c.min.result ≡ min found.length 3 = omega (arith, c.min.ensures, c.from.ensures) in
    let same : take c.min.result bytes ≡ take found.length bytes = ap (λ n. take n bytes) few ∙ take_three found.length bytes three in (
      line_of c.args.name.now c.args.place.now.line c.args.place.now.column found.offset (take c.min.result bytes) found.kind,
      c.in_ok-write_line-in-Malformed.ensures.ok,
      report_malformed (c.args.name.now, c.args.columns) (c.args.place.now.line, c.args.place.now.column) _ c.args.piece found bytes
          (take c.min.result bytes) c.in-Malformed.is same c.after_malformed.ensures,
    )
