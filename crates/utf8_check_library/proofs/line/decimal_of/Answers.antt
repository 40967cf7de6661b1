use Rattle.std.proofs.Common.{◌≡◌, ◌+◌, ◌-◌, ◌/◌, ◌%◌, ◌++◌, ap, ◌∙◌, arith, drop, refl}
use Rattle.std.specs.Fmt.{decimal}
use Rattle.std.proofs.Math.ListN.{set}
use Rattle.std.proofs.lemmas.List.{length-set}
use Rattle.utf8_check_library.proofs.LineLemmas.{first_digit, one_digit, start_some}
use Rattle.utf8_check_library.proofs.line.decimal_of.Goals as goal

pub loop-rest-preserved : goal.loop-rest-preserved
loop-rest-preserved c =
    let before = c.loop-rest.invariant in
    let rest = c.loop-rest.rest in
    let start = c.loop-rest.start in
    let some = start_some rest start c.args.number c.loop-rest.text before.long before.small c.ranges.number.fits c.loop-rest-test.true before.digits in
    let back : start - 1 + 1 ≡ start = omega (arith, some) in
    record {
      digits =
          ap (λ n. decimal (rest / 10) ++ drop n (set c.loop-rest.text start (48 + rest % 10))) back
          ∙ one_digit rest start _ c.loop-rest.text _ (omega (arith, before.within, before.long)) c.loop-rest-test.true before.small refl before.digits;
      within = omega (arith, before.within);
      small = omega (arith, before.small);
      long = length-set c.loop-rest.text start (48 + rest % 10) ∙ before.long;
    }

pub overflow_sub-start-in-loop-rest : goal.overflow_sub-start-in-loop-rest
overflow_sub-start-in-loop-rest c =
    let before = c.loop-rest.invariant in
    let some =
    start_some c.loop-rest.rest c.loop-rest.start c.args.number c.loop-rest.text before.long before.small c.ranges.number.fits c.loop-rest-test.true
    before.digits in
    omega (arith, some)

pub returns-clause-digits : goal.returns-clause-digits
returns-clause-digits c =
    let before = c.loop-rest.invariant in
    first_digit c.loop-rest.rest c.loop-rest.start _ c.loop-rest.text _ (omega (arith, before.within, before.long)) (omega (arith, c.loop-rest-test.false)) refl
    before.digits
