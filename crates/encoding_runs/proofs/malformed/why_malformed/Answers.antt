use Rattle.std.proofs.Common.{◌<◌, arith, length}
use Rattle.std.proofs.lemmas.List.{nil_from_length}
use Rattle.std.proofs.lemmas.Bool.Decides.{nat_tests}
use Rattle.encoding_runs.proofs.MalformationLemmas.{is_disallowed, is_at_end, is_truncated, is_excluded}
use Rattle.encoding_runs.proofs.malformed.why_malformed.Goals as goal

pub returns-then-not-begins_several : goal.returns-then-not-begins_several
returns-then-not-begins_several c = λ more last.
    is_disallowed _ more _ last (λ k. let t = c.is_continuation.ensures.1 k in cc) (λ o. let t = c.begins_several.ensures.1 o in cc)

pub returns-then-is_empty : goal.returns-then-is_empty
returns-then-is_empty c = λ more last.
    is_at_end _ more _ last (c.begins_several.ensures.0 cc) (nil_from_length _ (grind (arith, nat_tests, c.is_empty.ensures, c.if-is_empty.true)))

pub returns-then-not-is_continuation : goal.returns-then-not-is_continuation
returns-then-not-is_continuation c = λ more last.
    let some : 0 < length c.args.rest.now = grind (arith, nat_tests, c.is_empty.ensures, c.if-is_empty.false) in
    is_truncated _ more _ last (c.begins_several.ensures.0 cc) some (λ k. let t = c.is_continuation-2.ensures.1 k in cc)

pub returns-in-237 : goal.returns-in-237
returns-in-237 c = λ more last m.
    let some : 0 < length c.args.rest.now = grind (arith, nat_tests, c.is_empty.ensures, c.if-is_empty.false) in
    (is_excluded _ more _ last (c.begins_several.ensures.0 cc) some (c.is_continuation-2.ensures.0 cc) m).0 c.in-237.is

pub returns-in-244 : goal.returns-in-244
returns-in-244 c = λ more last m.
    let some : 0 < length c.args.rest.now = grind (arith, nat_tests, c.is_empty.ensures, c.if-is_empty.false) in
    (is_excluded _ more _ last (c.begins_several.ensures.0 cc) some (c.is_continuation-2.ensures.0 cc) m).1 c.in-244.is

pub returns-in_default : goal.returns-in_default
returns-in_default c = λ more last m.
    let some : 0 < length c.args.rest.now = grind (arith, nat_tests, c.is_empty.ensures, c.if-is_empty.false) in
    (is_excluded _ more _ last (c.begins_several.ensures.0 cc) some (c.is_continuation-2.ensures.0 cc) m).2 (λ e. omega (arith, e)) (λ e. omega (arith, e))
