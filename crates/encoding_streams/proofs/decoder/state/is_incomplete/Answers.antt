use Rattle.std.proofs.Common.{◌≡◌, length, sym, subst, ◌∙◌, arith}
use Rattle.std.proofs.lemmas.Bool.{both_ways}
use Rattle.std.proofs.lemmas.Bool.Decides.{nat_tests}
use Rattle.encoding_definitions.specs.Sequence.{IsIncomplete}
use Rattle.encoding_definitions.proofs.SequenceLemmas.{length-IsIncomplete}
use Rattle.encoding_streams.proofs.IncompleteLemmas.{one_byte, open_three, open_two, three_open, two_open}
use Rattle.encoding_streams.proofs.decoder.state.is_incomplete.Goals.{then-first-ge240, else-first-ge240}
use Rattle.encoding_streams.proofs.decoder.state.is_incomplete.Goals as goal

pub returns-in-len1-clause-yes : goal.returns-in-len1-clause-yes
returns-in-len1-clause-yes c = λ yes.
    let size : length c.args.bytes.now ≡ 1 = omega (arith, c.in-len1.len_at_least, c.in-len1.len_below) in
    subst IsIncomplete (sym (one_byte c.args.bytes.now size)) (c.begins_several.ensures.0 yes)

pub returns-then-first-ge224-clause-yes : goal.returns-then-first-ge224-clause-yes
returns-then-first-ge224-clause-yes c = λ yes.
    two_open c.args.bytes.now (omega (arith, c.in-len2.len_at_least, c.in-len2.len_below)) (omega (arith, c.if-first-ge224.true)) (c.is_second.ensures.0 yes)

pub returns-then-first-ge224-clause-no : goal.returns-then-first-ge224-clause-no
returns-then-first-ge224-clause-no c = λ no h.
    let size : length c.args.bytes.now ≡ 2 = omega (arith, c.in-len2.len_at_least, c.in-len2.len_below) in
    both_ways _ no (c.is_second.ensures.1 (open_two c.args.bytes.now size h).1)

pub returns-then-is_second-clause-yes : goal.returns-then-is_second-clause-yes
returns-then-is_second-clause-yes c = λ yes.
    let size : length c.args.bytes.now ≡ 3 = omega (arith, c.in-len3.len_at_least, c.in-len3.len_below) in
    elim c.if-first-ge240.branch [
      | then-first-ge240 w ↦
          three_open c.args.bytes.now size (omega (arith, w.if-first-ge240.true))
          (w.is_second-then-first-ge240.ensures.0 (sym w.value-is ∙ c.if-is_second.true)) (c.is_continuation.ensures.0 yes)
      | else-first-ge240 w ↦
          let is = sym w.value-is ∙ c.if-is_second.true in let less = w.if-first-ge240.false in absurd (grind (arith, nat_tests))
    ]

pub returns-else-is_second-clause-no : goal.returns-else-is_second-clause-no
returns-else-is_second-clause-no c = λ no h.
    let size : length c.args.bytes.now ≡ 3 = omega (arith, c.in-len3.len_at_least, c.in-len3.len_below) in
    let (above, second, third) = open_three c.args.bytes.now size h in
    elim c.if-first-ge240.branch [
      | then-first-ge240 w ↦ both_ways _ (sym w.value-is ∙ no) (w.is_second-then-first-ge240.ensures.1 second)
      | else-first-ge240 w ↦ omega (arith, above, w.if-first-ge240.false)
    ]

pub returns-in_default-2-clause-no : goal.returns-in_default-2-clause-no
returns-in_default-2-clause-no c = λ no h. omega (arith, c.in_default.len_at_least, length-IsIncomplete c.args.bytes.now h)
