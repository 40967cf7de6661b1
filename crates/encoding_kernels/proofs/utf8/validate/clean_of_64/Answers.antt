use Rattle.std.proofs.Common.{◌≡◌, ◌+◌, ◌-◌, ◌≤◌, ◌∙◌, arith, bit_or, subst, sym}
use Rattle.std.proofs.lemmas.Simd.{length-zip2}
use Rattle.encoding_kernels.specs.Following.{ValidUpTo}
use Rattle.encoding_kernels.proofs.Utf8ValidationLemmas.{ValidUpTo-more, ValidUpTo_over}
use Rattle.encoding_kernels.proofs.MaskLemmas.{or_zeros, zeros_from_mask}
use Rattle.encoding_kernels.proofs.utf8.validate.clean_of_64.Goals as goal
use Rattle.encoding_kernels.proofs.utf8.validate.clean_of_64.Goals.{then-this-lt3, else-this-lt3}

pub returns-then-first-second-eq0-clause-follow : goal.returns-then-first-second-eq0-clause-follow
returns-then-first-second-eq0-clause-follow g c prefix =
    let src = c.args.src.now in
    let at = c.args.at in
    let last = c.if-this-lt3.last in
    let a = c.faults_32-first.ensures in
    let b = c.faults_32-second.ensures in
    let long = length-zip2 bit_or _ _ (a.length ∙ sym b.length) ∙ a.length in
    let zeros = or_zeros 32 _ _ a.length b.length (zeros_from_mask 32 (omega arith) _ long c.if-first-second-eq0.true) in
    let place : (at ≤ last) × (last ≤ at + 32) = elim c.if-this-lt3.branch [
      | then-this-lt3 w ↦ (omega (arith, c.requires.before, w.if-this-lt3, w.last-is), omega (arith, w.min-last.ensures, w.last-is))
      | else-this-lt3 w ↦ (omega (arith, w.last-is), omega (arith, w.last-is))
    ] in
    let e : last + 32 ≡ at + (last + 32 - at) = omega (arith, place) in
    subst (ValidUpTo src) e
    (ValidUpTo_over src (at + 32) last 32 place.1 (ValidUpTo-more src at 32 prefix (λ i l. a.lanes i l (zeros.0.each i l)))
    (λ i l. b.lanes i l (zeros.1.each i l)))

pub returns-clause-follow : goal.returns-clause-follow
returns-clause-follow g c prefix =
    let src = c.args.src.now in
    let at = c.args.at in
    let last = c.if-this-lt3.last in
    let clean = c.zeros-clean.ensures in
    let more = c.zeros.ensures in
    let place : (at ≤ last) × (last ≤ at + 32) = elim c.if-this-lt3.branch [
      | then-this-lt3 w ↦ (omega (arith, c.requires.before, w.if-this-lt3, w.last-is), omega (arith, w.min-last.ensures, w.last-is))
      | else-this-lt3 w ↦ (omega (arith, w.last-is), omega (arith, w.last-is))
    ] in
    let half = ValidUpTo-more src at 32 prefix (λ i l. c.faults_32-first.ensures.lanes i l (clean.zeros.each i (omega (arith, c.if-clean-lt32.false)))) in
    let e : last + c.zeros.result ≡ at + (last - at + c.zeros.result) = omega (arith, place) in
    subst (ValidUpTo src) e
    (ValidUpTo_over src (at + 32) last c.zeros.result place.1 half
    (λ i l. c.faults_32-second.ensures.lanes i (omega (arith, more.within)) (more.zeros.each i l)))
