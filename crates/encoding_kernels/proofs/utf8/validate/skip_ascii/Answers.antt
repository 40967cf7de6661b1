use Rattle.std.proofs.Common.{rules, ◌≡◌, ◌+◌, ◌-◌, arith, subst}
use Rattle.encoding_kernels.specs.Following.{ValidUpTo}
use Rattle.encoding_kernels.specs.Scans.{BelowBetween}
use Rattle.encoding_kernels.proofs.Utf8ValidationLemmas.{ValidUpTo_through_ascii}
use Rattle.encoding_kernels.proofs.utf8.validate.skip_ascii.Goals as goal

pub returns : goal.returns
returns c =
    let bs = c.args.src.now in
    let at = c.args.from in
    let run = c.skip.result in
    let within = c.skip.ensures.within in
    let ascii : BelowBetween 0x80 bs (at - 3) run = search rules in
    let e : at + (run - at) ≡ run = omega (arith, within) in (
      omega (arith, within),
      omega (arith, within),
      subst (ValidUpTo bs) e (ValidUpTo_through_ascii bs at (run - at) (omega arith) c.requires.prefix (λ k from to. ascii k from (omega (arith, to, e)))),
    )
