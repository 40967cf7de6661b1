use Rattle.std.proofs.Common.{◌≡◌, ◌+◌, ◌≤◌, ◌∙◌, ap, arith, drop, length, refl, replicate, subst, sym, take}
use Rattle.std.proofs.lemmas.Bool.Decides.{nat_tests}
use Rattle.std.proofs.lemmas.List.{length-append, take_at}
use Rattle.encoding_kernels.specs.Following.{IsValidAt, ValidUpTo}
use Rattle.encoding_kernels.proofs.Utf8ValidationLemmas.{IsValidAt-take, ValidUpTo-first, ValidUpTo-none, ValidUpTo_over}
use Rattle.encoding_kernels.proofs.utf8.validate.well_formed_short.Goals as goal
use Rattle.encoding_kernels.proofs.utf8.validate.well_formed_short.Goals.{then-src-ge35, else-src-ge35+then-src-ge-STRIDE+then-src}
use Rattle.encoding_kernels.proofs.utf8.validate.well_formed_short.Goals.{else-src-ge35+then-src-ge-STRIDE+else-src, else-src-ge35+else-src-ge-STRIDE}
use Rattle.encoding_kernels.proofs.utf8.validate.well_formed_short.Goals.{then-first-lt-STRIDE, else-first-lt-STRIDE}

pub to_boundary-requires : goal.to_boundary-requires
to_boundary-requires c =
    let src = c.args.src.now in
    elim c.if-src-ge35.branch [
      | then-src-ge35 w ↦
          let e : 0 + w.clean_of_64-clean.result ≡ c.if-src-ge35.clean = omega (arith, w.clean-is) in (
            omega (arith, w.clean_of_64-clean.ensures.within, w.clean-is),
            subst (ValidUpTo src) e (w.clean_of_64-clean.ensures.follow (ValidUpTo-none src)),
          )
      | else-src-ge35+then-src-ge-STRIDE+then-src w ↦
          let first = w.zeros-first.ensures in (
            omega (arith, first.within, w.if-src-ge-STRIDE, w.clean-is),
            subst (ValidUpTo src) (sym w.clean-is)
                (ValidUpTo-first src w.zeros-first.result (λ i l. w.faults.ensures.lanes i (omega (arith, first.within)) (first.zeros.each i l))),
          )
      | else-src-ge35+then-src-ge-STRIDE+else-src w ↦
          let more = w.zeros.ensures in
          let long : 16 ≤ w.zeros-first.result = elim w.if-first-lt-STRIDE.branch [
            | then-first-lt-STRIDE t ↦ let e = sym t.value-is ∙ w.if-src.false in grind (arith, nat_tests)
            | else-first-lt-STRIDE t ↦ omega (arith, t.if-first-lt-STRIDE)
          ] in
          let first = ValidUpTo-first src 16 (λ i l. w.faults.ensures.lanes i l (w.zeros-first.ensures.zeros.each i (omega (arith, long)))) in (
            omega (arith, more.within, w.min-last.ensures, w.if-src-ge-STRIDE, w.clean-is),
            subst (ValidUpTo src) (sym w.clean-is)
                (ValidUpTo_over src 16 w.min-last.result w.zeros.result (omega (arith, w.min-last.ensures)) first
                (λ i l. w.faults-else-src.ensures.lanes i (omega (arith, more.within)) (more.zeros.each i l))),
          )
      | else-src-ge35+else-src-ge-STRIDE w ↦
          let n = length src in
          let block = w.with_zeros.result in
          let short = w.min.ensures in
          let clean = w.zeros-else-src-ge-STRIDE.ensures in
          let few : n ≤ 16 = omega (arith, w.if-src-ge-STRIDE) in
          let long = ap length w.with_zeros.ensures ∙ length-append src (drop n (replicate 16 0)) in
          let whole = ap (take n) w.with_zeros.ensures ∙ take_at src (drop n (replicate 16 0)) n refl in
          let at_start =
          ValidUpTo-first block w.zeros-else-src-ge-STRIDE.result (λ i l. w.faults-else-src-ge-STRIDE.ensures.lanes i (omega (arith, clean.within))
          (clean.zeros.each i l)) in (
            omega (arith, short, w.clean-is),
            record {
              each = λ i l.
                  subst (λ bs. IsValidAt bs i) whole
                  (IsValidAt-take n block (omega (arith, long)) i (omega (arith, short, w.clean-is)) (at_start.each i (omega (arith, short, w.clean-is))));
            },
          )
    ]
