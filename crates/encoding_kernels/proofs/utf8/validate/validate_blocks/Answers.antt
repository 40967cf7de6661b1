use Rattle.std.proofs.Common.{◌≡◌, ◌+◌, arith, subst}
use Rattle.encoding_kernels.specs.Following.{ValidUpTo}
use Rattle.encoding_kernels.proofs.Utf8ValidationLemmas.{ValidUpTo-none, ValidUpTo_less}
use Rattle.encoding_kernels.proofs.utf8.validate.validate_blocks.Goals as goal
use Rattle.encoding_kernels.proofs.utf8.validate.validate_blocks.Goals.{then-at-lt-BLOCK+else-at-lt-BLOCK-2}
use Rattle.encoding_kernels.proofs.utf8.validate.validate_blocks.Goals.{else-at-lt-BLOCK+then-src-at-ge-BLOCK+else-clean-lt-BLOCK}
use Rattle.encoding_kernels.proofs.utf8.validate.validate_blocks.Goals.{else-at-lt-BLOCK+else-src-at-ge-BLOCK}

pub loop-at-init : goal.loop-at-init
loop-at-init c =
    let whole = ValidUpTo_less c.args.src.now c.args.from in
    elim c.if-at-lt-BLOCK.branch [
      | then-at-lt-BLOCK+else-at-lt-BLOCK-2 w ↦
          let e : 0 + w.clean_of_64-at.result ≡ w.clean_of_64-at.result = omega arith in
          rw w.at-is (record {
            started = omega arith;
            within = omega (arith, w.clean_of_64-at.ensures.within);
            prefix = subst (ValidUpTo c.args.src.now) e (w.clean_of_64-at.ensures.follow (ValidUpTo-none _));
          })
      | else-at-lt-BLOCK+then-src-at-ge-BLOCK+else-clean-lt-BLOCK w ↦
          rw w.at-is (record {
            started = omega arith;
            within = omega (arith, w.clean_of_64-clean.ensures.within);
            prefix =
                w.clean_of_64-clean.ensures.follow (whole _ (omega arith) c.requires.prefix.1);
          })
      | else-at-lt-BLOCK+else-src-at-ge-BLOCK w ↦
          rw w.at-is (record {
            started = omega arith;
            within = omega arith;
            prefix = whole _ (omega arith) c.requires.prefix.1;
          })
    ]
