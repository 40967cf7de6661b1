use Rattle.std.proofs.Common.{◌<◌, ◌-◌, arith, get_or}
use Rattle.encoding_kernels.proofs.Utf8ToUtf16Lemmas.{IsCharBoundary-closed}
use Rattle.encoding_kernels.proofs.Utf8ValidationLemmas.{IsClosedAt_tests}
use Rattle.encoding_kernels.proofs.utf8_to_utf16.strides.whole_end.Goals.{else-this-ge4-via-then-this-ge4+else-src-ge-FOUR_BYTES}
use Rattle.encoding_kernels.proofs.utf8_to_utf16.strides.whole_end.Goals.{else-this-ge4-via-else-this-ge4}
use Rattle.encoding_kernels.proofs.utf8_to_utf16.strides.whole_end.Goals as goal

pub returns-clause-end : goal.returns-clause-end
returns-clause-end g c =
    let src = c.args.src.now in
    let width = g.row.WIDTH in
    let three : get_or src (width - 3) 0 < 0xF0 = elim c.else-this-ge4.branch [
      | else-this-ge4-via-then-this-ge4+else-src-ge-FOUR_BYTES w ↦ w.if-src-ge-FOUR_BYTES.false
      | else-this-ge4-via-else-this-ge4 w ↦ c.requires.short w.if-this-ge4.false (width - 3) (omega arith)
    ] in (
      omega arith,
      omega arith,
      IsCharBoundary-closed src width c.requires.within.2 c.requires.within.1
          (IsClosedAt_tests src width c.requires.within.0 c.if-src-ge192.false c.if-src-ge224.false three),
    )
