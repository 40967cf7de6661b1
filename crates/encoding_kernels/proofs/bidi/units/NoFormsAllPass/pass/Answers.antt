use Rattle.std.proofs.Common.{◌≡◌, false, ltb, slice_index, w16}
use Rattle.encoding_kernels.specs.RightToLeft.{in_range}
use Rattle.encoding_kernels.proofs.VectorLemmas.{HasLanes_load, HasLanes-splat, HasLanes-zip2}
use Rattle.encoding_kernels.proofs.MaskLemmas.{tests_of, none_marked, marks_of, wrapped}
use Rattle.encoding_kernels.proofs.bidi.units.NoFormsAllPass.pass.Goals as goal

pub returns : goal.returns
returns g c =
    let us = c.args.self.now.units.now in
    let at = c.args.at in
    let n = g.row.N in
    let from_range = HasLanes-zip2 wrapped (HasLanes_load at n us c.requires.0) (HasLanes-splat n 0xFB1D) in
    none_marked
    (marks_of (λ k. in_range 0xFB1D 0x03E2 (slice_index us k) ≡ false) at (tests_of w16 ltb from_range (HasLanes-splat n 0x03E2)) c.requires.1.1
    (λ k l. (λ e. e, λ e. e)))
