use Rattle.std.proofs.Common.{◌≡◌, ℕ, ◌+◌, ◌-◌, ◌%◌, ◌^◌, ◌∙◌, false, w16, ltb, eqb, slice_index, sym}
use Rattle.encoding_kernels.specs.RightToLeft.{may_be_right_to_left}
use Rattle.encoding_kernels.proofs.BidiLemmas.{same_test}
use Rattle.encoding_kernels.proofs.VectorLemmas.{HasLanes_load, HasLanes-splat, HasLanes-zip2}
use Rattle.encoding_kernels.proofs.MaskLemmas.{chosen_by, tests_of, tests_or, none_marked, marks_of}
use Rattle.encoding_kernels.proofs.bidi.units.ClearUnitsAllPass.pass.Goals as goal

pub returns : goal.returns
returns g c =
    let us = c.args.self.now.units.now in
    let at = c.args.at in
    let n = g.row.N in
    let lanes = HasLanes_load at n us c.requires.0 in
    let wrapped : ℕ → ℕ → ℕ = λ a b. (a + (2 ^ 16 - b)) % 2 ^ 16 in
    let past = λ (from last : ℕ).
    let less = HasLanes-zip2 wrapped lanes (HasLanes-splat n from) in
    let bound = HasLanes-splat n last in
    HasLanes-zip2 wrapped (chosen_by (tests_of w16 ltb less bound) bound less) bound in
    let first = chosen_by (tests_of w16 ltb (past 0x0590 0x036F) (past 0x202B 3)) (past 0x0590 0x036F) (past 0x202B 3) in
    let second = chosen_by (tests_of w16 ltb (past 0xD802 0x0039) (past 0xFB1D 0x03E1)) (past 0xD802 0x0039) (past 0xFB1D 0x03E1) in
    let ranges = tests_of w16 eqb (chosen_by (tests_of w16 ltb first second) first second) (HasLanes-splat n 0) in
    let is = λ (x : ℕ). tests_of w16 eqb lanes (HasLanes-splat n x) in
    none_marked
    (marks_of (λ k. may_be_right_to_left (slice_index us k) ≡ false) at (tests_or ranges (tests_or (is 0x200F) (is 0x2067))) c.requires.1.1
    (λ k l. let same = same_test (slice_index us (at + k)) in (λ e. sym same ∙ e, λ e. same ∙ e)))
