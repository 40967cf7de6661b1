use Rattle.std.proofs.Common.{◌≡◌, ◌+◌, false, w8, arith, eqb, leb, bit_and, slice_index}
use Rattle.encoding_kernels.specs.Neighbors.{latin1_fault}
use Rattle.encoding_kernels.proofs.VectorLemmas.{HasLanes_load, HasLanes-splat, HasLanes-zip2}
use Rattle.encoding_kernels.proofs.MaskLemmas.{tests_of, tests_or, tests_xor, none_marked, marks_of}
use Rattle.encoding_kernels.proofs.latin1.validate.BytePairsAllPass.pass.Goals as goal

pub returns : goal.returns
returns g c =
    let bs = c.args.self.now.bytes.now in
    let at = c.args.at in
    let n = g.row.N in
    let block = HasLanes_load (at + 1) n bs (omega arith) in
    let follows = tests_of w8 eqb (HasLanes-zip2 bit_and block (HasLanes-splat n 0xC0)) (HasLanes-splat n 0x80) in
    let overlong = tests_of w8 eqb (HasLanes-zip2 bit_and block (HasLanes-splat n 0xFE)) (HasLanes-splat n 0xC0) in
    let lead = tests_of w8 leb (HasLanes-splat n 0xC0) (HasLanes_load at n bs (omega arith)) in
    let extra_bytes = tests_of w8 leb (HasLanes-splat n 0xC4) block in
    none_marked
    (marks_of (λ k. latin1_fault (slice_index bs (k + 1)) (slice_index bs k) ≡ false) at
    (tests_or (tests_xor follows lead) (tests_or overlong extra_bytes)) c.requires.1.1
    (λ k l. let e : at + 1 + k ≡ at + k + 1 = omega arith in rw e (λ x. x, λ x. x)))
