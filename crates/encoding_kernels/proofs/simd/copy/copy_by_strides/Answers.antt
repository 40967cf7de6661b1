use Rattle.std.proofs.Common.{◌≡◌, ◌+◌, ◌-◌, take, length, ap, ◌∙◌, arith}
use Rattle.std.proofs.lemmas.List.{take_all}
use Rattle.encoding_definitions.proofs.PrefixesLemmas.{WritesPrefix-length, WritesPrefix-same, WritesPrefix_again}
use Rattle.encoding_kernels.proofs.ScanLemmas.{WritesPrefix_block}
use Rattle.encoding_kernels.proofs.simd.copy.copy_by_strides.Goals as goal

pub loop-at-preserved : goal.loop-at-preserved
loop-at-preserved g c =
    let copied = c.loop-at.invariant.copied in
    let long = WritesPrefix-length _ _ _ _ copied in
    record {
      within = omega arith;
      copied = WritesPrefix_block c.args.dst.now c.loop-at.dst c.copy.new.dst c.args.src.now c.loop-at.at g.row.N copied (omega arith)
          (omega (arith, long)) c.copy.ensures;
    }

pub returns : goal.returns
returns g c =
    let src = c.args.src.now in
    let last = length src - g.row.N in
    let copied = c.loop-at.invariant.copied in
    let end : last + g.row.N ≡ length src = omega arith in
    let all = WritesPrefix_again c.args.dst.now c.loop-at.dst _ src c.loop-at.at last g.row.N copied (omega arith) (omega arith) (omega arith)
    (omega (arith, WritesPrefix-length _ _ _ _ copied)) c.copy-2.ensures in
    WritesPrefix-same _ _ _ _ _ _ all end (ap (λ k. take k src) end ∙ take_all (length src) src (omega arith))
