use Rattle.std.proofs.Common.{arith}
use Rattle.encoding_kernels.proofs.OverwriteLemmas.{store_spills, spills_then}
use Rattle.encoding_kernels.proofs.simd.compress.store_two.Goals as goal

pub returns : goal.returns
returns c =
    let first = c.requires.first_lanes in
    let second = c.requires.second in
    let one = store_spills c.args.dst.now c.args.first c.args.at c.args.count first.1 first.0 (omega arith) in
    spills_then _ _ _ c.args.at c.args.count c.args.more 16 16 _ _ one
    (store_spills _ c.args.second _ c.args.more second.1 second.0 (omega (arith, one.long))) (omega arith)
