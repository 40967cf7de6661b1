use Rattle.std.proofs.Common.{w8, ◌+◌, arith}
use Rattle.encoding_kernels.proofs.CopyLemmas.{firsts_over, both_put}
use Rattle.encoding_kernels.proofs.simd.compress.write_both.Goals as goal

pub returns : goal.returns
returns c =
    let first = c.requires.first_lanes in
    let second = c.requires.second in
    both_put c.args.at c.args.count c.args.more c.args.dst.now c.args.first c.args.second _ c.requires.dst_length first.0 first.1 second.0 second.1
    (firsts_over w8 (c.args.at + c.args.count) c.args.more c.args.dst.now c.args.second (omega arith) second.1)
