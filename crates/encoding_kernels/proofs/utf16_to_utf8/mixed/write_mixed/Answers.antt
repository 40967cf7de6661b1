use Rattle.std.proofs.Common.{arith}
use Rattle.encoding_kernels.proofs.OverwriteLemmas.{spills_kept}
use Rattle.encoding_kernels.proofs.utf16_to_utf8.mixed.write_mixed.Goals as goal

pub returns-clause-written : goal.returns-clause-written
returns-clause-written c =
    let count = c.length_of_sixteen.ensures in
    let sixteen = c.write_sixteen.ensures.written in
    spills_kept c.args.dst.now c.write_sixteen.new.dst _ _ _ sixteen (omega (arith, count.count, sixteen.counted))
    (omega (arith, count.count, sixteen.counted)) (omega (arith, count.bounds, c.requires.dst_length))
