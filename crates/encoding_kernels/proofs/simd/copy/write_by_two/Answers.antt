use Rattle.std.proofs.Common.{◌-◌, ◌+◌, arith}
use Rattle.encoding_definitions.proofs.PrefixesLemmas.{WritesPrefix-nil, WritesPrefix_again}
use Rattle.encoding_kernels.proofs.CopyLemmas.{WritesPrefix_whole}
use Rattle.encoding_kernels.proofs.simd.copy.write_by_two.Goals as goal

pub returns-clause-written : goal.returns-clause-written
returns-clause-written g c _ =
    let old = c.args.dst.now in
    let units = g.T.ShortCopy.units c.args.test.now in
    let long = g.met.T.ShortCopy.long c.args.test.now in
    let last = c.args.count - g.row.N in
    let first = WritesPrefix_again old old c.write.new.dst units 0 0 g.row.N (WritesPrefix-nil old) (omega arith) (omega arith)
    (omega (arith, long)) (omega arith) c.write.ensures in
    let both = WritesPrefix_again old _ _ units (0 + g.row.N) last g.row.N first (omega arith) (omega arith)
    (omega (arith, long)) (omega arith) c.write-2.ensures in
    WritesPrefix_whole old _ units (last + g.row.N) _ both (omega (arith, long)) (omega (arith, long))
