use Rattle.std.proofs.Common.{◌-◌, ◌+◌, ◌/◌, arith}
use Rattle.encoding_definitions.proofs.PrefixesLemmas.{WritesPrefix-nil, WritesPrefix_again}
use Rattle.encoding_kernels.proofs.CopyLemmas.{WritesPrefix_whole}
use Rattle.encoding_kernels.proofs.simd.copy.write_few.Goals as goal

pub returns-clause-written : goal.returns-clause-written
returns-clause-written g c _ =
    let old = c.args.dst.now in
    let units = g.T.ShortCopy.units c.args.test.now in
    let long = g.met.T.ShortCopy.long c.args.test.now in
    let middle = c.args.count / 2 in
    let last = c.args.count - 1 in
    let first = WritesPrefix_again old old c.write.new.dst units 0 0 1 (WritesPrefix-nil old) (omega arith) (omega arith)
    (omega (arith, long)) (omega arith) c.write.ensures in
    let two = WritesPrefix_again old _ _ units (0 + 1) middle 1 first (omega arith) (omega arith) (omega (arith, long)) (omega arith) c.write-2.ensures in
    let three = WritesPrefix_again old _ _ units (middle + 1) last 1 two (omega arith) (omega arith) (omega (arith, long)) (omega arith) c.write-3.ensures in
    WritesPrefix_whole old _ units (last + 1) _ three (omega (arith, long)) (omega (arith, long))
