use Rattle.std.proofs.Common.{arith}
use Rattle.encoding_definitions.proofs.PrefixesLemmas.{WritesPrefix-nil}
use Rattle.encoding_kernels.proofs.CopyLemmas.{WritesPrefix_whole}
use Rattle.encoding_kernels.proofs.simd.copy.write_short.Goals as goal

pub returns-in-0-clause-written : goal.returns-in-0-clause-written
returns-in-0-clause-written g c _ =
    let old = c.args.dst.now in
    let units = g.T.ShortCopy.units c.args.test.now in
    let long = g.met.T.ShortCopy.long c.args.test.now in
    WritesPrefix_whole old old units 0 _ (WritesPrefix-nil old) (omega (arith, long, c.in-0.is)) (omega (arith, long))
