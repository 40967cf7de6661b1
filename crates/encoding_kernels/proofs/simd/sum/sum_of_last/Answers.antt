use Rattle.std.proofs.Common.{arith}
use Rattle.encoding_kernels.proofs.SumLemmas.{last_total}
use Rattle.encoding_kernels.proofs.simd.sum.sum_of_last.Goals as goal

pub returns : goal.returns
returns g c =
    let t = c.args.terms.now in
    omega (
      arith,
      c.sum_of_lanes.ensures,
      last_total (g.T.Terms.term t) (g.T.Terms.text t) g.row.N c.args.at c.args.end (omega arith) (omega arith)
          (omega arith) (omega (arith, g.met.T.Terms.inside t)) c.terms.ensures c.clear_first.ensures,
    )
