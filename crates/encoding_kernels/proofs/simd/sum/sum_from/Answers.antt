use Rattle.std.proofs.Common.{arith}
use Rattle.encoding_kernels.proofs.SumLemmas.{total_fits}
use Rattle.encoding_kernels.proofs.simd.sum.sum_from.Goals as goal

pub sum_singly-requires-clause-few : goal.sum_singly-requires-clause-few
sum_singly-requires-clause-few g c =
    let t = c.args.terms.now in
    total_fits (g.T.Terms.term t) (g.met.T.Terms.few t) (g.T.Terms.text t) c.args.from (omega arith)

pub sum_to-requires-clause-few : goal.sum_to-requires-clause-few
sum_to-requires-clause-few g c =
    let t = c.args.terms.now in
    total_fits (g.T.Terms.term t) (g.met.T.Terms.few t) (g.T.Terms.text t) c.args.from (omega arith)

pub sum_singly-requires-2-clause-few : goal.sum_singly-requires-2-clause-few
sum_singly-requires-2-clause-few g c =
    let t = c.args.terms.now in
    total_fits (g.T.Terms.term t) (g.met.T.Terms.few t) (g.T.Terms.text t) c.end-end.result (omega arith)

pub overflow_add-result : goal.overflow_add-result
overflow_add-result g c =
    let t = c.args.terms.now in
    record {
      fits =
          omega (
            arith,
            c.sum_to.ensures,
            c.sum_singly-2.ensures,
            total_fits (g.T.Terms.term t) (g.met.T.Terms.few t)
                (g.T.Terms.text t) c.args.from (omega arith),
          );
    }
