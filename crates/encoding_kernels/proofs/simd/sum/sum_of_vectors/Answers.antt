use Rattle.std.proofs.Common.{◌+◌, ◌*◌, ◌∙◌, ◌≤◌, arith, refl, sym}
use Rattle.std.proofs.lemmas.Simd.{Each1-replicate, length-replicate, length-zip2, sum-zip2}
use Rattle.encoding_kernels.proofs.SumLemmas.{lanes_few, sums_few, sums_fit, vector_total, zeros_total}
use Rattle.encoding_kernels.proofs.simd.sum.sum_of_vectors.Goals as goal

pub loop-place-init : goal.loop-place-init
loop-place-init g c = record {
  within = (omega arith, omega arith);
  long = length-replicate g.row.N 0;
  lanes = Each1-replicate (λ a. a * g.row.N + 2 * c.args.at ≤ 2 * c.args.at) g.row.N 0 (omega arith);
  sum = omega (arith, zeros_total g.row.N);
}

pub overflow_add-sums : goal.overflow_add-sums
overflow_add-sums g c =
    let t = c.args.terms.now in
    let i = c.loop-place in
    let small = lanes_few (g.T.Terms.term t) (g.T.Terms.text t) g.row.N i.place (g.met.T.Terms.few t) c.terms-sums.ensures in
    sums_fit g.row.N c.args.at i.place i.sums c.terms-sums.result i.invariant.lanes small c.requires.lanes.0 (omega arith)

pub loop-place-preserved : goal.loop-place-preserved
loop-place-preserved g c =
    let t = c.args.terms.now in
    let i = c.loop-place in
    let z = c.terms-sums.result in
    let n = g.row.N in
    let lanes = c.terms-sums.ensures in
    let small = lanes_few (g.T.Terms.term t) (g.T.Terms.text t) n i.place (g.met.T.Terms.few t) lanes in
    let same = i.invariant.long ∙ sym lanes.long in
    record {
      within = (omega arith, omega arith);
      long = length-zip2 (λ a b. a + b) i.sums z same ∙ i.invariant.long;
      lanes = sums_few n c.args.at i.place i.sums z i.invariant.lanes small;
      sum = omega (
        arith,
        i.invariant.sum,
        sum-zip2 i.sums z same,
        vector_total (g.T.Terms.term t) (g.T.Terms.text t) n i.place (i.place + n) refl
            (omega (arith, g.met.T.Terms.inside t)) lanes,
      );
    }
