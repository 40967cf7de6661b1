use Rattle.std.proofs.Common.{◌+◌, arith, refl}
use Rattle.encoding_kernels.proofs.CodeUnitLemmas.{bytes_below}
use Rattle.encoding_kernels.proofs.Latin1ToUtf8Lemmas.{first_lanes, second_lanes, latin_pairs}
use Rattle.encoding_kernels.proofs.latin1.to_utf8.both_bytes.Goals as goal

pub returns : goal.returns
returns c =
    let v = c.args.block in
    let long = c.fits-block.0 in
    let small = bytes_below v long c.fits-block.1 in
    let pairs = c.join_bytes.ensures in
    record {
      lane_count = (refl, refl);
      first_half = latin_pairs v long small _ _ c.join_bytes.result.0 (λ k. k) (λ k l. omega arith) (first_lanes v long small)
          (second_lanes v long small) pairs.lanes;
      last = latin_pairs v long small _ _ c.join_bytes.result.1 (λ k. 8 + k) (λ k l. omega arith) (first_lanes v long small)
          (second_lanes v long small) pairs.last;
    }
