use Rattle.std.proofs.Common.{◌≡◌, ◌+◌, ◌≤◌, ◌++◌, ◌∙◌, ap, arith, length, take, drop, length-append, length-take-le, encode_utf8_all}
use Rattle.encoding_kernels.proofs.Latin1ToUtf8Lemmas.{few_spelled}
use Rattle.encoding_kernels.proofs.latin1.to_utf8.write_few_latin1.Goals as goal

pub returns : goal.returns
returns c =
    let e = c.encode_latin1-more in
    let at = c.utf8_length_of_first-before in
    let first = take at.result e.result.0 in
    let second = take e.result.3 e.result.2 in
    let spelled : first ++ second ≡ encode_utf8_all c.args.src.now =
    few_spelled c.args.src.now c.first_and_last_eight-block.result e.result.0 second e.result.1 at.result c.requires.src_length.0 c.requires.src_length.1
    (omega (arith, e.ensures.first_length, e.ensures.lane_count)) c.first_and_last_eight-block.ensures e.ensures.first_half e.ensures.second_half
    at.ensures.out_length in
    let few : at.result ≤ 16 = omega (arith, at.ensures.length_bound, c.requires.src_length) in
    let long : length second ≡ e.result.3 = length-take-le e.result.3 e.result.2 (omega (arith, e.ensures.second_length, e.ensures.lane_count)) in
    let start : length first ≡ at.result = length-take-le at.result e.result.0 (omega (arith, few, e.ensures.lane_count)) in
    let place : 0 + (at.result + e.result.3) ≡ at.result + e.result.3 = omega arith in
    record {
      written = record {
        count = omega (arith, ap length spelled, length-append first second, long, start);
        fits = omega (arith, at.ensures.length_bound, e.ensures.second_length, c.requires.dst_length, c.requires.src_length);
        placed = c.write_both.ensures ∙ (λ i. spelled i ++ drop (place i) c.args.dst.now);
      };
    }
