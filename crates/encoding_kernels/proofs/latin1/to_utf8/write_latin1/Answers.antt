use Rattle.std.proofs.Common.{◌+◌, ◌++◌, take, drop, length-append, length-take-le, ap, ◌∙◌, arith, length}
use Rattle.encoding_kernels.proofs.Latin1ToUtf8Lemmas.{halves_spelled}
use Rattle.encoding_kernels.proofs.latin1.to_utf8.write_latin1.Goals as goal

pub returns : goal.returns
returns c =
    let e = c.encode_latin1-count in
    let n = e.result.1 in
    let m = e.result.3 in
    let spelled = halves_spelled c.args.block _ _ e.ensures.first_half e.ensures.second_half in
    record {
      length_bound = omega (arith, e.ensures.first_length, e.ensures.second_length);
      out_length = omega (
        arith,
        ap length spelled,
        length-append (take n e.result.0) (take m e.result.2),
        length-take-le n e.result.0 (omega arith),
        length-take-le m e.result.2 (omega arith),
      );
      written = c.write_both.ensures
          ∙ ap (λ bytes. take c.args.at c.args.dst.now ++ (bytes ++ drop (c.args.at + (n + m)) c.args.dst.now)) spelled;
    }
