use Rattle.std.proofs.Common.{◌≡◌, ◌+◌, ◌-◌, ◌≤◌, arith, length}
use Rattle.encoding_text.proofs.Latin1ConversionLemmas.{again_counted, latin1_again}
use Rattle.encoding_text.proofs.mem.latin1.finish_latin1.Goals as goal

pub overflow_sub-at : goal.overflow_sub-at
overflow_sub-at c =
    let src = c.args.src.now in
    omega (
      arith,
      c.requires.counted.0,
      c.utf8_length_of_first.ensures.out_length,
      again_counted src c.args.read (length src - 16) (omega (arith, c.requires.left))
          (omega (arith, c.requires.left)),
    )

pub returns-clause-finished : goal.returns-clause-finished
returns-clause-finished c old w =
    let src = c.args.src.now in
    let last = length src - 16 in
    let long : last + 16 ≡ length src = omega (arith, c.requires.left) in
    let first : last ≤ c.args.read = omega (arith, c.requires.left) in
    let call = c.write_latin1.ensures in
    latin1_again src c.args.read last long first old c.args.dst.now _ c.args.written _ c.write_latin1.result w
    (omega (arith, c.requires.counted.0, c.utf8_length_of_first.ensures.out_length, again_counted src c.args.read last long first)) call.out_length
    (omega (arith, call.length_bound, c.if-dst-at.false)) call.written
