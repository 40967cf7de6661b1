use Rattle.std.proofs.Common.{ap, arith, encode_utf8, length}
use Rattle.std.proofs.lemmas.Str.{length-encode}
use Rattle.encoding_kernels.proofs.ScalarsLemmas.{one_character, scalar_more, scalars_more, scalars_none}
use Rattle.encoding_kernels.proofs.utf16_to_utf8.bytes.convert_up_to_unpaired.Goals as goal

pub loop-read-init : goal.loop-read-init
loop-read-init g c = scalars_none _ c.args.dst.now

pub loop-read-preserved-then-not-goes_on : goal.loop-read-preserved-then-not-goes_on
loop-read-preserved-then-not-goes_on g c = scalars_more c.skip.ensures c.loop-read.invariant c.convert_blocks_and_pairs-units.ensures.converted

pub loop-read-preserved-else-not-goes_on : goal.loop-read-preserved-else-not-goes_on
loop-read-preserved-else-not-goes_on g c = scalars_more c.skip.ensures c.loop-read.invariant c.convert_blocks_and_pairs-units.ensures.converted

pub loop-read-preserved : goal.loop-read-preserved
loop-read-preserved g c = scalar_more c.loop-read.invariant c.in-Some.ensures.character c.utf16_length-read.ensures c.write_scalar-written.ensures

pub overflow_add-read-else-singles-eq0 : goal.overflow_add-read-else-singles-eq0
overflow_add-read-else-singles-eq0 g c =
    let more = scalar_more c.loop-read.invariant c.in-Some.ensures.character c.utf16_length-read.ensures c.write_scalar-written.ensures in
    omega (arith, more.within, c.count.ensures.count)

pub returns-in_default-clause-stops : goal.returns-in_default-clause-stops
returns-in_default-clause-stops g c = λ scalar h. absurd (c.in_default.ensures.none scalar h)

pub returns-then-utf8_length-dst-clause-stops : goal.returns-then-utf8_length-dst-clause-stops
returns-then-utf8_length-dst-clause-stops g c = λ scalar h.
    let same = one_character _ c.loop-read.read _ scalar c.in-Some.ensures.character h in
    omega (arith, c.utf8_length.ensures, c.if-utf8_length-dst.true, length-encode c.in-Some.scalar, ap (λ k. length (encode_utf8 k)) same)
