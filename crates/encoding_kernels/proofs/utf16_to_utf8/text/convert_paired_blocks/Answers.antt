use Rattle.std.proofs.Common.{arith, refl, sym}
use Rattle.encoding_definitions.proofs.PrefixesLemmas.{WritesPrefix-same, WritesPrefix_put}
use Rattle.encoding_kernels.proofs.ScalarsLemmas.{Taken, scalars_none}
use Rattle.encoding_kernels.proofs.Utf16ToUtf8Lemmas.{goes_block}
use Rattle.encoding_kernels.proofs.utf16_to_utf8.text.convert_paired_blocks.Goals as goal

pub loop-read-init : goal.loop-read-init
loop-read-init g c = scalars_none (g.S.CodeUnits.units c.args.src) c.args.dst.now

pub loop-read-preserved : goal.loop-read-preserved
loop-read-preserved g c =
    let us = g.S.CodeUnits.units c.args.src in
    let read = c.loop-read.read in
    let here = c.loop-read.invariant in
    let call = c.write_two_byte_or_paired-units.ensures in
    let had : Taken us read here.scalars = record { are_scalars = here.are_scalars; taken = here.taken } in
    let more = goes_block us c.count.ensures.code_units c.write_two_byte_or_paired-units.result.0 read here.scalars had (omega (arith, c.count.ensures.count))
    (c.if-are_two_byte_or_paired.ensures refl) call.units in
    record {
      within = omega (arith, call.units, c.count.ensures.count);
      scalars = more.all;
      are_scalars = more.taken.are_scalars;
      taken = more.taken.taken;
      written = WritesPrefix-same _ _ _ _ _ _
          (WritesPrefix_put c.args.dst.now c.loop-read.dst c.write_two_byte_or_paired-units.new.dst c.loop-read.written
          c.write_two_byte_or_paired-units.result.1 _ _ here.written call.out_length (omega (arith, call.length_bound)) call.written) refl (sym more.written);
    }
