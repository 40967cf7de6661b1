use Rattle.std.proofs.Common.{arith}
use Rattle.encoding_definitions.proofs.PrefixesLemmas.{WritesPrefix-nil}
use Rattle.encoding_kernels.proofs.OverwriteLemmas.{written_eight}
use Rattle.encoding_text.proofs.mem.latin1.convert_latin1_blocks.Goals as goal

pub loop-read-init : goal.loop-read-init
loop-read-init c = record { within = omega arith; written = WritesPrefix-nil c.args.dst.now }

pub loop-read-preserved : goal.loop-read-preserved
loop-read-preserved c =
    let here = c.loop-read.invariant in
    let call = c.write_latin1_block-written.ensures in
    record {
      within = omega arith;
      written = written_eight c.args.src.now c.args.dst.now _ c.write_latin1_block-written.new.dst c.loop-read.read c.loop-read.written
          here.written 64 c.write_latin1_block-written.result call.out_length
          (omega (arith, call.length_bound)) call.written;
    }

pub loop-read-2-preserved : goal.loop-read-2-preserved
loop-read-2-preserved c =
    let here = c.loop-read-2.invariant in
    let call = c.write_latin1-written.ensures in
    record {
      within = omega arith;
      written = written_eight c.args.src.now c.args.dst.now _ c.write_latin1-written.new.dst c.loop-read-2.read c.loop-read-2.written
          here.written 16 c.write_latin1-written.result call.out_length
          (omega (arith, call.length_bound)) call.written;
    }
