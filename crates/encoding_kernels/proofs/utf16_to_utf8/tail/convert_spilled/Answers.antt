use Rattle.std.proofs.Common.{arith}
use Rattle.encoding_kernels.proofs.Utf16ToUtf8Lemmas.{converts_none, converts_more_from, converts_whole}
use Rattle.encoding_kernels.proofs.utf16_to_utf8.tail.convert_spilled.Goals as goal

pub loop-written-init : goal.loop-written-init
loop-written-init g c = record { converted = converts_none (g.S.CodeUnits.units c.args.src) c.args.dst.now; least = omega arith }

pub loop-written-preserved : goal.loop-written-preserved
loop-written-preserved g c =
    let here = c.loop-written.invariant in
    let call = c.convert_some-units.ensures in
    record {
      converted = converts_more_from (g.S.CodeUnits.units c.args.src) c.requires.code_units c.skip.ensures here.converted
          (record { prefix = call.prefix; unchanged_after = call.unchanged_after; within = call.within });
      least = omega (arith, here.least, call.progress);
    }

pub returns : goal.returns
returns g c =
    let here = c.loop-written.invariant in
    record {
      converted = converts_whole (g.S.CodeUnits.units c.args.src) c.requires.code_units here.converted;
      length_bound = omega arith;
    }
