use Rattle.std.proofs.Common.{arith, refl}
use Rattle.encoding_kernels.proofs.OverwriteLemmas.{due_block_from}
use Rattle.encoding_kernels.proofs.utf16_to_utf8.kinds.convert_joined_run.Goals as goal

pub loop-read-init : goal.loop-read-init
loop-read-init g c = record {
  converted = (
    c.args.due,
    record {
      written = record {
        within = omega arith;
        plain = λ k r. omega (arith, r.0);
        counted = refl;
        fits = omega arith;
        prefix = refl;
        following = refl;
        long = refl;
      };
      covered = omega arith;
      few = c.requires.due.0;
      fits = λ l. c.requires.due.1 l;
      bound = omega arith;
    },
  );
  room = omega (arith, c.if-end-eq0.false);
  loaded = c.sixteen-units.ensures;
  kind = c.if-not-takes.ensures {u = tt} refl;
}

pub loop-read-preserved : goal.loop-read-preserved
loop-read-preserved g c =
    let here = c.loop-read.invariant in
    record {
      converted = (
        _,
        due_block_from (g.S.CodeUnits.units c.args.src) c.loop-read.units c.args.dst.now c.loop-read.dst _ c.args.due c.loop-read.read
            c.loop-read.written here.converted.0 _ _ here.loaded here.converted.1
            (omega (arith, here.room, c.min-end.ensures, c.saturating_sub-blocks_end.ensures, c.count.ensures.count)) c.requires.dst_length
            c.convert-bytes.ensures.stored,
      );
      room = omega (arith, c.loop-read-test.true);
      loaded = c.sixteen-next.ensures;
      kind = c.if-not-takes-2.ensures {u = tt} refl;
    }

pub returns-clause-converted : goal.returns-clause-converted
returns-clause-converted g c =
    let here = c.loop-read.invariant in
    due_block_from (g.S.CodeUnits.units c.args.src) c.loop-read.units c.args.dst.now c.loop-read.dst _ c.args.due c.loop-read.read c.loop-read.written
    here.converted.0 _ _ here.loaded here.converted.1
    (omega (arith, here.room, c.min-end.ensures, c.saturating_sub-blocks_end.ensures, c.count.ensures.count)) c.requires.dst_length
    c.convert-bytes-2.ensures.stored
