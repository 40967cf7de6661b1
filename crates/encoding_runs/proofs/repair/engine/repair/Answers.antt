use Rattle.std.proofs.Common.{◌∙◌, arith}
use Rattle.std.proofs.lemmas.Result.{err_from_is_err_and}
use Rattle.std.proofs.lemmas.List.{length-append, length-take}
use Rattle.std.proofs.KnownBytes.{Keeps-refl}
use Rattle.encoding_runs.proofs.RepairLemmas.{wrote_after, wrote_count}
use Rattle.encoding_runs.proofs.RoundLemmas.{reaches_next, reaches_end, stopped_reading, stopped_writing}
use Rattle.encoding_runs.proofs.repair.engine.repair.Goals as goal

pub returns-in_err-round-clause-read_fault : goal.returns-in_err-round-clause-read_fault
returns-in_err-round-clause-read_fault g c =
    let p = err_from_is_err_and c.from_residual.result c.from_residual.ensures.1 in
    rw (p.1, p.2) (λ fault.
    let e = c.in_err-round.ensures.read_fault fault in
    let s = stopped_reading _ _ _ _ _ _ _ _ c.loop-read.invariant.reaches e.0 in
    rw e.1 (s.0, omega (arith, s.1, c.loop-read-test.true), s.2))

pub returns-in_err-round-clause-write_fault : goal.returns-in_err-round-clause-write_fault
returns-in_err-round-clause-write_fault g c =
    let p = err_from_is_err_and c.from_residual.result c.from_residual.ensures.1 in
    let room = length-take c.min-room.result c.loop-read.buffer in
    rw (p.1, p.2) (λ fault going.
    let e = c.in_err-round.ensures.write_fault fault in
    let s = stopped_writing _ _ _ _ _ _ _ _ _ _ _ _ _ _ c.loop-read.invariant.reaches e.2 e.3 (omega (arith, room, c.min-room.ensures))
    (c.loop-read.invariant.ended ∙ going) in
    (s.0, omega (arith, s.1, room, c.min-room.ensures, c.loop-read-test.true), s.2))

pub overflow_add-replaced : goal.overflow_add-replaced
overflow_add-replaced g c =
    let e = c.in_ok-round.ensures.ok in
    let reaches = c.loop-read.invariant.reaches in
    let wrote = wrote_after _ _ _ _ _ _ _ _ _ _ reaches.wrote e.4 in
    omega (
      arith,
      wrote_count _ _ _ _ _ _ wrote,
      length-append reaches.input e.0,
      reaches.count,
      e.3.within,
      length-take c.min-room.result
          c.loop-read.buffer,
      c.min-room.ensures,
      c.ranges.limit,
    )

pub returns-then-round-eq0-clause-ok : goal.returns-then-round-eq0-clause-ok
returns-then-round-eq0-clause-ok g c =
    let e = c.in_ok-round.ensures.ok in
    let all = reaches_end _ _ _ _ _ _ _ _ _ _ _ _ _ _ _ _ c.loop-read.invariant.reaches e.3 e.4 e.6 (omega (arith, e.2, c.if-round-eq0.true)) in
    (all.0, omega (arith, all.1, e.2), omega (arith, all.1, e.2, c.if-round-eq0.true, c.loop-read-test.true), all.2, all.3)

pub loop-read-preserved : goal.loop-read-preserved
loop-read-preserved g c =
    let e = c.in_ok-round.ensures.ok in
    let before = c.loop-read.invariant in
    let next = reaches_next _ _ _ _ _ _ _ _ _ _ _ _ _ _ _ _ before.reaches e.3 e.4 e.5 (omega (arith, e.2, c.if-round-eq0.false)) in
    record {
      reaches = rw e.2 next.0;
      within = omega (arith, e.2, e.3.within, length-take c.min-room.result c.loop-read.buffer, c.min-room.ensures, c.loop-read-test.true);
      ended = next.1 ∙ before.ended;
      reader_failed = e.7 ∙ before.reader_failed;
      writer_failed = e.8 ∙ before.writer_failed;
      reader_stream = c.in_ok-round.ensures.reader_stream ∙ before.reader_stream;
      writer_keeps = g.met.W.Sink.keeps_on _ _ _ before.writer_keeps c.in_ok-round.ensures.writer_keeps;
    }

pub returns-clause-limit : goal.returns-clause-limit
returns-clause-limit g c = λ _.
    let s = stopped_reading _ _ _ _ _ _ _ _ c.loop-read.invariant.reaches (Keeps-refl _) in
    (s.0, omega (arith, s.1, c.loop-read.invariant.within, c.loop-read-test.false), s.2)
