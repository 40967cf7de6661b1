use Rattle.std.proofs.Common.{◌∙◌, inl, arith}
use Rattle.std.proofs.lemmas.Result.{err_from_is_err_and}
use Rattle.std.proofs.lemmas.List.{take_rest, length-append}
use Rattle.encoding_runs.proofs.RepairLemmas.{wrote_piece, wrote_last, stopped_piece, wrote_count, pending_length}
use Rattle.encoding_runs.proofs.repair.engine.write_parts.Goals as goal

pub returns-in_err-replaced-clause-err : goal.returns-in_err-replaced-clause-err
returns-in_err-replaced-clause-err g c =
    let p = err_from_is_err_and c.from_residual.result c.from_residual.ensures.1 in
    let e = c.in_err-replaced.ensures.err in
    rw (p.1, p.2) (e.0, e.1, stopped_piece _ _ _ _ _ _ _ _ _ _ _ _ c.loop-writer.invariant.wrote c.decode_borrowed_raw-read.ensures e.3 e.4)

pub overflow_add-replaced : goal.overflow_add-replaced
overflow_add-replaced g c =
    let e = c.in_ok-replaced.ensures.ok in
    let wrote = wrote_piece _ _ _ _ _ _ _ _ _ _ _ c.loop-writer.invariant.wrote c.decode_borrowed_raw-read.ensures e.1 in
    omega (
      arith,
      wrote_count _ _ _ _ _ _ wrote,
      e.0,
      length-append c.args.decoder.now c.args.src.now,
      pending_length c.args.decoder.now
          c.requires.unfinished,
      c.well_formed.1.0.0,
    )

pub loop-writer-preserved : goal.loop-writer-preserved
loop-writer-preserved g c =
    let e = c.in_ok-replaced.ensures.ok in
    rw (e.0, take_rest c.loop-writer.rest.now c.decode_borrowed_raw-read.result.1) (record {
      wrote = wrote_piece _ _ _ _ _ _ _ _ _ _ _ c.loop-writer.invariant.wrote c.decode_borrowed_raw-read.ensures e.1;
      failed = e.2 ∙ c.loop-writer.invariant.failed;
      keeps = g.met.W.Sink.keeps_on _ _ _ c.loop-writer.invariant.keeps c.in_ok-replaced.ensures.keeps;
    })

pub returns-then-read-rest-clause-ok : goal.returns-then-read-rest-clause-ok
returns-then-read-rest-clause-ok g c =
    let e = c.in_ok-replaced.ensures.ok in
    let wrote =
    wrote_last _ _ _ _ _ _ _ _ _ _ _ c.loop-writer.invariant.wrote c.decode_borrowed_raw-read.ensures c.in_default.not-InputEmpty e.1 (omega arith) in
    rw e.0 (wrote.0, inl wrote.1, λ l. wrote.1, e.2 ∙ c.loop-writer.invariant.failed)
