use Rattle.std.proofs.Common.{ap, arith, length, take}
use Rattle.std.proofs.lemmas.List.{length-append, take_rest}
use Rattle.encoding_runs.proofs.RepairLemmas.{pending_length}
use Rattle.encoding_runs.proofs.SearchLemmas.{malformed_few, malformed_step}
use Rattle.encoding_runs.proofs.search.MalformedSearch.next_piece.Goals as goal

pub push-requires : goal.push-requires
push-requires c =
    let step = rw c.in-InputEmpty.is at c.decode_borrowed_raw-read.ensures in
    record {
      fits = omega (
        arith,
        pending_length _ step.pending,
        ap length step.answer.1,
        length-append c.self.inside.decoder c.args.src.now,
        ap length
            c.self.invariant.0,
      );
    }

pub push-requires-in-Malformed : goal.push-requires-in-Malformed
push-requires-in-Malformed c =
    let step = rw c.in-Malformed.is at c.decode_borrowed_raw-read.ensures in
    record {
      fits = omega (
        arith,
        malformed_few _ _ _ step.answer.3,
        length-append c.self.inside.decoder (take c.decode_borrowed_raw-read.result.1 c.args.src.now),
        length-append c.self.inside.held (take c.decode_borrowed_raw-read.result.1 c.args.src.now),
        ap length c.self.invariant.0,
      );
    }

pub returns-in-Malformed-clause-step : goal.returns-in-Malformed-clause-step
returns-in-Malformed-clause-step c =
    let step = rw (c.in-Malformed.is, c.self.invariant.0) at c.decode_borrowed_raw-read.ensures in
    rw (← c.self.view_is) (malformed_step c.self.inside.held c.args.src.now c.bytes-bytes.result c.self.inside.start _ _ _ _ _ _ step
    (rw c.push-in-Malformed.ensures at c.bytes-bytes.ensures) (rw take_rest at c.why_malformed-kind.ensures) c.none-self-inside-in-Malformed.ensures)
