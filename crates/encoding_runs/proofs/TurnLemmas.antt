-- A run continues by one more call, of the next turn.
use Rattle.std.proofs.Common.{◌≡◌, ℕ, ◌+◌, ◌-◌, ◌≤◌, Bool, true, List, [], ◌∷◌, ◌++◌, length, map}
use Rattle.std.proofs.Common.{take, drop, Option, None, Some, refl, sym, ap, ◌∙◌, arith, subst}
use Rattle.std.specs.List.{last_or}
use Rattle.std.proofs.lemmas.Bool.Decides.{nat_tests}
use Rattle.std.proofs.lemmas.Grind.{flat_map-append}
use Rattle.std.proofs.lemmas.List.{append-nil, append_assoc, length-append, length-drop, take_rest, drop-drop}
use borrow.Rule.Slice.PartMut.{put_mid}
use Rattle.encoding_definitions.specs.Prefixes.{WritesPrefix}
use Rattle.encoding_text.specs.Decoding.{DecodeStep}
use Rattle.encoding_text.specs.declared.decoder.DecoderResult.{DecoderResult}
use Rattle.encoding_text.specs.declared.decoder.DecoderResult.TheVariants.{InputEmpty, OutputFull, Malformed}
use Rattle.encoding_definitions.proofs.PrefixesLemmas.{WritesPrefix-length, WritesPrefix-same, WritesPrefix_after}
use Rattle.encoding_runs.specs.declared.run.turns.Turn.{Turn}
use Rattle.encoding_runs.specs.Runs.{room_of, is_marked_last, AreOfTurns, IsRun}
use Rattle.encoding_runs.specs.declared.run.decoding.Report.{Report}
use Rattle.encoding_runs.specs.declared.run.decoding.Outcome.{Outcome}
use Rattle.encoding_runs.specs.Calls.{CallRelation, Call, IsChain, read_in_all, output_of, pending_after}
use Rattle.encoding_runs.specs.Steps.{report_of, reports_of_calls, IsReportedRun}

-- a turn that is marked last takes all that is unread
marked : (turn : Turn) (unread : ℕ) → is_marked_last turn unread ≡ true → unread ≤ turn.take
marked turn unread e = grind (arith, nat_tests)

module _ {Result A : Type 0} (Does : CallRelation ℕ Result A) where
  pub same_call : (p p' src src' : List ℕ) (room room' : ℕ) (last last' : Bool) (result : Result) (read : ℕ) (out out' : List A) (q : List ℕ)
      → Does p src room last result read out q
      → p ≡ p' → src ≡ src' → room ≡ room' → last ≡ last' → out ≡ out' → Does p' src' room' last' result read out' q
  same_call p p' src src' room room' last last' result read out out' q call e f g h k = rw (e, f, g, h, k) at call

  -- the first call of a run is one of the first turn
  pub turn_call : (p unread : List ℕ) (left : ℕ) (turn : Turn) (call : Call ℕ Result A)
      → Does p (take call.piece unread) call.form call.last call.result call.read call.out call.pending
      → call.piece ≡ turn.take → call.form ≡ room_of turn left → call.last ≡ is_marked_last turn (length unread)
      → Does p (take turn.take unread) (room_of turn left) (is_marked_last turn (length unread)) call.result call.read call.out call.pending
  turn_call p unread left turn call does e f g = same_call p p _ _ _ _ _ _ call.result call.read _ _ call.pending does refl (ap (λ n. take n unread) e) f g refl

  -- ---- one call more
  module _ (call : Call ℕ Result A) where
    read_push : (calls : List (Call ℕ Result A)) → read_in_all (calls ++ call ∷ []) ≡ read_in_all calls + call.read
    read_push [] = omega arith
    read_push (c ∷ calls) = omega (arith, read_push calls)

    output_push : (calls : List (Call ℕ Result A)) → output_of (calls ++ call ∷ []) ≡ output_of calls ++ call.out
    output_push calls = flat_map-append (λ (c : Call ℕ Result A). c.out) calls (call ∷ []) ∙ ap (λ xs. output_of calls ++ xs) (append-nil call.out)

    pending_push : (calls : List (Call ℕ Result A)) (p : List ℕ) → pending_after p (calls ++ call ∷ []) ≡ call.pending
    pending_push [] p = refl
    pending_push (c ∷ calls) p = pending_push calls c.pending

    result_push : (calls : List (Call ℕ Result A)) (before : Option Result) → last_or before (map (λ c. c.result) (calls ++ call ∷ [])) ≡ Some call.result
    result_push [] before = refl
    result_push (c ∷ calls) before = result_push calls (Some c.result)

    -- the call starts with what the calls before it left
    abbrev IsNext : List ℕ → List ℕ → List (Call ℕ Result A) → Type 0
    IsNext p unread calls =
        Does (pending_after p calls) (take call.piece (drop (read_in_all calls) unread)) call.form call.last call.result call.read call.out call.pending
        × (call.last ≡ true → length (drop (read_in_all calls) unread) ≤ call.piece)

    chain_push : (calls : List (Call ℕ Result A)) (p unread : List ℕ) → IsChain Does p unread calls → IsNext p unread calls
        → IsChain Does p unread (calls ++ call ∷ [])
    chain_push [] p unread chain (c, reaches) = (c, reaches, tt)
    chain_push (first ∷ calls) p unread (d, ends, chain) (c, reaches) =
        let rest : drop (read_in_all calls) (drop first.read unread) ≡ drop (first.read + read_in_all calls) unread =
        drop-drop (read_in_all calls) first.read unread in (
          d,
          ends,
          chain_push calls first.pending (drop first.read unread) chain (
            subst (λ xs. Does (pending_after first.pending calls) (take call.piece xs) call.form call.last call.result call.read call.out call.pending)
                (sym rest) c,
            (λ e. omega (arith, ap length rest, reaches e)),
          ),
        )

    turns_push : (turns : List Turn) (calls : List (Call ℕ Result A)) (unread left : ℕ) (turn : Turn) → AreOfTurns unread left turns calls
        → call.piece ≡ turn.take → call.form ≡ room_of turn (left - length (output_of calls)) → call.last ≡ is_marked_last turn (unread - read_in_all calls)
        → AreOfTurns unread left (turns ++ turn ∷ []) (calls ++ call ∷ [])
    turns_push [] [] unread left turn t p r l =
        (p, r ∙ ap (room_of turn) {x = left - 0} {y = left} (omega arith), l ∙ ap (is_marked_last turn) {x = unread - 0} {y = unread} (omega arith), tt)
    turns_push [] (c ∷ calls) unread left turn t p r l = absurd t
    turns_push (first ∷ turns) [] unread left turn t p r l = absurd t
    turns_push (first ∷ turns) (c ∷ calls) unread left turn (u, v, w, t) p r l = (
      u,
      v,
      w,
      turns_push turns calls (unread - c.read) (left - length c.out) turn t p
          (r ∙ ap (room_of turn) {x = left - length (output_of (c ∷ calls))} {y = left - length c.out - length (output_of calls)}
          (omega (arith, length-append c.out (output_of calls))))
          (l ∙ ap (is_marked_last turn) {x = unread - read_in_all (c ∷ calls)} {y = unread - c.read - read_in_all calls} (omega arith)),
    )

  -- the run of the turns so far, and the call of the next one on the unread source, into the rest of the destination
  pub run_push : (p src : List ℕ) (turns : List Turn) (old mid : List A) (read written : ℕ) (result : Option Result) (q : List ℕ) (turn : Turn)
      (sub out : List A) (r : Result) (more count : ℕ) (after : List ℕ)
      → IsRun Does p src turns old mid read written result q → WritesPrefix (take (length mid - written) (drop written mid)) sub count out
      → Does q (take turn.take (take (length src - read) (drop read src))) (room_of turn (length (take (length mid - written) (drop written mid))))
      (is_marked_last turn (length (take (length src - read) (drop read src)))) r more out after
      → IsRun Does p src (turns ++ turn ∷ []) old (put_mid written (length mid - written) mid sub) (read + more) (written + count) (Some r) after
  run_push p src turns old mid read written result q turn sub out r more count after run writes does =
      let unread : take (length src - read) (drop read src) ≡ drop (read_in_all run.calls) src = take_rest src read ∙ ap (λ n. drop n src) run.reads in
      let left : length (take (length mid - written) (drop written mid)) ≡ length old - written =
      ap length (take_rest mid written) ∙ length-drop written mid ∙ omega (arith, WritesPrefix-length _ _ _ _ run.writes) in
      let call : Call ℕ Result A = record {
        form = room_of turn (length old - written);
        piece = turn.take;
        last = is_marked_last turn (length src - read);
        result = r;
        read = more;
        out = out;
        pending = after;
      } in
      let next : Does (pending_after p run.calls) (take turn.take (drop (read_in_all run.calls) src)) call.form call.last r more out after =
      same_call _ _ _ _ _ _ _ _ r more _ _ after does run.leaves (ap (take turn.take) unread) (ap (room_of turn) left)
      (ap (is_marked_last turn) (ap length unread ∙ length-drop (read_in_all run.calls) src ∙ omega (arith, run.reads))) refl in
      let reaches : call.last ≡ true → length (drop (read_in_all run.calls) src) ≤ turn.take =
      λ e. omega (arith, marked turn (length src - read) e, length-drop (read_in_all run.calls) src, run.reads) in
      record {
        calls = run.calls ++ call ∷ [];
        chain = chain_push call run.calls p src run.chain (next, reaches);
        of_turns = turns_push call turns run.calls (length src) (length old) turn run.of_turns refl
            (ap (λ n. room_of turn (length old - n)) run.writes.count)
            (ap (λ n. is_marked_last turn (length src - n)) run.reads);
        reads = omega (arith, run.reads, read_push call run.calls);
        writes = WritesPrefix-same _ _ _ _ _ _ (WritesPrefix_after old mid written (output_of run.calls) sub count out run.writes writes) refl
            (sym (output_push call run.calls));
        returns = sym (result_push call run.calls None);
        leaves = sym (pending_push call run.calls p);
      }

-- ---- the reports
-- a result is at most one report
pub one_report : (result : DecoderResult) (place : ℕ) → length (report_of result place) ≤ 1
one_report InputEmpty place = omega arith
one_report OutputFull place = omega arith
one_report (Malformed k second) place = omega arith

module _ {A : Type 0} where
  reports_push : (place : ℕ) (calls : List (Call ℕ DecoderResult A)) (call : Call ℕ DecoderResult A)
      → reports_of_calls place (calls ++ call ∷ []) ≡ reports_of_calls place calls ++ report_of call.result (place + length (output_of calls) + length call.out)
  reports_push place [] call = append-nil (report_of call.result (place + length call.out)) ∙ ap (report_of call.result) (omega arith)
  reports_push place (c ∷ calls) call =
      let there = place + length c.out in
      let size : there + length (output_of calls) + length call.out ≡ place + length (c.out ++ output_of calls) + length call.out =
      omega (arith, length-append c.out (output_of calls)) in
      ap (λ rs. report_of c.result there ++ rs) (reports_push there calls call ∙ ap (λ n. reports_of_calls there calls ++ report_of call.result n) size)
      ∙ sym
      (append_assoc (report_of c.result there) (reports_of_calls there calls)
      (report_of call.result (place + length (c.out ++ output_of calls) + length call.out)))

  -- the run continues, and the report of the call is written after the others
  pub reported_push : (encode : ℕ → List A) (need : ℕ) (p src : List ℕ) (turns : List Turn) (old mid : List A) (old_reports mid_reports : List Report)
      (outcome : Outcome) (q : List ℕ) (turn : Turn)
      (sub out : List A) (places : List Report) (result : DecoderResult) (read written reports : ℕ) (after : List ℕ)
      → IsReportedRun encode need p src turns old mid old_reports mid_reports outcome q
      → WritesPrefix (take (length mid - outcome.written) (drop outcome.written mid)) sub written out
      → DecodeStep encode need q (take turn.take (take (length src - outcome.read) (drop outcome.read src)))
      (room_of turn (length (take (length mid - outcome.written) (drop outcome.written mid))))
      (is_marked_last turn (length (take (length src - outcome.read) (drop outcome.read src)))) result read out after
      → WritesPrefix (take (length mid_reports - outcome.reports) (drop outcome.reports mid_reports)) places reports
      (report_of result (outcome.written + written))
      → IsReportedRun encode need p src (turns ++ turn ∷ []) old (put_mid outcome.written (length mid - outcome.written) mid sub) old_reports
      (put_mid outcome.reports (length mid_reports - outcome.reports) mid_reports places)
      (record { read = outcome.read + read; written = outcome.written + written; reports = outcome.reports + reports; result = Some result }) after
  unfolding run_push
  reported_push encode need p src turns old mid old_reports mid_reports outcome q turn sub out places result read written reports after before
      writes is_call reported =
      let calls : List (Call ℕ DecoderResult A) = before.run.calls in record {
        run = run_push
            (DecodeStep encode need) p src turns old mid outcome.read outcome.written outcome.result q turn sub out result read written after
            before.run writes is_call;
        reports = WritesPrefix-same _ _ _ _ _ _
            (WritesPrefix_after old_reports mid_reports outcome.reports (reports_of_calls 0 calls) places reports
            (report_of result (outcome.written + written)) before.reports reported) refl
            (ap (λ n. reports_of_calls 0 calls ++ report_of result n) (omega (arith, before.run.writes.count, writes.count)) ∙ sym (reports_push 0 calls _));
      }
