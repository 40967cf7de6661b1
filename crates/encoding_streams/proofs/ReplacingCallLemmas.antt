-- Calls that write U+FFFD for each malformed sequence: one step, and steps one after another.
use Rattle.std.proofs.Common.{◌≡◌, ℕ, ◌+◌, ◌-◌, ◌<◌, ◌≤◌, Bool, true, List, [], ◌++◌, length, take, drop, refl, sym, ap, subst, ◌∙◌, arith, append-nil}
use Rattle.std.proofs.Common.{append_assoc, length-append, take-add}
use Rattle.std.specs.Prelude.{Option, None, Some}
use Rattle.std.proofs.lemmas.List.{take_rest, drop-drop, length-drop}
use Rattle.encoding_definitions.specs.Prefixes.{WritesPrefix}
use Rattle.encoding_definitions.proofs.PrefixesLemmas.{WritesPrefix_after}
use borrow.Rule.Slice.PartMut.{put_mid}
use Rattle.encoding_text.specs.declared.decoder.DecoderResult.{DecoderResult}
use Rattle.encoding_text.specs.declared.decoder.DecoderResult.TheVariants as raw
use Rattle.encoding_streams.specs.declared.encoding.Encoding.{Encoding}
use Rattle.encoding_streams.specs.declared.encoding.CoderResult.{CoderResult}
use Rattle.encoding_streams.specs.declared.encoding.CoderResult.TheVariants.{InputEmpty, OutputFull}
use Rattle.encoding_streams.specs.Decoders.{DecoderState, EndsReporting, EndsReplacing, FittingBeginsIn, IsReplacingCall, Keeps, Replaces, SufficesReplacing}
use Rattle.encoding_streams.specs.Decoders.{YieldText, left, queried}
use Rattle.encoding_streams.specs.DecoderSteps.{AreReplacingSteps, IsReplacingStep, LeavesRoom, Reports, replaced_by}
use Rattle.encoding_streams.proofs.DecoderYieldLemmas.{YieldText-append, YieldText-nil, count_in, decoded_text, reports, written_for}
use Rattle.encoding_streams.proofs.DecoderCallLemmas.{room_after}
use Rattle.encoding_streams.proofs.SniffLemmas.{left_within, left_off}

abbrev full : CoderResult → ℕ
full InputEmpty = 0
full OutputFull = 1

abbrev ended : Option CoderResult → ℕ
ended None = 2
ended (Some r) = full r

module _ {A : Type 0} (encode : ℕ → List A) (need : ℕ) (query replacing : Encoding → ℕ → ℕ → ℕ) where
  -- ---- one step
  module _ (old : DecoderState) (src : List ℕ) (dst dst' : List A) (last : Bool) (result : DecoderResult) (read written : ℕ) (new : DecoderState)
      (made : Reports encode need query replacing old src dst dst' last result read written new) where
    text_of : (more : List ℕ) → (last ≡ true → more ≡ [])
        → YieldText encode (left old (src ++ more)) (left new (drop read src ++ more)) (made.call.out ++ written_for encode result) (reports encode result)
    text_of more none =
        let texts = decoded_text encode result made.call.out made.call.parts made.call.decoded in
        record { parts = made.call.parts; yields = made.call.yields more none; text = texts.0; malformed = texts.1 }

    whole : written_for encode result ≡ [] → reports encode result ≡ 0 → Replaces encode old src dst dst' last read written 0 new
    whole nothing zero = record {
      out = made.call.out;
      writes = made.call.writes;
      within = made.call.within;
      yields = λ more none. subst (λ xs. YieldText encode (left old (src ++ more)) (left new (drop read src ++ more)) xs 0)
          (ap (λ xs. made.call.out ++ xs) nothing ∙ append-nil made.call.out)
          (subst (YieldText encode (left old (src ++ more)) (left new (drop read src ++ more)) (made.call.out ++ written_for encode result)) zero
          (text_of more none));
      keeps = made.call.keeps;
      at_most_three = made.call.at_most_three;
    }

    room_whole : LeavesRoom replacing old src (length dst) last read written new
    room_whole = λ m l marked h. (made.between_reports m l marked h).1

    pub step_empty : result ≡ raw.InputEmpty → IsReplacingStep encode need replacing old src dst dst' last (Some InputEmpty) read written new
    step_empty is = record {
      replaces = whole (ap (written_for encode) is) (ap (reports encode) is);
      leaves = room_whole;
      ends = subst (λ x. EndsReporting encode need src (length dst) last x read written new) is made.call.ends;
      suffices = λ wrong m l marked h. omega (arith, ap ended wrong);
      goes_on = λ wrong. absurd (omega (arith, ap ended wrong));
    }

    pub step_full : result ≡ raw.OutputFull → IsReplacingStep encode need replacing old src dst dst' last (Some OutputFull) read written new
    step_full is = record {
      replaces = whole (ap (written_for encode) is) (ap (reports encode) is);
      leaves = room_whole;
      ends = subst (λ x. EndsReporting encode need src (length dst) last x read written new) is made.call.ends;
      suffices = λ wrong m l marked h. (made.between_reports m l marked h).0 is;
      goes_on = λ wrong. absurd (omega (arith, ap ended wrong));
    }

    -- a report needs some bytes
    some_bytes : (k second : ℕ) → result ≡ raw.Malformed k second → 0 < length old.pending + length src
    some_bytes k second is =
        let text = text_of [] (λ _. refl) in
        let counted = count_in (left old (src ++ [])).0 (left old (src ++ [])).1 text.parts (left new (drop read src ++ [])).1 text.yields.first in
        omega (arith, counted, text.malformed, ap (reports encode) is, left_within old (src ++ []), length-append src [])

    pub fits_after : (k second : ℕ) → result ≡ raw.Malformed k second
        → (((k' : ℕ) × (second' : ℕ) × (result ≡ raw.Malformed k' second')) → 0 < length old.pending + length src → written + need ≤ length dst)
        → written + need ≤ length dst
    fits_after k second is free = free (k, second, is) (some_bytes k second is)

    pub step_replaced : (sub units : List A) (k second : ℕ) → result ≡ raw.Malformed k second → units ≡ encode 0xFFFD → 0 < length units
        → WritesPrefix (take (length dst' - written) (drop written dst')) sub (length units) units
        → IsReplacingStep encode need replacing old src dst (put_mid written (length dst' - written) dst' sub) last None read (written + length units) new
    step_replaced sub units k second is same some puts = record {
      replaces = record {
        out = made.call.out ++ units;
        writes = WritesPrefix_after dst dst' written made.call.out sub (length units) units made.call.writes puts;
        within = made.call.within;
        yields = λ more none. subst (λ xs. YieldText encode (left old (src ++ more)) (left new (drop read src ++ more)) (made.call.out ++ xs) 1)
            (ap (written_for encode) is ∙ sym same)
            (subst (YieldText encode (left old (src ++ more)) (left new (drop read src ++ more)) (made.call.out ++ written_for encode result))
            (ap (reports encode) is) (text_of more none));
        keeps = made.call.keeps;
        at_most_three = made.call.at_most_three;
      };
      leaves = λ m l marked h. omega (arith, ap length same, made.replaced m l marked h (k, second, is));
      ends = tt;
      suffices = λ wrong m l marked h. omega (arith, ap ended wrong);
      goes_on = λ _. ((subst (λ x. EndsReporting encode need src (length dst) last x read written new) is made.call.ends).1, omega (arith, some));
    }

-- ---- some steps, and what follows them
module _ {A : Type 0} (encode : ℕ → List A) (need : ℕ) (replacing : Encoding → ℕ → ℕ → ℕ) (old mid new : DecoderState) (src : List ℕ) (dst dst' sub : List A)
    (last : Bool) (read written r w replaced more : ℕ) (first : AreReplacingSteps encode replacing old src dst dst' last read written replaced mid)
    (second : Replaces encode mid (take (length src - read) (drop read src)) (take (length dst' - written) (drop written dst')) sub last r w more new)
    (leaves : LeavesRoom replacing mid (take (length src - read) (drop read src)) (length (take (length dst' - written) (drop written dst'))) last r w new)
  where
    unread : take (length src - read) (drop read src) ≡ drop read src
    unread = take_rest src read

    size : length (take (length src - read) (drop read src)) ≡ length src - read
    size = ap length unread ∙ length-drop read src

    room : length (take (length dst' - written) (drop written dst')) ≡ length dst - written
    room = room_after encode need dst dst' written first.replaces.out first.replaces.writes

    rest : drop r (take (length src - read) (drop read src)) ≡ drop (read + r) src
    rest = ap (drop r) unread ∙ drop-drop r read src

    keeps_both : Keeps old src (read + r) new
    keeps_both =
        let before = first.replaces.keeps in
        let after = second.keeps in (
          before.0 ++ after.0,
          ap (λ xs. old.pending ++ xs) (take-add read r src) ∙ sym (append_assoc old.pending (take read src) (take r (drop read src)))
              ∙ ap (λ xs. xs ++ take r (drop read src)) before.1 ∙ append_assoc before.0 mid.pending (take r (drop read src))
              ∙ ap (λ xs. before.0 ++ (mid.pending ++ take r xs)) (sym unread) ∙ ap (λ xs. before.0 ++ xs) after.1
              ∙ sym (append_assoc before.0 after.0 new.pending),
        )

    replaces_after : Replaces encode old src dst (put_mid written (length dst' - written) dst' sub) last (read + r) (written + w) (replaced + more) new
    replaces_after = record {
      out = first.replaces.out ++ second.out;
      writes = WritesPrefix_after dst dst' written first.replaces.out sub w second.out first.replaces.writes second.writes;
      within = omega (arith, first.replaces.within, second.within, size);
      yields = λ rest_of none. YieldText-append encode _ _ _ _ _ _ _ (first.replaces.yields rest_of none)
          (subst (λ bs. YieldText encode (left mid (drop read src ++ rest_of)) (left new (bs ++ rest_of)) second.out more) rest
          (subst
          (λ bs. YieldText encode (left mid (bs ++ rest_of)) (left new (drop r (take (length src - read) (drop read src)) ++ rest_of)) second.out more) unread
          (second.yields rest_of none)));
      keeps = keeps_both;
      at_most_three = second.at_most_three;
    }

    leaves_after : LeavesRoom replacing old src (length dst) last (read + r) (written + w) new
    leaves_after = λ m l marked h.
        let here = first.leaves m l marked h in
        let there = leaves (m - read) (omega (arith, l, size)) (λ end. omega (arith, marked end, size)) (omega (arith, here, room)) in
        let same : queried replacing new (m - read - r) ≡ queried replacing new (m - (read + r)) = ap (queried replacing new) (omega arith) in
        omega (arith, there, same, room, first.replaces.writes.fits)

    ends_both : (x : CoderResult)
        → EndsReplacing encode need (take (length src - read) (drop read src)) (length (take (length dst' - written) (drop written dst')))
        last x r w new → EndsReplacing encode need src (length dst) last x (read + r) (written + w) new
    ends_both InputEmpty (all, end) = (omega (arith, all, size, first.replaces.within), end)
    ends_both OutputFull is_full =
        let free : length (take (length dst' - written) (drop written dst')) - w ≡ length dst - (written + w) = omega (arith, room) in
        record {
          little = omega (arith, is_full.little, room, first.replaces.writes.fits);
          more = omega (arith, is_full.more, size);
          next_too_long = λ none begins. is_full.next_too_long none
              (subst (FittingBeginsIn new.encoding encode _) (sym free)
              (subst (λ bs. FittingBeginsIn new.encoding encode bs (length dst - (written + w))) (sym rest) begins));
        }

    -- ---- a call
    pub call_after : (x : CoderResult)
        → EndsReplacing encode need (take (length src - read) (drop read src)) (length (take (length dst' - written) (drop written dst')))
        last x r w new
        → IsReplacingCall encode need old src dst (put_mid written (length dst' - written) dst' sub) last x (read + r) (written + w) (replaced + more) new
    call_after x ends = record { replaces = replaces_after; ends = ends_both x ends }

    pub suffices_after : (x : CoderResult)
        → SufficesReplacing replacing mid (take (length src - read) (drop read src)) (length (take (length dst' - written) (drop written dst'))) last x r w new
        → SufficesReplacing replacing old src (length dst) last x (read + r) (written + w) new
    suffices_after x suffices = λ m l marked h. (
      (suffices (m - read) (omega (arith, l, size)) (λ end. omega (arith, marked end, size)) (omega (arith, first.leaves m l marked h, room))).0,
      leaves_after m l marked h,
    )

-- ---- one step: the whole call, or the first of some
module _ {A : Type 0} (encode : ℕ → List A) (need : ℕ) (replacing : Encoding → ℕ → ℕ → ℕ) (old : DecoderState) (src : List ℕ) (dst dst' : List A)
    (last : Bool) (result : Option CoderResult) (read written : ℕ) (new : DecoderState)
    (step : IsReplacingStep encode need replacing old src dst dst' last result read written new) where
  pub call_of_step : (x : CoderResult) → result ≡ Some x → IsReplacingCall encode need old src dst dst' last x read written 0 new
  call_of_step x is = record {
    replaces = subst (λ o. Replaces encode old src dst dst' last read written (replaced_by o) new) is step.replaces;
    ends = rw is at step.ends;
  }

  pub suffices_of_step : (x : CoderResult) → result ≡ Some x → SufficesReplacing replacing old src (length dst) last x read written new
  suffices_of_step x is = λ m l marked h. (λ e. step.suffices (is ∙ ap (λ y. Some y) e) m l marked h, step.leaves m l marked h)

  pub first_step : result ≡ None → AreReplacingSteps encode replacing old src dst dst' last read written 1 new
  first_step is = record {
    replaces = subst (λ o. Replaces encode old src dst dst' last read written (replaced_by o) new) is step.replaces;
    leaves = step.leaves;
    few = (step.goes_on is).1;
  }

-- ---- some steps, and then one
module _ {A : Type 0} (encode : ℕ → List A) (need : ℕ) (replacing : Encoding → ℕ → ℕ → ℕ) (old mid new : DecoderState) (src : List ℕ) (dst dst' sub : List A)
    (last : Bool) (read written r w replaced : ℕ) (first : AreReplacingSteps encode replacing old src dst dst' last read written replaced mid)
    (result : Option CoderResult)
    (second : IsReplacingStep encode need replacing mid (take (length src - read) (drop read src)) (take (length dst' - written) (drop written dst')) sub last
    result r w new) where
  pub call_both : (x : CoderResult) → result ≡ Some x
      → IsReplacingCall encode need old src dst (put_mid written (length dst' - written) dst' sub) last x (read + r) (written + w) replaced new
  call_both x is =
      let call = call_of_step encode need replacing mid _ _ sub last result r w new second x is in
      subst (λ n. IsReplacingCall encode need old src dst (put_mid written (length dst' - written) dst' sub) last x (read + r)
      (written + w) n new) (omega arith)
      (call_after encode need replacing old mid new src dst dst' sub last read written r w replaced 0 first call.replaces second.leaves x call.ends)

  pub suffices_both : (x : CoderResult) → result ≡ Some x → SufficesReplacing replacing old src (length dst) last x (read + r) (written + w) new
  suffices_both x is =
      suffices_after encode need replacing old mid new src dst dst' sub last read written r w replaced
      (replaced_by result) first second.replaces second.leaves x
      (suffices_of_step encode need replacing mid _ _ sub last result r w new second x is)

  -- fewer bytes are left
  pub shrinks : result ≡ None → length new.pending + (length (take (length src - read) (drop read src)) - r) < length mid.pending + (length src - read)
  shrinks is =
      let g = second.replaces.yields [] (λ _. refl) in
      let counted =
      count_in (left mid (take (length src - read) (drop read src) ++ [])).0 (left mid (take (length src - read) (drop read src) ++ [])).1 g.parts _
      g.yields.first in
      omega (
        arith,
        counted,
        g.malformed,
        ap replaced_by is,
        left_within mid (take (length src - read) (drop read src) ++ []),
        length-append (take (length src - read) (drop read src)) [],
        ap length (take_rest src read),
        length-drop read src,
        left_off new (drop r (take (length src - read) (drop read src)) ++ []) (second.goes_on is).0,
        length-append (drop r (take (length src - read) (drop read src))) [],
        length-drop r (take (length src - read) (drop read src)),
      )

  pub steps_both : result ≡ None → AreReplacingSteps encode replacing old src dst (put_mid written (length dst' - written) dst' sub) last
      (read + r) (written + w) (replaced + 1) new
  steps_both is = record {
    replaces = subst (λ n. Replaces encode old src dst (put_mid written (length dst' - written) dst' sub) last (read + r) (written + w) n new)
        (ap (λ o. replaced + replaced_by o) is)
        (replaces_after encode need replacing old mid new src dst dst' sub last read written r w replaced
        (replaced_by result) first second.replaces second.leaves);
    leaves = leaves_after encode need replacing old mid new src dst dst' sub last read written r w replaced
        (replaced_by result) first second.replaces second.leaves;
    few = omega (arith, first.few, (second.goes_on is).1);
  }

less_none : (m : ℕ) → m - 0 ≡ m
less_none m = omega arith

-- before the first step
pub no_steps : {A : Type 0} (encode : ℕ → List A) (replacing : Encoding → ℕ → ℕ → ℕ) (old : DecoderState) (src : List ℕ) (dst : List A) (last : Bool)
    → length old.pending ≤ 3 → AreReplacingSteps encode replacing old src dst dst last 0 0 0 old
no_steps encode replacing old src dst last few = record {
  replaces = record {
    out = [];
    writes = record { count = refl; fits = omega arith; placed = refl };
    within = omega arith;
    yields = λ more none. YieldText-nil encode (left old (src ++ more));
    keeps = ([], append-nil old.pending);
    at_most_three = few;
  };
  leaves = λ m l marked h. omega (arith, h, ap (queried replacing old) (less_none m));
  few = omega arith;
}
