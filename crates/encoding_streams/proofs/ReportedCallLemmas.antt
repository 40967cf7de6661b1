-- Calls that report, with what the queries promise of them: of pending bytes and of a source.
use Rattle.std.proofs.Common.{◌≡◌, ◌≢◌, ℕ, ◌+◌, ◌-◌, ◌<◌, ◌≤◌, inl, inr, ◌⊎◌, Bool, true, false, List, [], ◌++◌, length, take, drop, refl, sym, ap, subst, ◌∙◌}
use Rattle.std.proofs.Common.{arith, append-nil}
use Rattle.std.specs.Prelude.{Some}
use Rattle.std.proofs.lemmas.Bool.{cases_lt}
use Rattle.encoding_definitions.proofs.PrefixesLemmas.{WritesPrefix-length}
use borrow.Rule.Slice.PartMut.{put_mid}
use Rattle.encoding_text.specs.Decoding.{IsReport}
use Rattle.encoding_text.specs.declared.decoder.DecoderResult.{DecoderResult}
use Rattle.encoding_text.specs.declared.decoder.DecoderResult.TheVariants.{InputEmpty, OutputFull, Malformed}
use Rattle.encoding_streams.specs.declared.encoding.Encoding.{Encoding}
use Rattle.encoding_streams.specs.declared.decoder.inner.Inner.{Inner}
use Rattle.encoding_streams.specs.Decoders.{DecoderState, IsReportingCall, EndsReporting, decoding}
use Rattle.encoding_streams.specs.DecoderSteps.{IsStop, Reports, state_of}
use Rattle.encoding_streams.specs.ExactCalls.{reported_with}
use Rattle.encoding_streams.proofs.DecoderCallLemmas.{inner_stays, room_after, two_calls, two_suffice, two_replaced, held_ends, held_suffice, held_replaced}
use Rattle.encoding_streams.proofs.DecoderCallLemmas.{stopped, room_left, held_whole}

abbrev pub kind : DecoderResult → ℕ
kind InputEmpty = 0
kind OutputFull = 1
kind (Malformed k second) = 2

pub not_full : InputEmpty ≡ OutputFull → ⊥
not_full wrong = omega (arith, ap kind wrong)

pub not_report : (x : DecoderResult) → x ≡ InputEmpty → IsReport x → ⊥
not_report x e (k, second, is) = omega (arith, ap kind (sym e ∙ is))

pub full_no_report : IsReport OutputFull → ⊥
full_no_report (k, second, is) = omega (arith, ap kind is)

module _ {A : Type 0} (encode : ℕ → List A) (need : ℕ) (query replacing : Encoding → ℕ → ℕ → ℕ) where
  pub inner_now : (e : Encoding) (p : List ℕ) (i j : Inner) (src : List ℕ) (dst dst' : List A) (last : Bool) (result : DecoderResult) (read written : ℕ)
      → state_of i ≡ decoding e p → IsReportingCall encode need (state_of i) src dst dst' last result read written (state_of j)
      → state_of j ≡ decoding e (state_of j).pending
  inner_now e p i j src dst dst' last result read written is call =
      inner_stays encode need i j src dst dst' last result read written call ∙ ap (λ s. decoding s.encoding (state_of j).pending) is

  pub inner_reports : (e : Encoding) (p : List ℕ) (i j : Inner) (src : List ℕ) (dst dst' : List A) (last : Bool) (result : DecoderResult) (read written : ℕ)
      → state_of i ≡ decoding e p → Reports encode need query replacing (state_of i) src dst dst' last result read written (state_of j)
      → Reports encode need query replacing (decoding e p) src dst dst' last result read written (decoding e (state_of j).pending)
  inner_reports e p i j src dst dst' last result read written is made =
      subst (λ s. Reports encode need query replacing s src dst dst' last result read written (decoding e (state_of j).pending)) is
      (subst (Reports encode need query replacing (state_of i) src dst dst' last result read written)
      (inner_now e p i j src dst dst' last result read written is made.call) made)

  -- ---- what is free after a report
  pub free_of : (src : List ℕ) (space : ℕ) (last : Bool) (result : DecoderResult) (read written : ℕ) (new : DecoderState)
      → EndsReporting encode need src space last result read written new → IsReport result → 0 < length src → written + need ≤ space
  free_of src space last InputEmpty read written new ends report some = absurd (not_report InputEmpty refl report)
  free_of src space last OutputFull read written new ends report some = absurd (full_no_report report)
  free_of src space last (Malformed k second) read written new (count, off, big) report some = big some

  pub free_held : (held : List ℕ) (room : ℕ) (last : Bool) (ended result : DecoderResult) (n read written : ℕ) (new : DecoderState)
      → result ≡ reported_with ended n
      → EndsReporting encode need held room last ended read written new → IsReport result → 0 < length held → written + need ≤ room
  free_held held room last ended result n read written new is ends report some =
      free_of held room last ended read written new ends (before ended (subst IsReport is report)) some
    where
      before : (x : DecoderResult) → IsReport (reported_with x n) → IsReport x
      before InputEmpty r = r
      before OutputFull r = r
      before (Malformed k second) r = (k, second, refl)

  module _ (grows : (e : Encoding) (n p m q : ℕ) → n + p ≤ m + q → query e n p ≤ query e m q)
      (grows' : (e : Encoding) (n p m q : ℕ) → n + p ≤ m + q → replacing e n p ≤ replacing e m q) (e : Encoding) (p held q src : List ℕ) (dst dst1 : List A)
      (last : Bool) (ended : DecoderResult) (taken w : ℕ) (is : held ≡ p)
      (first : Reports encode need query replacing (decoding e []) held dst dst1 false ended taken w (decoding e q)) where
    pub two_reports : (sub : List A) (result : DecoderResult) (read written : ℕ) (r final : List ℕ) → ended ≡ InputEmpty → final ≡ r
        → Reports encode need query replacing (decoding e q) src (take (length dst1 - w) (drop w dst1)) sub last result read written (decoding e r)
        → Reports encode need query replacing (decoding e p) src dst (put_mid w (length dst1 - w) dst1 sub) last result read (w + written) (decoding e final)
    two_reports sub result read written r final all same second =
        subst (λ xs. Reports encode need query replacing (decoding e xs) src dst (put_mid w (length dst1 - w) dst1 sub) last result read (w + written)
        (decoding e final)) is
        (subst (λ xs. Reports encode need query replacing (decoding e held) src dst (put_mid w (length dst1 - w) dst1 sub) last result read (w + written)
        (decoding e xs)) (sym same) (record {
          call = two_calls encode need e held q src dst dst1 last ended taken w first.call sub all result read written r second.call;
          suffices = two_suffice encode need e held q src dst dst1 last ended taken w first.call sub all result read written r second.call query
              grows first.suffices
              second.suffices;
          between_reports =
              two_suffice encode need e held q src dst dst1 last ended taken w first.call sub all result read written r second.call replacing grows'
              first.between_reports
              second.between_reports;
          replaced =
              two_replaced encode need e held q src dst dst1 last ended taken w first.call sub all result read written r second.call replacing grows'
              first.between_reports (length (encode 0xFFFD)) second.replaced;
        }))

    pub held_reports : (result : DecoderResult) (n : ℕ) (final : List ℕ) → ended ≢ InputEmpty → 0 < length p → length p ≤ 3
        → final ≡ q ++ drop taken held → n ≡ length (q ++ drop taken held) → result ≡ reported_with ended n
        → Reports encode need query replacing (decoding e p) src dst dst1 last result 0 w (decoding e final)
    held_reports result n final unread some few same count ends =
        let more : 0 < length held = omega (arith, some, ap length is) in
        let little : length held ≤ 3 = omega (arith, few, ap length is) in
        subst (λ xs. Reports encode need query replacing (decoding e xs) src dst dst1 last result 0 w (decoding e final)) is
        (subst (λ xs. Reports encode need query replacing (decoding e held) src dst dst1 last result 0 w (decoding e xs)) (sym same)
        (subst (λ x. Reports encode need query replacing (decoding e held) src dst dst1 last x 0 w (decoding e (q ++ drop taken held)))
        (ap (reported_with ended) (sym count) ∙ sym ends) (record {
          call = held_ends encode need e held q src dst dst1 last ended taken w first.call unread more little;
          suffices = held_suffice encode need e held q src dst dst1 last ended taken w first.call unread more little query grows first.suffices;
          between_reports = held_suffice encode need e held q src dst dst1 last ended taken w first.call unread more little replacing grows'
              first.between_reports;
          replaced =
              held_replaced encode need e held q src dst dst1 last ended taken w first.call unread more little replacing grows'
              (length (encode 0xFFFD)) first.replaced;
        })))

    -- ---- with nothing to read
    pub empty_reports : (final : List ℕ) → ended ≡ InputEmpty → length src ≡ 0 → (last ≡ true → q ≡ []) → final ≡ q
        → Reports encode need query replacing (decoding e p) src dst dst1 last InputEmpty 0 w (decoding e final)
    empty_reports final all nothing end same =
        subst (λ xs. Reports encode need query replacing (decoding e xs) src dst dst1 last InputEmpty 0 w (decoding e final)) is
        (subst (λ xs. Reports encode need query replacing (decoding e held) src dst dst1 last InputEmpty 0 w (decoding e xs)) (sym same) (record {
          call = stopped encode need e held q src dst dst1 last ended taken w first.call all nothing InputEmpty (inl refl)
              (sym nothing, λ marked. (refl, end marked));
          suffices = λ m l marked h. (
            not_full,
            omega (
              arith,
              room_left encode need e held q src dst dst1 last ended taken w first.call all nothing query grows first.suffices m h,
              grows e (m - 0) (length q) m (length q) (omega arith),
            ),
          );
          between_reports = λ m l marked h. (
            not_full,
            omega (
              arith,
              room_left encode need e held q src dst dst1 last ended taken w first.call all nothing replacing grows' first.between_reports m h,
              grows' e (m - 0) (length q) m (length q) (omega arith),
            ),
          );
          replaced = λ m l marked h report. absurd (not_report InputEmpty refl report);
        }))

    pub full_reports : (final : List ℕ) → ended ≡ InputEmpty → length src ≡ 0 → 0 < length q → length dst < w + need
        → ((e : Encoding) (n p : ℕ) → 0 < p → need ≤ query e n p) → ((e : Encoding) (n p : ℕ) → 0 < p → need ≤ replacing e n p) → final ≡ q
        → Reports encode need query replacing (decoding e p) src dst dst1 last OutputFull 0 w (decoding e final)
    full_reports final all nothing some little holds holds' same =
        subst (λ xs. Reports encode need query replacing (decoding e xs) src dst dst1 last OutputFull 0 w (decoding e final)) is
        (subst (λ xs. Reports encode need query replacing (decoding e held) src dst dst1 last OutputFull 0 w (decoding e xs)) (sym same) (record {
          call = stopped encode need e held q src dst dst1 last ended taken w first.call all nothing OutputFull (inr refl) (record {
            little = little;
            more = omega (arith, some);
            next_too_long = λ none begins. omega (arith, some, ap length none);
          });
          suffices = λ m l marked h. absurd (omega (
            arith,
            room_left encode need e held q src dst dst1 last ended taken w first.call all nothing query grows first.suffices m h,
            holds e m (length q) some,
            little,
          ));
          between_reports = λ m l marked h. absurd (omega (
            arith,
            room_left encode need e held q src dst dst1 last ended taken w first.call all nothing replacing grows' first.between_reports m h,
            holds' e m (length q) some,
            little,
          ));
          replaced = λ m l marked h report. absurd (full_no_report report);
        }))

    pub stop_reports : (result : DecoderResult) (final : List ℕ) → ended ≡ InputEmpty → IsStop need q src (length dst1 - w) last (Some result)
        → ((e : Encoding) (n p : ℕ) → 0 < p → need ≤ query e n p) → ((e : Encoding) (n p : ℕ) → 0 < p → need ≤ replacing e n p) → final ≡ q
        → Reports encode need query replacing (decoding e p) src dst dst1 last result 0 w (decoding e final)
    stop_reports InputEmpty final all (nothing, end) holds holds' same = empty_reports final all nothing end same
    stop_reports OutputFull final all (nothing, some, little, marked) holds holds' same =
        full_reports final all nothing some (omega (
          arith,
          little,
          first.call.writes.fits,
          WritesPrefix-length dst dst1 w first.call.out first.call.writes,
        )) holds holds' same
    stop_reports (Malformed k second) final all never holds holds' same = absurd never

    pub stop_free : (result : DecoderResult) → IsStop need q src (length dst1 - w) last (Some result) → IsReport result → w + need ≤ length dst
    stop_free InputEmpty stop report = absurd (not_report InputEmpty refl report)
    stop_free OutputFull stop report = absurd (full_no_report report)
    stop_free (Malformed k second) stop report = absurd stop

    pub stop_nothing : (result : DecoderResult) → IsStop need q src (length dst1 - w) last (Some result) → length src ≡ 0
    stop_nothing InputEmpty stop = stop.0
    stop_nothing OutputFull stop = stop.0
    stop_nothing (Malformed k second) stop = absurd stop

    pub held_kept : ended ≡ InputEmpty → length src ≡ 0 → (before : List ℕ) × (held ++ [] ≡ before ++ q)
    held_kept all nothing = (first.call.keeps.0, append-nil held ∙ held_whole encode need e held q src dst dst1 last ended taken w first.call all nothing)

    -- after the second call
    pub two_free : (sub : List A) (result : DecoderResult) (read written : ℕ) (r : List ℕ)
        → Reports encode need query replacing (decoding e q) src (take (length dst1 - w) (drop w dst1)) sub last result read written (decoding e r)
        → (length src ≡ 0 → written ≡ 0) → (0 < length src) ⊎ (need ≤ length dst1 - w) → IsReport result → w + written + need ≤ length dst
    two_free sub result read written r second quiet goes_on report =
        let space = room_after encode need dst dst1 w first.call.out first.call.writes in
        elim (cases_lt 0 (length src)) [
          | inl some ↦ omega (arith, free_of src _ last result read written (decoding e r) second.call.ends report some, space, first.call.writes.fits)
          | inr none ↦ elim goes_on [
            | inl some ↦ omega (arith, some, none)
            | inr enough ↦ omega (
              arith,
              enough,
              quiet (omega (arith, none)),
              first.call.writes.fits,
              WritesPrefix-length dst dst1 w first.call.out first.call.writes,
            )
          ]
        ]
