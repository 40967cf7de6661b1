-- What is pending after a call that reports, and the lengths that it reports.
use Rattle.std.proofs.Common.{◌≡◌, ℕ, ◌-◌, ◌<◌, ◌≤◌, ◌⊎◌, inl, inr, Bool, true, false, List, [], ◌∷◌, ◌++◌, length, drop, refl, sym, ap, subst, ◌∙◌, arith}
use Rattle.std.proofs.Common.{append-nil, length-append}
use Rattle.std.specs.Prelude.{Option, None, Some}
use Rattle.std.specs.Char.{IsScalar}
use Rattle.std.proofs.lemmas.Bool.{both_ways, cases_lt}
use Rattle.std.proofs.lemmas.List.{append_cancel_right, nil_from_length}
use Rattle.encoding_text.specs.declared.decoder.DecoderResult.{DecoderResult}
use Rattle.encoding_text.specs.declared.decoder.DecoderResult.TheVariants.{InputEmpty, OutputFull, Malformed}
use Rattle.encoding_text.specs.declared.utf_16.ByteOrder.TheVariants.{LittleEndian, BigEndian}
use Rattle.encoding_runs.proofs.RepairLemmas.{pending_length}
use Rattle.encoding_streams.specs.declared.encoding.Encoding.{Encoding}
use Rattle.encoding_streams.specs.declared.encoding.Encoding.TheVariants.{Utf8, Utf16Le, Utf16Be}
use Rattle.encoding_streams.specs.declared.encoding.BomHandling.{BomHandling}
use Rattle.encoding_streams.specs.Marks.{begins_mark, found_mark, mark}
use Rattle.encoding_streams.specs.Decoders.{DecoderState}
use Rattle.encoding_streams.specs.ExactCalls.{StepIn, IsPendingIn, IsPendingOf, AfterPending, AreReportLengths, Decodes, DecodesFrom, DecodesSource}
use Rattle.encoding_streams.specs.ExactCalls.{IsExactCall, IsIdle, MakesNoProgress, NeedsSpaceAtEnd, Waits, start_after}
use Rattle.encoding_streams.proofs.PendingStepLemmas.{HeldSo, IsHeld, begun_held, held_so, nothing_pending, rest_all, rest_full, step_lengths, step_pending}
use Rattle.encoding_streams.proofs.ReportedCallLemmas.{kind, not_full}
use Rattle.encoding_streams.proofs.SniffLemmas.{begun_short}
use Rattle.encoding_streams.proofs.Utf16ByteLemmas.{length-pending}

-- ---- what is known of the arguments
pub idle : (src : List ℕ) (last : Bool) → IsIdle src last ⊎ (IsIdle src last → ⊥)
idle src true = inr (λ i. both_ways true i.1 refl)
idle [] false = inl (refl, refl)
idle (b ∷ src) false = inr (λ i. omega (arith, i.0))

pub waits : (old : DecoderState) (src : List ℕ) (last : Bool) → Waits old src last ⊎ (Waits old src last → ⊥)
waits old src true = inr (λ w. both_ways true w.0 refl)
waits old src false = by (begins_mark old.bom old.encoding (old.pending ++ src)) refl
  where
    by : (b : Bool) → begins_mark old.bom old.encoding (old.pending ++ src) ≡ b → Waits old src false ⊎ (Waits old src false → ⊥)
    by true e = inl (refl, e)
    by false e = inr (λ w. both_ways _ e w.1)

pub wants : (need : ℕ) (q src : List ℕ) (room : ℕ) (last : Bool) → NeedsSpaceAtEnd need q src room last ⊎ (NeedsSpaceAtEnd need q src room last → ⊥)
wants need q src room false = inr (λ (none, marked, some, little). both_ways _ refl marked)
wants need q (b ∷ src) room true = inr (λ (none, marked, some, little). omega (arith, none))
wants need [] [] room true = inr (λ (none, marked, some, little). omega (arith, some))
wants need (b ∷ q) [] room true = elim (cases_lt room need) [
  | inl little ↦ inl (refl, refl, omega arith, little)
  | inr enough ↦ inr (λ (none, marked, some, little). omega (arith, enough, little))
]

pub at_most_three : (bom : BomHandling) (e : Encoding) (p : List ℕ) → IsPendingOf bom e p → length p ≤ 3
at_most_three bom e p (inl begins) = omega (arith, begun_short bom e p begins)
at_most_three bom Utf8 p (inr decided) = pending_length p decided.1
at_most_three bom Utf16Le p (inr decided) = length-pending LittleEndian p decided.1
at_most_three bom Utf16Be p (inr decided) = length-pending BigEndian p decided.1

no_report : (k second : ℕ) → OutputFull ≡ Malformed k second → ⊥
no_report k second wrong = omega (arith, ap kind wrong)

module _ {A : Type 0} where
  -- whether a call makes progress
  pub progress : (result : DecoderResult) (read : ℕ) (out : List A) → MakesNoProgress result read out ⊎ (MakesNoProgress result read out → ⊥)
  progress InputEmpty read out = inr (λ no_progress. not_full no_progress.0)
  progress (Malformed k second) read out = inr (λ no_progress. no_report k second (sym no_progress.0))
  progress OutputFull read (x ∷ out) = inr (λ no_progress. omega (arith, ap length no_progress.2))
  progress OutputFull read [] = elim (cases_lt 0 read) [
    | inl some ↦ inr (λ no_progress. omega (arith, some, no_progress.1))
    | inr none ↦ inl (refl, omega (arith, none), refl)
  ]

  first_nil : (xs ys : List A) → [] ≡ xs ++ ys → xs ≡ []
  first_nil xs ys is = nil_from_length xs (omega (arith, ap length is, length-append xs ys))

  second_nil : (xs ys : List A) → [] ≡ xs ++ ys → ys ≡ []
  second_nil xs ys is = nil_from_length ys (omega (arith, ap length is, length-append xs ys))

module _ {A : Type 0} (encode : ℕ → List A) (need : ℕ) where
  -- ---- the pending bytes of a call that makes no progress stay
  module _ (longer : (c : ℕ) → IsScalar c → 0 < length (encode c)) where
    same_source : (e : Encoding) (q src : List ℕ) (room : ℕ) (last : Bool) (out : List A) (r : List ℕ) → out ≡ []
        → DecodesSource encode need e q src room last OutputFull 0 out r → r ≡ q
    same_source e q src room last out r none made = elim (wants need q src room last) [
      | inl w ↦ (made.full w).3
      | inr w ↦ append_cancel_right r q src (rest_full encode need longer e q src room last 0 out r (made.step w) none)
    ]

    same_after : (e : Encoding) (p src : List ℕ) (room left : ℕ) (last : Bool) (ended : DecoderResult) (taken : ℕ) (out more : List A) (q r : List ℕ)
        → out ≡ [] → more ≡ [] → StepIn encode need e [] p room false ended taken out q
        → AfterPending encode need e p taken q src left last ended OutputFull 0 more r → r ≡ p
    same_after e p src room left last InputEmpty taken out more q r none no_more held after =
        same_source e q src left last more r no_more after ∙ rest_all encode need longer e [] p room false taken out q held none
    same_after e p src room left last OutputFull taken out more q r none no_more held after =
        after.3 ∙ rest_full encode need longer e [] p room false taken out q held none
    same_after e p src room left last (Malformed k second) taken out more q r none no_more held after = absurd (no_report k (length r) after.0)

    pub same_pending : (e : Encoding) (p src : List ℕ) (room : ℕ) (last : Bool) (result : DecoderResult) (read : ℕ) (out : List A) (r : List ℕ)
        → MakesNoProgress result read out → Decodes encode need e p src room last result read out r → r ≡ p
    same_pending e p src room last result read out r (full, none, nothing) made = stays p
        (subst (λ x. Decodes encode need e p src room last x 0 [] r) full
        (subst (λ n. Decodes encode need e p src room last result n [] r) none
        (subst (λ xs. Decodes encode need e p src room last result read xs r) nothing made)))
      where
        stays : (p : List ℕ) → Decodes encode need e p src room last OutputFull 0 [] r → r ≡ p
        stays [] d = append_cancel_right r [] src (rest_full encode need longer e [] src room last 0 [] r d refl)
        stays (b ∷ p) d = elim (idle src last) [
          | inl i ↦ absurd (not_full (sym (d.0 i).0))
          | inr i ↦
              let x = d.1 i in
              same_after e (b ∷ p) src room (room - length x.first) last x.ended x.taken x.first x.more x.q r (first_nil x.first x.more x.out_is)
              (second_nil x.first x.more x.out_is) x.pending x.after
        ]

  -- ---- what is pending after any other call
  after_source : (e : Encoding) (q src : List ℕ) (room : ℕ) (last : Bool) (result : DecoderResult) (read : ℕ) (out : List A) (r : List ℕ)
      → IsPendingIn e q → DecodesSource encode need e q src room last result read out r → IsPendingIn e r
  after_source e q src room last result read out r pending made = elim (wants need q src room last) [
    | inl w ↦ subst (IsPendingIn e) (sym (made.full w).3) pending
    | inr w ↦ step_pending encode need e q src room last result read out r (made.step w)
  ]

  after_held : (e : Encoding) (p src : List ℕ) (room left : ℕ) (last : Bool) (ended result : DecoderResult) (taken read : ℕ) (out more : List A)
      (q r : List ℕ) → HeldSo encode need ended out (q ++ drop taken p) → StepIn encode need e [] p room false ended taken out q
      → (MakesNoProgress result read (out ++ more) → ⊥) → AfterPending encode need e p taken q src left last ended result read more r
      → IsPendingIn e r
  after_held e p src room left last InputEmpty result taken read out more q r held step moves after =
      after_source e q src left last result read more r (step_pending encode need e [] p room false InputEmpty taken out q step) after
  after_held e p src room left last OutputFull result taken read out more q r held step moves after =
      absurd (moves (after.0, after.1, λ i. held i ++ after.2 i))
  after_held e p src room left last (Malformed k second) result taken read out more q r held step moves after =
      subst (IsPendingIn e) (sym (after.3 ∙ held.1)) (nothing_pending e)

  pub pending_after : (e : Encoding) (p src : List ℕ) (room : ℕ) (last : Bool) (result : DecoderResult) (read : ℕ) (out : List A) (r : List ℕ)
      → IsHeld e p → (IsIdle src last → IsPendingIn e p) → (MakesNoProgress result read out → ⊥)
      → Decodes encode need e p src room last result read out r → IsPendingIn e r
  pending_after e [] src room last result read out r held at_rest moves d = step_pending encode need e [] src room last result read out r d
  pending_after e (b ∷ p) src room last result read out r held at_rest moves d = elim (idle src last) [
    | inl i ↦ subst (IsPendingIn e) (sym (d.0 i).3) (at_rest i)
    | inr i ↦
        let x = d.1 i in
        after_held e (b ∷ p) src room (room - length x.first) last x.ended result x.taken read x.first x.more x.q r
        (held_so encode need e (b ∷ p) room x.ended x.taken x.first x.q held x.pending) x.pending
        (λ no_progress. moves (no_progress.0, no_progress.1, x.out_is ∙ no_progress.2)) x.after
  ]

  pub held_of : (bom : BomHandling) (e : Encoding) (p : List ℕ) → IsPendingOf bom e p → IsHeld e p
  held_of bom e p (inl begins) = begun_held bom e p begins
  held_of bom e p (inr decided) = inl decided.1

  abbrev IsPendingOfState : DecoderState → Type 0
  IsPendingOfState s = IsPendingOf s.bom s.encoding s.pending

  pub exact_pending : (old : DecoderState) (src : List ℕ) (room : ℕ) (last : Bool) (result : DecoderResult) (read : ℕ) (out : List A) (new : DecoderState)
      → IsPendingOf old.bom old.encoding old.pending → IsExactCall encode need old src room last result read out new
      → IsPendingOf new.bom new.encoding new.pending
  exact_pending old src room last result read out new pending made = elim (waits old src last) [
    | inl w ↦ subst IsPendingOfState (sym (made.waits w).3) (inl w.1)
    | inr w ↦ elim (progress result read out) [
      | inl no_progress ↦ subst IsPendingOfState (sym ((made.decodes w).unchanged no_progress)) pending
      | inr moves ↦ from w moves (found_mark old.bom old.encoding (old.pending ++ src)) (made.decodes w)
    ]
  ]
    where
      at_rest : (Waits old src last → ⊥) → IsPendingOf old.bom old.encoding old.pending → IsIdle src last → IsPendingIn old.encoding old.pending
      at_rest w (inr decided) i = decided.1
      at_rest w (inl begins) i =
          absurd
          (w (
            i.1,
            subst (λ bs. begins_mark old.bom old.encoding bs ≡ true)
                (sym (ap (λ bs. old.pending ++ bs) (nil_from_length src i.0) ∙ append-nil old.pending)) begins,
          ))

      from : (Waits old src last → ⊥) → (MakesNoProgress result read out → ⊥) → (found : Option Encoding)
          → DecodesFrom encode need old (start_after old found) src room last result read out new → IsPendingOf new.bom new.encoding new.pending
      from w moves None d =
          let kept = pending_after old.encoding old.pending src room last result (read - 0) out new.pending
          (held_of old.bom old.encoding old.pending pending) (at_rest w pending)
          (λ no_progress. moves (no_progress.0, omega (arith, no_progress.1), no_progress.2)) d.decodes in
          subst IsPendingOfState (sym (d.decided moves)) (inr (refl, kept))
      from w moves (Some m) d = subst IsPendingOfState (sym (d.decided moves)) (inr (
        refl,
        step_pending encode need m [] _ room last result
            (read - (length (mark m) - length old.pending)) out new.pending d.decodes,
      ))

  -- ---- the lengths of a report
  lengths_source : (e : Encoding) (q src : List ℕ) (room : ℕ) (last : Bool) (result : DecoderResult) (read : ℕ) (out : List A) (r : List ℕ)
      → DecodesSource encode need e q src room last result read out r → AreReportLengths result
  lengths_source e q src room last result read out r made = elim (wants need q src room last) [
    | inl w ↦ subst AreReportLengths (sym (made.full w).0) tt
    | inr w ↦ step_lengths encode need e q src room last result read out r (made.step w)
  ]

  lengths_held : (e : Encoding) (p src : List ℕ) (left : ℕ) (last : Bool) (ended result : DecoderResult) (taken read : ℕ) (out more : List A) (q r : List ℕ)
      → HeldSo encode need ended out (q ++ drop taken p) → AfterPending encode need e p taken q src left last ended result read more r
      → AreReportLengths result
  lengths_held e p src left last InputEmpty result taken read out more q r held after = lengths_source e q src left last result read more r after
  lengths_held e p src left last OutputFull result taken read out more q r held after = subst AreReportLengths (sym after.0) tt
  lengths_held e p src left last (Malformed k second) result taken read out more q r held after =
      subst AreReportLengths (sym after.0)
      (omega (arith, held.0), omega (arith, held.0), omega (arith, ap length (after.3 ∙ held.1)))

  lengths_of : (e : Encoding) (p src : List ℕ) (room : ℕ) (last : Bool) (result : DecoderResult) (read : ℕ) (out : List A) (r : List ℕ) → IsHeld e p
      → Decodes encode need e p src room last result read out r → AreReportLengths result
  lengths_of e [] src room last result read out r held d = step_lengths encode need e [] src room last result read out r d
  lengths_of e (b ∷ p) src room last result read out r held d = elim (idle src last) [
    | inl i ↦ subst AreReportLengths (sym (d.0 i).0) tt
    | inr i ↦
        let x = d.1 i in
        lengths_held e (b ∷ p) src (room - length x.first) last x.ended result x.taken read x.first x.more x.q r
        (held_so encode need e (b ∷ p) room x.ended x.taken x.first x.q held x.pending) x.after
  ]

  pub exact_lengths : (old : DecoderState) (src : List ℕ) (room : ℕ) (last : Bool) (result : DecoderResult) (read : ℕ) (out : List A) (new : DecoderState)
      → IsPendingOf old.bom old.encoding old.pending → IsExactCall encode need old src room last result read out new → AreReportLengths result
  exact_lengths old src room last result read out new pending made = elim (waits old src last) [
    | inl w ↦ subst AreReportLengths (sym (made.waits w).0) tt
    | inr w ↦ from (found_mark old.bom old.encoding (old.pending ++ src)) (made.decodes w)
  ]
    where
      from : (found : Option Encoding) → DecodesFrom encode need old (start_after old found) src room last result read out new → AreReportLengths result
      from None d = lengths_of old.encoding old.pending src room last result (read - 0) out new.pending
          (held_of old.bom old.encoding old.pending pending) d.decodes
      from (Some m) d = step_lengths encode need m [] _ room last result (read - (length (mark m) - length old.pending)) out new.pending d.decodes
