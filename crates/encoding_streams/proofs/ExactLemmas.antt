-- Exactly what a call that reports returns: of the pending bytes and the source, and after a mark.
use Rattle.std.proofs.Common.{◌≡◌, ◌≢◌, ℕ, ◌+◌, ◌-◌, ◌<◌, inl, inr, ◌⊎◌, Bool, true, false, List, [], ◌∷◌, ◌++◌, length, take, drop, refl, sym, ap, subst, ◌∙◌}
use Rattle.std.proofs.Common.{arith, append-nil}
use Rattle.std.specs.Prelude.{Some, None}
use Rattle.std.specs.Char.{IsScalar}
use Rattle.std.proofs.lemmas.Bool.{both_ways}
use Rattle.std.proofs.lemmas.List.{take_rest, length-drop, nil_from_length}
use Rattle.encoding_definitions.specs.Prefixes.{WritesPrefix}
use Rattle.encoding_definitions.proofs.PrefixesLemmas.{WritesPrefix-length, WritesPrefix_after, written_is}
use borrow.Rule.Slice.PartMut.{put_mid}
use Rattle.encoding_text.specs.declared.decoder.DecoderResult.{DecoderResult}
use Rattle.encoding_text.specs.declared.decoder.DecoderResult.TheVariants.{InputEmpty, OutputFull, Malformed}
use Rattle.encoding_streams.specs.declared.encoding.Encoding.{Encoding}
use Rattle.encoding_streams.specs.declared.encoding.Encoding.TheVariants.{Utf8, Utf16Le, Utf16Be}
use Rattle.encoding_streams.specs.declared.encoding.BomHandling.TheVariants.{Off}
use Rattle.encoding_streams.specs.Marks.{begins_mark}
use Rattle.encoding_streams.specs.Decoders.{DecoderState, decoding}
use Rattle.encoding_streams.specs.ExactCalls.{StepIn, IsPendingIn, AfterPending, Decodes, DecodesFrom, DecodesPending, DecodesSource, IsExactCall, IsIdle}
use Rattle.encoding_streams.specs.ExactCalls.{MakesNoProgress, NeedsSpaceAtEnd, reported_with}
use Rattle.encoding_streams.specs.DecoderSteps.{IsSniffed, IsStop}
use Rattle.encoding_streams.proofs.PendingStepLemmas.{nothing_pending, step_pending}
use Rattle.encoding_streams.proofs.PendingCallLemmas.{same_pending}
use Rattle.encoding_streams.proofs.ReportedCallLemmas.{not_full}

module _ {A : Type 0} (encode : ℕ → List A) (need : ℕ) where
  -- ---- steps
  -- with nothing to read
  pub step_idle : (e : Encoding) (q src : List ℕ) (room : ℕ) (last : Bool) → IsPendingIn e q → length src ≡ 0 → (last ≡ true → q ≡ [])
      → StepIn encode need e q src room last InputEmpty 0 [] q
  step_idle Utf8 q src room last h none end = record {
    scalars = [];
    are_scalars = refl;
    out_is = refl;
    fits = omega arith;
    pending_before = h;
    pending = h;
    answer = (sym none, ap (λ xs. q ++ xs) (nil_from_length src none) ∙ append-nil q, end, λ n l. absurd (omega (arith, l)));
    pending_needs_room = λ n l. absurd (omega (arith, l));
  }
  step_idle Utf16Le q src room last h none end = record {
    scalars = [];
    are_scalars = refl;
    out_is = refl;
    fits = omega arith;
    pending_before = h;
    pending = h;
    answer = (sym none, ap (λ xs. q ++ xs) (nil_from_length src none) ∙ append-nil q, end);
  }
  step_idle Utf16Be q src room last h none end = record {
    scalars = [];
    are_scalars = refl;
    out_is = refl;
    fits = omega arith;
    pending_before = h;
    pending = h;
    answer = (sym none, ap (λ xs. q ++ xs) (nil_from_length src none) ∙ append-nil q, end);
  }

  -- of a decoder in this state
  pub step_of : (s : DecoderState) (e : Encoding) (p : List ℕ) → s ≡ decoding e p → (src : List ℕ) (room : ℕ) (last : Bool) (result : DecoderResult)
      (read : ℕ) (out : List A) (q : List ℕ) → StepIn encode need s.encoding s.pending src room last result read out q
      → StepIn encode need e p src room last result read out q
  step_of s e p is src room last result read out q step =
      subst (λ x. StepIn encode need x.encoding x.pending src room last result read out q) is step

  -- ---- pending bytes
  pub decodes_pending : (e : Encoding) (p src : List ℕ) (room : ℕ) (last : Bool) (result : DecoderResult) (read : ℕ) (out : List A) (r : List ℕ)
      → 0 < length p → (IsIdle src last → ⊥) → DecodesPending encode need e p src room last result read out r
      → Decodes encode need e p src room last result read out r
  decodes_pending e [] src room last result read out r some not d = absurd (omega (arith, some))
  decodes_pending e (b ∷ p) src room last result read out r some not d = (λ idle. absurd (not idle), λ _. d)

  pub decodes_idle : (e : Encoding) (p src : List ℕ) (room : ℕ) (last : Bool) → 0 < length p → IsIdle src last
      → Decodes encode need e p src room last InputEmpty 0 [] p
  decodes_idle e [] src room last some idle = absurd (omega (arith, some))
  decodes_idle e (b ∷ p) src room last some idle = ((λ _. (refl, refl, refl, refl)), λ not. absurd (not idle))

  module _ (e : Encoding) (p held q src : List ℕ) (dst dst1 : List A) (last : Bool) (ended : DecoderResult) (taken w : ℕ) (is : held ≡ p)
      (some : 0 < length p) (not : IsIdle src last → ⊥) (out : List A) (writes : WritesPrefix dst dst1 w out)
      (first : StepIn encode need e [] held (length dst) false ended taken (take w dst1) q) where
    abbrev pending_step : StepIn encode need e [] p (length dst) false ended taken (take w dst1) q
    pending_step = subst (λ xs. StepIn encode need e [] xs (length dst) false ended taken (take w dst1) q) is first

    written : length (take w dst1) ≡ w
    written = sym (ap length (written_is dst dst1 w out writes)) ∙ sym writes.count

    room_is : length dst1 - w ≡ length dst - length (take w dst1)
    room_is = omega (arith, written, WritesPrefix-length dst dst1 w out writes)

    after_held : (x result : DecoderResult) (n : ℕ) (final : List ℕ) → x ≢ InputEmpty → result ≡ reported_with x n → n ≡ length final
        → final ≡ q ++ drop taken p → (room : ℕ) → AfterPending encode need e p taken q src room last x result 0 [] final
    after_held InputEmpty result n final unread ends count same room = absurd (unread refl)
    after_held OutputFull result n final unread ends count same room = (ends, refl, refl, same)
    after_held (Malformed k second) result n final unread ends count same room = (ends ∙ ap (Malformed k) count, refl, refl, same)

    pub held_decodes : (result : DecoderResult) (n : ℕ) (final : List ℕ) → ended ≢ InputEmpty → final ≡ q ++ drop taken held → n ≡ length final
        → result ≡ reported_with ended n → Decodes encode need e p src (length dst) last result 0 (take w dst1) final
    held_decodes result n final unread same count ends =
        decodes_pending e p src (length dst) last result 0 (take w dst1) final some not (record {
          ended = ended;
          taken = taken;
          first = take w dst1;
          more = [];
          q = q;
          pending = pending_step;
          out_is = sym (append-nil (take w dst1));
          after = after_held ended result n final unread ends count (subst (λ xs. final ≡ q ++ drop taken xs) is same) _;
        })

    -- all of them are read
    source_decodes : (result : DecoderResult) (read : ℕ) (more whole : List A) (r : List ℕ) → ended ≡ InputEmpty → whole ≡ take w dst1 ++ more
        → DecodesSource encode need e q src (length dst1 - w) last result read more r
        → Decodes encode need e p src (length dst) last result read whole r
    source_decodes result read more whole r all joined source =
        decodes_pending e p src (length dst) last result read whole r some not (record {
          ended = ended;
          taken = taken;
          first = take w dst1;
          more = more;
          q = q;
          pending = pending_step;
          out_is = joined;
          after = subst (λ x. AfterPending encode need e p taken q src (length dst - length (take w dst1)) last x result read more r) (sym all)
              (subst (λ n. DecodesSource encode need e q src n last result read more r) room_is source);
        })

    stops : (result : DecoderResult) (room : ℕ) → IsStop need q src room last (Some result) → DecodesSource encode need e q src room last result 0 [] q
    stops InputEmpty room (none, end) = record {
      full = λ (nothing, marked, pending, little). absurd (omega (arith, pending, ap length (end marked)));
      step = λ _. step_idle e q src room last (step_pending encode need e [] held (length dst) false ended taken (take w dst1) q first) none end;
    }
    stops OutputFull room (none, pending, little, marked) = record {
      full = λ _. (refl, refl, refl, refl);
      step = λ spare. absurd (spare (none, marked, pending, little));
    }
    stops (Malformed k second) room never = absurd never

    pub stop_decodes : (result : DecoderResult) (final : List ℕ) → ended ≡ InputEmpty → IsStop need q src (length dst1 - w) last (Some result) → final ≡ q
        → Decodes encode need e p src (length dst) last result 0 (take w dst1) final
    stop_decodes result final all stop same =
        subst (Decodes encode need e p src (length dst) last result 0 (take w dst1)) (sym same)
        (source_decodes result 0 [] (take w dst1) q all (sym (append-nil (take w dst1))) (stops result (length dst1 - w) stop))

    spare : (room : ℕ) → IsStop need q src room last None → NeedsSpaceAtEnd need q src room last → ⊥
    spare room (inl more) (none, marked, pending, little) = omega (arith, more, none)
    spare room (inr enough) (none, marked, pending, little) = omega (arith, enough, little)

    pub two_decode : (sub : List A) (result : DecoderResult) (read more : ℕ) (r final : List ℕ) (units : List A) → ended ≡ InputEmpty
        → IsStop need q src (length dst1 - w) last None → final ≡ r
        → WritesPrefix (take (length dst1 - w) (drop w dst1)) sub more units
        → StepIn encode need e q src (length (take (length dst1 - w) (drop w dst1))) last result read (take more sub) r
        → Decodes encode need e p src (length dst) last result read (take (w + more) (put_mid w (length dst1 - w) dst1 sub)) final
    two_decode sub result read more r final units all stop same puts second =
        subst (Decodes encode need e p src (length dst) last result read (take (w + more) (put_mid w (length dst1 - w) dst1 sub))) (sym same)
        (source_decodes result read (take more sub) (take (w + more) (put_mid w (length dst1 - w) dst1 sub)) r all joined (record {
          full = λ wants. absurd (spare (length dst1 - w) stop wants);
          step = λ _. subst (λ n. StepIn encode need e q src n last result read (take more sub) r) size second;
        }))
      where
        size : length (take (length dst1 - w) (drop w dst1)) ≡ length dst1 - w
        size = ap length (take_rest dst1 w) ∙ length-drop w dst1

        joined : take (w + more) (put_mid w (length dst1 - w) dst1 sub) ≡ take w dst1 ++ take more sub
        joined = sym (written_is dst (put_mid w (length dst1 - w) dst1 sub) (w + more) (out ++ units)
            (WritesPrefix_after dst dst1 w out sub more units writes puts))
            ∙ (λ i. written_is dst dst1 w out writes i ++ written_is (take (length dst1 - w) (drop w dst1)) sub more units puts i)

  -- ---- no mark is looked for
  pub exact_off : (longer : (c : ℕ) → IsScalar c → 0 < length (encode c))
      (e : Encoding) (p src : List ℕ) (room : ℕ) (last : Bool) (result : DecoderResult) (read : ℕ) (out : List A) (q : List ℕ)
      → Decodes encode need e p src room last result read out q
      → IsExactCall encode need (decoding e p) src room last result read out (decoding e q)
  exact_off longer e p src room last result read out q d = record {
    waits = λ w. absurd (both_ways false refl w.1);
    decodes = λ _. record {
      unchanged = λ no_progress. ap (decoding e) (same_pending encode need longer e p src room last result read out q no_progress d);
      decided = λ _. refl;
      skips = omega arith;
      decodes = subst (λ n. Decodes encode need e p src room last result n out q) (omega arith) d;
    };
  }

  pub exact_as : (old mid before after : DecoderState) (src : List ℕ) (room : ℕ) (last : Bool) (result : DecoderResult) (read : ℕ) (out : List A)
      → old ≡ before → mid ≡ after → IsExactCall encode need old src room last result read out mid
      → IsExactCall encode need before src room last result read out after
  exact_as old mid before after src room last result read out e f made =
      subst (λ s. IsExactCall encode need s src room last result read out after) e
      (subst (IsExactCall encode need old src room last result read out) f made)

  -- ---- after the start of the stream
  module _ (old mid : DecoderState) (src : List ℕ) (room : ℕ) (last : Bool) (k : ℕ) (sniffed : IsSniffed old src last mid k) where
    still_on : (mid.bom ≡ Off → ⊥) → IsExactCall encode need old src room last InputEmpty k [] mid
    still_on on = record {
      waits = λ _. (refl, all, refl, (sniffed.waiting on).1);
      decodes = λ not. absurd (not (sniffed.waiting on).0);
    }
      where
        all : k ≡ length src
        all = elim sniffed.still [ inl off ↦ absurd (on off) | inr (whole, unmarked, same, begins) ↦ whole ]

    from_start : mid.bom ≡ Off → (result : DecoderResult) (read : ℕ) (out : List A) (new : DecoderState)
        → DecodesFrom encode need old (record { encoding = mid.encoding; pending = mid.pending; skipped = k }) src room last result read out new
        → IsExactCall encode need old src room last result read out new
    from_start off result read out new made = record {
      waits = λ w. absurd ((sniffed.decided off).0 w);
      decodes = λ _. subst (λ s. DecodesFrom encode need old s src room last result read out new) (sym (sniffed.decided off).1) made;
    }

    pub early_exact : (mid.bom ≢ Off) ⊎ ((0 < k) × (k ≡ length src)) → IsExactCall encode need old src room last InputEmpty k [] mid
    early_exact (inl on) = still_on on
    early_exact (inr (some, all)) = elim sniffed.still [
      | inl off ↦
          let none : mid.pending ≡ [] = sniffed.found some off in
          let gone : length (drop k src) ≡ 0 = omega (arith, length-drop k src, all) in
          let step : Decodes encode need mid.encoding [] (drop k src) room last InputEmpty 0 [] [] =
          step_idle mid.encoding [] (drop k src) room last (nothing_pending mid.encoding) gone (λ _. refl) in
          from_start off InputEmpty k [] mid (record {
            unchanged = λ no_progress. absurd (not_full no_progress.0);
            decided = λ _. λ i. record { encoding = mid.encoding; bom = off i; pending = mid.pending };
            skips = omega arith;
            decodes = subst (λ n. Decodes encode need mid.encoding mid.pending (drop k src) room last InputEmpty n [] mid.pending) (omega arith)
                (subst (λ p. Decodes encode need mid.encoding p (drop k src) room last InputEmpty 0 [] p) (sym none) step);
          })
      | inr (whole, unmarked, same, begins) ↦
          still_on (λ off. both_ways false refl (subst (λ b. begins_mark b mid.encoding mid.pending ≡ true) off begins))
    ]

    pub sniffed_exact : mid.bom ≡ Off → (result : DecoderResult) (r : ℕ) (out : List A) (new : DecoderState)
        → (MakesNoProgress result (k + r) out → new ≡ old) → ((MakesNoProgress result (k + r) out → ⊥) → new ≡ decoding mid.encoding new.pending)
        → Decodes encode need mid.encoding mid.pending (take (length src - k) (drop k src)) room last result r out new.pending
        → IsExactCall encode need old src room last result (k + r) out new
    sniffed_exact off result r out new unchanged decided made = from_start off result (k + r) out new (record {
      unchanged = unchanged;
      decided = decided;
      skips = omega arith;
      decodes = subst (λ n. Decodes encode need mid.encoding mid.pending (drop k src) room last result n out new.pending) (omega arith)
          (subst (λ bs. Decodes encode need mid.encoding mid.pending bs room last result r out new.pending) (take_rest src k) made);
    })

    -- the marks are looked for again
    module _ (longer : (c : ℕ) → IsScalar c → 0 < length (encode c)) (result : DecoderResult) (r : ℕ) (out : List A) (q : List ℕ)
        (no_progress : MakesNoProgress result (k + r) out)
        (made : Decodes encode need mid.encoding mid.pending (take (length src - k) (drop k src)) room last result r out q) where
      abbrev pub again : DecoderState
      again = record { encoding = mid.encoding; bom = old.bom; pending = q }

      pub again_is : again ≡ old
      again_is =
          let same = sniffed.stays (omega (arith, no_progress.1)) in
          let kept = same_pending encode need longer mid.encoding mid.pending (take (length src - k) (drop k src)) room last result r out q
          (no_progress.0, omega (arith, no_progress.1), no_progress.2) made in
          λ i. record { encoding = same.0 i; bom = old.bom; pending = (kept ∙ same.1) i }

      pub no_progress_exact : mid.bom ≡ Off → IsExactCall encode need old src room last OutputFull 0 [] again
      no_progress_exact off =
          subst (λ x. IsExactCall encode need old src room last x 0 [] again) no_progress.0
          (subst (λ n. IsExactCall encode need old src room last result n [] again) no_progress.1
          (subst (λ xs. IsExactCall encode need old src room last result (k + r) xs again) no_progress.2
          (sniffed_exact off result r out again (λ _. again_is) (λ moves. absurd (moves no_progress)) made)))
