-- Calls that report malformed sequences, one after another: of pending bytes and of a source, and after a mark.
use Rattle.std.proofs.Common.{◌≡◌, ◌≢◌, ℕ, ◌+◌, ◌-◌, ◌<◌, ◌≤◌, inl, inr, ◌⊎◌, Bool, true, false, List, [], ◌∷◌, ◌++◌, length, take, drop, map, refl, sym, ap}
use Rattle.std.proofs.Common.{subst, ◌∙◌, arith, append-nil, append_assoc, length-append, take-append-drop}
use Rattle.std.proofs.lemmas.Bool.{both_ways}
use Rattle.std.proofs.lemmas.Grind.{flat_map-append}
use Rattle.std.proofs.lemmas.List.{take_rest, take_all, drop_all, drop_at, length-drop}
use Rattle.encoding_definitions.specs.Parts.{Part, Character}
use Rattle.encoding_definitions.specs.Prefixes.{WritesPrefix}
use Rattle.encoding_definitions.proofs.PrefixesLemmas.{WritesPrefix-length, WritesPrefix_after}
use borrow.Rule.Slice.PartMut.{put_mid}
use Rattle.encoding_text.specs.Decoding.{AreDecoded, IsReport}
use Rattle.encoding_text.specs.declared.decoder.DecoderResult.{DecoderResult}
use Rattle.encoding_text.specs.declared.decoder.DecoderResult.TheVariants.{InputEmpty, OutputFull, Malformed}
use Rattle.encoding_streams.specs.declared.encoding.Encoding.{Encoding}
use Rattle.encoding_streams.specs.declared.decoder.inner.Inner.{Inner}
use Rattle.encoding_streams.specs.declared.decoder.inner.Inner.TheVariants.{OfUtf8, OfUtf16}
use Rattle.encoding_streams.specs.Decoders.{DecoderState, IsReportingCall, EndsReporting, IsFull, FittingBeginsIn, YieldParts, SufficesReporting}
use Rattle.encoding_streams.specs.Decoders.{SufficesBetweenReports, decoding}
use Rattle.encoding_streams.specs.DecoderSteps.{state_of}
use Rattle.encoding_streams.specs.ExactCalls.{reported_with}
use Rattle.encoding_streams.proofs.DecoderYieldLemmas.{YieldParts-append}
use Rattle.encoding_streams.proofs.Utf16StepLemmas.{scalars_append}

-- the last items of a list
pub suffix_is : (xs front ys : List ℕ) (n : ℕ) → xs ≡ front ++ ys → n ≡ length xs - length ys → drop n xs ≡ ys
suffix_is xs front ys n e size = ap (drop n) e ∙ drop_at front ys n (omega (arith, ap length e, size, length-append front ys))

never : {X : Type 0} → false ≡ true → X
never wrong = absurd (both_ways false refl wrong)

module _ {A : Type 0} (encode : ℕ → List A) (need : ℕ) where
  -- the encoding of a decoder stays, and it looks for no mark
  pub inner_stays : (i j : Inner) (src : List ℕ) (dst dst' : List A) (last : Bool) (result : DecoderResult) (read written : ℕ)
      → IsReportingCall encode need (state_of i) src dst dst' last result read written (state_of j)
      → state_of j ≡ decoding (state_of i).encoding (state_of j).pending
  inner_stays (OfUtf8 p) (OfUtf8 q) src dst dst' last result read written call = refl
  inner_stays (OfUtf8 p) (OfUtf16 s) src dst dst' last result read written call = ap (λ e. decoding e s.pending) (call.yields [] (λ _. refl)).same
  inner_stays (OfUtf16 s) (OfUtf8 q) src dst dst' last result read written call = ap (λ e. decoding e q) (call.yields [] (λ _. refl)).same
  inner_stays (OfUtf16 s) (OfUtf16 t) src dst dst' last result read written call = ap (λ e. decoding e t.pending) (call.yields [] (λ _. refl)).same

  -- ---- a call after another, which read all of what was pending
  characters_append : (cs ds : List ℕ) (reported : List Part) → map Character cs ++ (map Character ds ++ reported) ≡ map Character (cs ++ ds) ++ reported
  characters_append [] ds reported = refl
  characters_append (c ∷ cs) ds reported = ap (λ xs. Character c ∷ xs) (characters_append cs ds reported)

  decoded_append : (result : DecoderResult) (out more : List A) (parts others : List Part) → AreDecoded encode InputEmpty out parts
      → AreDecoded encode result more others → AreDecoded encode result (out ++ more) (parts ++ others)
  decoded_append result out more parts others (cs, none, scalars, is_out, nothing, e) (ds, reported, also, is_more, is, f) = (
    cs ++ ds,
    reported,
    scalars_append cs ds scalars also,
    (λ i. is_out i ++ is_more i) ∙ sym (flat_map-append encode cs ds),
    is,
    (λ i. (e ∙ ap (λ xs. map Character cs ++ xs) nothing ∙ append-nil (map Character cs)) i ++ f i) ∙ characters_append cs ds reported,
  )

  pub room_after : (dst dst' : List A) (written : ℕ) (out : List A) → WritesPrefix dst dst' written out
      → length (take (length dst' - written) (drop written dst')) ≡ length dst - written
  room_after dst dst' written out writes =
      ap length (take_rest dst' written) ∙ length-drop written dst' ∙ ap (λ n. n - written) (WritesPrefix-length dst dst' written out writes)

  full_later : (src : List ℕ) (room w read written : ℕ) (new : DecoderState) → w ≤ room → IsFull encode need src (room - w) read written new
      → IsFull encode need src room read (w + written) new
  full_later src room w read written new fits full = record {
    little = omega (arith, full.little, fits);
    more = full.more;
    next_too_long = λ none begins. full.next_too_long none
        (subst (FittingBeginsIn new.encoding encode (drop read src)) (omega arith) begins);
  }

  ends_later : (src : List ℕ) (room w : ℕ) (last : Bool) (result : DecoderResult) (read written : ℕ) (new : DecoderState) → w ≤ room
      → EndsReporting encode need src (room - w) last result read written new
      → EndsReporting encode need src room last result read (w + written) new
  ends_later src room w last InputEmpty read written new fits ends = ends
  ends_later src room w last OutputFull read written new fits ends = full_later src room w read written new fits ends
  ends_later src room w last (Malformed k second) read written new fits (size, off, big) =
      (size, off, λ some. omega (arith, big some, fits))

  module _ (e : Encoding) (held q src : List ℕ) (dst dst1 : List A) (last : Bool) (ended : DecoderResult) (taken w : ℕ)
      (first : IsReportingCall encode need (decoding e []) held dst dst1 false ended taken w (decoding e q)) where
    pub rest_of_held : held ≡ first.keeps.0 ++ (q ++ drop taken held)
    rest_of_held = sym (take-append-drop taken held) ∙ ap (λ xs. xs ++ drop taken held) first.keeps.1 ∙ append_assoc first.keeps.0 q (drop taken held)

    pub rest_within : length q + (length held - taken) ≤ length held
    rest_within = omega (
      arith,
      ap length rest_of_held,
      length-append first.keeps.0 (q ++ drop taken held),
      length-append q (drop taken held),
      length-drop taken held,
    )

    module _ (sub : List A) (all : ended ≡ InputEmpty) (result : DecoderResult) (read written : ℕ) (r : List ℕ)
        (second : IsReportingCall encode need (decoding e q) src (take (length dst1 - w) (drop w dst1)) sub last result read written (decoding e r)) where
      size : taken ≡ length held
      size = (subst (λ x. EndsReporting encode need held (length dst) false x taken w (decoding e q)) all first.ends).0

      room : length (take (length dst1 - w) (drop w dst1)) ≡ length dst - w
      room = room_after dst dst1 w first.out first.writes

      whole : held ≡ first.keeps.0 ++ q
      whole = sym (take_all taken held (omega (arith, size))) ∙ first.keeps.1

      pub both_kept : (before : List ℕ) × (held ++ take read src ≡ before ++ r)
      both_kept = (
        first.keeps.0 ++ second.keeps.0,
        ap (λ xs. xs ++ take read src) whole ∙ append_assoc first.keeps.0 q (take read src) ∙ ap (λ xs. first.keeps.0 ++ xs) second.keeps.1
            ∙ sym (append_assoc first.keeps.0 second.keeps.0 r),
      )

      pub two_calls : IsReportingCall encode need (decoding e held) src dst (put_mid w (length dst1 - w) dst1 sub) last result read (w + written) (decoding e r)
      two_calls = record {
        out = first.out ++ second.out;
        writes = WritesPrefix_after dst dst1 w first.out sub written second.out first.writes second.writes;
        within = second.within;
        parts = first.parts ++ second.parts;
        decoded = decoded_append result first.out second.out first.parts second.parts
            (subst (λ x. AreDecoded encode x first.out first.parts) all first.decoded) second.decoded;
        yields = λ more none. YieldParts-append (e, held ++ (src ++ more)) (e, q ++ (src ++ more)) (e, r ++ (drop read src ++ more)) first.parts second.parts
            (subst (λ bs. YieldParts (e, held ++ (src ++ more)) (e, q ++ (bs ++ (src ++ more))) first.parts) (drop_all taken held (omega (arith, size)))
            (first.yields (src ++ more) never))
            (second.yields more none);
        keeps = both_kept;
        at_most_three = second.at_most_three;
        ends = ends_later src (length dst) w last result read written (decoding e r) first.writes.fits
            (subst (λ n. EndsReporting encode need src n last result read written (decoding e r)) room second.ends);
      }

      module _ (query : Encoding → ℕ → ℕ → ℕ) (grows : (e : Encoding) (n p m q : ℕ) → n + p ≤ m + q → query e n p ≤ query e m q)
          (suffices : SufficesReporting query (decoding e []) held (length dst) false ended taken w (decoding e q)) where
        room_for : (m : ℕ) → query e m (length held) ≤ length dst → w + query e m (length q) ≤ length dst
        room_for m h = omega (
          arith,
          (suffices (length held + m) (omega arith) never (omega (arith, h, grows e (length held + m) 0 m (length held) (omega arith)))).1,
          grows e m (length q) (length held + m - taken) (length q) (omega (arith, size)),
        )

        pub two_suffice : SufficesReporting query (decoding e q) src (length (take (length dst1 - w) (drop w dst1))) last result read written (decoding e r)
            → SufficesReporting query (decoding e held) src (length dst) last result read (w + written) (decoding e r)
        two_suffice after = λ m l marked h.
            let second = after m l marked (omega (arith, room_for m h, room, first.writes.fits)) in
            (second.0, omega (arith, second.1, room, first.writes.fits))

        pub two_replaced : (replacement : ℕ)
            → SufficesBetweenReports query replacement (decoding e q) src
            (length (take (length dst1 - w) (drop w dst1))) last result read written (decoding e r)
            → SufficesBetweenReports query replacement (decoding e held) src (length dst) last result read (w + written) (decoding e r)
        two_replaced replacement after = λ m l marked h report.
            omega (arith, after m l marked (omega (arith, room_for m h, room, first.writes.fits)) report, room, first.writes.fits)

    -- ---- and there is nothing to read
    module _ (all : ended ≡ InputEmpty) (nothing : length src ≡ 0) where
      read_whole : taken ≡ length held
      read_whole = (subst (λ x. EndsReporting encode need held (length dst) false x taken w (decoding e q)) all first.ends).0

      pub held_whole : held ≡ first.keeps.0 ++ q
      held_whole = sym (take_all taken held (omega (arith, read_whole))) ∙ first.keeps.1

      decoded_as : (x : DecoderResult) → (x ≡ InputEmpty) ⊎ (x ≡ OutputFull) → AreDecoded encode InputEmpty first.out first.parts
          → AreDecoded encode x first.out first.parts
      decoded_as x (inl e) d = subst (λ y. AreDecoded encode y first.out first.parts) (sym e) d
      decoded_as x (inr e) d = subst (λ y. AreDecoded encode y first.out first.parts) (sym e) d

      pub stopped : (result : DecoderResult) → (result ≡ InputEmpty) ⊎ (result ≡ OutputFull)
          → EndsReporting encode need src (length dst) last result 0 w (decoding e q)
          → IsReportingCall encode need (decoding e held) src dst dst1 last result 0 w (decoding e q)
      stopped result either ends = record {
        out = first.out;
        writes = first.writes;
        within = omega arith;
        parts = first.parts;
        decoded = decoded_as result either (subst (λ x. AreDecoded encode x first.out first.parts) all first.decoded);
        yields = λ more none. subst (λ bs. YieldParts (e, held ++ (src ++ more)) (e, q ++ (bs ++ (src ++ more))) first.parts)
            (drop_all taken held (omega (arith, read_whole))) (first.yields (src ++ more) never);
        keeps = (first.keeps.0, append-nil held ∙ held_whole);
        at_most_three = first.at_most_three;
        ends = ends;
      }

      module _ (query : Encoding → ℕ → ℕ → ℕ) (grows : (e : Encoding) (n p m q : ℕ) → n + p ≤ m + q → query e n p ≤ query e m q)
          (suffices : SufficesReporting query (decoding e []) held (length dst) false ended taken w (decoding e q)) where
        pub room_left : (m : ℕ) → query e m (length held) ≤ length dst → w + query e m (length q) ≤ length dst
        room_left m h = omega (
          arith,
          (suffices (length held + m) (omega arith) never (omega (arith, h, grows e (length held + m) 0 m (length held) (omega arith)))).1,
          grows e m (length q) (length held + m - taken) (length q) (omega (arith, read_whole)),
        )

    -- ---- or that ended before
    module _ (unread : ended ≢ InputEmpty) (some : 0 < length held) (few : length held ≤ 3) where
      ends_held : (x : DecoderResult) → x ≢ InputEmpty → EndsReporting encode need held (length dst) false x taken w (decoding e q)
          → EndsReporting encode need src (length dst) last (reported_with x (length (q ++ drop taken held))) 0 w (decoding e (q ++ drop taken held))
      ends_held InputEmpty not ends = absurd (not refl)
      ends_held OutputFull not full = record {
        little = full.little;
        more = omega (arith, full.more, length-append q (drop taken held), length-drop taken held);
        next_too_long = λ none begins. omega (arith, full.more, ap length none, length-append q (drop taken held), length-drop taken held);
      }
      ends_held (Malformed k second) not (count, off, big) = (refl, refl, λ _. big some)

      decoded_held : (x : DecoderResult) (n : ℕ) → AreDecoded encode x first.out first.parts → AreDecoded encode (reported_with x n) first.out first.parts
      decoded_held InputEmpty n d = d
      decoded_held OutputFull n d = d
      decoded_held (Malformed k second) n d = d

      pub held_ends : IsReportingCall encode need (decoding e held) src dst dst1 last (reported_with ended (length (q ++ drop taken held))) 0 w
          (decoding e (q ++ drop taken held))
      held_ends = record {
        out = first.out;
        writes = first.writes;
        within = omega arith;
        parts = first.parts;
        decoded = decoded_held ended (length (q ++ drop taken held)) first.decoded;
        yields = λ more none. subst (λ bs. YieldParts (e, held ++ (src ++ more)) (e, bs) first.parts) (sym (append_assoc q (drop taken held) (src ++ more)))
            (first.yields (src ++ more) never);
        keeps = (first.keeps.0, append-nil held ∙ rest_of_held);
        at_most_three = omega (arith, few, ap length rest_of_held, length-append first.keeps.0 (q ++ drop taken held));
        ends = ends_held ended unread first.ends;
      }

      still_full : (x : DecoderResult) (n : ℕ) → x ≢ OutputFull → reported_with x n ≢ OutputFull
      still_full InputEmpty n not = not
      still_full OutputFull n not = not
      still_full (Malformed k second) n not = λ wrong. absurd (other wrong)
        where
          is_full : DecoderResult → Bool
          is_full InputEmpty = false
          is_full OutputFull = true
          is_full (Malformed a b) = false

          other : Malformed k n ≡ OutputFull → ⊥
          other wrong = both_ways true (sym (ap is_full wrong)) refl

      module _ (query : Encoding → ℕ → ℕ → ℕ) (grows : (e : Encoding) (n p m q : ℕ) → n + p ≤ m + q → query e n p ≤ query e m q) where
        pub held_suffice : SufficesReporting query (decoding e []) held (length dst) false ended taken w (decoding e q)
            → SufficesReporting query (decoding e held) src (length dst) last (reported_with ended (length (q ++ drop taken held))) 0 w
            (decoding e (q ++ drop taken held))
        held_suffice suffices = λ m l marked h.
            let made = suffices (length held + m) (omega arith) never (omega (arith, h, grows e (length held + m) 0 m (length held) (omega arith))) in (
              still_full ended _ made.0,
              omega (
                arith,
                made.1,
                grows e (m - 0) (length (q ++ drop taken held)) (length held + m - taken) (length q)
                    (omega (arith, length-append q (drop taken held), length-drop taken held, first.within)),
              ),
            )

        report_before : (x : DecoderResult) (n : ℕ) → IsReport (reported_with x n) → IsReport x
        report_before InputEmpty n r = r
        report_before OutputFull n r = r
        report_before (Malformed k second) n r = (k, second, refl)

        pub held_replaced : (replacement : ℕ) → SufficesBetweenReports query replacement (decoding e []) held (length dst) false ended taken w (decoding e q)
            → SufficesBetweenReports query replacement (decoding e held) src (length dst) last (reported_with ended (length (q ++ drop taken held))) 0 w
            (decoding e (q ++ drop taken held))
        held_replaced replacement suffices = λ m l marked h report.
            omega (
              arith,
              suffices (length held + m) (omega arith) never (omega (arith, h, grows e (length held + m) 0 m (length held) (omega arith)))
                  (report_before ended _ report),
              grows e (m - 0) (length (q ++ drop taken held)) (length held + m - taken) (length q)
                  (omega (arith, length-append q (drop taken held), length-drop taken held, first.within)),
            )
