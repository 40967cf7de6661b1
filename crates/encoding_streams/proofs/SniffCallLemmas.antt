-- A call after the start of its stream was read.
use Rattle.std.proofs.Common.{◌≡◌, ◌≢◌, ℕ, ◌+◌, ◌-◌, ◌<◌, ◌≤◌, inl, inr, ◌⊎◌, Bool, true, List, [], ◌++◌, length, take, drop, max, refl, sym, ap, subst, ◌∙◌}
use Rattle.std.proofs.Common.{arith, append-nil, append_assoc, length-append, take-add}
use Rattle.std.proofs.lemmas.Bool.{both_ways}
use Rattle.std.proofs.lemmas.List.{take_rest, drop-drop, length-drop, length-take, nil_from_length}
use Rattle.encoding_definitions.specs.Prefixes.{WritesPrefix}
use Rattle.encoding_text.specs.declared.decoder.DecoderResult.{DecoderResult}
use Rattle.encoding_text.specs.declared.decoder.DecoderResult.TheVariants.{InputEmpty, OutputFull, Malformed}
use Rattle.encoding_streams.specs.declared.encoding.Encoding.{Encoding}
use Rattle.encoding_streams.specs.declared.encoding.Encoding.TheVariants.{Utf8, Utf16Le, Utf16Be}
use Rattle.encoding_streams.specs.declared.encoding.BomHandling.{BomHandling}
use Rattle.encoding_streams.specs.declared.encoding.BomHandling.TheVariants.{Off, Remove, Sniff}
use Rattle.encoding_streams.specs.Decoders.{DecoderState, EndsReporting, FittingBeginsIn, StartsWithIn, YieldParts, SufficesReporting, left, queried}
use Rattle.encoding_streams.specs.Decoders.{queried_in}
use Rattle.encoding_streams.specs.DecoderSteps.{IsSniffed, Reports}
use Rattle.encoding_streams.specs.ExactCalls.{IsIdle}
use Rattle.encoding_streams.proofs.ReportedCallLemmas.{full_no_report, not_full, not_report}

-- ---- the queried lengths
module _ (query : Encoding → ℕ → ℕ → ℕ) (grows : (e : Encoding) (n p m q : ℕ) → n + p ≤ m + q → query e n p ≤ query e m q) where
  at_most_queried : (bom : BomHandling) (e f : Encoding) (n p : ℕ) → (bom ≡ Sniff) ⊎ (f ≡ e) → query f n p ≤ queried_in query bom e n p
  at_most_queried bom e f n p (inr same) = subst (λ x. query x n p ≤ queried_in query bom e n p) (sym same) (own bom)
    where
      any : (x : Encoding) → query x n p ≤ max (query Utf8 n p) (max (query Utf16Le n p) (query Utf16Be n p))
      any Utf8 = omega arith
      any Utf16Le = omega arith
      any Utf16Be = omega arith

      own : (b : BomHandling) → query e n p ≤ queried_in query b e n p
      own Off = omega arith
      own Remove = omega arith
      own Sniff = any e
  at_most_queried bom e f n p (inl sniffs) = subst (λ b. query f n p ≤ queried_in query b e n p) (sym sniffs) (any f)
    where
      any : (x : Encoding) → query x n p ≤ max (query Utf8 n p) (max (query Utf16Le n p) (query Utf16Be n p))
      any Utf8 = omega arith
      any Utf16Le = omega arith
      any Utf16Be = omega arith

  pub queried_grows : (bom : BomHandling) (e : Encoding) (n p m q : ℕ) → n + p ≤ m + q → queried_in query bom e n p ≤ queried_in query bom e m q
  queried_grows Off e n p m q less = grows e n p m q less
  queried_grows Remove e n p m q less = grows e n p m q less
  queried_grows Sniff e n p m q less =
      omega (arith, grows Utf8 n p m q less, grows Utf16Le n p m q less, grows Utf16Be n p m q less)

  other_encoding : (bom : BomHandling) (e f : Encoding) (n p : ℕ) → (bom ≡ Sniff) ⊎ (f ≡ e) → queried_in query bom f n p ≤ queried_in query bom e n p
  other_encoding bom e f n p (inr same) = omega (arith, ap (λ x. queried_in query bom x n p) same)
  other_encoding bom e f n p (inl sniffs) =
      omega (arith, ap (λ b. queried_in query b f n p) sniffs, ap (λ b. queried_in query b e n p) sniffs)

  pub sniff_room : (old mid : DecoderState) (src : List ℕ) (last : Bool) (k m : ℕ) → IsSniffed old src last mid k → length src ≤ m
      → queried query mid (m - k) ≤ queried query old m
  sniff_room old mid src last k m sniffed l =
      let less : (m - k) + length mid.pending ≤ m + length old.pending = omega (
        arith,
        l,
        sniffed.within,
        ap length sniffed.keeps.1,
        length-append old.pending (take k src),
        length-append sniffed.keeps.0 mid.pending,
        length-take k src,
      ) in
      elim sniffed.still [
        | inl off ↦ omega (
          arith,
          ap (λ b. queried_in query b mid.encoding (m - k) (length mid.pending)) off,
          grows mid.encoding (m - k) (length mid.pending) m (length old.pending) less,
          at_most_queried old.bom old.encoding mid.encoding m (length old.pending) sniffed.encoding,
        )
        | inr (all, unmarked, same, begins) ↦ omega (
          arith,
          ap (λ b. queried_in query b mid.encoding (m - k) (length mid.pending)) same,
          queried_grows old.bom mid.encoding (m - k) (length mid.pending) m (length old.pending) less,
          other_encoding old.bom old.encoding mid.encoding m (length old.pending) sniffed.encoding,
        )
      ]

nothing_in : (e : Encoding) (bytes : List ℕ) → StartsWithIn e bytes [] bytes
nothing_in Utf8 bytes = refl
nothing_in Utf16Le bytes = refl
nothing_in Utf16Be bytes = refl

pub nothing_yielded : (before after : Encoding × List ℕ) → after ≡ before → YieldParts before after []
nothing_yielded before after e = subst (λ x. YieldParts before x []) (sym e) (record { same = refl; first = nothing_in before.0 before.1 })

-- with nothing to read, a call changes nothing
pub idle_reports : {A : Type 0} (encode : ℕ → List A) (need : ℕ) (query replacing : Encoding → ℕ → ℕ → ℕ) (old : DecoderState) (src : List ℕ) (dst : List A)
    (last : Bool) → IsIdle src last → length old.pending ≤ 3 → Reports encode need query replacing old src dst dst last InputEmpty 0 0 old
idle_reports encode need query replacing old src dst last (none, unmarked) few = record {
  call = record {
    out = [];
    writes = record { count = refl; fits = omega arith; placed = refl };
    within = omega arith;
    parts = [];
    decoded = ([], [], refl, refl, refl, refl);
    yields = λ more end. nothing_yielded (left old (src ++ more)) (left old (src ++ more)) refl;
    keeps = ([], append-nil old.pending);
    at_most_three = few;
    ends = (sym none, λ marked. absurd (both_ways _ unmarked marked));
  };
  suffices = λ m l marked h. (not_full, omega (arith, h, same query m));
  between_reports = λ m l marked h. (not_full, omega (arith, h, same replacing m));
  replaced = λ m l marked h report. absurd (not_report InputEmpty refl report);
}
  where
    same : (q : Encoding → ℕ → ℕ → ℕ) (m : ℕ) → queried q old (m - 0) ≡ queried q old m
    same q m = ap (queried q old) (omega arith)

module _ {A : Type 0} (encode : ℕ → List A) (need : ℕ) (query replacing : Encoding → ℕ → ℕ → ℕ)
    (grows : (e : Encoding) (n p m q : ℕ) → n + p ≤ m + q → query e n p ≤ query e m q)
    (grows' : (e : Encoding) (n p m q : ℕ) → n + p ≤ m + q → replacing e n p ≤ replacing e m q)
    (old mid : DecoderState) (src : List ℕ) (dst : List A) (last : Bool) (k : ℕ) (sniffed : IsSniffed old src last mid k) where
  -- all of the source was read
  abbrev IsEarly : Type 0
  IsEarly = (mid.bom ≢ Off) ⊎ ((0 < k) × (k ≡ length src))

  early_end : IsEarly → (k ≡ length src) × (last ≡ true → (mid.bom ≡ Off) × (mid.pending ≡ []))
  early_end (inl on) = elim sniffed.still [
    | inl off ↦ absurd (on off)
    | inr (all, unmarked, same, begins) ↦ (all, λ marked. absurd (both_ways _ unmarked marked))
  ]
  early_end (inr (some, all)) = elim sniffed.still [
    | inl off ↦ (all, λ marked. (off, sniffed.found some off))
    | inr (whole, unmarked, same, begins) ↦ (all, λ marked. absurd (both_ways _ unmarked marked))
  ]

  pub early_reports : IsEarly → Reports encode need query replacing old src dst dst last InputEmpty k 0 mid
  early_reports early = record {
    call = record {
      out = [];
      writes = record { count = refl; fits = omega arith; placed = refl };
      within = sniffed.within;
      parts = [];
      decoded = ([], [], refl, refl, refl, refl);
      yields = λ more none. nothing_yielded (left old (src ++ more)) (left mid (drop k src ++ more)) (sniffed.same more none);
      keeps = sniffed.keeps;
      at_most_three = sniffed.at_most_three;
      ends = early_end early;
    };
    suffices = λ m l marked h. (not_full, omega (arith, h, sniff_room query grows old mid src last k m sniffed l));
    between_reports = λ m l marked h. (not_full, omega (arith, h, sniff_room replacing grows' old mid src last k m sniffed l));
    replaced = λ m l marked h report. absurd (not_report InputEmpty refl report);
  }

  -- a call follows
  module _ (dst' : List A) (result : DecoderResult) (r w : ℕ) (new : DecoderState) (goes_on : (k ≡ 0) ⊎ (0 < length src - k))
      (after : Reports encode need query replacing mid (take (length src - k) (drop k src)) dst dst' last result r w new) where
    whole : (take (length src - k) (drop k src)) ≡ drop k src
    whole = take_rest src k

    size : length (take (length src - k) (drop k src)) ≡ length src - k
    size = ap length whole ∙ length-drop k src

    unread : drop r (take (length src - k) (drop k src)) ≡ drop (k + r) src
    unread = ap (drop r) whole ∙ drop-drop r k src

    ends_after : (x : DecoderResult) → EndsReporting encode need (take (length src - k) (drop k src)) (length dst) last x r w new
        → EndsReporting encode need src (length dst) last x (k + r) w new
    ends_after InputEmpty (all, end) = (omega (arith, all, size, sniffed.within), end)
    ends_after OutputFull full = record {
      little = full.little;
      more = omega (arith, full.more, size);
      next_too_long = λ none begins. full.next_too_long none (subst (λ bs. FittingBeginsIn new.encoding encode bs (length dst - w)) (sym unread) begins);
    }
    ends_after (Malformed n second) (count, off, big) = (count, off, λ some. big (more some))
      where
        more : 0 < length src → 0 < length (take (length src - k) (drop k src))
        more some = elim goes_on [ inl none ↦ omega (arith, some, none, size) | inr left_over ↦ omega (arith, left_over, size) ]

    keeps_after : (before : List ℕ) × (old.pending ++ take (k + r) src ≡ before ++ new.pending)
    keeps_after =
        let first = sniffed.keeps in
        let second = after.call.keeps in (
          first.0 ++ second.0,
          ap (λ xs. old.pending ++ xs) (take-add k r src) ∙ sym (append_assoc old.pending (take k src) (take r (drop k src)))
              ∙ ap (λ xs. xs ++ take r (drop k src)) first.1 ∙ append_assoc first.0 mid.pending (take r (drop k src))
              ∙ ap (λ xs. first.0 ++ (mid.pending ++ take r xs)) (sym whole) ∙ ap (λ xs. first.0 ++ xs) second.1
              ∙ sym (append_assoc first.0 second.0 new.pending),
        )

    yields_after : (more : List ℕ) → (last ≡ true → more ≡ [])
        → YieldParts (left old (src ++ more)) (left new (drop (k + r) src ++ more)) after.call.parts
    yields_after more none =
        subst (λ x. YieldParts x (left new (drop (k + r) src ++ more)) after.call.parts) (sniffed.same more none)
        (subst (λ bs. YieldParts (left mid (drop k src ++ more)) (left new (bs ++ more)) after.call.parts) unread
        (subst (λ bs. YieldParts (left mid (bs ++ more)) (left new (drop r (take (length src - k) (drop k src)) ++ more)) after.call.parts) whole
        (after.call.yields more none)))

    fewer : (m : ℕ) (query' : Encoding → ℕ → ℕ → ℕ) → queried query' new (m - k - r) ≡ queried query' new (m - (k + r))
    fewer m query' = ap (queried query' new) (omega arith)

    suffices_after : (q : Encoding → ℕ → ℕ → ℕ) → ((e : Encoding) (n p m x : ℕ) → n + p ≤ m + x → q e n p ≤ q e m x)
        → SufficesReporting q mid (take (length src - k) (drop k src)) (length dst) last result r w new
        → SufficesReporting q old src (length dst) last result (k + r) w new
    suffices_after q up suffices = λ m l marked h.
        let made = suffices (m - k) (omega (arith, l, size)) (λ end. omega (arith, marked end, size))
        (omega (arith, h, sniff_room q up old mid src last k m sniffed l)) in
        (made.0, omega (arith, made.1, fewer m q))

    pub sniffed_reports : Reports encode need query replacing old src dst dst' last result (k + r) w new
    sniffed_reports = record {
      call = record {
        out = after.call.out;
        writes = after.call.writes;
        within = omega (arith, after.call.within, sniffed.within, size);
        parts = after.call.parts;
        decoded = after.call.decoded;
        yields = yields_after;
        keeps = keeps_after;
        at_most_three = after.call.at_most_three;
        ends = ends_after result after.call.ends;
      };
      suffices = suffices_after query grows after.suffices;
      between_reports = suffices_after replacing grows' after.between_reports;
      replaced = λ m l marked h report. omega (
        arith,
        after.replaced (m - k) (omega (arith, l, size)) (λ end. omega (arith, marked end, size))
            (omega (arith, h, sniff_room replacing grows' old mid src last k m sniffed l)) report,
        fewer m replacing,
      );
    }

-- a call that makes no progress, of a decoder that it leaves as it is
pub no_progress_reports : {A : Type 0} (encode : ℕ → List A) (need : ℕ) (query replacing : Encoding → ℕ → ℕ → ℕ) (old mid : DecoderState) (src : List ℕ)
    (dst dst' : List A) (last : Bool) (result : DecoderResult) (read written : ℕ) → result ≡ OutputFull → read ≡ 0 → written ≡ 0
    → mid.encoding ≡ old.encoding → mid.pending ≡ old.pending → Reports encode need query replacing old src dst dst' last result read written mid
    → Reports encode need query replacing old src dst dst' last OutputFull 0 0 old
no_progress_reports {A} encode need query replacing old mid src dst dst' last result read written full none nothing same kept given = record {
  call = record {
    out = [];
    writes = subst (WritesPrefix dst dst' 0) (nil_from_length made.call.out (sym made.call.writes.count)) made.call.writes;
    within = omega arith;
    parts = [];
    decoded = ([], [], refl, refl, refl, refl);
    yields = λ more end. nothing_yielded (left old (src ++ more)) (left old (src ++ more)) refl;
    keeps = ([], append-nil old.pending);
    at_most_three = omega (arith, made.call.at_most_three, ap length kept);
    ends = record {
      little = made.call.ends.little;
      more = omega (arith, made.call.ends.more, ap length kept);
      next_too_long = λ empty begins.
          made.call.ends.next_too_long (kept ∙ empty) (subst (λ e. FittingBeginsIn e encode (drop 0 src) (length dst - 0)) (sym same) begins);
    };
  };
  suffices = λ m l marked h. absurd ((made.suffices m l marked h).0 refl);
  between_reports = λ m l marked h. absurd ((made.between_reports m l marked h).0 refl);
  replaced = λ m l marked h report. absurd (full_no_report report);
}
  where
    made : Reports encode need query replacing old src dst dst' last OutputFull 0 0 mid
    made =
        subst (λ x. Reports encode need query replacing old src dst dst' last x 0 0 mid) full
        (subst (λ n. Reports encode need query replacing old src dst dst' last result n 0 mid) none
        (subst (λ n. Reports encode need query replacing old src dst dst' last result read n mid) nothing given))

-- the same call, of the states that are these
pub as_shown : {A : Type 0} (encode : ℕ → List A) (need : ℕ) (query replacing : Encoding → ℕ → ℕ → ℕ) (old mid before after : DecoderState) (src : List ℕ)
    (dst dst' : List A) (last : Bool) (result : DecoderResult) (read written : ℕ) → old ≡ before → mid ≡ after
    → Reports encode need query replacing old src dst dst' last result read written mid
    → Reports encode need query replacing before src dst dst' last result read written after
as_shown encode need query replacing old mid before after src dst dst' last result read written e f made =
    subst (λ s. Reports encode need query replacing s src dst dst' last result read written after) e
    (subst (Reports encode need query replacing old src dst dst' last result read written) f made)
