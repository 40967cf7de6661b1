-- For any decoder, source, space and mark a call has at most one result.
use Rattle.std.proofs.Common.{◌≡◌, ℕ, ◌-◌, inl, inr, Bool, false, List, [], ◌∷◌, ◌++◌, length, drop, refl, sym, ap, subst, ◌∙◌, arith}
use Rattle.encoding_text.specs.declared.decoder.DecoderResult.{DecoderResult}
use Rattle.encoding_text.specs.declared.decoder.DecoderResult.TheVariants.{InputEmpty, OutputFull, Malformed}
use Rattle.encoding_text.proofs.OneResultLemmas as utf8
use Rattle.encoding_text.specs.declared.utf_16.ByteOrder.TheVariants.{LittleEndian, BigEndian}
use Rattle.encoding_streams.specs.declared.encoding.Encoding.{Encoding}
use Rattle.encoding_streams.specs.declared.encoding.Encoding.TheVariants.{Utf8, Utf16Le, Utf16Be}
use Rattle.encoding_streams.specs.declared.encoding.CoderResult.{CoderResult}
use Rattle.encoding_streams.specs.declared.encoding.CoderResult.TheVariants as coder
use Rattle.encoding_streams.specs.Decoders.{DecoderState, decoding}
use Rattle.encoding_streams.specs.ExactCalls.{StepIn, AfterPending, Decodes, DecodesFrom, DecodesPending, DecodesSource, IsExactCall, ReplaceInTurn, Reported}
use Rattle.encoding_streams.specs.ExactCalls.{Start, ended_by, start_of}
use Rattle.encoding_streams.proofs.PendingCallLemmas.{idle, progress, waits, wants}
use Rattle.encoding_streams.proofs.ReportedCallLemmas.{kind}
use Rattle.encoding_streams.proofs.Utf16OneResultLemmas as utf16

module _ {A : Type 0} (encode : ℕ → List A) (need : ℕ) where
  abbrev Same : DecoderResult → DecoderResult → ℕ → ℕ → List A → List A → List ℕ → List ℕ → Type 0
  Same r r' n n' out out' q q' = (r ≡ r') × (n ≡ n') × (out ≡ out') × (q ≡ q')

  both : (r r' x : DecoderResult) (n n' k : ℕ) (out out' ys : List A) (q q' p : List ℕ) → Same r x n k out ys q p → Same r' x n' k out' ys q' p
      → Same r r' n n' out out' q q'
  both r r' x n n' k out out' ys q q' p (a, b, c, d) (e, f, g, h) = (a ∙ sym e, b ∙ sym f, c ∙ sym g, d ∙ sym h)

  step_same : (e : Encoding) (p src : List ℕ) (room : ℕ) (last : Bool) (r r' : DecoderResult) (n n' : ℕ) (out out' : List A) (q q' : List ℕ)
      → StepIn encode need e p src room last r n out q → StepIn encode need e p src room last r' n' out' q' → Same r r' n n' out out' q q'
  step_same Utf8 p src room last r r' n n' out out' q q' a b =
      utf8.one_result encode need p src room last r r' n n' out out' q q' a.pending_before a b
  step_same Utf16Le p src room last r r' n n' out out' q q' a b = utf16.one_result LittleEndian encode need p src last r r' n n' out out' q q' a b
  step_same Utf16Be p src room last r r' n n' out out' q q' a b = utf16.one_result BigEndian encode need p src last r r' n n' out out' q q' a b

  source_same : (e : Encoding) (p src : List ℕ) (room : ℕ) (last : Bool) (r r' : DecoderResult) (n n' : ℕ) (out out' : List A) (q q' : List ℕ)
      → DecodesSource encode need e p src room last r n out q → DecodesSource encode need e p src room last r' n' out' q' → Same r r' n n' out out' q q'
  source_same e p src room last r r' n n' out out' q q' a b = elim (wants need p src room last) [
    | inl w ↦ both r r' OutputFull n n' 0 out out' [] q q' p (a.full w) (b.full w)
    | inr w ↦ step_same e p src room last r r' n n' out out' q q' (a.step w) (b.step w)
  ]

  after_same : (e : Encoding) (p : List ℕ) (taken : ℕ) (x src : List ℕ) (room : ℕ) (last : Bool) (ended r r' : DecoderResult) (n n' : ℕ) (out out' : List A)
      (q q' : List ℕ) → AfterPending encode need e p taken x src room last ended r n out q
      → AfterPending encode need e p taken x src room last ended r' n' out' q' → Same r r' n n' out out' q q'
  after_same e p taken x src room last InputEmpty r r' n n' out out' q q' a b = source_same e x src room last r r' n n' out out' q q' a b
  after_same e p taken x src room last OutputFull r r' n n' out out' q q' a b = both r r' OutputFull n n' 0 out out' [] q q' (x ++ drop taken p) a b
  after_same e p taken x src room last (Malformed k second) r r' n n' out out' q q' (a, b, c, d) (f, g, h, i) =
      both r r' (Malformed k (length (x ++ drop taken p))) n n' 0 out out' [] q q' (x ++ drop taken p)
      (a ∙ ap (λ l. Malformed k (length l)) d, b, c, d) (f ∙ ap (λ l. Malformed k (length l)) i, g, h, i)

  pending_same : (e : Encoding) (p src : List ℕ) (room : ℕ) (last : Bool) (r r' : DecoderResult) (n n' : ℕ) (out out' : List A) (q q' : List ℕ)
      → DecodesPending encode need e p src room last r n out q → DecodesPending encode need e p src room last r' n' out' q' → Same r r' n n' out out' q q'
  pending_same e p src room last r r' n n' out out' q q' a b =
      let (ended, taken, first, rest) = step_same e [] p room false a.ended b.ended a.taken b.taken a.first b.first a.q b.q a.pending b.pending in
      let after : AfterPending encode need e p a.taken a.q src (room - length a.first) last a.ended r' n' b.more q' =
      subst (λ x. AfterPending encode need e p a.taken a.q src (room - length a.first) last x r' n' b.more q') (sym ended)
      (subst (λ x. AfterPending encode need e p x a.q src (room - length a.first) last b.ended r' n' b.more q') (sym taken)
      (subst (λ x. AfterPending encode need e p b.taken a.q src (room - length x) last b.ended r' n' b.more q') (sym first)
      (subst (λ x. AfterPending encode need e p b.taken x src (room - length b.first) last b.ended r' n' b.more q') (sym rest) b.after))) in
      let (c, d, f, g) = after_same e p a.taken a.q src (room - length a.first) last a.ended r r' n n' a.more b.more q q' a.after after in
      (c, d, a.out_is ∙ (λ i. first i ++ f i) ∙ sym b.out_is, g)

  decodes_same : (e : Encoding) (p src : List ℕ) (room : ℕ) (last : Bool) (r r' : DecoderResult) (n n' : ℕ) (out out' : List A) (q q' : List ℕ)
      → Decodes encode need e p src room last r n out q → Decodes encode need e p src room last r' n' out' q' → Same r r' n n' out out' q q'
  decodes_same e [] src room last r r' n n' out out' q q' a b = step_same e [] src room last r r' n n' out out' q q' a b
  decodes_same e (c ∷ p) src room last r r' n n' out out' q q' a b = elim (idle src last) [
    | inl i ↦ both r r' InputEmpty n n' 0 out out' [] q q' (c ∷ p) (a.0 i) (b.0 i)
    | inr i ↦ pending_same e (c ∷ p) src room last r r' n n' out out' q q' (a.1 i) (b.1 i)
  ]

  abbrev pub OneResult : DecoderResult → DecoderResult → ℕ → ℕ → List A → List A → DecoderState → DecoderState → Type 0
  OneResult r r' n n' out out' s s' = (r ≡ r') × (n ≡ n') × (out ≡ out') × (s ≡ s')

  from_same : (old : DecoderState) (start : Start) (src : List ℕ) (room : ℕ) (last : Bool) (r r' : DecoderResult) (n n' : ℕ) (out out' : List A)
      (s s' : DecoderState) → DecodesFrom encode need old start src room last r n out s → DecodesFrom encode need old start src room last r' n' out' s'
      → OneResult r r' n n' out out' s s'
  from_same old start src room last r r' n n' out out' s s' a b =
      let (c, d, f, g) = decodes_same start.encoding start.pending (drop start.skipped src) room last r r' (n - start.skipped) (n' - start.skipped) out out'
      s.pending s'.pending a.decodes b.decodes in
      let reads : n ≡ n' = omega (arith, d, a.skips, b.skips) in (
        c,
        reads,
        f,
        elim (progress r n out) [
          | inl no_progress ↦ a.unchanged no_progress ∙ sym (b.unchanged (sym c ∙ no_progress.0, sym reads ∙ no_progress.1, sym f ∙ no_progress.2))
          | inr moves ↦
              a.decided moves ∙ ap (decoding start.encoding) g
              ∙ sym (b.decided (λ no_progress. moves (c ∙ no_progress.0, reads ∙ no_progress.1, f ∙ no_progress.2)))
        ],
      )

  pub call_same : (old : DecoderState) (src : List ℕ) (room : ℕ) (last : Bool) (r r' : DecoderResult) (n n' : ℕ) (out out' : List A) (s s' : DecoderState)
      → IsExactCall encode need old src room last r n out s → IsExactCall encode need old src room last r' n' out' s' → OneResult r r' n n' out out' s s'
  call_same old src room last r r' n n' out out' s s' a b = elim (waits old src last) [
    | inl w ↦
        let (c, d, f, g) = a.waits w in
        let (h, i, j, k) = b.waits w in
        (c ∙ sym h, d ∙ sym i, f ∙ sym j, g ∙ sym k)
    | inr w ↦ from_same old (start_of old src) src room last r r' n n' out out' s s' (a.decodes w) (b.decodes w)
  ]

  -- ---- with U+FFFD for each report
  no_report : (r : CoderResult) (k second : ℕ) → ended_by r ≡ Malformed k second → ⊥
  no_report coder.InputEmpty k second e = omega (arith, ap kind e)
  no_report coder.OutputFull k second e = omega (arith, ap kind e)

  same_end : (r r' : CoderResult) → ended_by r ≡ ended_by r' → r ≡ r'
  same_end coder.InputEmpty coder.InputEmpty e = refl
  same_end coder.InputEmpty coder.OutputFull e = absurd (omega (arith, ap kind e))
  same_end coder.OutputFull coder.InputEmpty e = absurd (omega (arith, ap kind e))
  same_end coder.OutputFull coder.OutputFull e = refl

  pub turns_same : (reports others : List (Reported A)) (old : DecoderState) (src : List ℕ) (room : ℕ) (last : Bool) (r r' : CoderResult) (n n' : ℕ)
      (out out' : List A) (count count' : ℕ) (s s' : DecoderState) → ReplaceInTurn encode need reports old src room last r n out count s
      → ReplaceInTurn encode need others old src room last r' n' out' count' s'
      → (r ≡ r') × (n ≡ n') × (out ≡ out') × (count ≡ count') × (s ≡ s')
  turns_same [] [] old src room last r r' n n' out out' count count' s s' (none, a) (none', b) =
      let (c, d, f, g) = call_same old src room last _ _ n n' out out' s s' a b in
      (same_end r r' c, d, f, none ∙ sym none', g)
  turns_same [] (y ∷ others) old src room last r r' n n' out out' count count' s s' (none, a) (b, m1, m2, m3, m4, m5, m6, m7) =
      absurd (no_report r y.length y.second (call_same old src room last _ _ n y.read out y.out s y.after a b).0)
  turns_same (x ∷ reports) [] old src room last r r' n n' out out' count count' s s' (a, m1, m2, m3, m4, m5, m6, m7) (none, b) =
      absurd (no_report r' x.length x.second (call_same old src room last _ _ n' x.read out' x.out s' x.after b a).0)
  turns_same (x ∷ reports) (y ∷ others) old src room last r r' n n' out out' count count' s s' (a, more, rest, again, f, g, h, made)
      (b, more', rest', again', f', g', h', made') =
      let (same, reads, outs, states) = call_same old src room last _ _ x.read y.read x.out y.out x.after y.after a b in
      let other : ReplaceInTurn encode need others x.after (drop x.read src) (room - length (x.out ++ encode 0xFFFD)) last r' more' rest' again' s' =
      subst (λ z. ReplaceInTurn encode need others z (drop x.read src) (room - length (x.out ++ encode 0xFFFD)) last r' more' rest' again' s') (sym states)
      (subst (λ z. ReplaceInTurn encode need others y.after (drop z src) (room - length (x.out ++ encode 0xFFFD)) last r' more' rest' again' s') (sym reads)
      (subst (λ z. ReplaceInTurn encode need others y.after (drop y.read src) (room - length (z ++ encode 0xFFFD)) last r' more' rest' again' s')
      (sym outs) made')) in
      let (c, d, i, j, k) = turns_same reports others x.after (drop x.read src) (room - length (x.out ++ encode 0xFFFD)) last r r' more more' rest rest' again
      again' s s' made other in (
        c,
        omega (arith, f, f', reads, d),
        g ∙ (λ z. (outs z ++ encode 0xFFFD) ++ i z) ∙ sym g',
        omega (arith, h, h', j),
        k,
      )
