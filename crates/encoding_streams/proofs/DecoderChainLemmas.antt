-- Calls of a decoder, one after another over one stream.
use Rattle.std.proofs.Common.{◌≡◌, ℕ, ◌≤◌, inl, inr, true, List, [], ◌∷◌, ◌++◌, length, take, drop, sym, ap, subst, ◌∙◌, arith, length-append, take-append-drop}
use Rattle.std.specs.Prelude.{Any}
use Rattle.std.specs.List.{flat_map}
use Rattle.std.proofs.lemmas.List.{take_at, drop-append-le, nil_from_length, length-drop}
use Rattle.encoding_text.proofs.AnyLemmas.{Any-cons, Any-none}
use Rattle.encoding_streams.specs.declared.encoding.CoderResult.TheVariants.{InputEmpty}
use Rattle.encoding_streams.specs.Decoders.{DecoderState, EndsReplacing, YieldText, left}
use Rattle.encoding_streams.specs.DecoderCalls.{Made, AreMade, WriteTheText, state_after, unread_after, replaced_in_all}
use Rattle.encoding_streams.proofs.DecoderYieldLemmas.{YieldText-append, YieldText-nil, count_in}
use Rattle.encoding_streams.proofs.SniffLemmas.{left_off}

module _ {A : Type 0} (encode : ℕ → List A) (need : ℕ) where
  give : (state : DecoderState) (unread : List ℕ) (calls : List (Made A)) → AreMade encode need state unread calls
      → YieldText encode (left state unread) (left (state_after state calls) (unread_after unread calls)) (flat_map (λ call. call.out) calls)
      (replaced_in_all calls)
  give state unread [] made = YieldText-nil encode (left state unread)
  give state unread (call ∷ calls) ((dst, dst', out, does), last, made) =
      let prefix = take call.piece unread in
      let back = drop call.piece unread in
      let whole : prefix ++ back ≡ unread = take-append-drop call.piece unread in
      let rest : drop call.read prefix ++ back ≡ drop call.read unread = sym (drop-append-le call.read prefix back does.replaces.within)
      ∙ ap (drop call.read) whole in
      let written : does.replaces.out ≡ call.out =
      sym (out ∙ ap (take (length call.out)) does.replaces.writes.placed
      ∙ take_at does.replaces.out (drop (length call.out) dst) (length call.out) (sym does.replaces.writes.count)) in
      let first : YieldText encode (left state unread) (left call.after (drop call.read unread)) call.out call.replaced =
      subst (λ bs. YieldText encode (left state bs) (left call.after (drop call.read unread)) call.out call.replaced) whole
      (subst (λ bs. YieldText encode (left state (prefix ++ back)) (left call.after bs) call.out call.replaced) rest
      (subst (λ xs. YieldText encode (left state (prefix ++ back)) (left call.after (drop call.read prefix ++ back)) xs call.replaced) written
      (does.replaces.yields back last))) in
      YieldText-append encode _ _ _ _ _ _ _ first (give call.after (drop call.read unread) calls made)

  no_longer : (state : DecoderState) (unread : List ℕ) (calls : List (Made A)) → AreMade encode need state unread calls
      → length (left (state_after state calls) (unread_after unread calls)).1 ≤ length (left state unread).1
  no_longer state unread calls made =
      let given = give state unread calls made in
      omega (arith, count_in (left state unread).0 (left state unread).1 given.parts _ given.yields.first)

  abbrev Ends : Made A → Type 0
  Ends call = (call.last ≡ true) × (call.result ≡ InputEmpty)

  ended : (state : DecoderState) (unread : List ℕ) (calls : List (Made A)) → AreMade encode need state unread calls → Any Ends calls
      → length (left (state_after state calls) (unread_after unread calls)).1 ≡ 0
  ended state unread [] made some = absurd (Any-none Ends some)
  ended state unread (call ∷ calls) ((dst, dst', out, does), last, made) some = elim (Any-cons Ends call calls some) [
    | inl (marked, empty) ↦
        let (all, end) = subst (λ x. EndsReplacing encode need (take call.piece unread) (length dst) call.last x call.read (length call.out) call.after) empty
        does.ends in
        let (off, none) = end marked in
        omega (
          arith,
          no_longer call.after (drop call.read unread) calls made,
          left_off call.after (drop call.read unread) off,
          ap length none,
          length-drop call.read unread,
          all,
          ap length (take-append-drop call.piece unread),
          length-append (take call.piece unread) (drop call.piece unread),
          ap length (last marked),
        )
    | inr more ↦ ended call.after (drop call.read unread) calls made more
  ]

  pub write_the_text : (state : DecoderState) (stream : List ℕ) (calls : List (Made A)) → AreMade encode need state stream calls
      → WriteTheText encode state stream calls
  write_the_text state stream calls made = record {
    text = give state stream calls made;
    all = λ some. nil_from_length _ (ended state stream calls made some);
  }
