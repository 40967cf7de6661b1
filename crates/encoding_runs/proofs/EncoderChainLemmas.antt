-- A chain of encoder calls writes the first parts of the pending surrogate and its source.
use Rattle.std.proofs.Common.{◌≡◌, ℕ, ◌≤◌, ◌⊎◌, inl, inr, Bool, true, false, List, [], ◌∷◌, ◌++◌, length, take, drop, refl, sym, ap, ◌∙◌, arith, subst}
use Rattle.std.specs.Prelude.{Any}
use Rattle.std.specs.List.{flat_map}
use Rattle.std.proofs.lemmas.Bool.{or_parts}
use Rattle.std.proofs.lemmas.List.{append_assoc, append-nil, length-append, length-drop, length-take}
use Rattle.std.proofs.lemmas.List.{drop_all, drop-drop, drop-append-le, take-append-drop, nil_from_length}
use Rattle.std.proofs.lemmas.List.Concat.{flat_map-append}
use Rattle.encoding_definitions.specs.Utf16.{AreCodeUnits, Part16, units_of_part16, utf8_of_part16, StartsWith16}
use Rattle.encoding_text.specs.Encoding.{IsPendingSurrogate, EncodeStep}
use Rattle.encoding_definitions.proofs.Utf16Lemmas.{parts_exist}
use Rattle.encoding_text.proofs.EncoderLemmas.{AreCodeUnits-following}
use Rattle.encoding_definitions.proofs.FirstPartsLemmas.{StartsWith16-nil, StartsWith16-append, StartsWith16-units, StartsWith16-all, StartsWith16-read}
use Rattle.encoding_text.proofs.EncoderCallLemmas.{AreCodeUnits-append, AreCodeUnits-surrogate, parts_written, read_within, written_first, all_encoded}
use Rattle.encoding_text.specs.declared.utf_8.encoder.EncoderResult.{EncoderResult}
use Rattle.encoding_text.specs.declared.utf_8.encoder.EncoderResult.TheVariants.{InputEmpty}
use Rattle.encoding_runs.specs.Calls.{Call, IsChain, read_in_all, output_of, pending_after, some_last, EncodesFirstParts}
use Rattle.encoding_definitions.proofs.AnyLemmas.{Any-cons, Any-none}

-- ---- one call on the first unread units
-- the units after its piece are a continuation of it
call_first : (surrogate unread more : List ℕ) (call : Call ℕ EncoderResult ℕ)
    (c : EncodeStep surrogate (take call.piece unread) call.form call.last call.result call.read call.out call.pending)
    → (call.last ≡ true → length unread ≤ call.piece) → AreCodeUnits unread → AreCodeUnits more → (call.last ≡ true → more ≡ [])
    → StartsWith16 (surrogate ++ (unread ++ more)) (parts_written _ _ _ _ _ _ _ _ c) (call.pending ++ (drop call.read unread ++ more))
call_first surrogate unread more call c reaches a b n =
    let piece : List ℕ = take call.piece unread in
    let following : List ℕ = drop call.piece unread ++ more in
    let parts : List Part16 = parts_written _ _ _ _ _ _ _ _ c in
    let whole : piece ++ following ≡ unread ++ more = sym (append_assoc piece (drop call.piece unread) more)
    ∙ ap (λ xs. xs ++ more) (take-append-drop call.piece unread) in
    let within : call.read ≤ length piece = read_within _ _ _ _ _ _ _ _ c in
    let rest : drop call.read piece ++ following ≡ drop call.read unread ++ more =
    sym (drop-append-le call.read piece following within) ∙ ap (drop call.read) whole
    ∙ drop-append-le call.read unread more (omega (arith, within, length-take call.piece unread)) in
    let none : call.last ≡ true → following ≡ [] = λ e. ap (λ xs. xs ++ more) (drop_all call.piece unread (reaches e)) ∙ n e in
    let first : StartsWith16 (surrogate ++ piece ++ following) parts (call.pending ++ drop call.read piece ++ following) =
    written_first _ _ _ _ _ _ _ _ c following (AreCodeUnits-append (drop call.piece unread) more (AreCodeUnits-following unread call.piece a) b) none in
    rw (
      append_assoc surrogate piece following ∙ ap (λ xs. surrogate ++ xs) whole,
      append_assoc call.pending (drop call.read piece) following
          ∙ ap (λ xs. call.pending ++ xs) rest,
    ) at first

-- ---- the chain
-- the parts that its calls wrote
chain_parts : (calls : List (Call ℕ EncoderResult ℕ)) (surrogate unread : List ℕ) → IsChain EncodeStep surrogate unread calls → List Part16
chain_parts [] surrogate unread chain = []
chain_parts (call ∷ calls) surrogate unread chain = parts_written _ _ _ _ _ _ _ _ chain.0 ++ chain_parts calls call.pending (drop call.read unread) chain.2

no_more : (last : Bool) (more : List ℕ) → (more ≡ []) ⊎ (last ≡ false) → last ≡ true → more ≡ []
no_more last more (inl e) t = e
no_more last more (inr f) t = let clash : true ≡ false = sym t ∙ f in absurd (cc (clash))

-- they are the first parts, and if no call is marked last, for any continuation
chain_first : (calls : List (Call ℕ EncoderResult ℕ)) (surrogate unread more : List ℕ) (chain : IsChain EncodeStep surrogate unread calls)
    → IsPendingSurrogate surrogate → AreCodeUnits unread → AreCodeUnits more → (more ≡ []) ⊎ (some_last calls ≡ false)
    → StartsWith16 (surrogate ++ (unread ++ more)) (chain_parts calls surrogate unread chain)
    (pending_after surrogate calls ++ (drop (read_in_all calls) unread ++ more))
unfolding chain_parts
chain_first [] surrogate unread more chain h a b n =
    StartsWith16-nil (surrogate ++ (unread ++ more)) _
    (parts_exist (surrogate ++ (unread ++ more)) (AreCodeUnits-surrogate surrogate (unread ++ more) h (AreCodeUnits-append unread more a b)))
chain_first (call ∷ calls) surrogate unread more (c, reaches, chain) h a b n =
    let here : (more ≡ []) ⊎ (call.last ≡ false) = elim n [ inl e ↦ inl e | inr f ↦ inr (or_parts call.last (some_last calls) f).0 ] in
    let then' : (more ≡ []) ⊎ (some_last calls ≡ false) = elim n [ inl e ↦ inl e | inr f ↦ inr (or_parts call.last (some_last calls) f).1 ] in
    let rest = chain_first calls call.pending (drop call.read unread) more chain c.surrogate_after (AreCodeUnits-following unread call.read a) b then' in
    subst (λ xs. StartsWith16 (surrogate ++ (unread ++ more)) (parts_written _ _ _ _ _ _ _ _ c ++ chain_parts calls call.pending (drop call.read unread) chain)
    (pending_after call.pending calls ++ (xs ++ more)))
    (drop-drop (read_in_all calls) call.read unread)
    (StartsWith16-append (surrogate ++ (unread ++ more)) _ (call.pending ++ (drop call.read unread ++ more)) _ _
    (call_first surrogate unread more call c reaches a b (no_more call.last more here)) rest)

chain_written : (calls : List (Call ℕ EncoderResult ℕ)) (surrogate unread : List ℕ) (chain : IsChain EncodeStep surrogate unread calls)
    → output_of calls ≡ flat_map utf8_of_part16 (chain_parts calls surrogate unread chain)
unfolding chain_parts
chain_written [] surrogate unread chain = refl
chain_written (call ∷ calls) surrogate unread (c, reaches, chain) =
    ap (λ xs. xs ++ output_of calls) c.longest.written
    ∙ ap (λ xs. flat_map utf8_of_part16 (parts_written _ _ _ _ _ _ _ _ c) ++ xs) (chain_written calls call.pending (drop call.read unread) chain)
    ∙ sym (flat_map-append utf8_of_part16 (parts_written _ _ _ _ _ _ _ _ c) (chain_parts calls call.pending (drop call.read unread) chain))

pub chain_within : (calls : List (Call ℕ EncoderResult ℕ)) (surrogate unread : List ℕ) → IsChain EncodeStep surrogate unread calls
    → read_in_all calls ≤ length unread
chain_within [] surrogate unread chain = omega arith
chain_within (call ∷ calls) surrogate unread (c, reaches, chain) =
    omega (
      arith,
      chain_within calls call.pending
          (drop call.read unread) chain,
      read_within _ _ _ _ _ _ _ _ c,
      length-take call.piece unread,
      length-drop call.read unread,
    )

pub chain_pending : (calls : List (Call ℕ EncoderResult ℕ)) (surrogate unread : List ℕ) → IsChain EncodeStep surrogate unread calls
    → IsPendingSurrogate surrogate → IsPendingSurrogate (pending_after surrogate calls)
chain_pending [] surrogate unread chain h = h
chain_pending (call ∷ calls) surrogate unread (c, reaches, chain) h = chain_pending calls call.pending (drop call.read unread) chain c.surrogate_after

-- a call is marked last and returns `InputEmpty`
abbrev pub Ends : Call ℕ EncoderResult ℕ → Type 0
Ends call = (call.last ≡ true) × (call.result ≡ InputEmpty)

-- nothing is left after a call that is marked last and returns `InputEmpty`
chain_ends : (calls : List (Call ℕ EncoderResult ℕ)) (surrogate unread : List ℕ) → IsChain EncodeStep surrogate unread calls → Any Ends calls
    → AreCodeUnits unread → pending_after surrogate calls ++ drop (read_in_all calls) unread ≡ []
chain_ends [] surrogate unread chain s a = absurd (Any-none Ends s)
chain_ends (call ∷ calls) surrogate unread (c, reaches, chain) s a =
    let following : List ℕ = drop call.read unread in
    let are : AreCodeUnits following = AreCodeUnits-following unread call.read a in
    ap (λ xs. pending_after call.pending calls ++ xs) (sym (drop-drop (read_in_all calls) call.read unread))
    ∙ elim (Any-cons Ends call calls s) [
      | inl (l, e) ↦
          let ended = all_encoded _ _ _ _ _ _ _ _ c l e in
          let rest : List ℕ = pending_after call.pending calls ++ (drop (read_in_all calls) following ++ []) in
          let none : call.pending ++ (following ++ []) ≡ [] =
          ap (λ xs. xs ++ (following ++ [])) ended.1
          ∙ ap (λ xs. xs ++ []) (drop_all call.read unread (omega (arith, ended.0, reaches l, length-take call.piece unread))) in
          let parts : List Part16 = chain_parts calls call.pending following chain in
          let first = chain_first calls call.pending following [] chain c.surrogate_after are (λ k. omega arith) (inl refl) in
          let units : flat_map units_of_part16 parts ++ rest ≡ [] = StartsWith16-units _ _ _ first ∙ none in
          let empty : rest ≡ [] = nil_from_length rest (omega (arith, ap length units, length-append (flat_map units_of_part16 parts) rest)) in
          ap (λ xs. pending_after call.pending calls ++ xs) (sym (append-nil (drop (read_in_all calls) following))) ∙ empty
      | inr more ↦ chain_ends calls call.pending following chain more are
    ]

pub chain_encodes : (surrogate src : List ℕ) (calls : List (Call ℕ EncoderResult ℕ)) → IsPendingSurrogate surrogate → AreCodeUnits src
    → IsChain EncodeStep surrogate src calls
    → EncodesFirstParts surrogate src calls (read_in_all calls) (output_of calls) (pending_after surrogate calls)
chain_encodes surrogate src calls h a chain =
    let parts : List Part16 = chain_parts calls surrogate src chain in
    let first : StartsWith16 (surrogate ++ src) parts (pending_after surrogate calls ++ drop (read_in_all calls) src) =
    rw (append-nil src, append-nil (drop (read_in_all calls) src)) at (chain_first calls surrogate src [] chain h a (λ k. omega arith) (inl refl)) in
    record {
      parts = parts;
      first = first;
      written = chain_written calls surrogate src chain;
      within = chain_within calls surrogate src chain;
      units = StartsWith16-read surrogate src parts (pending_after surrogate calls) (read_in_all calls) first;
      one_pending = chain_pending calls surrogate src chain h;
      all = λ s. StartsWith16-all (surrogate ++ src) parts _ (chain_ends calls surrogate src chain s a) first;
      stable = λ n more b. subst (λ xs. StartsWith16 xs parts (pending_after surrogate calls ++ drop (read_in_all calls) src ++ more))
          (sym (append_assoc surrogate src more))
          (subst (StartsWith16 (surrogate ++ (src ++ more)) parts) (sym (append_assoc (pending_after surrogate calls) (drop (read_in_all calls) src) more))
          (chain_first calls surrogate src more chain h a b (inr n)));
    }
