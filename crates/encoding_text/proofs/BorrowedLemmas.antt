-- Calls without a destination: when a byte doesn't continue what is pending, and what each call yields. For any pending
-- bytes, source and mark such a call has exactly one result.
use Rattle.std.proofs.Common.{◌≡◌, ℕ, inl, inr, Bool, List, [], ◌∷◌, ◌++◌, map, take, drop, encode_utf8}
use Rattle.std.proofs.Common.{encode_utf8_all, refl, sym, ap, ◌∙◌, arith, ◌<◌, ◌≤◌, true, false, length, subst}
use Rattle.std.specs.Str.{chars, all_scalars, IsUtf8}
use Rattle.std.proofs.lemmas.Bool.{and_from, and_parts}
use Rattle.std.proofs.lemmas.List.{append-nil, length-append, length-take, take_all, append_assoc, length-drop, nil_from_length, take-append-drop}
use Rattle.std.proofs.lemmas.Str.{chars-encodes, encode_same}
use Rattle.encoding_definitions.specs.Sequence.{IsIncomplete, IsPending}
use Rattle.encoding_definitions.specs.Parts.{Part, Character, IllFormed, BeginsWithNoCharacter, IsFirstPart, Yields}
use Rattle.encoding_text.specs.Decoding.{AreBorrowed, BorrowedDecodeStep, IsMalformed}
use Rattle.encoding_text.specs.Steps.{IsResultWithoutCharacter, Resumes}
use Rattle.encoding_text.specs.declared.decoder.DecoderResult.{DecoderResult}
use Rattle.encoding_text.specs.declared.decoder.DecoderResult.TheVariants as result
use Rattle.encoding_text.specs.declared.decoder.Piece.{Piece}
use Rattle.encoding_text.specs.declared.decoder.Piece.TheVariants.{Text, Char, Malformed, InputEmpty}
use Rattle.encoding_text.specs.declared.decoder.pending.Resumed.TheVariants.{Rejected}
use Rattle.encoding_text.proofs.CallLemmas.{malformed_rejected, yields_from, malformed_first, same_malformed, pending_not_malformed}
use Rattle.std.specs.Borrow.{Bor}
use Rattle.std.specs.Char.{IsScalar}
use Rattle.encoding_text.specs.OneResult.{AreSamePiece, HasOnePiece}
use Rattle.encoding_definitions.proofs.EncodingLemmas.{IsSequence-encode}
use Rattle.encoding_definitions.proofs.Utf8Lemmas.{IsLongestPrefix-utf8}
use Rattle.encoding_definitions.proofs.PartsLemmas.{prefixes_nest, has_first_part}
use Rattle.encoding_definitions.proofs.DecompositionLemmas.{has_parts}
use Rattle.encoding_text.proofs.OneResultLemmas.{length-encode-some, no_character_pending, malformed_or_open}
use Rattle.encoding_text.proofs.ConvertingLemmas.{cut_after, leading}

pub borrowed_rejected : (p src q : List ℕ) (last : Bool) (k read : ℕ) → IsIncomplete p → Resumes p src (Rejected k) read q
    → BorrowedDecodeStep p src last (Malformed k) read q
borrowed_rejected p src q last k read begins (short, count, o, b, more, next, rejected, none) = record {
  pending_before = inr begins;
  pending = inl none;
  answer = (
    omega (arith, short),
    omega (arith, count, length-append p (take read src), length-take read src, short),
    none,
    malformed_rejected (p ++ take read src) (drop read src) last b more next o rejected,
  );
}

-- the piece for what ended a call before bytes that start with no character
pub borrowed_end : (src q : List ℕ) (last : Bool) (end : DecoderResult) (returned : Piece) (read : ℕ) → IsResultWithoutCharacter src last end read q
    → (end ≡ result.InputEmpty → returned ≡ InputEmpty) → ((k second : ℕ) → end ≡ result.Malformed k second → returned ≡ Malformed k)
    → BorrowedDecodeStep [] src last returned read q
borrowed_end src q last result.InputEmpty returned read (all, whole, begins, more) empty malformed =
    subst (λ x. BorrowedDecodeStep [] src last x read q) (sym (empty refl)) (record {
      pending_before = inl refl;
      pending = inr (subst IsIncomplete (sym whole) begins);
      answer = (all, whole, λ marked. let clash : false ≡ true = sym more ∙ marked in cc);
    })
borrowed_end src q last result.OutputFull returned read none empty malformed = absurd none
borrowed_end src q last (result.Malformed k second) returned read (zero, is, within, none, bytes) empty malformed =
    subst (λ x. BorrowedDecodeStep [] src last x read q) (sym (malformed k second refl)) (record {
      pending_before = inl refl;
      pending = inl none;
      answer = (omega arith, omega (arith, length-take read src), none, subst (λ n. IsMalformed (take n src) (drop n src) last) (sym is) bytes);
    })

-- ---- what a call yields
abbrev HasYielded : List ℕ → List ℕ → Bool → Piece → ℕ → List ℕ → Type 0
HasYielded p src last returned read q = (parts : List Part) × AreBorrowed returned parts × Yields p src last parts read q

pub borrowed_yields : (p src : List ℕ) (last : Bool) (returned : Piece) (read : ℕ) (q : List ℕ) → BorrowedDecodeStep p src last returned read q
    → HasYielded p src last returned read q
borrowed_yields p src last (Text t) read q call =
    let (neutral, none, some, bytes, prefix) = call.answer in
    let (cs, (h, e)) = prefix.kind in (
      map Character cs ++ [],
      append-nil (map Character cs) ∙ ap (map Character) (sym (chars-encodes cs h) ∙ ap chars (e ∙ sym bytes)),
      yields_from p src last result.InputEmpty read cs q q prefix.within call.pending h refl
          (ap (λ xs. xs ++ take read src) neutral ∙ sym e ∙ sym (append-nil (encode_utf8_all cs)) ∙ ap (λ xs. encode_utf8_all cs ++ xs) (sym none)),
    )
borrowed_yields p src last (Char c) read q call =
    let (some, none, within, h, e) = call.answer in
    let one : encode_utf8_all (c ∷ []) ≡ encode_utf8 c = append-nil (encode_utf8 c) in (
      Character c ∷ [],
      refl,
      yields_from p src last result.InputEmpty read (c ∷ []) q q within call.pending (and_from _ _ h refl) refl
          (e ∙ sym one ∙ sym (append-nil (encode_utf8_all (c ∷ []))) ∙ ap (λ xs. encode_utf8_all (c ∷ []) ++ xs) (sym none)),
    )
borrowed_yields p src last (Malformed k) read q call =
    let (within, size, none, malformed) = call.answer in
    let x = p ++ take read src in
    (IllFormed x ∷ [], (x, refl, size), yields_from p src last (result.Malformed k 0) read [] q x within call.pending refl (refl, size, none, malformed) refl)
borrowed_yields p src last InputEmpty read q call =
    let (all, kept, ended) = call.answer in
    let taken : p ++ take read src ≡ q = ap (λ xs. p ++ xs) (take_all read src (omega (arith, all))) ∙ sym kept in
    ([], refl, yields_from p src last result.InputEmpty read [] q q (omega (arith, all)) call.pending refl refl taken)

-- ---- there is a result
module _ (last : Bool) where
  abbrev HasPiece : List ℕ → List ℕ → Type 0
  HasPiece p src = (returned : Piece) × (read : ℕ) × (q : List ℕ) × BorrowedDecodeStep p src last returned read q

  -- the bytes t end the malformed sequence that is first, or the source ends it
  malformed_piece : (p src t after : List ℕ) → IsPending p → src ≡ t ++ after → IsFirstPart ((p ++ t) ++ after) (IllFormed (p ++ t)) after → HasPiece p src
  malformed_piece p src t after pending e first =
      let cut = cut_after src t after e in
      let taken : p ++ take (length t) src ≡ p ++ t = ap (λ xs. p ++ xs) cut.1 in
      elim (malformed_or_open (p ++ t) after last first) [
        | inl malformed ↦ (
          Malformed (length (p ++ t)),
          length t,
          [],
          record {
            pending_before = pending;
            pending = inl refl;
            answer = (
              cut.0,
              ap length taken,
              refl,
              subst (λ xs. IsMalformed xs (drop (length t) src) last) (sym taken)
                  (subst (λ xs. IsMalformed (p ++ t) xs last) (sym cut.2) malformed),
            );
          },
        )
        | inr (none, o, more) ↦
            let whole : p ++ t ≡ p ++ src = ap (λ xs. p ++ xs) (sym (append-nil t) ∙ ap (λ xs. t ++ xs) (sym none) ∙ sym e) in (
              InputEmpty,
              length src,
              p ++ t,
              record {
                pending_before = pending;
                pending = inr o;
                answer = (refl, whole, λ l. let clash : true ≡ false = sym l ∙ more in cc);
              },
            )
      ]

  -- with nothing pending
  prefix_piece : (src : List ℕ) → ((cs : List ℕ) × (rest : List ℕ) × (all_scalars cs ≡ true) × (src ≡ encode_utf8_all cs ++ rest) × BeginsWithNoCharacter rest)
      → HasPiece [] src
  prefix_piece src ([], rest, h, e, none) = by_bytes src (subst BeginsWithNoCharacter (sym e) none)
    where
      by_bytes : (bs : List ℕ) → BeginsWithNoCharacter bs → HasPiece [] bs
      by_bytes [] n = (InputEmpty, 0, [], record { pending_before = inl refl; pending = inl refl; answer = (refl, refl, λ _. refl) })
      by_bytes (b ∷ bs) n = first (has_first_part (b ∷ bs) (omega arith))
        where
          first : ((part : Part) × (rest : List ℕ) × IsFirstPart (b ∷ bs) part rest) → HasPiece [] (b ∷ bs)
          first (Character c, after, (k, f)) = absurd (n (encode_utf8 c) after f (IsSequence-encode c k))
          first (IllFormed x, after, (m, either)) =
              let whole : b ∷ bs ≡ x ++ after = elim either [ inl l ↦ l.whole | inr l ↦ l.whole ] in
              malformed_piece [] (b ∷ bs) x after (inl refl) whole (subst (λ xs. IsFirstPart xs (IllFormed x) after) whole (m, either))
  prefix_piece src (c ∷ cs, rest, h, e, none) =
      let text = encode_utf8_all (c ∷ cs) in
      let cut = cut_after src text rest e in (
        Text (record { ref_ptr = (0, 0); now = text }),
        length text,
        [],
        record {
          pending_before = inl refl;
          pending = inl refl;
          answer = (
            refl,
            refl,
            omega (arith, length-append (encode_utf8 c) (encode_utf8_all cs), length-encode-some c),
            sym cut.1,
            IsLongestPrefix-utf8 src (length text) cut.0 (subst IsUtf8 (sym cut.1) (c ∷ cs, (h, refl))) (subst BeginsWithNoCharacter (sym cut.2) none),
          );
        },
      )

  -- with an incomplete sequence pending
  resumed_piece : (p src : List ℕ) → IsIncomplete p → ((part : Part) × (after : List ℕ) × IsFirstPart (p ++ src) part after) → HasPiece p src
  resumed_piece p src b (Character c, after, (h, e)) = elim (prefixes_nest p src (encode_utf8 c) after e) [
    | inl (t, f, g) ↦
        let cut = cut_after src t after g in (
          Char c,
          length t,
          [],
          record {
            pending_before = inr b;
            pending = inl refl;
            answer = ((λ n. omega (arith, ap length n, b.0)), refl, cut.0, h, ap (λ xs. p ++ xs) cut.1 ∙ sym f);
          },
        )
    | inr (t, f, g) ↦ absurd (no_character_pending c t p h (inr b) f)
  ]
  resumed_piece p src b (IllFormed x, after, (n, inl l)) = elim (prefixes_nest p src x after l.whole) [
    | inl (t, f, g) ↦
        malformed_piece p src t after (inr b) g
        (subst (λ xs. IsFirstPart (xs ++ after) (IllFormed xs) after) f (subst (λ xs. IsFirstPart xs (IllFormed x) after) l.whole (n, inl l)))
    | inr (t, f, g) ↦
        let none : t ≡ [] = nil_from_length t (omega (arith, ap length f, length-append x t, l.longest p src refl b)) in
        let same : x ≡ p ++ [] = sym (append-nil x) ∙ ap (λ xs. x ++ xs) (sym none) ∙ sym f ∙ sym (append-nil p) in
        malformed_piece p src [] after (inr b) (sym (g ∙ ap (λ xs. xs ++ src) none))
        (subst (λ xs. IsFirstPart (xs ++ after) (IllFormed xs) after) same (subst (λ xs. IsFirstPart xs (IllFormed x) after) l.whole (n, inl l)))
  ]
  resumed_piece p src b (IllFormed x, after, (n, inr l)) = absurd (l.none p src refl b)

  has_piece : (p src : List ℕ) → IsPending p → HasPiece p src
  has_piece p src (inl n) = let parts = has_parts src in subst (λ xs. HasPiece xs src) (sym n) (prefix_piece src (leading src parts.0 parts.1))
  has_piece p src (inr b) = resumed_piece p src b (has_first_part (p ++ src) (omega (arith, length-append p src, b.0)))

-- ---- there is only one
module _ (p src : List ℕ) (last : Bool) where
  abbrev Call : Piece → ℕ → List ℕ → Type 0
  Call returned read q = BorrowedDecodeStep p src last returned read q

  split : (read : ℕ) → p ++ src ≡ (p ++ take read src) ++ drop read src
  split read = ap (λ xs. p ++ xs) (sym (take-append-drop read src)) ∙ sym (append_assoc p (take read src) (drop read src))

  -- the bytes start with a character
  abbrev Begins : Type 0
  Begins = (c : ℕ) × (rest : List ℕ) × IsScalar c × (p ++ src ≡ encode_utf8 c ++ rest)

  text_begins : (read : ℕ) (cs : List ℕ) → p ≡ [] → 0 < read → read ≤ length src → all_scalars cs ≡ true → encode_utf8_all cs ≡ take read src → Begins
  text_begins read [] n some within h e = absurd (omega (arith, ap length e, length-take read src))
  text_begins read (c ∷ cs) n some within h e = (
    c,
    encode_utf8_all cs ++ drop read src,
    (and_parts _ _ h).0,
    ap (λ xs. xs ++ src) n ∙ sym (take-append-drop read src) ∙ ap (λ xs. xs ++ drop read src) (sym e)
        ∙ append_assoc (encode_utf8 c) (encode_utf8_all cs) (drop read src),
  )

  -- it reports no malformed sequence
  not_malformed : (k read : ℕ) (q : List ℕ) → Begins → Call (Malformed k) read q → ⊥
  not_malformed k read q (c, rest, h, e) call =
      (malformed_first (p ++ take read src) (drop read src) last call.answer.3).0 (encode_utf8 c) rest (sym (split read) ∙ e) (IsSequence-encode c h)

  -- nor keeps all of the bytes
  not_open : (read : ℕ) (q : List ℕ) → Begins → Call InputEmpty read q → ⊥
  not_open read q (c, rest, h, e) call = no_character_pending c rest q h call.pending (call.answer.1 ∙ e)

  malformed_not_open : (k read read' : ℕ) (q q' : List ℕ) → Call (Malformed k) read q → Call InputEmpty read' q' → ⊥
  malformed_not_open k read read' q q' call call' =
      pending_not_malformed q' (p ++ take read src) (drop read src) last call'.pending call'.answer.2 call.answer.3 (call'.answer.1 ∙ split read)

  of_text : (t : Bor (List ℕ)) (read : ℕ) (q : List ℕ) → Call (Text t) read q → Begins
  of_text t read q call =
      let u = call.answer.4.kind in
      text_begins read u.0 call.answer.0 call.answer.2 call.answer.4.within u.1.0 u.1.1

  of_character : (c read : ℕ) (q : List ℕ) → Call (Char c) read q → Begins
  of_character c read q call = (c, drop read src, call.answer.3, split read ∙ ap (λ xs. xs ++ drop read src) call.answer.4)

  same_read : (read read' : ℕ) → read ≤ length src → read' ≤ length src → drop read src ≡ drop read' src → read ≡ read'
  same_read read read' within within' e = omega (arith, ap length e, length-drop read src, length-drop read' src)

  abbrev Same : Piece → ℕ → List ℕ → Piece → ℕ → List ℕ → Type 0
  Same returned read q returned' read' q' = AreSamePiece returned returned' × (read ≡ read') × (q ≡ q')

  pub same_piece : (returned returned' : Piece) (read read' : ℕ) (q q' : List ℕ) → Call returned read q → Call returned' read' q'
      → Same returned read q returned' read' q'
  same_piece (Text t) (Text u) read read' q q' call call' =
      let l = call.answer.4 in
      let l' = call'.answer.4 in
      let same : read ≡ read' = omega (arith, l.longest read' l'.within l'.kind, l'.longest read l.within l.kind) in
      (call.answer.3 ∙ ap (λ n. take n src) same ∙ sym call'.answer.3, same, call.answer.1 ∙ sym call'.answer.1)
  same_piece (Text t) (Char c) read read' q q' call call' = absurd (call'.answer.0 call.answer.0)
  same_piece (Text t) (Malformed k) read read' q q' call call' = absurd (not_malformed k read' q' (of_text t read q call) call')
  same_piece (Text t) InputEmpty read read' q q' call call' = absurd (not_open read' q' (of_text t read q call) call')
  same_piece (Char c) (Text t) read read' q q' call call' = absurd (call.answer.0 call'.answer.0)
  same_piece (Char c) (Char d) read read' q q' call call' =
      let one = encode_same c d (drop read src) (drop read' src) (ap (λ xs. xs ++ drop read src) (sym call.answer.4) ∙ sym (split read) ∙ split read'
      ∙ ap (λ xs. xs ++ drop read' src) call'.answer.4) in
      (one.0, same_read read read' call.answer.2 call'.answer.2 one.1, call.answer.1 ∙ sym call'.answer.1)
  same_piece (Char c) (Malformed k) read read' q q' call call' = absurd (not_malformed k read' q' (of_character c read q call) call')
  same_piece (Char c) InputEmpty read read' q q' call call' = absurd (not_open read' q' (of_character c read q call) call')
  same_piece (Malformed k) (Text t) read read' q q' call call' = absurd (not_malformed k read q (of_text t read' q' call') call)
  same_piece (Malformed k) (Char c) read read' q q' call call' = absurd (not_malformed k read q (of_character c read' q' call') call)
  same_piece (Malformed k) (Malformed k') read read' q q' call call' =
      let x = p ++ take read src in
      let x' = p ++ take read' src in
      let one = same_malformed x (drop read src) x' (drop read' src) last call.answer.3 call'.answer.3 (sym (split read) ∙ split read') in
      (sym call.answer.1 ∙ ap length one.0 ∙ call'.answer.1, same_read read read' call.answer.0 call'.answer.0 one.1, call.answer.2 ∙ sym call'.answer.2)
  same_piece (Malformed k) InputEmpty read read' q q' call call' = absurd (malformed_not_open k read read' q q' call call')
  same_piece InputEmpty (Text t) read read' q q' call call' = absurd (not_open read q (of_text t read' q' call') call)
  same_piece InputEmpty (Char c) read read' q q' call call' = absurd (not_open read q (of_character c read' q' call') call)
  same_piece InputEmpty (Malformed k) read read' q q' call call' = absurd (malformed_not_open k read' read q' q call' call)
  same_piece InputEmpty InputEmpty read read' q q' call call' = (tt, call.answer.0 ∙ sym call'.answer.0, call.answer.1 ∙ sym call'.answer.1)

-- ---- exactly one
pub one_piece : (p src : List ℕ) (last : Bool) → IsPending p → HasOnePiece p src last
one_piece p src last pending =
    let found = has_piece last p src pending in
    (found.0, found.1, found.2, found.3, λ returned' read' q' call'. same_piece p src last found.0 returned' found.1 read' found.2 q' found.3 call')
