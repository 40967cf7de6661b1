-- For any pending bytes, source, space and mark a decode call has a result, and exactly one.
use Rattle.std.proofs.Common.{◌≡◌, ◌≢◌, ℕ, ◌+◌, ◌-◌, ◌<◌, ◌≤◌, ◌⊎◌, inl, inr, Bool, true, false, List, [], ◌∷◌, ◌++◌}
use Rattle.std.proofs.Common.{length, encode_utf8, encode_utf8_all, refl, sym, ap, ◌∙◌, arith, subst, zero, suc, take, drop}
use Rattle.std.specs.Char.{IsScalar}
use Rattle.std.specs.Str.{all_scalars}
use Rattle.std.proofs.lemmas.Bool.{and_parts, cases_Bool, cases_lt}
use Rattle.std.proofs.lemmas.List.{append-nil, append_assoc, length-append, nil_from_length, append_cancel_left, length-drop, length-take, drop_all}
use Rattle.std.proofs.lemmas.Str.{encode_same, length-encode, len_utf8_bounds}
use Rattle.encoding_definitions.specs.Sequence.{IsIncomplete, IsPending}
use Rattle.encoding_definitions.specs.Parts.{Part, Character, IllFormed, IsFirstPart, ArePartsOf}
use Rattle.encoding_definitions.specs.Converting.{FittingBegins}
use Rattle.encoding_text.specs.Decoding.{IsMalformed, DecodeStep, IsDecodeResult}
use Rattle.encoding_text.specs.declared.decoder.DecoderResult.{DecoderResult}
use Rattle.encoding_text.specs.declared.decoder.DecoderResult.TheVariants.{InputEmpty, OutputFull, Malformed}
use Rattle.encoding_definitions.proofs.EncodingLemmas.{IsSequence-encode, length_encode_utf8_le, length-encode_utf16-le}
use Rattle.encoding_definitions.proofs.PartsLemmas.{prefixes_nest, no_sequence_in_incomplete, first_open}
use Rattle.encoding_definitions.proofs.PartsLemmas.{has_first_part, part_bytes, unpaired_part, rejected_part}
use Rattle.encoding_definitions.proofs.DecompositionLemmas.{has_parts}
use Rattle.encoding_text.proofs.ConvertingLemmas.{cut_after}
use Rattle.encoding_text.proofs.DecodeLemmas.{silent_call, call_after}
use Rattle.std.specs.Char.Escape.{encode_utf16}
use Rattle.std.specs.List.{flat_map}
use Rattle.std.proofs.lemmas.Grind.{flat_map-append}
use Rattle.encoding_text.specs.OneResult.{HasOneResult}
use Rattle.encoding_text.proofs.CallLemmas.{malformed_first, same_malformed, pending_not_malformed, FollowsOutput, call_read, call_bytes}

pub length-encode-some : (c : ℕ) → 0 < length (encode_utf8 c)
length-encode-some c = omega (arith, length-encode c, len_utf8_bounds c)

-- pending bytes don't start with a character
pub no_character_pending : (c : ℕ) (rest q : List ℕ) → IsScalar c → IsPending q → q ≡ encode_utf8 c ++ rest → ⊥
no_character_pending c rest q h (inl n) e = omega (arith, ap length (sym n ∙ e), length-append (encode_utf8 c) rest, length-encode-some c)
no_character_pending c rest q h (inr b) e = no_sequence_in_incomplete (encode_utf8 c) rest (subst IsIncomplete e b) (IsSequence-encode c h)

pub no_characters_pending : (cs rest q : List ℕ) → all_scalars cs ≡ true → IsPending q → q ≡ encode_utf8_all cs ++ rest → cs ≡ []
no_characters_pending [] rest q h pending e = refl
no_characters_pending (c ∷ cs) rest q h pending e =
    absurd (no_character_pending c (encode_utf8_all cs ++ rest) q (and_parts _ _ h).0 pending (e ∙ append_assoc (encode_utf8 c) (encode_utf8_all cs) rest))

-- ---- there is a result
pub malformed_or_open : (x after : List ℕ) (last : Bool) → IsFirstPart (x ++ after) (IllFormed x) after
    → IsMalformed x after last ⊎ ((after ≡ []) × IsIncomplete x × (last ≡ false))
malformed_or_open x [] last (n, inl l) = elim (cases_Bool last) [ inl t ↦ inl (inr (l.incomplete, t)) | inr f ↦ inr (refl, l.incomplete, f) ]
malformed_or_open x (y ∷ ys) last (n, inl l) = inl (inr (l.incomplete, rejected_part (x ++ (y ∷ ys)) x y ys n l))
malformed_or_open x [] last (n, inr l) = inl (inl (unpaired_part (x ++ []) x [] n l))
malformed_or_open x (y ∷ ys) last (n, inr l) = inl (inl (unpaired_part (x ++ (y ∷ ys)) x (y ∷ ys) n l))

module _ {A : Type 0} (encode : ℕ → List A) (need : ℕ) (last : Bool) where
  abbrev HasCall : List ℕ → List ℕ → ℕ → Type 0
  HasCall p src room = (result : DecoderResult) × (read : ℕ) × (out : List A) × (q : List ℕ) × DecodeStep encode need p src room last result read out q

  -- no space for the next character
  full_call : (p src : List ℕ) (room : ℕ) → IsPending p → 0 < length src → room < need → (p ≡ [] → FittingBegins encode src room → ⊥) → HasCall p src room
  full_call p src room pending some short none = (
    OutputFull,
    0,
    [],
    p,
    silent_call encode need pending pending (λ _ h. absurd (omega arith))
        (some, append-nil p, omega arith, (λ n f. none n (subst (λ k. FittingBegins encode src k) (omega arith) f)), λ _. (refl, refl)),
  )

  -- the bytes t end the malformed sequence x
  report_call : (p src t x after : List ℕ) (room : ℕ) → IsPending p → x ≡ p ++ t → src ≡ t ++ after → IsMalformed x after last → (0 < length src → need ≤ room)
      → HasCall p src room
  report_call p src t x after room before e f malformed enough =
      let cut = cut_after src t after f in (
        Malformed (length x) 0,
        length t,
        [],
        [],
        silent_call encode need before (inl refl) (λ _ some. enough (omega (arith, cut.0))) (
          x,
          refl,
          cut.0,
          ap (λ xs. p ++ xs) cut.1
              ∙ sym e,
          refl,
          refl,
          subst (λ xs. IsMalformed x xs last) (sym cut.2) malformed,
          (λ some. omega (arith, enough some)),
        ),
      )

  -- all is read, and an incomplete sequence is left
  open_call : (p src x : List ℕ) (room : ℕ) → IsPending p → p ++ src ≡ x → IsIncomplete x → last ≡ false → (0 < length src → need ≤ room) → HasCall p src room
  open_call p src x room before e o more enough = (
    InputEmpty,
    length src,
    [],
    x,
    silent_call encode need before (inr o) (λ _ some. enough some) (
      refl,
      e,
      (λ t. let clash : true ≡ false = sym t ∙ more in
          cc),
      λ _ some. omega (arith, enough some),
    ),
  )

  malformed_call : (p src t x after : List ℕ) (room : ℕ) → IsPending p → x ≡ p ++ t → src ≡ t ++ after → IsFirstPart (x ++ after) (IllFormed x) after
      → (0 < length src → need ≤ room) → HasCall p src room
  malformed_call p src t x after room before e f first enough = elim (malformed_or_open x after last first) [
    | inl malformed ↦ report_call p src t x after room before e f malformed enough
    | inr (n, o, more) ↦ open_call p src x room before (ap (λ xs. p ++ xs) (f ∙ ap (λ xs. t ++ xs) n ∙ append-nil t) ∙ sym e) o more enough
  ]

  -- the bytes t end a character, and a call follows
  character_call : (p src t after : List ℕ) (c room : ℕ) → IsPending p → IsScalar c → encode_utf8 c ≡ p ++ t → src ≡ t ++ after → length (encode c) ≤ room
      → (p ≢ [] → need ≤ room)
      → HasCall [] after (room - length (encode c)) → HasCall p src room
  character_call p src t after c room before h e f fitting enough (result, read, out, q, call) =
      let cut = cut_after src t after f in (
        result,
        length t + read,
        encode c ++ out,
        q,
        call_after encode need p src c (length t) room _ last result read out q before h (ap (λ xs. p ++ xs) cut.1 ∙ sym e) cut.0 fitting enough refl
            (subst (λ xs. DecodeStep encode need [] xs (room - length (encode c)) last result read out q) (sym cut.2) call),
      )

  module _ (fits : (c : ℕ) → IsScalar c → length (encode c) ≤ need) where
    -- with nothing pending, by the parts of the source
    neutral_call : (ps : List Part) (src : List ℕ) (room : ℕ) → ArePartsOf src ps → HasCall [] src room
    neutral_call [] src room e =
        (InputEmpty, length src, [], [], silent_call encode need (inl refl) (inl refl) (λ n _. absurd (n refl)) (refl, e, (λ _. refl), λ n _. absurd (n refl)))
    neutral_call (Character c ∷ ps) src room (after, (h, e), more) = elim (cases_lt room (length (encode c))) [
      | inl short ↦ full_call [] src room (inl refl) (omega (arith, ap length e, length-append (encode_utf8 c) after, length-encode-some c))
          (omega (arith, fits c h))
          (λ _ (b, rest, k, f, g). let same = encode_same c b after rest (sym e ∙ f) in omega (arith, subst (λ x. length (encode x) ≤ room) (sym same.0) g))
      | inr enough ↦ character_call [] src (encode_utf8 c) after c room (inl refl) h refl e enough (λ n. absurd (n refl))
          (neutral_call ps after (room - length (encode c)) more)
    ]
    neutral_call (IllFormed x ∷ ps) src room (after, f, more) =
        let bytes = part_bytes src (IllFormed x) after f in
        elim (cases_lt room need) [
          | inl short ↦ full_call [] src room (inl refl) (omega (arith, ap length bytes.0, length-append x after, bytes.1)) short
              (λ _ (b, rest, k, e, g). f.0 (encode_utf8 b) rest e (IsSequence-encode b k))
          | inr enough ↦ malformed_call [] src x x after room (inl refl) refl bytes.0 (subst (λ xs. IsFirstPart xs (IllFormed x) after) bytes.0 f) (λ _. enough)
        ]

    -- with an incomplete sequence pending, by the first part of it and the source
    resumed_call : (p src : List ℕ) (room : ℕ) (part : Part) (after : List ℕ) → IsIncomplete p → need ≤ room → IsFirstPart (p ++ src) part after
        → HasCall p src room
    resumed_call p src room (Character c) after b enough (h, e) = elim (prefixes_nest p src (encode_utf8 c) after e) [
      | inl (t, f, g) ↦
          let parts = has_parts after in
          character_call p src t after c room (inr b) h f g (omega (arith, fits c h)) (λ _. enough)
          (neutral_call parts.0 after (room - length (encode c)) parts.1)
      | inr (t, f, g) ↦ absurd (no_character_pending c t p h (inr b) f)
    ]
    resumed_call p src room (IllFormed x) after b enough (n, inl l) =
        let first : IsFirstPart (x ++ after) (IllFormed x) after = subst (λ xs. IsFirstPart xs (IllFormed x) after) l.whole (n, inl l) in
        elim (prefixes_nest p src x after l.whole) [
          | inl (t, f, g) ↦ malformed_call p src t x after room (inr b) f g first (λ _. enough)
          | inr (t, f, g) ↦
              let none : t ≡ [] = nil_from_length t (omega (arith, ap length f, length-append x t, l.longest p src refl b)) in
              malformed_call p src [] x after room (inr b) (sym (append-nil x) ∙ ap (λ xs. x ++ xs) (sym none) ∙ sym f ∙ sym (append-nil p))
              (sym (g ∙ ap (λ xs. xs ++ src) none)) first (λ _. enough)
        ]
    resumed_call p src room (IllFormed x) after b enough (n, inr l) = absurd (l.none p src refl b)

    pending_call : (p src : List ℕ) (room : ℕ) → IsIncomplete p → HasCall p src room
    pending_call p [] room b =
        malformed_call p [] [] p [] room (inr b) (sym (append-nil p)) refl (subst (λ xs. IsFirstPart xs (IllFormed p) []) (sym (append-nil p)) (first_open p b))
        (λ none. absurd (omega arith))
    pending_call p (y ∷ ys) room b = elim (cases_lt room need) [
      | inl short ↦ full_call p (y ∷ ys) room (inr b) (omega arith) short (λ n _. omega (arith, ap length n, b.0))
      | inr enough ↦
          let first = has_first_part (p ++ (y ∷ ys)) (omega (arith, length-append p (y ∷ ys))) in
          resumed_call p (y ∷ ys) room first.0 first.1 b enough first.2
    ]

    some_call : (p src : List ℕ) (room : ℕ) → IsPending p → HasCall p src room
    some_call p src room (inl n) = let parts = has_parts src in subst (λ xs. HasCall xs src room) (sym n) (neutral_call parts.0 src room parts.1)
    some_call p src room (inr b) = pending_call p src room b

pub has_result : {A : Type 0} (encode : ℕ → List A) (need : ℕ) (p src : List ℕ) (room : ℕ) (last : Bool)
    → ((c : ℕ) → IsScalar c → length (encode c) ≤ need) → IsPending p
    → (result : DecoderResult) × (read : ℕ) × (out : List A) × (q : List ℕ) × DecodeStep encode need p src room last result read out q
has_result encode need p src room last fits pending = some_call encode need last fits p src room pending

-- ---- characters at the start of the same bytes
-- either cs are all the characters of cs', with the same bytes z after them;
-- or cs' has more of them, and z starts with the first of these
abbrev Continues : List ℕ → List ℕ → List ℕ → List ℕ → Type 0
Continues cs z cs' z' = (c : ℕ) × (more : List ℕ) × (cs' ≡ cs ++ c ∷ more) × (z ≡ encode_utf8 c ++ (encode_utf8_all more ++ z'))

abbrev Compared : List ℕ → List ℕ → List ℕ → List ℕ → Type 0
Compared cs z cs' z' = ((cs ≡ cs') × (z ≡ z')) ⊎ (Continues cs z cs' z' ⊎ Continues cs' z' cs z)

one_more : (c d : ℕ) (cs z cs' z' : List ℕ) → c ≡ d → Compared cs z cs' z' → Compared (c ∷ cs) z (d ∷ cs') z'
one_more c d cs z cs' z' e (inl (f, g)) = inl ((λ i. e i ∷ f i), g)
one_more c d cs z cs' z' e (inr (inl (b, more, f, g))) = inr (inl (b, more, (λ i. (sym e) i ∷ f i), g))
one_more c d cs z cs' z' e (inr (inr (b, more, f, g))) = inr (inr (b, more, (λ i. e i ∷ f i), g))

compare : (cs z cs' z' : List ℕ) → encode_utf8_all cs ++ z ≡ encode_utf8_all cs' ++ z' → Compared cs z cs' z'
compare [] z [] z' e = inl (refl, e)
compare [] z (d ∷ cs') z' e = inr (inl (d, cs', refl, e ∙ append_assoc (encode_utf8 d) (encode_utf8_all cs') z'))
compare (c ∷ cs) z [] z' e = inr (inr (c, cs, refl, sym e ∙ append_assoc (encode_utf8 c) (encode_utf8_all cs) z))
compare (c ∷ cs) z (d ∷ cs') z' e =
    let same = encode_same c d (encode_utf8_all cs ++ z) (encode_utf8_all cs' ++ z')
    (sym (append_assoc (encode_utf8 c) (encode_utf8_all cs) z) ∙ e ∙ append_assoc (encode_utf8 d) (encode_utf8_all cs') z') in
    one_more c d cs z cs' z' same.0 (compare cs z cs' z' same.1)

-- there are no characters before bytes that are no shorter than the whole
no_characters : (cs q p : List ℕ) → p ≡ encode_utf8_all cs ++ q → length p ≤ length q → cs ≡ []
no_characters [] q p e l = refl
no_characters (c ∷ cs) q p e l = absurd
    (omega (
      arith,
      ap length e,
      length-append (encode_utf8 c ++ encode_utf8_all cs) q,
      length-append (encode_utf8 c)
          (encode_utf8_all cs),
      length-encode-some c,
    ))

head_scalar : (cs : List ℕ) (c : ℕ) (more : List ℕ) → all_scalars (cs ++ c ∷ more) ≡ true → IsScalar c
head_scalar [] c more h = (and_parts _ _ h).0
head_scalar (b ∷ cs) c more h = head_scalar cs c more (and_parts _ _ h).1

-- ---- where a call ends
-- its result, with the bytes y after the characters of what it read
record Ended {A : Type 0} (encode : ℕ → List A) (need : ℕ) (p src : List ℕ) (last : Bool) (result : DecoderResult) (read : ℕ) (cs : List ℕ) (left : ℕ)
    (q y : List ℕ) : Type 0 where
  pub pending : IsPending q
  pub answer : IsDecodeResult encode need p src last result read cs left q
  pub follows : FollowsOutput (drop read src) last result q y
  pub whole : p ++ take read src ≡ encode_utf8_all cs ++ y

-- it read something, if it wrote a character
wrote_some : (p src cs more y : List ℕ) (read c : ℕ) → IsPending p → all_scalars (cs ++ c ∷ more) ≡ true
    → p ++ take read src ≡ encode_utf8_all (cs ++ c ∷ more) ++ y → 0 < read
wrote_some p src cs more y zero c pending h e =
    let none = no_characters_pending (cs ++ c ∷ more) y p h pending (sym (append-nil p) ∙ e) in
    absurd (omega (arith, ap length none, length-append cs (c ∷ more)))
wrote_some p src cs more y (suc read) c pending h e = omega arith

module _ {A : Type 0} (encode : ℕ → List A) (need : ℕ) (p src : List ℕ) (last : Bool) where
  -- the rest starts with no character that would fit
  no_more : (result : DecoderResult) (read : ℕ) (cs : List ℕ) (room : ℕ) (q y : List ℕ) (c : ℕ) (rest : List ℕ) → IsScalar c
      → Ended encode need p src last result read cs (room - length (flat_map encode cs)) q y → (p ≢ [] → need ≤ room)
      → length (flat_map encode cs) + length (encode c) ≤ room → y ++ drop read src ≡ encode_utf8 c ++ rest → ⊥
  no_more InputEmpty read cs room q y c rest h d large fits e =
      no_character_pending c rest q h d.pending (sym (append-nil q) ∙ (λ i. (sym d.follows) i ++ (sym (drop_all read src (omega (arith, d.answer.0)))) i) ∙ e)
  no_more OutputFull read cs room q y c rest h d large fits e = full d.pending
    where
      full : IsPending q → ⊥
      full (inl n) = d.answer.3 n (c, rest, h, ap (λ xs. xs ++ drop read src) (sym (d.follows ∙ n)) ∙ e, omega arith)
      full (inr b) =
          let kept = d.answer.4 (λ n. omega (arith, ap length n, b.0)) in
          let same : p ≡ encode_utf8_all cs ++ q = sym (append-nil p) ∙ sym (ap (λ n. p ++ take n src) kept.0) ∙ d.whole
          ∙ ap (λ xs. encode_utf8_all cs ++ xs) d.follows in
          let none : cs ≡ [] = no_characters cs q p same (omega (arith, ap length kept.1)) in
          let enough : need ≤ room = large (λ n. omega (arith, ap length (kept.1 ∙ n), b.0)) in
          omega (arith, d.answer.2, ap (λ xs. length (flat_map encode xs)) none)
  no_more (Malformed k second) read cs room q y c rest h d large fits e =
      (malformed_first y (drop read src) last d.follows.3).0 (encode_utf8 c) rest e (IsSequence-encode c h)

  -- ---- with the same characters
  module _ (cs : List ℕ) (left : ℕ) where
    abbrev End : DecoderResult → ℕ → List ℕ → List ℕ → Type 0
    End result read q y = Ended encode need p src last result read cs left q y

    empty_full : (read read' : ℕ) (q q' y y' : List ℕ) → End InputEmpty read q y → End OutputFull read' q' y' → y ++ drop read src ≡ y' ++ drop read' src → ⊥
    empty_full read read' q q' y y' d d' e =
        let more : 0 < length y =
        omega (
          arith,
          ap length e,
          length-append y (drop read src),
          length-append y'
              (drop read' src),
          length-drop read src,
          length-drop read' src,
          d.answer.0,
          d'.answer.0,
        ) in
        let room : need ≤ left = d.answer.3 (λ n. omega (arith, ap length (d.follows ∙ n))) (omega (arith, d.answer.0, d'.answer.0)) in
        omega (arith, d'.answer.2)

    empty_malformed : (read read' : ℕ) (q q' y y' : List ℕ) (k second : ℕ) → End InputEmpty read q y → End (Malformed k second) read' q' y'
        → y ++ drop read src ≡ y' ++ drop read' src → ⊥
    empty_malformed read read' q q' y y' k second d d' e =
        pending_not_malformed q y' (drop read' src) last d.pending d.answer.2 d'.follows.3 (sym (append-nil q)
        ∙ (λ i. (sym d.follows) i ++ (sym (drop_all read src (omega (arith, d.answer.0)))) i) ∙ e)

    full_malformed : (read read' : ℕ) (q q' y y' : List ℕ) (k second : ℕ) → End OutputFull read q y → End (Malformed k second) read' q' y' → ⊥
    full_malformed read read' q q' y y' k second d d' =
        let room : need ≤ left = d'.answer.7 (omega (arith, d.answer.0)) in
        omega (arith, d.answer.2)

    pending_full : (read read' : ℕ) (q q' y y' : List ℕ) → End OutputFull read q y → End OutputFull read' q' y' → q ≡ [] → IsIncomplete q' → ⊥
    pending_full read read' q q' y y' d d' n b =
        let kept = d'.answer.4 (λ none. omega (arith, ap length none, b.0)) in
        omega (
          arith,
          ap length d.whole,
          ap length d'.whole,
          length-append {A = ℕ},
          length-take {A = ℕ},
          ap length (d.follows ∙ n),
          ap length (d'.follows
              ∙ kept.1),
          ap length kept.1,
          kept.0,
          b.0,
        )

    abbrev Same : DecoderResult → ℕ → List ℕ → DecoderResult → ℕ → List ℕ → Type 0
    Same result read q result' read' q' = (result ≡ result') × (read ≡ read') × (q ≡ q')

    full_full : (read read' : ℕ) (q q' y y' : List ℕ) → End OutputFull read q y → End OutputFull read' q' y' → y ++ drop read src ≡ y' ++ drop read' src
        → Same OutputFull read q OutputFull read' q'
    full_full read read' q q' y y' d d' e = either d.pending d'.pending
      where
        either : IsPending q → IsPending q' → Same OutputFull read q OutputFull read' q'
        either (inl n) (inl n') = (
          refl,
          omega (
            arith,
            ap length e,
            length-append {A = ℕ},
            length-drop {A = ℕ},
            ap length (d.follows ∙ n),
            ap length (d'.follows
                ∙ n'),
            d.answer.0,
            d'.answer.0,
          ),
          n ∙ sym n',
        )
        either (inl n) (inr b') = absurd (pending_full read read' q q' y y' d d' n b')
        either (inr b) (inl n') = absurd (pending_full read' read q' q y' y d' d n' b)
        either (inr b) (inr b') =
            let kept = d.answer.4 (λ n. omega (arith, ap length n, b.0)) in
            let kept' = d'.answer.4 (λ n. omega (arith, ap length n, b'.0)) in
            (refl, kept.0 ∙ sym kept'.0, kept.1 ∙ sym kept'.1)

    malformed_malformed : (read read' : ℕ) (q q' y y' : List ℕ) (k second k' second' : ℕ) → End (Malformed k second) read q y
        → End (Malformed k' second') read' q' y'
        → y ++ drop read src ≡ y' ++ drop read' src → Same (Malformed k second) read q (Malformed k' second') read' q'
    malformed_malformed read read' q q' y y' k second k' second' d d' e =
        let one = same_malformed y (drop read src) y' (drop read' src) last d.follows.3 d'.follows.3 e in
        let count : k ≡ k' = sym d.follows.1 ∙ ap length one.0 ∙ d'.follows.1 in
        let zero : second ≡ second' = d.follows.0 ∙ sym d'.follows.0 in (
          (λ i. Malformed (count i) (zero i)),
          omega (arith, ap length one.1, length-drop read src, length-drop read' src, d.answer.2, d'.answer.2),
          d.follows.2 ∙ sym d'.follows.2,
        )

    same_end : (result result' : DecoderResult) (read read' : ℕ) (q q' y y' : List ℕ) → End result read q y → End result' read' q' y'
        → y ++ drop read src ≡ y' ++ drop read' src → Same result read q result' read' q'
    same_end InputEmpty InputEmpty read read' q q' y y' d d' e =
        (refl, d.answer.0 ∙ sym d'.answer.0, append_cancel_left (encode_utf8_all cs) q q' (sym d.answer.1 ∙ d'.answer.1))
    same_end InputEmpty OutputFull read read' q q' y y' d d' e = absurd (empty_full read read' q q' y y' d d' e)
    same_end InputEmpty (Malformed k second) read read' q q' y y' d d' e = absurd (empty_malformed read read' q q' y y' k second d d' e)
    same_end OutputFull InputEmpty read read' q q' y y' d d' e = absurd (empty_full read' read q' q y' y d' d (sym e))
    same_end OutputFull OutputFull read read' q q' y y' d d' e = full_full read read' q q' y y' d d' e
    same_end OutputFull (Malformed k second) read read' q q' y y' d d' e = absurd (full_malformed read read' q q' y y' k second d d')
    same_end (Malformed k second) InputEmpty read read' q q' y y' d d' e = absurd (empty_malformed read' read q' q y' y k second d' d (sym e))
    same_end (Malformed k second) OutputFull read read' q q' y y' d d' e = absurd (full_malformed read' read q' q y' y k second d' d)
    same_end (Malformed k second) (Malformed k' second') read read' q q' y y' d d' e = malformed_malformed read read' q q' y y' k second k' second' d d' e

  -- ---- two calls
  module _ (room : ℕ) where
    -- a call, with the characters that it wrote
    abbrev Ends : DecoderResult → ℕ → List ℕ → List ℕ → List ℕ → Type 0
    Ends result read cs q y = Ended encode need p src last result read cs (room - length (flat_map encode cs)) q y

    ended : (result : DecoderResult) (read : ℕ) (out : List A) (q : List ℕ) (call : DecodeStep encode need p src room last result read out q)
        → (y : List ℕ) × Ends result read call.scalars q y
    ended result read out q call =
        let r = call_read encode need p src last result read call.scalars (room - length out) q call.answer in (
          r.0,
          record {
            pending = call.pending;
            answer = subst (λ o. IsDecodeResult encode need p src last result read call.scalars (room - length o) q) call.out_is call.answer;
            follows = r.1;
            whole = r.2;
          },
        )

    -- the second has no more characters than the first
    not_continued : (result result' : DecoderResult) (read read' : ℕ) (out out' : List A) (q q' y y' : List ℕ) → IsPending p
        → (call : DecodeStep encode need p src room last result read out q) (call' : DecodeStep encode need p src room last result' read' out' q')
        → Ends result read call.scalars q y → Ends result' read' call'.scalars q' y'
        → Continues call.scalars (y ++ drop read src) call'.scalars (y' ++ drop read' src) → ⊥
    not_continued result result' read read' out out' q q' y y' pending call call' d d' (c, more, f, e) =
        let cs = call.scalars in
        let scalars : all_scalars (cs ++ c ∷ more) ≡ true = subst (λ xs. all_scalars xs ≡ true) f call'.are_scalars in
        let spelled : p ++ take read' src ≡ encode_utf8_all (cs ++ c ∷ more) ++ y' = d'.whole ∙ ap (λ xs. encode_utf8_all xs ++ y') f in
        let written : length out' ≡ length (flat_map encode cs) + length (encode c ++ flat_map encode more) =
        ap length (call'.out_is ∙ ap (flat_map encode) f ∙ flat_map-append encode cs (c ∷ more))
        ∙ length-append (flat_map encode cs) (encode c ++ flat_map encode more) in
        no_more result read cs room q y c (encode_utf8_all more ++ (y' ++ drop read' src)) (head_scalar cs c more scalars) d
        (λ some. call'.pending_needs_room some (wrote_some p src cs more y' read' c pending scalars spelled))
        (omega (arith, written, length-append (encode c) (flat_map encode more), call'.fits)) e

    same_call : (result result' : DecoderResult) (read read' : ℕ) (out out' : List A) (q q' : List ℕ) → IsPending p
        → DecodeStep encode need p src room last result read out q → DecodeStep encode need p src room last result' read' out' q'
        → (result ≡ result') × (read ≡ read') × (out ≡ out') × (q ≡ q')
    same_call result result' read read' out out' q q' pending call call' =
        let d = ended result read out q call in
        let d' = ended result' read' out' q' call' in
        let z = d.0 ++ drop read src in
        let z' = d'.0 ++ drop read' src in
        let e : encode_utf8_all call.scalars ++ z ≡ encode_utf8_all call'.scalars ++ z' =
        sym (call_bytes p src call.scalars d.0 read d.1.whole) ∙ call_bytes p src call'.scalars d'.0 read' d'.1.whole in
        elim (compare call.scalars z call'.scalars z' e) [
          | inl (f, g) ↦
              let cs = call.scalars in
              let same =
              same_end cs (room - length (flat_map encode cs)) result result' read read' q q' d.0 d'.0 d.1
              (subst (λ xs. Ends result' read' xs q' d'.0) (sym f) d'.1) g in
              (same.0, same.1, call.out_is ∙ ap (flat_map encode) f ∙ sym call'.out_is, same.2)
          | inr (inl more) ↦ absurd (not_continued result result' read read' out out' q q' d.0 d'.0 pending call call' d.1 d'.1 more)
          | inr (inr more) ↦ absurd (not_continued result' result read' read out' out q' q d'.0 d.0 pending call' call d'.1 d.1 more)
        ]

-- ---- there is only one result
pub one_result : {A : Type 0} (encode : ℕ → List A) (need : ℕ) (p src : List ℕ) (room : ℕ) (last : Bool) (result result' : DecoderResult) (read read' : ℕ)
    (out out' : List A) (q q' : List ℕ)
    → IsPending p → DecodeStep encode need p src room last result read out q → DecodeStep encode need p src room last result' read' out' q'
    → (result ≡ result') × (read ≡ read') × (out ≡ out') × (q ≡ q')
one_result encode need p src room last = same_call encode need p src last room

-- ---- to bytes and to UTF-16
has_one_result : {A : Type 0} (encode : ℕ → List A) (need : ℕ) (p src : List ℕ) (room : ℕ) (last : Bool)
    → ((c : ℕ) → IsScalar c → length (encode c) ≤ need) → IsPending p
    → HasOneResult encode need p src room last
has_one_result encode need p src room last fits pending =
    let a = has_result encode need p src room last fits pending in
    (a.0, a.1, a.2, a.3, a.4, λ result' read' out' q' call'. one_result encode need p src room last a.0 result' a.1 read' a.2 out' a.3 q' pending a.4 call')

pub one_utf8_result : (p src : List ℕ) (room : ℕ) (last : Bool) → IsPending p → HasOneResult encode_utf8 4 p src room last
one_utf8_result p src room last pending = has_one_result encode_utf8 4 p src room last length_encode_utf8_le pending

pub one_utf16_result : (p src : List ℕ) (room : ℕ) (last : Bool) → IsPending p → HasOneResult encode_utf16 2 p src room last
one_utf16_result p src room last pending = has_one_result encode_utf16 2 p src room last length-encode_utf16-le pending
