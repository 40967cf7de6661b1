-- For any pending bytes, source, space and mark a call of the UTF-16 decoder has at most one result.
use Rattle.std.proofs.Common.{◌≡◌, ◌≢◌, ℕ, ◌+◌, ◌-◌, ◌≤◌, ◌⊎◌, inl, inr, Bool, true, List, [], ◌∷◌, ◌++◌, length, take, drop, refl, sym, ap, ◌∙◌, arith, subst}
use Rattle.std.proofs.Common.{append_assoc}
use Rattle.std.specs.Char.{IsScalar}
use Rattle.std.specs.Char.Escape.{encode_utf16}
use Rattle.std.specs.List.{flat_map}
use Rattle.std.specs.Str.{all_scalars}
use Rattle.std.proofs.lemmas.Bool.{and_parts}
use Rattle.std.proofs.lemmas.List.{append-nil, append_cancel_left, append_cancel_right, length-append, length-take-le}
use Rattle.std.proofs.lemmas.List.Concat.{flat_map-append}
use Rattle.encoding_text.specs.Parts.{Part, Character, IllFormed}
use Rattle.encoding_text.specs.Utf16Bytes.{bytes_of_scalars, utf16_bytes}
use Rattle.encoding_text.specs.declared.utf_16.ByteOrder.{ByteOrder}
use Rattle.encoding_text.specs.declared.decoder.DecoderResult.{DecoderResult}
use Rattle.encoding_text.specs.declared.decoder.DecoderResult.TheVariants.{InputEmpty, OutputFull, Malformed}
use Rattle.encoding_streams.specs.Utf16Parts.{IsPendingUtf16, IsFirstPartUtf16}
use Rattle.encoding_streams.specs.Utf16Decoding.{NeedsMore, IsUtf16DecodeResult, DecodeUtf16Step}
use Rattle.encoding_streams.proofs.Utf16ByteLemmas.{bytes_of_scalars-append, no_character_pending}
use Rattle.encoding_streams.proofs.Utf16PartLemmas.{part_bytes, same_first}
use Rattle.encoding_streams.proofs.Utf16WindowLemmas.{not_unpaired}
use Rattle.encoding_streams.proofs.Utf16ChainLemmas.{call_bytes}

-- ---- characters at the start of the same bytes
-- the second list of characters goes on where the first ends
abbrev Continues : ByteOrder → List ℕ → List ℕ → List ℕ → Type 0
Continues order cs rest others = (c : ℕ) × (more : List ℕ) × (others ≡ cs ++ c ∷ more) × IsScalar c × (after : List ℕ)
    × (rest ≡ utf16_bytes order (encode_utf16 c) ++ after)

abbrev Compared : ByteOrder → List ℕ → List ℕ → List ℕ → List ℕ → Type 0
Compared order cs rest others after = ((cs ≡ others) × (rest ≡ after)) ⊎ (Continues order cs rest others ⊎ Continues order others after cs)

character_first : (order : ByteOrder) (c : ℕ) (cs rest : List ℕ)
    → bytes_of_scalars order (c ∷ cs) ++ rest ≡ utf16_bytes order (encode_utf16 c) ++ (bytes_of_scalars order cs ++ rest)
character_first order c cs rest =
    ap (λ xs. xs ++ rest) (bytes_of_scalars-append order (c ∷ []) cs
    ∙ ap (λ us. utf16_bytes order us ++ bytes_of_scalars order cs) (append-nil (encode_utf16 c)))
    ∙ append_assoc (utf16_bytes order (encode_utf16 c)) (bytes_of_scalars order cs) rest

one_more : (order : ByteOrder) (c d : ℕ) (cs rest others after : List ℕ) → c ≡ d → Compared order cs rest others after
    → Compared order (c ∷ cs) rest (d ∷ others) after
one_more order c d cs rest others after e (inl (f, g)) = inl ((λ i. e i ∷ f i), g)
one_more order c d cs rest others after e (inr (inl (b, more, f, s, next, g))) = inr (inl (b, more, (λ i. (sym e) i ∷ f i), s, next, g))
one_more order c d cs rest others after e (inr (inr (b, more, f, s, next, g))) = inr (inr (b, more, (λ i. e i ∷ f i), s, next, g))

compare : (order : ByteOrder) (cs rest others after : List ℕ) → all_scalars cs ≡ true → all_scalars others ≡ true
    → bytes_of_scalars order cs ++ rest ≡ bytes_of_scalars order others ++ after → Compared order cs rest others after
compare order [] rest [] after h k e = inl (refl, e)
compare order [] rest (d ∷ others) after h k e =
    inr (inl (d, others, refl, (and_parts _ _ k).0, bytes_of_scalars order others ++ after, e ∙ character_first order d others after))
compare order (c ∷ cs) rest [] after h k e =
    inr (inr (c, cs, refl, (and_parts _ _ h).0, bytes_of_scalars order cs ++ rest, sym e ∙ character_first order c cs rest))
compare order (c ∷ cs) rest (d ∷ others) after h k e =
    let first = and_parts _ _ h in
    let second = and_parts _ _ k in
    let same =
    same_first order true true (utf16_bytes order (encode_utf16 c) ++ (bytes_of_scalars order cs ++ rest)) (Character c)
    (bytes_of_scalars order cs ++ rest) (Character d)
    (bytes_of_scalars order others ++ after) (first.0, refl) (second.0, sym (character_first order c cs rest) ∙ e ∙ character_first order d others after) in
    one_more order c d cs rest others after (let both : Character c ≡ Character d = same.0 in cc)
    (compare order cs rest others after first.1 second.1 same.1)

-- ---- how a call ends
-- bytes that wait for more have no first part
waits_no_part : (order : ByteOrder) (last : Bool) (q : List ℕ) (part : Part) (after : List ℕ) → IsPendingUtf16 order q → (last ≡ true → q ≡ [])
    → IsFirstPartUtf16 order last q part after → ⊥
waits_no_part order last q (Character c) after pending closes (s, e) = no_character_pending order c after q s pending e
waits_no_part order last q (IllFormed x) after pending closes (e, inl low) = not_unpaired order q pending x after e (inl low)
waits_no_part order last q (IllFormed x) after pending closes (e, inr (inl high)) = not_unpaired order q pending x after e (inr (inl high))
waits_no_part order last q (IllFormed x) after pending closes (e, inr (inr (some, also, none, l))) =
    let bytes = part_bytes order last q (IllFormed x) after (e, inr (inr (some, also, none, l))) in
    omega (arith, ap length (sym (closes l) ∙ bytes.0), length-append x after, bytes.1)

-- the bytes read, if what is pending was pending before
same_read : (p chars q q' : List ℕ) (read read' : ℕ) → (q ≢ [] → read ≡ 0) → (q' ≢ [] → read' ≡ 0) → length p + read ≡ length chars + length q
    → length p + read' ≡ length chars + length q' → read ≡ read'
same_read p chars [] [] read read' f g e h = omega (arith, e, h)
same_read p chars [] (y ∷ ys) read read' f g e h = let none = g (λ n. omega (arith, ap length n)) in omega (arith, none, e, h)
same_read p chars (y ∷ ys) [] read read' f g e h = let none = f (λ n. omega (arith, ap length n)) in omega (arith, none, e, h)
same_read p chars (y ∷ ys) (z ∷ zs) read read' f g e h =
    let none = f (λ n. omega (arith, ap length n)) in let other = g (λ n. omega (arith, ap length n)) in omega (arith, none, other)

read_length : (p src ys zs : List ℕ) (read : ℕ) → read ≤ length src → p ++ take read src ≡ ys ++ zs → length p + read ≡ length ys + length zs
read_length p src ys zs read l e = omega (arith, ap length e, length-append p (take read src), length-take-le read src l, length-append ys zs)

module _ {A : Type 0} (order : ByteOrder) (encode : ℕ → List A) (need : ℕ) (p src : List ℕ) (last : Bool) where
  abbrev Answer : DecoderResult → ℕ → List ℕ → ℕ → List ℕ → Type 0
  Answer result read cs left q = IsUtf16DecodeResult order encode need p src last result read cs left q

  -- the bytes after the characters that it wrote
  abbrev following : DecoderResult → ℕ → List ℕ → List ℕ → List ℕ
  following InputEmpty read q x = q
  following OutputFull read q x = q ++ drop read src
  following (Malformed k second) read q x = x ++ (q ++ drop read src)

  abbrev malformed_of : (result : DecoderResult) (read : ℕ) (cs : List ℕ) (left : ℕ) (q : List ℕ) → Answer result read cs left q → List ℕ
  malformed_of InputEmpty read cs left q a = []
  malformed_of OutputFull read cs left q a = []
  malformed_of (Malformed k second) read cs left q a = a.0

  bytes_after : (result : DecoderResult) (read : ℕ) (cs : List ℕ) (left : ℕ) (q : List ℕ) (a : Answer result read cs left q)
      → p ++ src ≡ bytes_of_scalars order cs ++ following result read q (malformed_of result read cs left q a)
  bytes_after InputEmpty read cs left q (all, whole, closes) = whole
  bytes_after OutputFull read cs left q (unread, within, whole, kept, part, after, first, more) = call_bytes order p src cs q read whole
  bytes_after (Malformed k second) read cs left q (x, within, whole, size, more, stayed, malformed, enough) =
      call_bytes order p src cs (x ++ q) read whole ∙ ap (λ xs. bytes_of_scalars order cs ++ xs) (append_assoc x q (drop read src))

  -- no character that would fit comes there
  no_more : (result : DecoderResult) (read : ℕ) (cs : List ℕ) (left : ℕ) (q : List ℕ) (a : Answer result read cs left q) → IsPendingUtf16 order q
      → (c : ℕ) (rest : List ℕ) → IsScalar c → following result read q (malformed_of result read cs left q a) ≡ utf16_bytes order (encode_utf16 c) ++ rest
      → length (encode c) ≤ left → ⊥
  no_more InputEmpty read cs left q a pending c rest s e l = no_character_pending order c rest q s pending e
  no_more OutputFull read cs left q (unread, within, whole, kept, part, after, first, more) pending c rest s e l =
      let same = same_first order last true (q ++ drop read src) part after (Character c) rest first (s, e) in
      omega (arith, l, subst (NeedsMore encode need left) same.0 more)
  no_more (Malformed k second) read cs left q (x, within, whole, size, more, stayed, malformed, enough) pending c rest s e l =
      let same = same_first order last true (x ++ (q ++ drop read src)) (IllFormed x) (q ++ drop read src) (Character c) rest (refl, malformed) (s, e) in
      (let both : IllFormed x ≡ Character c = same.0 in cc)

  -- ---- with the same characters
  abbrev Same : DecoderResult → DecoderResult → ℕ → ℕ → List ℕ → List ℕ → Type 0
  Same result result' read read' q q' = (result ≡ result') × (read ≡ read') × (q ≡ q')

  same_end : (result result' : DecoderResult) (read read' : ℕ) (cs : List ℕ) (left : ℕ) (q q' : List ℕ) (a : Answer result read cs left q)
      (b : Answer result' read' cs left q') → IsPendingUtf16 order q → IsPendingUtf16 order q'
      → following result read q (malformed_of result read cs left q a) ≡ following result' read' q' (malformed_of result' read' cs left q' b)
      → Same result result' read read' q q'
  same_end InputEmpty InputEmpty read read' cs left q q' a b h k e = (refl, omega (arith, a.0, b.0), e)
  same_end InputEmpty OutputFull read read' cs left q q' a (unread, within, whole, kept, part, after, first, more) h k e =
      absurd (waits_no_part order last q part after h a.2 (subst (λ xs. IsFirstPartUtf16 order last xs part after) (sym e) first))
  same_end InputEmpty (Malformed k' second) read read' cs left q q' a (x, within, whole, size, more, stayed, malformed, enough) h k e =
      absurd (waits_no_part order last q (IllFormed x) (q' ++ drop read' src) h a.2 (e, malformed))
  same_end OutputFull InputEmpty read read' cs left q q' (unread, within, whole, kept, part, after, first, more) b h k e =
      absurd (waits_no_part order last q' part after k b.2 (subst (λ xs. IsFirstPartUtf16 order last xs part after) e first))
  same_end OutputFull OutputFull read read' cs left q q' (unread, within, whole, kept, part, after, first, more)
      (unread', within', whole', kept', part', after', first', more') h k e =
      let same =
      same_read p (bytes_of_scalars order cs) q q' read read' (λ n. (kept n).0) (λ n. (kept' n).0)
      (read_length p src (bytes_of_scalars order cs) q read within whole)
      (read_length p src (bytes_of_scalars order cs) q' read' within' whole') in
      (refl, same, append_cancel_right q q' (drop read src) (e ∙ ap (λ n. q' ++ drop n src) (sym same)))
  same_end OutputFull (Malformed k' second) read read' cs left q q' (unread, within, whole, kept, part, after, first, more)
      (x, within', whole', size, more', stayed, malformed, enough) h k e =
      let same = same_first order last last (q ++ drop read src) part after (IllFormed x) (q' ++ drop read' src) first (e, malformed) in
      absurd (omega (arith, enough unread, subst (NeedsMore encode need left) same.0 more))
  same_end (Malformed k' second) InputEmpty read read' cs left q q' (x, within, whole, size, more, stayed, malformed, enough) b h k e =
      absurd (waits_no_part order last q' (IllFormed x) (q ++ drop read src) k b.2 (sym e, malformed))
  same_end (Malformed k' second) OutputFull read read' cs left q q' (x, within', whole', size, more', stayed, malformed, enough)
      (unread, within, whole, kept, part, after, first, more) h k e =
      let same = same_first order last last (q' ++ drop read' src) part after (IllFormed x) (q ++ drop read src) first (sym e, malformed) in
      absurd (omega (arith, enough unread, subst (NeedsMore encode need left) same.0 more))
  same_end (Malformed k' second) (Malformed k'' second') read read' cs left q q' (x, within, whole, size, more, stayed, malformed, enough)
      (x', within', whole', size', more', stayed', malformed', enough') h k e =
      let same =
      same_first order last last (x ++ (q ++ drop read src)) (IllFormed x) (q ++ drop read src) (IllFormed x') (q' ++ drop read' src)
      (refl, malformed) (e, malformed') in
      let bytes : x ≡ x' = let both : IllFormed x ≡ IllFormed x' = same.0 in cc in
      let before = bytes_of_scalars order cs ++ x in
      let first = read_length p src before q read within (whole ∙ sym (append_assoc (bytes_of_scalars order cs) x q)) in
      let other =
      read_length p src before q' read' within'
      (whole' ∙ ap (λ xs. bytes_of_scalars order cs ++ (xs ++ q')) (sym bytes) ∙ sym (append_assoc (bytes_of_scalars order cs) x q')) in
      let read_same = same_read p before q q' read read' stayed stayed' first other in
      let pending = append_cancel_right q q' (drop read src) (same.1 ∙ ap (λ n. q' ++ drop n src) (sym read_same)) in
      ((λ i. Malformed ((sym size ∙ ap length bytes ∙ size') i) ((sym more ∙ ap length pending ∙ more') i)), read_same, pending)

  -- ---- any two results
  module _ {room : ℕ} where
    more_written : (cs others : List ℕ) (c : ℕ) (more : List ℕ) (out : List A) → others ≡ cs ++ c ∷ more → out ≡ flat_map encode others → length out ≤ room
        → length (encode c) ≤ room - length (flat_map encode cs)
    more_written cs others c more out e f l =
        let whole = ap length (f ∙ ap (flat_map encode) e ∙ flat_map-append encode cs (c ∷ more)) in
        omega (arith, l, whole, length-append (flat_map encode cs) (flat_map encode (c ∷ more)), length-append (encode c) (flat_map encode more))

    pub one_result : (result result' : DecoderResult) (read read' : ℕ) (out out' : List A) (q q' : List ℕ)
        → DecodeUtf16Step order encode need p src room last result read out q → DecodeUtf16Step order encode need p src room last result' read' out' q'
        → (result ≡ result') × (read ≡ read') × (out ≡ out') × (q ≡ q')
    one_result result result' read read' out out' q q' a b =
        let before = bytes_after result read a.scalars (room - length out) q a.answer in
        let other = bytes_after result' read' b.scalars (room - length out') q' b.answer in
        elim (compare order a.scalars _ b.scalars _ a.are_scalars b.are_scalars (sym before ∙ other)) [
          | inl (same, rest) ↦ joined same rest
          | inr (inl (c, more, e, s, after, f)) ↦
              absurd
              (no_more result read a.scalars (room - length out) q a.answer a.pending c after s f
              (let l = more_written a.scalars b.scalars c more out' e b.out_is b.fits in omega (arith, l, ap length a.out_is)))
          | inr (inr (c, more, e, s, after, f)) ↦
              absurd
              (no_more result' read' b.scalars (room - length out') q' b.answer b.pending c after s f
              (let l = more_written b.scalars a.scalars c more out e a.out_is a.fits in omega (arith, l, ap length b.out_is)))
        ]
      where
        joined : (same : a.scalars ≡ b.scalars)
            → following result read q (malformed_of result read a.scalars (room - length out) q a.answer) ≡
            following result' read' q' (malformed_of result' read' b.scalars (room - length out') q' b.answer)
            → (result ≡ result') × (read ≡ read') × (out ≡ out') × (q ≡ q')
        joined same rest =
            let written : out ≡ out' = a.out_is ∙ ap (flat_map encode) same ∙ sym b.out_is in
            let again = subst (λ cs. Answer result' read' cs (room - length out') q') (sym same) b.answer in
            let there = subst (λ n. Answer result' read' a.scalars n q') (sym (ap (λ xs. room - length xs) written)) again in
            let ends = same_end result result' read read' a.scalars (room - length out) q q' a.answer there a.pending b.pending
            (append_cancel_left (bytes_of_scalars order a.scalars) _ _
            (sym (bytes_after result read a.scalars (room - length out) q a.answer) ∙ bytes_after result' read' a.scalars (room - length out) q' there)) in
            (ends.0, ends.1, written, ends.2)
