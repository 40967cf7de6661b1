-- A call meets its definition: with nothing pending, with an incomplete sequence, and both in a row.
use Rattle.std.proofs.Common.{◌≡◌, ◌≢◌, ℕ, ◌+◌, ◌-◌, ◌<◌, ◌≤◌, inl, inr, Bool, true, false, List, [], ◌∷◌, ◌++◌, length}
use Rattle.std.proofs.Common.{take, drop, encode_utf8, encode_utf8_all, refl, sym, ap, ◌∙◌, arith, subst, take-add}
use Rattle.std.specs.Char.{IsScalar}
use Rattle.std.specs.List.{flat_map}
use Rattle.std.proofs.lemmas.Bool.{and_from, cases_lt}
use Rattle.std.proofs.lemmas.List.{append-nil, append_assoc, length-append, length-drop, length-take}
use Rattle.std.proofs.lemmas.List.{take-append-drop, drop-drop, nil_from_length, take_all, take_rest}
use Rattle.std.proofs.lemmas.Str.{encode_same, length-encode, len_utf8_bounds}
use borrow.Rule.Slice.PartMut.{put_mid}
use Rattle.encoding_definitions.specs.Sequence.{IsSequence, IsIncomplete, IsPending}
use Rattle.encoding_definitions.specs.Parts.{BeginsWithNoCharacter}
use Rattle.encoding_text.specs.Steps.{Resumes, ConvertsUntilFull, IsResultAtEnd, IsResultWithoutCharacter}
use Rattle.encoding_definitions.specs.Prefixes.{WritesPrefix}
use Rattle.encoding_definitions.specs.Converting.{FittingBegins}
use Rattle.encoding_text.specs.Decoding.{IsMalformed, DecodeStep, IsDecodeResult, DecodeStepInto}
use Rattle.encoding_text.specs.declared.decoder.DecoderResult.{DecoderResult}
use Rattle.encoding_text.specs.declared.decoder.DecoderResult.TheVariants.{InputEmpty, OutputFull, Malformed}
use Rattle.encoding_text.specs.declared.decoder.pending.Resumed.TheVariants.{Rejected}
use Rattle.encoding_definitions.proofs.EncodingLemmas.{decode_utf8_scalar}
use Rattle.encoding_definitions.proofs.PrefixesLemmas.{WritesPrefix-nil, WritesPrefix-length, WritesPrefix_after}
use Rattle.encoding_text.proofs.CallLemmas.{malformed_rejected, malformed_some}

module _ {A : Type 0} (encode : ℕ → List A) (need : ℕ) where
  -- ---- with nothing pending
  -- the characters of a prefix are written
  prefix_call : {src q : List ℕ} {old new : List A} {read read' written : ℕ} {last : Bool} {result : DecoderResult}
      (d : ConvertsUntilFull encode src old new read written) → IsPending q
      → IsDecodeResult encode need [] src last result read' d.scalars (length old - length (flat_map encode d.scalars)) q
      → DecodeStepInto encode need [] src old new last result read' written q
  prefix_call d pending answer = (
    flat_map encode d.scalars,
    d.writes,
    record {
      scalars = d.scalars;
      are_scalars = d.are_scalars;
      out_is = refl;
      fits = omega (arith, d.writes.count, d.writes.fits);
      pending_before = inl refl;
      pending = pending;
      answer = answer;
      pending_needs_room = λ n _. absurd (n refl);
    },
  )

  pub all_read : (src : List ℕ) (old new : List A) (read written : ℕ) (last : Bool) → ConvertsUntilFull encode src old new read written → read ≡ length src
      → DecodeStepInto encode need [] src old new last InputEmpty read written []
  all_read src old new read written last d e =
      prefix_call d (inl refl)
      (e, sym (append-nil (encode_utf8_all d.scalars) ∙ d.spelled ∙ take_all read src (omega (arith, e))), (λ _. refl), λ n _. absurd (n refl))

  pub full : (src : List ℕ) (old new : List A) (read written : ℕ) (last : Bool) → ConvertsUntilFull encode src old new read written → read ≢ length src
      → length old - written < need → DecodeStepInto encode need [] src old new last OutputFull read written []
  full src old new read written last d n l =
      let within : read ≤ length src = d.within in
      prefix_call d (inl refl) (
        omega (arith, n),
        sym (append-nil (encode_utf8_all d.scalars) ∙ d.spelled),
        omega (arith, l, d.writes.count),
        (λ _ f. d.stops (subst (λ k. FittingBegins encode (drop read src) (length old - k)) (sym d.writes.count) f)),
        λ m. absurd (m refl),
      )

  pub ends : (src : List ℕ) (old new : List A) (read written : ℕ) (last : Bool) (result : DecoderResult) (more : ℕ) (q : List ℕ)
      → ConvertsUntilFull encode src old new read written → need ≤ length old - written
      → IsResultWithoutCharacter (drop read src) last result more q → DecodeStepInto encode need [] src old new last result (read + more) written q
  ends src old new read written last InputEmpty more q d l (all, rest, o, not_last) =
      let within : read ≤ length src = d.within in
      prefix_call d (inr (subst IsIncomplete (sym rest) o)) (
        omega (arith, all, length-drop read src),
        sym (take-append-drop read src) ∙ (λ i. (sym d.spelled) i ++ (sym rest) i),
        (λ t. let clash : true ≡ false = sym t ∙ not_last in cc),
        λ _ _. omega (arith, l, d.writes.count),
      )
  ends src old new read written last OutputFull more q d l none = absurd none
  ends src old new read written last (Malformed k second) more q d l (zero, same, inside, none, malformed) =
      let within : read ≤ length src = d.within in
      let following : drop (read + more) src ≡ drop k (drop read src) = sym (drop-drop more read src) ∙ ap (λ n. drop n (drop read src)) same in
      prefix_call d (inl none) (
        take k (drop read src),
        zero,
        omega (arith, same, inside, length-drop read src),
        take-add read more src ∙ (λ i. (sym d.spelled) i ++ take (same i) (drop read src)),
        omega (arith, length-take k (drop read src), inside),
        none,
        subst (λ xs. IsMalformed (take k (drop read src)) xs last) (sym following) malformed,
        λ _. omega (arith, l, d.writes.count),
      )

  -- ---- with an incomplete sequence pending
  -- no character is written
  pub silent_call : {p src q : List ℕ} {room read : ℕ} {last : Bool} {result : DecoderResult} → IsPending p → IsPending q → (p ≢ [] → 0 < read → need ≤ room)
      → IsDecodeResult encode need p src last result read [] (room - 0) q → DecodeStep encode need p src room last result read [] q
  silent_call before after enough answer = record {
    scalars = [];
    are_scalars = refl;
    out_is = refl;
    fits = omega arith;
    pending_before = before;
    pending = after;
    answer = answer;
    pending_needs_room = enough;
  }

  pub source_ended : (p src old-src after : List ℕ) (old : List A) (last : Bool) (result : DecoderResult) (read : ℕ) → IsIncomplete p → old-src ≡ p ++ src
      → read ≡ length src → (0 < length src → need ≤ length old)
      → IsResultAtEnd old-src last result after → DecodeStepInto encode need p src old old last result read 0 after
  source_ended p src kept after old last InputEmpty read b e all room (same, whole, pending) = (
    [],
    WritesPrefix-nil old,
    silent_call (inr b) (subst IsPending (sym same) pending) (λ _ some. room (omega (arith, all)))
        (all, sym (same ∙ e), (λ t. same ∙ whole t), λ _ some. omega (arith, room (omega (arith, all, some)))),
  )
  source_ended p src kept after old last OutputFull read b e all room none = absurd none
  source_ended p src kept after old last (Malformed k second) read b e all room (zero, count, none, o, l) = (
    [],
    WritesPrefix-nil old,
    silent_call (inr b) (inl none) (λ _ some. room (omega (arith, all))) (
      kept,
      zero,
      omega (arith, all),
      ap (λ xs. p ++ xs) (take_all read src (omega (arith, all))) ∙ sym e,
      sym count,
      none,
      subst (λ xs. IsMalformed kept xs last) (sym (nil_from_length (drop read src) (omega (arith, length-drop read src, all)))) (inr (o, l)),
      (λ some. omega (arith, room some)),
    ),
  )

  pub pending_full : (p src : List ℕ) (old : List A) (last : Bool) → IsPending p → 0 < length src → length old < need → p ≢ []
      → DecodeStepInto encode need p src old old last OutputFull 0 0 p
  pending_full p src old last pending some l n = (
    [],
    WritesPrefix-nil old,
    silent_call pending pending (λ _ h. absurd (omega arith))
        (some, append-nil p, omega (arith, l), (λ e. absurd (n e)), λ _. (refl, refl)),
  )

  pub pending_rejected : (p src q : List ℕ) (old : List A) (last : Bool) (k read : ℕ) → IsIncomplete p → need ≤ length old → Resumes p src (Rejected k) read q
      → DecodeStepInto encode need p src old old last (Malformed k 0) read 0 q
  pending_rejected p src q old last k read begins l (short, count, o, b, more, next, rejected, none) = (
    [],
    WritesPrefix-nil old,
    silent_call (inr begins) (inl none) (λ _ _. l) (
      p ++ take read src,
      refl,
      omega (arith, short),
      refl,
      omega (arith, count, length-append p (take read src), length-take read src, short),
      none,
      malformed_rejected (p ++ take read src) (drop read src) last b more next o rejected,
      λ _. omega (arith, l),
    ),
  )

  -- the bytes of a character, and then others
  following : (p x y cs rest : List ℕ) (c : ℕ) → p ++ x ≡ encode_utf8 c → y ≡ encode_utf8_all cs ++ rest → p ++ (x ++ y) ≡ encode_utf8_all (c ∷ cs) ++ rest
  following p x y cs rest c e f = sym (append_assoc p x y) ∙ (λ i. e i ++ f i) ∙ sym (append_assoc (encode_utf8 c) (encode_utf8_all cs) rest)

  after_prefix : (p src cs : List ℕ) (c read more : ℕ) (rest : List ℕ) → p ++ take read src ≡ encode_utf8 c
      → take more (drop read src) ≡ encode_utf8_all cs ++ rest
      → p ++ take (read + more) src ≡ encode_utf8_all (c ∷ cs) ++ rest
  after_prefix p src cs c read more rest e f = ap (λ xs. p ++ xs) (take-add read more src)
      ∙ following p (take read src) (take more (drop read src)) cs rest c e f

  pub answer_after : (p src : List ℕ) (c read : ℕ) (cs : List ℕ) (last : Bool) (result : DecoderResult) (more left left' : ℕ) (q : List ℕ)
      → p ++ take read src ≡ encode_utf8 c → read ≤ length src → left ≡ left'
      → IsDecodeResult encode need [] (drop read src) last result more cs left q → IsDecodeResult encode need p src last result (read + more) (c ∷ cs) left' q
  answer_after p src c read cs last InputEmpty more left left' q e within same (all, whole, ended, room) = (
    omega (arith, all, length-drop read src, within),
    ap (λ xs. p ++ xs) (sym (take-append-drop read src)) ∙ following p (take read src) (drop read src) cs q c e whole,
    ended,
    (λ n _. elim (cases_lt 0 more) [
      | inl s ↦ subst (λ k. need ≤ k) same (room n s)
      | inr z ↦ absurd (n (nil_from_length q (omega (arith, ap length whole, length-append (encode_utf8_all cs) q, all))))
    ]),
  )
  answer_after p src c read cs last OutputFull more left left' q e within same (short, whole, little, none, kept) = (
    omega (arith, short, length-drop read src),
    after_prefix p src cs c read more q e whole,
    omega (arith, little, same),
    (λ f g. none f
        (subst (λ k. FittingBegins encode (drop more (drop read src)) k) (sym same)
        (subst (λ xs. FittingBegins encode xs left') (sym (drop-drop more read src)) g))),
    (λ n. absurd (n (kept n).1)),
  )
  answer_after p src c read cs last (Malformed k second) more left left' q e within same (x, zero, inside, whole, size, none, malformed, room) = (
    x,
    zero,
    omega (arith, inside, length-drop read src, within),
    after_prefix p src cs c read more x e whole,
    size,
    none,
    subst (λ xs. IsMalformed x xs last) (drop-drop more read src) malformed,
    (λ _. subst (λ n. need ≤ n) same
        (room (omega (arith, ap length whole, length-append (encode_utf8_all cs) x, length-take more (drop read src), malformed_some x _ last malformed)))),
  )

  -- a character, and the call that follows it
  pub call_after : (p src : List ℕ) (c read room room' : ℕ) (last : Bool) (result : DecoderResult) (more : ℕ) (out : List A) (q : List ℕ) → IsPending p
      → IsScalar c → p ++ take read src ≡ encode_utf8 c
      → read ≤ length src → length (encode c) ≤ room → (p ≢ [] → need ≤ room) → room' ≡ room - length (encode c)
      → DecodeStep encode need [] (drop read src) room' last result more out q
      → DecodeStep encode need p src room last result (read + more) (encode c ++ out) q
  call_after p src c read room room' last result more out q before h e within fitting enough size call =
      let inside : length out ≤ room' = call.fits in
      record {
        scalars = c ∷ call.scalars;
        are_scalars = and_from _ _ h call.are_scalars;
        out_is = ap (λ xs. encode c ++ xs) call.out_is;
        fits = omega (arith, length-append (encode c) out);
        pending_before = before;
        pending = call.pending;
        answer = answer_after p src c read call.scalars last result more _ _ q e within (omega (arith, length-append (encode c) out)) call.answer;
        pending_needs_room = λ some _. enough some;
      }

-- if each character takes at most `need` code units
module _ {A : Type 0} (encode : ℕ → List A) (need : ℕ) (fits : (c : ℕ) → IsScalar c → length (encode c) ≤ need) where
  -- with space for any character, the rest starts with none
  pub no_character_fits : (src : List ℕ) (old new : List A) (read written : ℕ) → ConvertsUntilFull encode src old new read written → need ≤ length old - written
      → BeginsWithNoCharacter (drop read src)
  no_character_fits src old new read written d l prefix rest e s =
      let c = decode_utf8_scalar prefix s in
      d.stops (c.0, rest, c.1, e ∙ ap (λ xs. xs ++ rest) (sym c.2), omega (arith, fits c.0 c.1, l))

  -- ---- a character that was pending, and the call for what follows it
  -- the bytes of one character convert to exactly that character
  one_character : (s : List ℕ) (c : ℕ) (old new : List A) (read written : ℕ) → IsScalar c → encode_utf8 c ≡ s → need ≤ length old
      → ConvertsUntilFull encode s old new read written
      → WritesPrefix old new written (encode c)
  one_character s c old new read written h e l d = just d.scalars refl
    where
      whole : (cs : List ℕ) → cs ≡ d.scalars → encode_utf8_all cs ++ drop read s ≡ encode_utf8 c ++ []
      whole cs f = ap (λ xs. encode_utf8_all xs ++ drop read s) f ∙ ap (λ xs. xs ++ drop read s) d.spelled ∙ take-append-drop read s ∙ sym e
          ∙ sym (append-nil (encode_utf8 c))

      just : (cs : List ℕ) → cs ≡ d.scalars → WritesPrefix old new written (encode c)
      just [] f =
          let none : written ≡ 0 = d.writes.count ∙ sym (ap (λ xs. length (flat_map encode xs)) f) in
          absurd (d.stops (c, [], h, whole [] f, omega (arith, fits c h, none, l)))
      just (b ∷ []) f =
          let same = encode_same b c (drop read s) [] (ap (λ xs. xs ++ drop read s) (sym (append-nil (encode_utf8 b))) ∙ whole (b ∷ []) f) in
          let out : flat_map encode d.scalars ≡ encode c = sym (ap (flat_map encode) f) ∙ append-nil (encode b) ∙ ap encode same.0 in
          subst (λ xs. WritesPrefix old new written xs) out d.writes
      just (b ∷ a ∷ more) f =
          let rest = encode_utf8_all more ++ drop read s in
          let same = encode_same b c (encode_utf8 a ++ rest) [] (regroup b a more ∙ whole (b ∷ a ∷ more) f) in
          absurd (omega (arith, ap length same.1, length-append (encode_utf8 a) rest, length-encode a, len_utf8_bounds a))
        where
          regroup : (b a : ℕ) (more : List ℕ)
              → encode_utf8 b ++ (encode_utf8 a ++ (encode_utf8_all more ++ drop read s)) ≡
              (encode_utf8 b ++ (encode_utf8 a ++ encode_utf8_all more)) ++ drop read s
          regroup b a more = sym (append_assoc (encode_utf8 b) (encode_utf8 a ++ encode_utf8_all more) (drop read s)
              ∙ ap (λ xs. encode_utf8 b ++ xs) (append_assoc (encode_utf8 a) (encode_utf8_all more) (drop read s)))

  pub whole_then : (p src bytes : List ℕ) (old new sub : List A) (last : Bool) (result : DecoderResult) (read n read' written more written' : ℕ) (q : List ℕ)
      → IsIncomplete p → need ≤ length old → read ≤ length src → take n bytes ≡ p ++ take read src → IsSequence (p ++ take read src)
      → ConvertsUntilFull encode (take n bytes) old new read' written
      → DecodeStepInto encode need [] (drop read src) (take (length new - written) (drop written new)) sub last result more written' q
      → DecodeStepInto encode need p src old (put_mid written (length new - written) new sub) last result (read + more) (written + written') q
  whole_then p src bytes old new sub last result read n read' written more written' q begins room within e s d (out, writes, call) =
      let c = decode_utf8_scalar (p ++ take read src) s in
      let first : WritesPrefix old new written (encode c.0) = one_character (take n bytes) c.0 old new read' written c.1 (c.2 ∙ sym e) room d in
      let size : length (take (length new - written) (drop written new)) ≡ length old - length (encode c.0) =
      omega (arith, ap length (take_rest new written), length-drop written new, WritesPrefix-length old new written (encode c.0) first, first.count) in (
        encode c.0 ++ out,
        WritesPrefix_after old new written (encode c.0) sub written' out first writes,
        call_after encode need p src c.0 read _ _ last result more out q (inr begins) c.1 (sym c.2) within (omega (arith, first.count, first.fits))
            (λ _. room) size call,
      )
