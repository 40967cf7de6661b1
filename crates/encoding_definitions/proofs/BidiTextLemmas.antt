-- Right-to-left characters of a text in UTF-8: of one character, of a text joined from two, and none in Latin1.
use Rattle.std.proofs.Common.{◌≡◌, ℕ, ◌<◌, ◌≤◌, ◌⊎◌, inl, inr, List, [], ◌∷◌, ◌++◌, length, take, drop, slice_index}
use Rattle.std.proofs.Common.{encode_utf8, encode_utf8_all, IsUtf8, refl, sym, ap, ◌∙◌, arith, subst, Bool, true, false}
use Rattle.std.specs.Prelude.{Any}
use Rattle.std.specs.Char.{IsScalar}
use Rattle.std.specs.Str.{all_scalars, is_utf8}
use Rattle.std.proofs.str.Laws.{both}
use Rattle.std.proofs.lemmas.Bool.{cases_lt, and_from}
use Rattle.std.proofs.lemmas.List.{append-nil, length-drop, drop_all, take-append-drop}
use Rattle.std.proofs.lemmas.Str.{encodes-append, encodes_same, IsUtf8-append, IsUtf8-drop, IsUtf8-nil}
use Rattle.std.proofs.lemmas.Str.{IsUtf8-from_is_utf8, is_utf8-from_IsUtf8, IsCharBoundary-from_take}
use lib.Utf8.{scalar}
use Rattle.encoding_definitions.specs.Bidi.{IsRightToLeft, IsBidiText, IsBidiBytes}
use Rattle.encoding_definitions.specs.Latin1.{IsUtf8Latin1}
use Rattle.encoding_definitions.specs.Parts.{BeginsWithNoCharacter}
use Rattle.encoding_definitions.proofs.AnyLemmas.{Any-here, Any-none, Any-cons, Any-left, Any-right, Any-append, Any-place}
use Rattle.encoding_definitions.proofs.Latin1Lemmas.{scalars_of_latin1}
use Rattle.encoding_definitions.proofs.EncodingLemmas.{IsSequence-encode}

-- ---- the scalar values of a text
abbrev HasOne : List ℕ → Type 0
HasOne cs = Any IsRightToLeft cs

pub text_of_bidi : (bs : List ℕ) → IsBidiText bs → IsUtf8 bs
text_of_bidi bs b = (b.0, (b.1, b.2))

-- of any scalar values whose UTF-8 is the text, one is right-to-left
pub bidi_scalars : (bs cs : List ℕ) → encode_utf8_all cs ≡ bs → IsBidiText bs → Any IsRightToLeft cs
bidi_scalars bs cs e b = subst HasOne (encodes_same b.0 cs (b.2 ∙ sym e)) b.3

-- ---- a text joined from two
joined_scalars : (xs ys : List ℕ) (u : IsUtf8 xs) (v : IsUtf8 ys) → encode_utf8_all (u.0 ++ v.0) ≡ xs ++ ys
joined_scalars xs ys u v = encodes-append u.0 v.0 ∙ ap (λ zs. zs ++ encode_utf8_all v.0) u.1.1 ∙ ap (λ zs. xs ++ zs) v.1.1

joined_bidi : (xs ys : List ℕ) (u : IsUtf8 xs) (v : IsUtf8 ys) → Any IsRightToLeft (u.0 ++ v.0) → IsBidiText (xs ++ ys)
joined_bidi xs ys u v a =
    let w = IsUtf8-append xs ys u v in
    (w.0, w.1.0, w.1.1, subst HasOne (sym (encodes_same w.0 (u.0 ++ v.0) (w.1.1 ∙ sym (joined_scalars xs ys u v)))) a)

pub bidi_prefix : (xs ys : List ℕ) → IsBidiText xs → IsUtf8 ys → IsBidiText (xs ++ ys)
unfolding text_of_bidi
bidi_prefix xs ys b v = joined_bidi xs ys (text_of_bidi xs b) v (Any-left IsRightToLeft b.0 v.0 b.3)

pub bidi_after : (xs ys : List ℕ) → IsUtf8 xs → IsBidiText ys → IsBidiText (xs ++ ys)
unfolding text_of_bidi
bidi_after xs ys u b = joined_bidi xs ys u (text_of_bidi ys b) (Any-right IsRightToLeft u.0 b.0 b.3)

pub bidi_either : (xs ys : List ℕ) → IsUtf8 xs → IsUtf8 ys → IsBidiText (xs ++ ys) → IsBidiText xs ⊎ IsBidiText ys
bidi_either xs ys u v b = elim (Any-append IsRightToLeft u.0 v.0 (bidi_scalars (xs ++ ys) (u.0 ++ v.0) (joined_scalars xs ys u v) b)) [
  | inl a ↦ inl (u.0, u.1.0, u.1.1, a)
  | inr a ↦ inr (v.0, v.1.0, v.1.1, a)
]

-- ---- one character
pub character_bidi : (c : ℕ) (bs : List ℕ) → IsScalar c → encode_utf8 c ≡ bs → IsRightToLeft c → IsBidiText bs
character_bidi c bs s e r = (c ∷ [], and_from (scalar c) true s refl, append-nil (encode_utf8 c) ∙ e, Any-here IsRightToLeft c [] r)

pub bidi_character : (c : ℕ) (bs : List ℕ) → encode_utf8 c ≡ bs → IsBidiText bs → IsRightToLeft c
bidi_character c bs e b = elim (Any-cons IsRightToLeft c [] (bidi_scalars bs (c ∷ []) (append-nil (encode_utf8 c) ∙ e) b)) [
  | inl r ↦ r
  | inr a ↦ absurd (Any-none IsRightToLeft a)
]

pub right_to_left_from : (c : ℕ) → IsRightToLeft c → 0x590 ≤ c
right_to_left_from c r = omega arith

-- ---- Latin1
pub latin1_not_bidi : (bs : List ℕ) → IsUtf8Latin1 bs → IsBidiText bs → ⊥
latin1_not_bidi bs (cs, l, e) b =
    let found = Any-place IsRightToLeft cs (bidi_scalars bs cs e b) in
    omega (arith, l found.0, right_to_left_from (slice_index cs found.0) found.2)

pub text_of_latin1 : (bs : List ℕ) → IsUtf8Latin1 bs → IsUtf8 bs
text_of_latin1 bs (cs, l, e) = (cs, (scalars_of_latin1 cs l, e))

-- ---- a prefix and the rest
pub rest_text : (bs : List ℕ) (at : ℕ) → IsUtf8 bs → at ≤ length bs → IsUtf8 (take at bs) → IsUtf8 (drop at bs)
rest_text bs at u l v = IsUtf8-drop bs at u (IsCharBoundary-from_take bs at u l v)

whole_text : (bs : List ℕ) (at : ℕ) → IsUtf8 (take at bs) → IsUtf8 (drop at bs) → IsUtf8 bs
whole_text bs at u v = subst IsUtf8 (take-append-drop at bs) (IsUtf8-append (take at bs) (drop at bs) u v)

-- a right-to-left character at an index of a text
pub found_in_text : (bs : List ℕ) (at n : ℕ) → IsUtf8 bs → at ≤ length bs → IsUtf8 (take at bs) → IsBidiText (take n (drop at bs)) → IsBidiText bs
found_in_text bs at n u l v b =
    let rest = rest_text bs at u l v in
    let following : IsUtf8 (drop n (drop at bs)) = after_prefix (drop at bs) n rest (text_of_bidi _ b) in
    subst IsBidiText (take-append-drop at bs) (bidi_after (take at bs) (drop at bs) v
    (subst IsBidiText (take-append-drop n (drop at bs)) (bidi_prefix (take n (drop at bs)) (drop n (drop at bs)) b following)))
  where
    after_prefix : (xs : List ℕ) (n : ℕ) → IsUtf8 xs → IsUtf8 (take n xs) → IsUtf8 (drop n xs)
    after_prefix xs n u v = elim (cases_lt n (length xs)) [
      | inl l ↦ rest_text xs n u (omega arith) v
      | inr l ↦ subst IsUtf8 (sym (drop_all n xs l)) IsUtf8-nil
    ]

decide_text : (bs : List ℕ) → IsUtf8 bs ⊎ (IsUtf8 bs → ⊥)
decide_text bs = by_test (is_utf8 bs) refl
  where
    by_test : (b : Bool) → is_utf8 bs ≡ b → IsUtf8 bs ⊎ (IsUtf8 bs → ⊥)
    by_test true e = inl (IsUtf8-from_is_utf8 bs e)
    by_test false e = inr (λ u. let t = is_utf8-from_IsUtf8 bs u in cc)

-- a right-to-left character at an index of bytes
pub found_in_bytes : (bs : List ℕ) (at n : ℕ) → at ≤ length bs → IsUtf8 (take at bs) → IsBidiText (take n (drop at bs)) → IsBidiBytes bs
found_in_bytes bs at n l v b = elim (decide_text bs) [ inl u ↦ inr (found_in_text bs at n u l v b) | inr ill ↦ inl ill ]

-- ---- a Latin1 prefix and the rest
pub text_whole : (bs : List ℕ) (n : ℕ) → IsUtf8Latin1 (take n bs) → IsBidiText (drop n bs) → IsBidiText bs
text_whole bs n h b = subst IsBidiText (take-append-drop n bs) (bidi_after (take n bs) (drop n bs) (text_of_latin1 (take n bs) h) b)

pub text_rest : (bs : List ℕ) (n : ℕ) → n ≤ length bs → IsUtf8Latin1 (take n bs) → IsBidiText bs → IsBidiText (drop n bs)
text_rest bs n l h b =
    let prefix = text_of_latin1 (take n bs) h in
    elim (bidi_either (take n bs) (drop n bs) prefix (rest_text bs n (text_of_bidi bs b) l prefix) (subst IsBidiText (sym (take-append-drop n bs)) b)) [
      | inl a ↦ absurd (latin1_not_bidi (take n bs) h a)
      | inr a ↦ a
    ]

pub bytes_whole : (bs : List ℕ) (n : ℕ) → n ≤ length bs → IsUtf8Latin1 (take n bs) → IsBidiBytes (drop n bs) → IsBidiBytes bs
bytes_whole bs n l h (inl ill) = inl (λ u. ill (rest_text bs n u l (text_of_latin1 (take n bs) h)))
bytes_whole bs n l h (inr b) = inr (text_whole bs n h b)

pub bytes_rest : (bs : List ℕ) (n : ℕ) → n ≤ length bs → IsUtf8Latin1 (take n bs) → IsBidiBytes bs → IsBidiBytes (drop n bs)
bytes_rest bs n l h (inl ill) = inl (λ u. ill (whole_text bs n (text_of_latin1 (take n bs) h) u))
bytes_rest bs n l h (inr b) = inr (text_rest bs n l h b)

-- ---- the next character
begins_some : (xs cs : List ℕ) → all_scalars cs ≡ true → encode_utf8_all cs ≡ xs → 0 < length xs → BeginsWithNoCharacter xs → ⊥
begins_some xs [] s e l n = omega (arith, ap length e)
begins_some xs (c ∷ cs) s e l n = n (encode_utf8 c) (encode_utf8_all cs) (sym e) (IsSequence-encode c (both (scalar c) (all_scalars cs) s).0)

-- if the rest starts with no character, the bytes are not well-formed
pub rejected_no_text : (bs : List ℕ) (at : ℕ) → at < length bs → IsUtf8 (take at bs) → BeginsWithNoCharacter (drop at bs) → IsUtf8 bs → ⊥
rejected_no_text bs at l v n u =
    let rest = rest_text bs at u (omega arith) v in begins_some (drop at bs) rest.0 rest.1.0 rest.1.1 (omega (arith, length-drop at bs)) n
