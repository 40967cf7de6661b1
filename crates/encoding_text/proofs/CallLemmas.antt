-- How a call of the decoder ends, and the first parts that it yields of the bytes that it was passed.
use Rattle.std.proofs.Common.{◌≡◌, ◌≢◌, ℕ, ◌<◌, ◌≤◌, inl, inr, Bool, List, [], ◌∷◌, ◌++◌, length, take, drop}
use Rattle.std.proofs.Common.{slice_index, refl, sym, ap, ◌∙◌, arith, subst, ◌⊎◌, ◌-◌, true, false, map, encode_utf8_all}
use Rattle.std.proofs.lemmas.Bool.{cases_Bool, cases_lt}
use Rattle.std.proofs.lemmas.List.{length-append, take-append-drop, take_all, drop_all, take_more, drop_more, append-nil, append_assoc}
use Rattle.encoding_definitions.specs.Sequence.{IsSequence, IsIncomplete, IsNeverLeading, IsContinuation, IsPending}
use Rattle.encoding_definitions.specs.Parts.{BeginsWithNoCharacter, Part, Character, IllFormed, IsFirstPart, StartsWith, Yields}
use Rattle.encoding_text.specs.Steps.{IsRejected, IsResultAtEnd, IsResultWithoutCharacter}
use Rattle.encoding_text.specs.Decoding.{IsMalformed, IsReported, AreDecoded, DecodeStep, IsDecodeResult}
use Rattle.encoding_text.specs.declared.decoder.DecoderResult.{DecoderResult}
use Rattle.encoding_text.specs.declared.decoder.DecoderResult.TheVariants.{InputEmpty, OutputFull, Malformed}
use Rattle.encoding_definitions.proofs.SequenceLemmas.{HasShape-IsSequence, IsSequence-HasShape, HasOpenShape-IsIncomplete, second_more}
use Rattle.std.specs.Str.{all_scalars}
use Rattle.encoding_definitions.proofs.PartsLemmas.{first_unpaired, first_open, first_rejected, same_first_part}
use Rattle.encoding_definitions.proofs.DecompositionLemmas.{StartsWith-characters, StartsWith-append, StartsWith-one}
use Rattle.encoding_kernels.proofs.KnownLengthLemmas.{second_continues}

-- ---- malformed sequences
pub malformed_unpaired : (b : ℕ) (rest : List ℕ) (last : Bool) → IsNeverLeading b → IsMalformed (b ∷ []) rest last
malformed_unpaired b [] last n = inl (b, refl, n)
malformed_unpaired b (y ∷ ys) last n = inl (b, refl, n)

pub malformed_rejected : (x rest : List ℕ) (last : Bool) (b : ℕ) (more : List ℕ) → rest ≡ b ∷ more → IsIncomplete x → IsRejected x b → IsMalformed x rest last
malformed_rejected x rest last b more e o s = subst (λ xs. IsMalformed x xs last) (sym e) (inr (o, s))

-- no malformed sequence is empty
pub malformed_some : (x rest : List ℕ) (last : Bool) → IsMalformed x rest last → 0 < length x
malformed_some x [] last (inl (b, e, n)) = omega (arith, ap length e)
malformed_some x [] last (inr (o, l)) = o.0
malformed_some x (y ∷ ys) last (inl (b, e, n)) = omega (arith, ap length e)
malformed_some x (y ∷ ys) last (inr (o, s)) = o.0

-- ---- before the first byte that is in no character
pub take_one : (r : List ℕ) → 0 < length r → take 1 r ≡ slice_index r 0 ∷ []
take_one r h = take_more r 0 0 h

pub begins_before : (r : List ℕ) → 0 < length r → IsIncomplete (slice_index r 0 ∷ []) → IsIncomplete (take 1 r)
begins_before r h o = subst IsIncomplete (sym (take_one r h)) o

-- an incomplete sequence is all that is left
pub ended_open : (r q after : List ℕ) (last : Bool) (result : DecoderResult) → IsIncomplete r → q ≡ r → IsResultAtEnd q last result after
    → IsResultWithoutCharacter r last result (length r) after
ended_open r q after last InputEmpty o all (same, whole, pending) =
    let some : q ≢ [] = λ none. omega (arith, o.0, ap length (sym all ∙ none)) in
    (refl, same ∙ all, o, elim (cases_Bool last) [ inl t ↦ absurd (some (whole t)) | inr g ↦ g ])
ended_open r q after last OutputFull o all s = absurd s
ended_open r q after last (Malformed k second) o all (zero, count, none, begun, l) =
    let size : k ≡ length r = count ∙ ap length all in
    let prefix : take k r ≡ r = take_all k r (omega (arith, size)) in (
      zero,
      sym size,
      omega (arith, size),
      none,
      subst (λ xs. IsMalformed xs (drop k r) last) (sym prefix)
          (subst (λ xs. IsMalformed r xs last) (sym (drop_all k r (omega (arith, size)))) (inr (o, l))),
    )

-- the second byte of a well-formed or an incomplete sequence
second_of : (a b : ℕ) → IsSequence (a ∷ b ∷ []) ⊎ IsIncomplete (a ∷ b ∷ []) → IsContinuation b
second_of a b (inl s) = (HasShape-IsSequence (a ∷ b ∷ []) s).2
second_of a b (inr o) = let h = HasOpenShape-IsIncomplete (a ∷ b ∷ []) o in second_continues a b (second_more a b h.0 h.1 h.2)

-- a byte that starts no sequence
pub single_byte : (r : List ℕ) (last : Bool) → 0 < length r → 0x80 ≤ slice_index r 0 → (IsIncomplete (slice_index r 0 ∷ []) → ⊥)
    → IsMalformed (take 1 r) (drop 1 r) last
single_byte r last h l n = subst (λ xs. IsMalformed xs (drop 1 r) last) (sym (take_one r h)) (malformed_unpaired (slice_index r 0) (drop 1 r) last nothing)
  where
    nothing : IsSequence (slice_index r 0 ∷ []) ⊎ IsIncomplete (slice_index r 0 ∷ []) → ⊥
    nothing (inl s) = omega (arith, l, HasShape-IsSequence (slice_index r 0 ∷ []) s)
    nothing (inr o) = n o

-- a byte that starts sequences of several, followed by no continuation byte
pub unpaired_incomplete : (r : List ℕ) (last : Bool) → 1 < length r → IsIncomplete (slice_index r 0 ∷ []) → (IsContinuation (slice_index r 1) → ⊥)
    → IsMalformed (take 1 r) (drop 1 r) last
unpaired_incomplete r last h o n =
    malformed_rejected (take 1 r) (drop 1 r) last (slice_index r 1) (drop 2 r) (drop_more r 1 0 h) (begins_before r (omega arith) o)
    (λ g. n
    (second_of (slice_index r 0) (slice_index r 1) (subst (λ xs. IsSequence (xs ++ slice_index r 1 ∷ []) ⊎ IsIncomplete (xs ++ slice_index r 1 ∷ []))
    (take_one r (omega arith)) g)))

-- if the bytes start with no character, the first isn't ASCII
pub not_ascii : (r : List ℕ) → 0 < length r → BeginsWithNoCharacter r → 0x80 ≤ slice_index r 0
not_ascii r h none = elim (cases_lt (slice_index r 0) 0x80) [
  | inl l ↦ absurd (none (slice_index r 0 ∷ []) (drop 1 r) (drop_more r 0 0 h) (IsSequence-HasShape (slice_index r 0 ∷ []) (omega arith)))
  | inr g ↦ g
]

-- ---- a malformed sequence is the first part of itself followed by the unread bytes
unpaired_first : (x rest : List ℕ) (b : ℕ) → x ≡ b ∷ [] → IsNeverLeading b → IsFirstPart (x ++ rest) (IllFormed x) rest
unpaired_first x rest b e n = subst (λ xs. IsFirstPart (xs ++ rest) (IllFormed xs) rest) (sym e) (first_unpaired b rest n)

pub malformed_first : (x rest : List ℕ) (last : Bool) → IsMalformed x rest last → IsFirstPart (x ++ rest) (IllFormed x) rest
malformed_first x [] last (inl (b, e, n)) = unpaired_first x [] b e n
malformed_first x [] last (inr (o, l)) = subst (λ xs. IsFirstPart xs (IllFormed x) []) (sym (append-nil x)) (first_open x o)
malformed_first x (y ∷ ys) last (inl (b, e, n)) = unpaired_first x (y ∷ ys) b e n
malformed_first x (y ∷ ys) last (inr (o, s)) = first_rejected x y ys o s

-- two malformed sequences of the same bytes are one
pub same_malformed : (x rest x' rest' : List ℕ) (last : Bool) → IsMalformed x rest last → IsMalformed x' rest' last → x ++ rest ≡ x' ++ rest'
    → (x ≡ x') × (rest ≡ rest')
same_malformed x rest x' rest' last b b' e =
    let first' = subst (λ xs. IsFirstPart xs (IllFormed x') rest') (sym e) (malformed_first x' rest' last b') in
    let one = same_first_part (x ++ rest) (IllFormed x) rest (IllFormed x') rest' (malformed_first x rest last b) first' in
    (let same : IllFormed x ≡ IllFormed x' = one.0 in cc, one.1)

-- bytes that stay pending have none
pub pending_not_malformed : (q x rest : List ℕ) (last : Bool) → IsPending q → (last ≡ true → q ≡ []) → IsMalformed x rest last → q ≡ x ++ rest → ⊥
pending_not_malformed q x rest last (inl n) ended b e = omega (arith, ap length (sym n ∙ e), length-append x rest, malformed_some x rest last b)
pending_not_malformed q x rest last (inr o) ended b e =
    let first = subst (λ xs. IsFirstPart xs (IllFormed x) rest) (sym e) (malformed_first x rest last b) in
    let one = same_first_part q (IllFormed q) [] (IllFormed x) rest (first_open q o) first in
    whole x rest (let same : IllFormed q ≡ IllFormed x = one.0 in cc) (sym one.1) b
  where
    whole : (x rest : List ℕ) → q ≡ x → rest ≡ [] → IsMalformed x rest last → ⊥
    whole x [] e n (inl (b, f, none)) = none (inr (subst IsIncomplete (e ∙ f) o))
    whole x [] e n (inr (begins, l)) = omega (arith, o.0, ap length (ended l))
    whole x (y ∷ ys) e n b = omega (arith, ap length n)

-- it stays one for any bytes that follow, if the source isn't the last
malformed_stays : (x rest more : List ℕ) → IsMalformed x rest false → IsMalformed x (rest ++ more) false
malformed_stays x [] [] b = b
malformed_stays x [] (z ∷ more) (inl unpaired) = inl unpaired
malformed_stays x [] (z ∷ more) (inr (o, e)) = absurd (let no : false ≡ true = e in cc)
malformed_stays x (y ∷ ys) more b = b

-- ---- the bytes of a call, split
-- The bytes after what the call wrote: a malformed sequence that it reports, with these bytes unread after it, or else
-- what stays pending.
abbrev pub FollowsOutput : List ℕ → Bool → DecoderResult → List ℕ → List ℕ → Type 0
FollowsOutput unread last InputEmpty q y = y ≡ q
FollowsOutput unread last OutputFull q y = y ≡ q
FollowsOutput unread last (Malformed k second) q y = (second ≡ 0) × (length y ≡ k) × (q ≡ []) × IsMalformed y unread last

follows_stays : (unread more : List ℕ) (result : DecoderResult) (q y : List ℕ) → FollowsOutput unread false result q y
    → FollowsOutput (unread ++ more) false result q y
follows_stays unread more InputEmpty q y e = e
follows_stays unread more OutputFull q y e = e
follows_stays unread more (Malformed k second) q y (zero, size, none, malformed) = (zero, size, none, malformed_stays y unread more malformed)

-- the characters of what the call read, and those bytes after them
pub call_read : {A : Type 0} (encode : ℕ → List A) (need : ℕ) (p src : List ℕ) (last : Bool) (result : DecoderResult) (read : ℕ) (cs : List ℕ)
    (left : ℕ) (q : List ℕ)
    → IsDecodeResult encode need p src last result read cs left q
    → (y : List ℕ) × FollowsOutput (drop read src) last result q y × (p ++ take read src ≡ encode_utf8_all cs ++ y) × (read ≤ length src)
call_read encode need p src last InputEmpty read cs left q (all, whole, ended, room) = (
  q,
  refl,
  ap (λ xs. p ++ xs) (take_all read src (omega (arith, all)))
      ∙ whole,
  omega (arith, all),
)
call_read encode need p src last OutputFull read cs left q (short, whole, little, none, kept) = (q, refl, whole, omega (arith, short))
call_read encode need p src last (Malformed k second) read cs left q (x, zero, within, whole, size, none, malformed, room) = (
  x,
  (zero, size, none, malformed),
  whole,
  within,
)

-- all the bytes that it was passed
pub call_bytes : (p src cs y : List ℕ) (read : ℕ) → p ++ take read src ≡ encode_utf8_all cs ++ y → p ++ src ≡ encode_utf8_all cs ++ (y ++ drop read src)
call_bytes p src cs y read e =
    ap (λ xs. p ++ xs) (sym (take-append-drop read src)) ∙ sym (append_assoc p (take read src) (drop read src)) ∙ ap (λ xs. xs ++ drop read src) e
    ∙ append_assoc (encode_utf8_all cs) y (drop read src)

-- no more of them than there are
pub call_within : {A : Type 0} (encode : ℕ → List A) (need : ℕ) (p src : List ℕ) (last : Bool) (result : DecoderResult) (read : ℕ) (cs : List ℕ)
    (left : ℕ) (q : List ℕ)
    → IsDecodeResult encode need p src last result read cs left q → read ≤ length src
call_within encode need p src last result read cs left q a = (call_read encode need p src last result read cs left q a).3

-- ---- the first parts of those bytes
-- the parts that the call reports
abbrev reported_parts : DecoderResult → List ℕ → List Part
reported_parts InputEmpty y = []
reported_parts OutputFull y = []
reported_parts (Malformed k second) y = IllFormed y ∷ []

reported_first : (unread : List ℕ) (last : Bool) (result : DecoderResult) (q y : List ℕ) → FollowsOutput unread last result q y
    → IsReported result (reported_parts result y) × StartsWith (y ++ unread) (reported_parts result y) (q ++ unread)
reported_first unread last InputEmpty q y e = (refl, ap (λ xs. xs ++ unread) e)
reported_first unread last OutputFull q y e = (refl, ap (λ xs. xs ++ unread) e)
reported_first unread last (Malformed k second) q y (zero, size, none, malformed) =
    let first = StartsWith-one (y ++ unread) (IllFormed y) unread (malformed_first y unread last malformed) in
    ((y, refl, size), subst (λ xs. StartsWith (y ++ unread) (IllFormed y ∷ []) (xs ++ unread)) (sym none) first)

-- after the characters that it wrote
yielded_first : (bs cs y unread q : List ℕ) (last : Bool) (result : DecoderResult) → all_scalars cs ≡ true → bs ≡ encode_utf8_all cs ++ (y ++ unread)
    → FollowsOutput unread last result q y → StartsWith bs (map Character cs ++ reported_parts result y) (q ++ unread)
yielded_first bs cs y unread q last result h e f =
    let following = y ++ unread in
    subst (λ xs. StartsWith xs (map Character cs ++ reported_parts result y) (q ++ unread)) (sym e)
    (StartsWith-append (encode_utf8_all cs ++ following) (map Character cs) following (reported_parts result y) (q ++ unread)
    (StartsWith-characters cs following h)
    (reported_first unread last result q y f).1)

-- the characters of what was read, and what follows them, are yielded
pub yields_from : (p src : List ℕ) (last : Bool) (result : DecoderResult) (read : ℕ) (cs q y : List ℕ) → read ≤ length src → IsPending q → all_scalars cs ≡ true
    → FollowsOutput (drop read src) last result q y → p ++ take read src ≡ encode_utf8_all cs ++ y
    → Yields p src last (map Character cs ++ reported_parts result y) read q
yields_from p src last result read cs q y within pending scalars follows e = record {
  within = within;
  first = yielded_first (p ++ src) cs y unread q last result scalars whole follows;
  pending = pending;
  stable = stays;
}
  where
    unread : List ℕ
    unread = drop read src

    whole : p ++ src ≡ encode_utf8_all cs ++ (y ++ unread)
    whole = call_bytes p src cs y read e

    stays : last ≡ false → (more : List ℕ) → StartsWith (p ++ src ++ more) (map Character cs ++ reported_parts result y) (q ++ unread ++ more)
    stays f more =
        let longer : p ++ src ++ more ≡ encode_utf8_all cs ++ (y ++ (unread ++ more)) =
        ap (λ xs. xs ++ more) whole ∙ append_assoc (encode_utf8_all cs) (y ++ unread) more ∙ ap (λ xs. encode_utf8_all cs ++ xs) (append_assoc y unread more) in
        subst (λ xs. StartsWith (p ++ src ++ more) (map Character cs ++ reported_parts result y) xs) (sym (append_assoc q unread more))
        (yielded_first (p ++ src ++ more) cs y (unread ++ more) q false result scalars longer
        (follows_stays unread more result q y (subst (λ b. FollowsOutput unread b result q y) f follows)))

-- a call yields the characters that it wrote, and then the malformed sequence that it reports
pub decoded_yields : {A : Type 0} (encode : ℕ → List A) (need : ℕ) (p src : List ℕ) (room : ℕ) (last : Bool) (result : DecoderResult) (read : ℕ)
    (out : List A) (q : List ℕ)
    → DecodeStep encode need p src room last result read out q → (parts : List Part) × AreDecoded encode result out parts × Yields p src last parts read q
decoded_yields encode need p src room last result read out q call =
    let cs = call.scalars in
    let left = room - length out in
    let (y, follows, e, within) = call_read encode need p src last result read cs left q call.answer in (
      map Character cs ++ reported_parts result y,
      (cs, reported_parts result y, call.are_scalars, call.out_is, (reported_first (drop read src) last result q y follows).0, refl),
      yields_from p src last result read cs q y within call.pending call.are_scalars follows e,
    )
