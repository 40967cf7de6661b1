-- The repaired text is std's `utf8_lossy`.
use Rattle.std.proofs.Common.{◌≡◌, ℕ, ◌<◌, ◌≤◌, inl, inr, true, List, [], ◌∷◌, ◌++◌, length, take}
use Rattle.std.proofs.Common.{drop, encode_utf8, encode_utf8_all, refl, sym, ap, ◌∙◌, arith, subst}
use Rattle.std.specs.Str.{all_scalars, IsUtf8, StartsWithNoChar}
use Rattle.std.specs.Str.Lossy.{utf8_lossy, utf8_valid_len, utf8_invalid_len, replacement_bytes, second_byte_min, second_byte_max}
use Rattle.std.specs.Int.{is_in_range}
use Rattle.std.proofs.lemmas.Bool.Decides.{nat_tests}
use Rattle.std.proofs.lemmas.Bool.{and_from}
use Rattle.std.proofs.lemmas.List.{append-nil, append_assoc, length-append, take_at, drop_at}
use Rattle.std.proofs.lemmas.Str.{utf8_lossy-IsUtf8, utf8_lossy_chunk, utf8_valid_len-IsValidUpTo, encodes-append}
use Rattle.std.proofs.str.Faults.{valid_to}
use Rattle.std.proofs.str.Lossy.{utf8_error_len_some}
use Rattle.std.proofs.str.Laws.{scalars-append}
use lib.Utf8.{encode}
use Rattle.encoding_definitions.specs.Sequence.{IsIncomplete, IsNeverLeading, IsSecond, IsContinuation}
use Rattle.encoding_definitions.specs.Parts.{Part, Character, IllFormed, BeginsWithNoCharacter, IsLongestIncomplete, IsFirstPart, ArePartsOf, lossy_utf8}
use Rattle.encoding_definitions.proofs.SequenceLemmas.{HasOpenShape, HasOpenShape-IsIncomplete, IsIncomplete-HasOpenShape}
use Rattle.encoding_definitions.proofs.SequenceLemmas.{second_more, second_goes_on, third_goes_on}
use Rattle.encoding_definitions.proofs.Utf8Lemmas.{starts_with_none}
use Rattle.encoding_definitions.proofs.PartsLemmas.{IsRejected, rejected_part, unpaired_part, part_bytes}

-- the same range as a test
second_range : (a b : ℕ) → IsSecond a b → is_in_range (second_byte_min a) (second_byte_max a) b ≡ true
second_range a b s = grind (arith, nat_tests)

one_end : (a : ℕ) → 0xC2 ≤ a → a ≤ 0xF4 → utf8_invalid_len (a ∷ []) ≡ 1
one_end a l h = rw (utf8_error_len_some (a ∷ []) (omega arith)) (grind (arith, nat_tests))

one_more : (a b : ℕ) (more : List ℕ) → 0xC2 ≤ a → a ≤ 0xF4 → (IsSecond a b → ⊥) → utf8_invalid_len (a ∷ b ∷ more) ≡ 1
one_more a b more l h n = rw (utf8_error_len_some (a ∷ b ∷ more) (omega arith)) (grind (arith, nat_tests))

two_end : (a b : ℕ) → 0xE0 ≤ a → a ≤ 0xF4 → IsSecond a b → utf8_invalid_len (a ∷ b ∷ []) ≡ 2
two_end a b l h s = let r = second_range a b s in rw (utf8_error_len_some (a ∷ b ∷ []) (omega arith)) (grind (arith, nat_tests))

two_more : (a b c : ℕ) (more : List ℕ) → 0xE0 ≤ a → a ≤ 0xF4 → IsSecond a b → (IsContinuation c → ⊥) → utf8_invalid_len (a ∷ b ∷ c ∷ more) ≡ 2
two_more a b c more l h s n = let r = second_range a b s in rw (utf8_error_len_some (a ∷ b ∷ c ∷ more) (omega arith)) (grind (arith, nat_tests))

three_end : (a b c : ℕ) → 0xF0 ≤ a → a ≤ 0xF4 → IsSecond a b → IsContinuation c → utf8_invalid_len (a ∷ b ∷ c ∷ []) ≡ 3
three_end a b c l h s t = let r = second_range a b s in rw (utf8_error_len_some (a ∷ b ∷ c ∷ []) (omega arith)) (grind (arith, nat_tests))

three_more : (a b c d : ℕ) (more : List ℕ) → 0xF0 ≤ a → a ≤ 0xF4 → IsSecond a b → IsContinuation c → utf8_invalid_len (a ∷ b ∷ c ∷ d ∷ more) ≡ 3
three_more a b c d more l h s t = let r = second_range a b s in rw (utf8_error_len_some (a ∷ b ∷ c ∷ d ∷ more) (omega arith)) (grind (arith, nat_tests))

unpaired : (a : ℕ) (more : List ℕ) → ((0xC2 ≤ a) × (a ≤ 0xF4) → ⊥) → utf8_invalid_len (a ∷ more) ≡ 1
unpaired a more n = rw (utf8_error_len_some (a ∷ more) (omega arith)) (grind (arith, nat_tests))

-- ---- std counts the bytes of a malformed sequence as we do
open_len : (x rest : List ℕ) → IsIncomplete x → ((y : ℕ) (ys : List ℕ) → rest ≡ y ∷ ys → IsRejected x y) → HasOpenShape x
    → utf8_invalid_len (x ++ rest) ≡ length x
open_len [] rest b n h = absurd h
open_len (a ∷ []) [] b n h = one_end a h.0 h.1
open_len (a ∷ []) (y ∷ ys) b n h = one_more a y ys h.0 h.1 (λ s. n y ys refl (second_goes_on a y s))
open_len (a ∷ c ∷ []) [] b n h = two_end a c h.0 h.1 (second_more a c h.0 h.1 h.2)
open_len (a ∷ c ∷ []) (y ∷ ys) b n h = two_more a c y ys h.0 h.1 (second_more a c h.0 h.1 h.2) (λ t. n y ys refl (third_goes_on a c y h t))
open_len (a ∷ c ∷ d ∷ []) [] b n h = three_end a c d h.0 h.1 (second_more a c (omega arith) h.1 h.2) h.3
open_len (a ∷ c ∷ d ∷ []) (y ∷ ys) b n h = three_more a c d y ys h.0 h.1 (second_more a c (omega arith) h.1 h.2) h.3
open_len (a ∷ c ∷ d ∷ e ∷ more) rest b n h = absurd h

rejected_after : (bs x rest : List ℕ) → BeginsWithNoCharacter bs → IsLongestIncomplete bs x rest → (y : ℕ) (ys : List ℕ) → rest ≡ y ∷ ys → IsRejected x y
rejected_after bs x rest n l y ys e = rejected_part bs x y ys n (subst (λ r. IsLongestIncomplete bs x r) e l)

unpaired_range : (a : ℕ) → IsNeverLeading a → (0xC2 ≤ a) × (a ≤ 0xF4) → ⊥
unpaired_range a n r = n (inr (IsIncomplete-HasOpenShape (a ∷ []) r))

invalid_len : (bs x rest : List ℕ) → IsFirstPart bs (IllFormed x) rest → utf8_invalid_len bs ≡ length x
invalid_len bs x rest (n, inl l) =
    ap utf8_invalid_len l.whole ∙ open_len x rest l.incomplete (rejected_after bs x rest n l) (HasOpenShape-IsIncomplete x l.incomplete)
invalid_len bs x rest (n, inr l) =
    let one = unpaired_part bs x rest n l in
    ap utf8_invalid_len (l.whole ∙ ap (λ xs. xs ++ rest) one.1) ∙ unpaired one.0 rest (unpaired_range one.0 one.2) ∙ sym (ap length one.1)

-- ---- the whole text

-- characters, followed by a malformed sequence
lossy_malformed : (cs bs x rest : List ℕ) → all_scalars cs ≡ true → IsFirstPart bs (IllFormed x) rest
    → utf8_lossy (encode_utf8_all cs ++ bs) ≡ encode_utf8_all cs ++ (replacement_bytes ++ utf8_lossy rest)
lossy_malformed cs bs x rest h f =
    let text = encode_utf8_all cs in
    let n = length text in
    let bytes = part_bytes bs (IllFormed x) rest f in
    let short : n < length (text ++ bs) = omega (arith, length-append text bs, ap length bytes.0, length-append x rest, bytes.1) in
    let prefix : take n (text ++ bs) ≡ text = take_at text bs n refl in
    let back : drop n (text ++ bs) ≡ bs = drop_at text bs n refl in
    let none : StartsWithNoChar (drop n (text ++ bs)) = subst StartsWithNoChar (sym back) (starts_with_none bs f.0) in
    let utf8 : IsUtf8 (take n (text ++ bs)) = subst IsUtf8 (sym prefix) (cs, (h, refl)) in
    let valid : utf8_valid_len (text ++ bs) ≡ n = utf8_valid_len-IsValidUpTo (text ++ bs) n (valid_to (text ++ bs) n short utf8 none) in
    let invalid : length x ≡ utf8_invalid_len (drop (utf8_valid_len (text ++ bs)) (text ++ bs)) =
    sym (ap (λ k. utf8_invalid_len (drop k (text ++ bs))) valid ∙ ap utf8_invalid_len back ∙ invalid_len bs x rest f) in
    utf8_lossy_chunk (text ++ bs) text x rest (ap (λ xs. text ++ xs) bytes.0) (sym valid) invalid bytes.1

encoded : encode_utf8 0xFFFD ≡ replacement_bytes
unfolding encode
encoded = refl

lossy_from : (cs bs : List ℕ) (ps : List Part) → all_scalars cs ≡ true → ArePartsOf bs ps
    → utf8_lossy (encode_utf8_all cs ++ bs) ≡ encode_utf8_all cs ++ lossy_utf8 ps
lossy_from cs bs [] h e =
    let whole : encode_utf8_all cs ++ bs ≡ encode_utf8_all cs = ap (λ xs. encode_utf8_all cs ++ xs) e ∙ append-nil (encode_utf8_all cs) in
    ap utf8_lossy whole ∙ utf8_lossy-IsUtf8 (encode_utf8_all cs) (cs, (h, refl)) ∙ sym (append-nil (encode_utf8_all cs))
lossy_from cs bs (Character c ∷ ps) h (after, (s, e), more) =
    let one : encode_utf8_all (c ∷ []) ≡ encode_utf8 c = append-nil (encode_utf8 c) in
    let text : encode_utf8_all (cs ++ c ∷ []) ≡ encode_utf8_all cs ++ encode_utf8 c = encodes-append cs (c ∷ []) ∙ ap (λ xs. encode_utf8_all cs ++ xs) one in
    let regroup : (xs : List ℕ) → encode_utf8_all (cs ++ c ∷ []) ++ xs ≡ encode_utf8_all cs ++ (encode_utf8 c ++ xs) =
    λ xs. ap (λ t. t ++ xs) text ∙ append_assoc (encode_utf8_all cs) (encode_utf8 c) xs in
    ap utf8_lossy (ap (λ xs. encode_utf8_all cs ++ xs) e ∙ sym (regroup after))
    ∙ lossy_from (cs ++ c ∷ []) after ps (scalars-append cs (c ∷ []) h (and_from _ _ s refl)) more
    ∙ regroup (lossy_utf8 ps)
lossy_from cs bs (IllFormed x ∷ ps) h (after, f, more) =
    lossy_malformed cs bs x after h f
    ∙ ap (λ xs. encode_utf8_all cs ++ (replacement_bytes ++ xs)) (lossy_from [] after ps refl more)
    ∙ ap (λ xs. encode_utf8_all cs ++ (xs ++ lossy_utf8 ps)) (sym encoded)

pub repaired-utf8_lossy : (bs : List ℕ) (ps : List Part) → ArePartsOf bs ps → lossy_utf8 ps ≡ utf8_lossy bs
repaired-utf8_lossy bs ps h = sym (lossy_from [] bs ps refl h)
