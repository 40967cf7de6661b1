-- The index of the next malformed sequence, and that those found one after another are the malformed ones among the
-- parts. Bytes are well-formed if and only if no part is malformed, and repaired text always is.
use Rattle.std.proofs.Common.{◌≡◌, ◌↔◌, ℕ, List, [], ◌∷◌, map, encode_utf8, encode_utf8_all, refl, ap, ◌∙◌, arith, subst}
use Rattle.std.proofs.Common.{◌+◌, ◌<◌, ◌≤◌, inl, inr, true, ◌++◌, length, take, drop, slice_index, sym, take-add}
use Rattle.std.specs.List.{flat_map}
use Rattle.std.specs.Str.{IsUtf8, all_scalars, chars}
use Rattle.std.proofs.lemmas.List.{append-nil, append_assoc, length-append, length-take, length-drop}
use Rattle.std.proofs.lemmas.List.{take_all, drop_more, drop-drop, take-take, get_or-take, take-append-drop}
use Rattle.std.proofs.lemmas.Str.{IsUtf8-nil, IsUtf8-append, IsUtf8-encode, encodes-chars, chars-encodes, encodes-append}
use Rattle.encoding_definitions.specs.Parts.{Part, Character, IllFormed, StartsWith, ArePartsOf, bytes_of, lossy_utf8, malformed_count, IsFirstPart}
use Rattle.encoding_definitions.proofs.DecompositionLemmas.{StartsWith-characters, same_parts, parts-bytes, malformed_count-characters}
use Rattle.encoding_definitions.proofs.DecompositionLemmas.{StartsWith-append, StartsWith-one, parts_split, malformed_count-append}
use Rattle.std.proofs.lemmas.Bool.{cases_lt, and_from}
use Rattle.std.proofs.str.Laws.{scalars-append}
use Rattle.encoding_definitions.specs.Prefixes.{IsLongestPrefix}
use Rattle.encoding_definitions.proofs.SequenceLemmas.{length-IsIncomplete}
use Rattle.encoding_definitions.proofs.PartsLemmas.{part_bytes}
use Rattle.encoding_text.specs.Decoding.{IsMalformed, BorrowedDecodeStep}
use Rattle.encoding_text.specs.declared.decoder.Piece.{Piece}
use Rattle.encoding_text.specs.declared.decoder.Piece.TheVariants.{Text, Char, Malformed, InputEmpty}
use Rattle.encoding_text.proofs.ConvertingLemmas.{cut_after}
use Rattle.encoding_text.proofs.CallLemmas.{malformed_first}
use Rattle.encoding_runs.specs.MalformedSequences.{IsNextMalformed, AreFoundInTurn, malformed_indices}

none_malformed : (bs : List ℕ) (parts : List Part) → ArePartsOf bs parts → IsUtf8 bs → malformed_count parts ≡ 0
none_malformed bs parts are (cs, (scalars, spelled)) =
    let characters : ArePartsOf bs (map Character cs) = subst (λ xs. ArePartsOf xs (map Character cs)) (append-nil (encode_utf8_all cs)
    ∙ spelled) (StartsWith-characters cs [] scalars) in
    ap malformed_count (same_parts bs parts (map Character cs) are characters) ∙ malformed_count-characters cs

no_malformed : (bs : List ℕ) (parts : List Part) (rest : List ℕ) → StartsWith bs parts rest → malformed_count parts ≡ 0 → IsUtf8 (flat_map bytes_of parts)
no_malformed bs [] rest h none = IsUtf8-nil
no_malformed bs (Character c ∷ parts) rest (after, first, h) none = IsUtf8-append (encode_utf8 c) (flat_map bytes_of parts) (IsUtf8-encode c first.0)
    (no_malformed after parts rest h none)
no_malformed bs (IllFormed bytes ∷ parts) rest h none = absurd (omega (arith, none))

pub well_formed : (bs : List ℕ) (parts : List Part) → ArePartsOf bs parts → IsUtf8 bs ↔ (malformed_count parts ≡ 0)
well_formed bs parts are = (none_malformed bs parts are, λ none. subst IsUtf8 (parts-bytes bs parts are) (no_malformed bs parts [] are none))

pub repaired_utf8 : (bs rest : List ℕ) (parts : List Part) → StartsWith bs parts rest → IsUtf8 (lossy_utf8 parts)
repaired_utf8 bs rest [] h = IsUtf8-nil
repaired_utf8 bs rest (Character c ∷ parts) (after, first, h) =
    IsUtf8-append (encode_utf8 c) (lossy_utf8 parts) (IsUtf8-encode c first.0) (repaired_utf8 after rest parts h)
repaired_utf8 bs rest (IllFormed bytes ∷ parts) (after, first, h) =
    IsUtf8-append (encode_utf8 0xFFFD) (lossy_utf8 parts) (IsUtf8-encode 0xFFFD refl) (repaired_utf8 after rest parts h)

-- ---- a few bytes determine what all would
-- a malformed sequence has at most three bytes
malformed_length : (x rest : List ℕ) → IsMalformed x rest true → length x ≤ 3
malformed_length x [] (inl (b, e, n)) = omega (arith, ap length e)
malformed_length x [] (inr (o, l)) = length-IsIncomplete x o
malformed_length x (y ∷ ys) (inl (b, e, n)) = omega (arith, ap length e)
malformed_length x (y ∷ ys) (inr (o, s)) = length-IsIncomplete x o

-- the next byte determines what all bytes after it would
decided_by_next : (x r : List ℕ) (k n : ℕ) → k < n → n ≤ length r → IsMalformed x (drop k (take n r)) true → IsMalformed x (drop k r) true
decided_by_next x r k n more within b =
    let prefix : drop k (take n r) ≡ slice_index r k ∷ drop (k + 1) (take n r) =
    drop_more (take n r) k 0 (omega (arith, length-take n r)) ∙ ap (λ y. y ∷ drop (k + 1) (take n r)) (get_or-take n r k 0 more) in
    let there : IsMalformed x (slice_index r k ∷ drop (k + 1) (take n r)) true = subst (λ xs. IsMalformed x xs true) prefix b in
    subst (λ xs. IsMalformed x xs true) (sym (drop_more r k 0 (omega arith))) there

reported : (x r : List ℕ) (k n : ℕ) → k ≤ 3 → n ≤ length r → (n < 4 → n ≡ length r) → IsMalformed x (drop k (take n r)) true → IsMalformed x (drop k r) true
reported x r k n few within short b = elim (cases_lt n 4) [
  | inl l ↦ subst (λ xs. IsMalformed x (drop k xs) true) (take_all n r (omega (arith, short l))) b
  | inr g ↦ decided_by_next x r k n (omega arith) within b
]

-- ---- the next malformed sequence
-- a malformed sequence after characters
pub malformed_after : (bs : List ℕ) (place size : ℕ) → place + size ≤ length bs → IsUtf8 (take place bs)
    → IsFirstPart (drop place bs) (IllFormed (take size (drop place bs))) (drop size (drop place bs)) → IsNextMalformed bs place size
malformed_after bs place size within (cs, (h, e)) f = record {
  within = within;
  well_formed = (cs, (h, e));
  first = rw (sym (sym (ap chars e) ∙ chars-encodes cs h), drop-drop) at starts;
}
  where
    whole : encode_utf8_all cs ++ drop place bs ≡ bs
    whole = ap (λ xs. xs ++ drop place bs) e ∙ take-append-drop place bs

    starts : StartsWith bs (map Character cs ++ IllFormed (take size (drop place bs)) ∷ []) (drop size (drop place bs))
    starts = StartsWith-append bs (map Character cs) (drop place bs) (IllFormed (take size (drop place bs)) ∷ []) (drop size (drop place bs))
        (subst (λ xs. StartsWith xs (map Character cs) (drop place bs)) whole (StartsWith-characters cs (drop place bs) h))
        (StartsWith-one (drop place bs) (IllFormed (take size (drop place bs))) (drop size (drop place bs)) f)

-- what a call on the first few bytes after the longest well-formed prefix reports
pub reported_next : (bs : List ℕ) (place n k read : ℕ) (q : List ℕ) → IsLongestPrefix IsUtf8 bs place → n ≤ length (drop place bs)
    → (n < 4 → n ≡ length (drop place bs))
    → BorrowedDecodeStep [] (take n (drop place bs)) true (Malformed k) read q → IsNextMalformed bs place k
reported_next bs place n k read q prefix within short call =
    malformed_after bs place k (omega (arith, length-drop place bs, taken, size)) prefix.kind
    (subst (λ xs. IsFirstPart xs (IllFormed (take k r)) (drop k r)) (take-append-drop k r)
    (malformed_first (take k r) (drop k r) true (reported (take k r) r k n (omega (arith, few, length-take k r, taken, size)) within short there)))
  where
    r : List ℕ
    r = drop place bs

    taken : read ≤ n
    taken = omega (arith, call.answer.0, length-take n r)

    size : read ≡ k
    size = omega (arith, call.answer.1, call.answer.0, length-take read (take n r))

    same : take read (take n r) ≡ take k r
    same = take-take read n r taken ∙ ap (λ m. take m r) size

    there : IsMalformed (take k r) (drop k (take n r)) true
    there = subst (λ xs. IsMalformed xs (drop k (take n r)) true) same
        (subst (λ m. IsMalformed (take read (take n r)) (drop m (take n r)) true) size call.answer.3)

    few : length (take k r) ≤ 3
    few = malformed_length (take k r) (drop k (take n r)) there

-- a call that reports none on them has nothing to read
none_left : (bs : List ℕ) (place n read : ℕ) (returned : Piece) (q : List ℕ) → IsLongestPrefix IsUtf8 bs place → n ≤ length (drop place bs)
    → BorrowedDecodeStep [] (take n (drop place bs)) true returned read q → ((k : ℕ) → returned ≡ Malformed k → ⊥) → n ≡ 0
none_left bs place n read (Text t) q prefix within call none =
    let (neutral, nothing, some, bytes, text) = call.answer in
    let r = drop place bs in
    let taken : read ≤ n = omega (arith, text.within, length-take n r) in
    let more : IsUtf8 (take (place + read) bs) =
    subst IsUtf8 (sym (take-add place read bs)) (IsUtf8-append _ _ prefix.kind (subst IsUtf8 (take-take read n r taken) text.kind)) in
    absurd (omega (arith, some, taken, prefix.longest (place + read) (omega (arith, within, taken, length-drop place bs, prefix.within)) more))
none_left bs place n read (Char c) q prefix within call none = absurd (call.answer.0 refl)
none_left bs place n read (Malformed k) q prefix within call none = absurd (none k refl)
none_left bs place n read InputEmpty q prefix within call none =
    let (all, kept, ended) = call.answer in
    omega (arith, ap length (sym kept ∙ ended refl), length-take n (drop place bs), within)

pub none_is_text : (bs : List ℕ) (place n read : ℕ) (returned : Piece) (q : List ℕ) → IsLongestPrefix IsUtf8 bs place → n ≤ length (drop place bs)
    → (n < 4 → n ≡ length (drop place bs))
    → BorrowedDecodeStep [] (take n (drop place bs)) true returned read q → ((k : ℕ) → returned ≡ Malformed k → ⊥) → IsUtf8 bs
none_is_text bs place n read returned q prefix within short call none =
    let nothing = none_left bs place n read returned q prefix within call none in
    subst IsUtf8 (take_all place bs (omega (arith, length-drop place bs, short (omega (arith, nothing)), nothing))) prefix.kind

-- ---- all parts of bytes whose next malformed sequence is known
-- the characters, the malformed sequence, and the parts of what is left
pub record AreSplit (bs : List ℕ) (parts : List Part) (place size : ℕ) : Type 0 where
  pub characters : List ℕ
  pub malformed : List ℕ
  pub others : List Part
  pub are : parts ≡ (map Character characters ++ IllFormed malformed ∷ []) ++ others
  pub before : length (encode_utf8_all characters) ≡ place
  pub long : length malformed ≡ size
  pub left : ArePartsOf (drop (place + size) bs) others

split_at : (bs : List ℕ) (parts : List Part) (place size : ℕ) → ArePartsOf bs parts → IsNextMalformed bs place size → AreSplit bs parts place size
split_at bs parts place size are next =
    let (others, same, left) = parts_split bs _ _ parts next.first are in record {
      characters = chars (take place bs);
      malformed = take size (drop place bs);
      others = others;
      are = same;
      before = ap length (encodes-chars (take place bs) next.well_formed) ∙ omega (arith, length-take place bs, next.within);
      long = omega (arith, length-take size (drop place bs), length-drop place bs, next.within);
      left = left;
    }

pub next_not_text : (bs : List ℕ) (place size : ℕ) → IsNextMalformed bs place size → IsUtf8 bs → ⊥
next_not_text bs place size next (cs, (h, e)) =
    let are : ArePartsOf bs (map Character cs) =
    subst (λ xs. ArePartsOf xs (map Character cs)) (append-nil (encode_utf8_all cs) ∙ e) (StartsWith-characters cs [] h) in
    let s = split_at bs (map Character cs) place size are next in
    omega (
      arith,
      malformed_count-characters cs,
      ap malformed_count s.are,
      malformed_count-append
          (map Character s.characters ++ IllFormed s.malformed ∷ []) s.others,
      malformed_count-append (map Character s.characters) (IllFormed s.malformed ∷ []),
    )

-- it has one to three bytes
pub first_size : (bs x rest : List ℕ) → IsFirstPart bs (IllFormed x) rest → (0 < length x) × (length x ≤ 3)
first_size bs x rest (n, inl l) = (l.incomplete.0, length-IsIncomplete x l.incomplete)
first_size bs x rest (n, inr l) = (omega (arith, l.one), omega (arith, l.one))

last_size : (bs : List ℕ) (ps : List Part) (x rest : List ℕ) → StartsWith bs (ps ++ IllFormed x ∷ []) rest → (0 < length x) × (length x ≤ 3)
last_size bs [] x rest (after, f, s) = first_size bs x after f
last_size bs (p ∷ ps) x rest (after, f, s) = last_size after ps x rest s

pub next_size : (bs : List ℕ) (place size : ℕ) → IsNextMalformed bs place size → (0 < size) × (size ≤ 3)
next_size bs place size next =
    let last = last_size bs _ _ _ next.first in
    let long = length-take size (drop place bs) in
    (omega (arith, last.0, long), omega (arith, last.1, long, next.within, length-drop place bs))

-- ---- those found one after another
malformed_indices-characters : (at : ℕ) (cs : List ℕ) (ps : List Part)
    → malformed_indices at (map Character cs ++ ps) ≡ malformed_indices (at + length (encode_utf8_all cs)) ps
malformed_indices-characters at [] ps = ap (λ n. malformed_indices n ps) (omega arith)
malformed_indices-characters at (c ∷ cs) ps =
    malformed_indices-characters (at + length (encode_utf8 c)) cs ps
    ∙ ap (λ n. malformed_indices n ps) (omega (arith, length-append (encode_utf8 c) (encode_utf8_all cs)))

-- they are the malformed ones
found_are : (found : List (ℕ × ℕ)) (at : ℕ) (bs : List ℕ) (parts : List Part) → ArePartsOf bs parts → AreFoundInTurn at bs found
    → found ≡ malformed_indices at parts
found_are [] at bs parts are (cs, (h, e)) =
    let all : ArePartsOf bs (map Character cs) =
    subst (λ xs. ArePartsOf xs (map Character cs)) (append-nil (encode_utf8_all cs) ∙ e) (StartsWith-characters cs [] h) in
    sym (ap (malformed_indices at) (same_parts bs parts (map Character cs) are all ∙ sym (append-nil (map Character cs)))
    ∙ malformed_indices-characters at cs [])
found_are ((place, size) ∷ found) at bs parts are (before, stands, next, more) =
    let s = split_at bs parts before size are next in
    let rest = found_are found (place + size) (drop (before + size) bs) s.others s.left more in
    let one = ap (λ n. malformed_indices n (IllFormed s.malformed ∷ s.others)) (ap (λ n. at + n) s.before ∙ sym stands) in
    let two : (place, size) ∷ found ≡ (place, length s.malformed) ∷ malformed_indices (place + length s.malformed) s.others =
    rw s.long (ap (λ xs. (place, size) ∷ xs) rest) in
    two ∙ sym (ap (malformed_indices at) (s.are ∙ append_assoc (map Character s.characters) (IllFormed s.malformed ∷ []) s.others)
    ∙ malformed_indices-characters at s.characters (IllFormed s.malformed ∷ s.others) ∙ one)

-- and the malformed ones are they: one is found after these characters, and the others after it
malformed_found : (at : ℕ) (cs bs x after : List ℕ) (found : List (ℕ × ℕ)) → all_scalars cs ≡ true → IsFirstPart bs (IllFormed x) after
    → AreFoundInTurn (at + length (encode_utf8_all cs) + length x) after found
    → AreFoundInTurn at (encode_utf8_all cs ++ bs) ((at + length (encode_utf8_all cs), length x) ∷ found)
malformed_found at cs bs x after found h f more = (n, refl, next, subst (λ ys. AreFoundInTurn (at + n + length x) ys found) left more)
  where
    text : List ℕ
    text = encode_utf8_all cs

    n : ℕ
    n = length text

    bytes : bs ≡ x ++ after
    bytes = (part_bytes bs (IllFormed x) after f).0

    at_text : (n ≤ length (text ++ bs)) × (take n (text ++ bs) ≡ text) × (drop n (text ++ bs) ≡ bs)
    at_text = cut_after (text ++ bs) text bs refl

    at_part : (length x ≤ length bs) × (take (length x) bs ≡ x) × (drop (length x) bs ≡ after)
    at_part = cut_after bs x after bytes

    next : IsNextMalformed (text ++ bs) n (length x)
    next = malformed_after (text ++ bs) n (length x) (omega (arith, length-append text bs, at_part.0)) (subst IsUtf8 (sym at_text.1) (cs, (h, refl)))
        (rw (at_text.2, at_part.1, at_part.2) f)

    left : after ≡ drop (n + length x) (text ++ bs)
    left = sym (sym (drop-drop (length x) n (text ++ bs)) ∙ ap (drop (length x)) at_text.2 ∙ at_part.2)

are_found : (parts : List Part) (at : ℕ) (cs bs : List ℕ) → all_scalars cs ≡ true → ArePartsOf bs parts
    → AreFoundInTurn at (encode_utf8_all cs ++ bs) (malformed_indices (at + length (encode_utf8_all cs)) parts)
are_found [] at cs bs h e = (cs, (h, sym (append-nil (encode_utf8_all cs)) ∙ ap (λ xs. encode_utf8_all cs ++ xs) (sym e)))
are_found (Character c ∷ parts) at cs bs h (after, (s, e), more) =
    let one : encode_utf8_all (cs ++ c ∷ []) ≡ encode_utf8_all cs ++ encode_utf8 c =
    encodes-append cs (c ∷ []) ∙ ap (λ xs. encode_utf8_all cs ++ xs) (append-nil (encode_utf8 c)) in
    let whole : encode_utf8_all (cs ++ c ∷ []) ++ after ≡ encode_utf8_all cs ++ bs =
    ap (λ xs. xs ++ after) one ∙ append_assoc (encode_utf8_all cs) (encode_utf8 c) after ∙ ap (λ xs. encode_utf8_all cs ++ xs) (sym e) in
    let place : at + length (encode_utf8_all (cs ++ c ∷ [])) ≡ at + length (encode_utf8_all cs) + length (encode_utf8 c) =
    omega (arith, ap length one, length-append (encode_utf8_all cs) (encode_utf8 c)) in
    rw (place, whole) at (are_found parts at (cs ++ c ∷ []) after (scalars-append cs (c ∷ []) h (and_from _ _ s refl)) more)
are_found (IllFormed x ∷ parts) at cs bs h (after, f, more) =
    let following = at + length (encode_utf8_all cs) + length x in
    let zero_more : following + length (encode_utf8_all []) ≡ following = omega arith in
    malformed_found at cs bs x after (malformed_indices following parts) h f
    (subst (λ m. AreFoundInTurn following after (malformed_indices m parts)) zero_more (are_found parts following [] after refl more))

pub found_parts : (bs : List ℕ) (parts : List Part) (found : List (ℕ × ℕ)) → ArePartsOf bs parts
    → AreFoundInTurn 0 bs found ↔ (found ≡ malformed_indices 0 parts)
found_parts bs parts found are = (found_are found 0 bs parts are, λ e. subst (AreFoundInTurn 0 bs) (sym e) (are_found parts 0 [] bs refl are))

pub found_count : (at : ℕ) (parts : List Part) → length (malformed_indices at parts) ≡ malformed_count parts
found_count at [] = refl
found_count at (Character c ∷ parts) = found_count (at + length (encode_utf8 c)) parts
found_count at (IllFormed x ∷ parts) = omega (arith, found_count (at + length x) parts)
