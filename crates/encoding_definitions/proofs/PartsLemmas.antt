-- The first part of bytes: there is one, there is only one, and when it stays the first for any bytes that follow.
use Rattle.std.proofs.Common.{◌≡◌, ℕ, ◌<◌, ◌≤◌, ◌⊎◌, inl, inr, List, [], ◌∷◌, ◌++◌, length, encode_utf8, refl, sym, ap, ◌∙◌, arith, subst, drop, take}
use Rattle.std.proofs.lemmas.List.{length-append, append-nil, append_assoc, take_at, drop_at}
use Rattle.std.proofs.lemmas.Str.{encode_same, length-encode, len_utf8_bounds}
use Rattle.encoding_definitions.specs.Sequence.{IsSequence, IsIncomplete, IsNeverLeading}
use Rattle.encoding_definitions.specs.Parts.{Part, Character, IllFormed, bytes_of, BeginsWithNoCharacter, IsLongestIncomplete, IsSingleByte, IsFirstPart}
use Rattle.encoding_definitions.proofs.SequenceLemmas.{decide_sequence, decide_incomplete, IsIncomplete-prefix, IsSequence-prefix}
use Rattle.encoding_definitions.proofs.EncodingLemmas.{decode_utf8_scalar, IsSequence-encode, sequence_ends}

-- of two prefixes of one list, one is a prefix of the other
abbrev Nest : List ℕ → List ℕ → List ℕ → List ℕ → Type 0
Nest a r b s = ((t : List ℕ) × (b ≡ a ++ t) × (r ≡ t ++ s)) ⊎ ((t : List ℕ) × (a ≡ b ++ t) × (s ≡ t ++ r))

head_same : (x y : ℕ) (a b : List ℕ) → x ∷ a ≡ y ∷ b → x ≡ y
head_same x y a b e = cc

tail_same : (x y : ℕ) (a b : List ℕ) → x ∷ a ≡ y ∷ b → a ≡ b
tail_same x y a b e = cc

both_more : (x y : ℕ) (a r b s : List ℕ) → x ≡ y → Nest a r b s → Nest (x ∷ a) r (y ∷ b) s
both_more x y a r b s e (inl (t, f, g)) = inl (t, rw (e, f) refl, g)
both_more x y a r b s e (inr (t, f, g)) = inr (t, rw (e, f) refl, g)

pub prefixes_nest : (a r b s : List ℕ) → a ++ r ≡ b ++ s → Nest a r b s
prefixes_nest [] r b s e = inl (b, refl, e)
prefixes_nest (x ∷ a) r [] s e = inr (x ∷ a, refl, sym e)
prefixes_nest (x ∷ a) r (y ∷ b) s e = both_more x y a r b s (head_same x y _ _ e) (prefixes_nest a r b s (tail_same x y _ _ e))

-- one more item
push_cons : (x : List ℕ) (y : ℕ) (ys : List ℕ) → x ++ (y ∷ ys) ≡ (x ++ y ∷ []) ++ ys
push_cons x y ys = sym (append_assoc x (y ∷ []) ys)

-- no sequence is a prefix of an incomplete sequence
pub no_sequence_in_incomplete : (prefix more : List ℕ) → IsIncomplete (prefix ++ more) → IsSequence prefix → ⊥
no_sequence_in_incomplete prefix more b s =
    let none : length (more ++ b.1) ≡ 0 = ap length (sequence_ends prefix (more ++ b.1) s (subst IsSequence (append_assoc prefix more b.1) b.3)) in
    omega (arith, length-append more b.1, b.2)

-- the byte y doesn't continue the incomplete sequence x
abbrev pub IsRejected : List ℕ → ℕ → Type 0
IsRejected x y = (IsSequence (x ++ y ∷ []) ⊎ IsIncomplete (x ++ y ∷ [])) → ⊥

rejected_sequence : (x : List ℕ) (y : ℕ) (ys t more : List ℕ) → IsIncomplete x → IsRejected x y → y ∷ ys ≡ t ++ more → IsSequence (x ++ t) → ⊥
rejected_sequence x y ys [] more b n e s = no_sequence_in_incomplete x [] (subst IsIncomplete (sym (append-nil x)) b) (subst IsSequence (append-nil x) s)
rejected_sequence x y ys (z ∷ []) more b n e s = n (inl (subst (λ k. IsSequence (x ++ k ∷ [])) (sym (head_same y z _ _ e)) s))
rejected_sequence x y ys (z ∷ w ∷ t) more b n e s =
    let there : IsSequence ((x ++ y ∷ []) ++ (w ∷ t)) = rw (head_same y z _ _ e) (subst IsSequence (push_cons x z (w ∷ t)) s) in
    n (inr (IsSequence-prefix (x ++ y ∷ []) (w ∷ t) (omega (arith, length-append x (y ∷ []))) (omega arith) there))

rejected_incomplete : (x : List ℕ) (y : ℕ) (ys t more : List ℕ) → IsRejected x y → y ∷ ys ≡ t ++ more → IsIncomplete (x ++ t) → length t ≡ 0
rejected_incomplete x y ys [] more n e s = refl
rejected_incomplete x y ys (z ∷ t) more n e s =
    let there : IsIncomplete ((x ++ y ∷ []) ++ t) = rw (head_same y z _ _ e) (subst IsIncomplete (push_cons x z t) s) in
    absurd (n (inr (IsIncomplete-prefix (x ++ y ∷ []) t (omega (arith, length-append x (y ∷ []))) there)))

-- ---- what the first part is

-- an incomplete sequence that the next byte doesn't continue
pub first_rejected : (x : List ℕ) (y : ℕ) (ys : List ℕ) → IsIncomplete x → IsRejected x y → IsFirstPart (x ++ (y ∷ ys)) (IllFormed x) (y ∷ ys)
first_rejected x y ys b n = (none, inl (record { whole = refl; incomplete = b; longest = longest }))
  where
    none : BeginsWithNoCharacter (x ++ (y ∷ ys))
    none prefix rest e s = elim (prefixes_nest x (y ∷ ys) prefix rest e) [
      | inl (t, f, g) ↦ rejected_sequence x y ys t rest b n g (subst IsSequence f s)
      | inr (t, f, g) ↦ no_sequence_in_incomplete prefix t (subst IsIncomplete f b) s
    ]

    longest : (longer more : List ℕ) → x ++ (y ∷ ys) ≡ longer ++ more → IsIncomplete longer → length longer ≤ length x
    longest longer more e l = elim (prefixes_nest x (y ∷ ys) longer more e) [
      | inl (t, f, g) ↦ omega (arith, ap length f, length-append x t, rejected_incomplete x y ys t more n g (subst IsIncomplete f l))
      | inr (t, f, g) ↦ omega (arith, ap length f, length-append longer t)
    ]

-- an incomplete sequence that is all
pub first_open : (x : List ℕ) → IsIncomplete x → IsFirstPart x (IllFormed x) []
first_open x b = (none, inl (record { whole = sym (append-nil x); incomplete = b; longest = longest }))
  where
    none : BeginsWithNoCharacter x
    none prefix rest e s = no_sequence_in_incomplete prefix rest (subst IsIncomplete e b) s

    longest : (longer more : List ℕ) → x ≡ longer ++ more → IsIncomplete longer → length longer ≤ length x
    longest longer more e l = omega (arith, ap length e, length-append longer more)

-- a byte that starts no sequence
pub first_unpaired : (b : ℕ) (ys : List ℕ) → IsNeverLeading b → IsFirstPart (b ∷ ys) (IllFormed (b ∷ [])) ys
first_unpaired b ys n = (none, inr (record { whole = refl; one = refl; none = unpaired }))
  where
    none : BeginsWithNoCharacter (b ∷ ys)
    none [] rest e s = n (inl (absurd (no_empty s)))
      where
        no_empty : IsSequence [] → ⊥
        no_empty h = cc
    none (z ∷ []) rest e s = n (inl (subst (λ k. IsSequence (k ∷ [])) (sym (head_same b z _ _ e)) s))
    none (z ∷ w ∷ t) rest e s = n
        (inr (subst (λ k. IsIncomplete (k ∷ [])) (sym (head_same b z _ _ e)) (IsSequence-prefix (z ∷ []) (w ∷ t) (omega arith) (omega arith) s)))

    unpaired : (longer more : List ℕ) → b ∷ ys ≡ longer ++ more → IsIncomplete longer → ⊥
    unpaired [] more e l = omega (arith, l.0)
    unpaired (z ∷ t) more e l = n (inr (subst (λ k. IsIncomplete (k ∷ [])) (sym (head_same b z _ _ e)) (IsIncomplete-prefix (z ∷ []) t (omega arith) l)))

-- ---- there is a first part
abbrev HasFirstPart : List ℕ → Type 0
HasFirstPart bs = (part : Part) × (rest : List ℕ) × IsFirstPart bs part rest

found_character : (x : List ℕ) (y : ℕ) (ys : List ℕ) → IsSequence (x ++ y ∷ []) → HasFirstPart (x ++ (y ∷ ys))
found_character x y ys s =
    let c = decode_utf8_scalar (x ++ y ∷ []) s in
    (Character c.0, ys, (c.1, push_cons x y ys ∙ ap (λ xs. xs ++ ys) (sym c.2)))

first_after : (x ys : List ℕ) → IsIncomplete x → HasFirstPart (x ++ ys)
first_after x [] b = (IllFormed x, [], subst (λ xs. IsFirstPart xs (IllFormed x) []) (sym (append-nil x)) (first_open x b))
first_after x (y ∷ ys) b = elim (decide_sequence (x ++ y ∷ [])) [
  | inl s ↦ found_character x y ys s
  | inr n ↦ elim (decide_incomplete (x ++ y ∷ []) (omega (arith, length-append x (y ∷ [])))) [
    | inl l ↦ subst HasFirstPart (sym (push_cons x y ys)) (first_after (x ++ y ∷ []) ys l)
    | inr m ↦ (IllFormed x, y ∷ ys, first_rejected x y ys b (λ h. elim h [ inl s ↦ n s | inr l ↦ m l ]))
  ]
]

pub has_first_part : (bs : List ℕ) → 0 < length bs → HasFirstPart bs
has_first_part [] h = absurd (omega arith)
has_first_part (y ∷ ys) h = elim (decide_sequence (y ∷ [])) [
  | inl s ↦ found_character [] y ys s
  | inr n ↦ elim (decide_incomplete (y ∷ []) (omega arith)) [
    | inl l ↦ first_after (y ∷ []) ys l
    | inr m ↦ (IllFormed (y ∷ []), ys, first_unpaired y ys (λ h. elim h [ inl s ↦ n s | inr l ↦ m l ]))
  ]
]

-- ---- it takes bytes
pub part_bytes : (bs : List ℕ) (part : Part) (rest : List ℕ) → IsFirstPart bs part rest → (bs ≡ bytes_of part ++ rest) × (0 < length (bytes_of part))
part_bytes bs (Character c) rest h = (h.1, omega (arith, length-encode c, len_utf8_bounds c))
part_bytes bs (IllFormed prefix) rest (n, inl l) = (l.whole, l.incomplete.0)
part_bytes bs (IllFormed prefix) rest (n, inr l) = (l.whole, omega (arith, l.one))

-- ---- there is only one
same_prefix : (bs a r b s : List ℕ) → bs ≡ a ++ r → bs ≡ b ++ s → length a ≡ length b → (a ≡ b) × (r ≡ s)
same_prefix bs a r b s e f l = (
  sym (take_at a r (length b) l) ∙ ap (take (length b)) (sym e ∙ f) ∙ take_at b s (length b) refl,
  sym (drop_at a r (length b) l) ∙ ap (drop (length b)) (sym e ∙ f) ∙ drop_at b s (length b) refl,
)

same_malformed : (bs a r b s : List ℕ) → IsLongestIncomplete bs a r ⊎ IsSingleByte bs a r → IsLongestIncomplete bs b s ⊎ IsSingleByte bs b s → (a ≡ b) × (r ≡ s)
same_malformed bs a r b s (inl l) (inl m) =
    same_prefix bs a r b s l.whole m.whole (omega (arith, l.longest b s m.whole m.incomplete, m.longest a r l.whole l.incomplete))
same_malformed bs a r b s (inl l) (inr m) = absurd (m.none a r l.whole l.incomplete)
same_malformed bs a r b s (inr l) (inl m) = absurd (l.none b s m.whole m.incomplete)
same_malformed bs a r b s (inr l) (inr m) = same_prefix bs a r b s l.whole m.whole (omega (arith, l.one, m.one))

pub same_first_part : (bs : List ℕ) (p : Part) (r : List ℕ) (q : Part) (s : List ℕ) → IsFirstPart bs p r → IsFirstPart bs q s → (p ≡ q) × (r ≡ s)
same_first_part bs (Character c) r (Character d) s (h, e) (k, f) = let both = encode_same c d r s (sym e ∙ f) in (ap Character both.0, both.1)
same_first_part bs (Character c) r (IllFormed b) s (h, e) (n, k) = absurd (n (encode_utf8 c) r e (IsSequence-encode c h))
same_first_part bs (IllFormed a) r (Character d) s (n, k) (h, e) = absurd (n (encode_utf8 d) s e (IsSequence-encode d h))
same_first_part bs (IllFormed a) r (IllFormed b) s (n, k) (m, l) = let both = same_malformed bs a r b s k l in (ap IllFormed both.0, both.1)

-- ---- it stays the first for any bytes that follow, unless it is an incomplete sequence that is all
begins_nothing : (b : ℕ) (ys : List ℕ) → BeginsWithNoCharacter (b ∷ ys)
    → ((longer more : List ℕ) → b ∷ ys ≡ longer ++ more → IsIncomplete longer → ⊥) → IsNeverLeading b
begins_nothing b ys n m (inl s) = n (b ∷ []) ys refl s
begins_nothing b ys n m (inr l) = m (b ∷ []) ys refl l

pub unpaired_part : (bs a rest : List ℕ) → BeginsWithNoCharacter bs → IsSingleByte bs a rest → (b : ℕ) × (a ≡ b ∷ []) × IsNeverLeading b
unpaired_part bs [] rest n l = absurd (omega (arith, l.one))
unpaired_part bs (b ∷ []) rest n l = (
  b,
  refl,
  begins_nothing b rest (subst BeginsWithNoCharacter l.whole n)
      (subst (λ xs. (longer more : List ℕ) → xs ≡ longer ++ more → IsIncomplete longer → ⊥) l.whole l.none),
)
unpaired_part bs (b ∷ d ∷ more) rest n l = absurd (omega (arith, l.one))

pub rejected_part : (bs x : List ℕ) (y : ℕ) (ys : List ℕ) → BeginsWithNoCharacter bs → IsLongestIncomplete bs x (y ∷ ys) → IsRejected x y
rejected_part bs x y ys n l (inl s) = n (x ++ y ∷ []) ys (l.whole ∙ push_cons x y ys) s
rejected_part bs x y ys n l (inr b) = omega (arith, l.longest (x ++ y ∷ []) ys (l.whole ∙ push_cons x y ys) b, length-append x (y ∷ []))

pub IsFirstPart-append : (bs : List ℕ) (part : Part) (rest more : List ℕ) → IsFirstPart bs part rest
    → (rest ≡ [] → (x : List ℕ) → part ≡ IllFormed x → IsIncomplete x → ⊥) → IsFirstPart (bs ++ more) part (rest ++ more)
IsFirstPart-append bs (Character c) rest more (h, e) closed = (h, ap (λ xs. xs ++ more) e ∙ append_assoc (encode_utf8 c) rest more)
IsFirstPart-append bs (IllFormed x) [] more (n, inl l) closed = absurd (closed refl x refl l.incomplete)
IsFirstPart-append bs (IllFormed x) (y ∷ ys) more (n, inl l) closed =
    subst (λ xs. IsFirstPart xs (IllFormed x) (y ∷ (ys ++ more))) (sym (append_assoc x (y ∷ ys) more) ∙ ap (λ xs. xs ++ more) (sym l.whole))
    (first_rejected x y (ys ++ more) l.incomplete (rejected_part bs x y ys n l))
IsFirstPart-append bs (IllFormed x) rest more (n, inr l) closed =
    let unpaired = unpaired_part bs x rest n l in
    let whole : bs ++ more ≡ unpaired.0 ∷ (rest ++ more) = ap (λ xs. xs ++ more) l.whole ∙ ap (λ xs. (xs ++ rest) ++ more) unpaired.1 in
    subst (λ xs. IsFirstPart xs (IllFormed x) (rest ++ more)) (sym whole)
    (subst (λ xs. IsFirstPart (unpaired.0 ∷ (rest ++ more)) (IllFormed xs) (rest ++ more)) (sym unpaired.1)
    (first_unpaired unpaired.0 (rest ++ more) unpaired.2))
