-- The one list of parts of bytes: it exists, it is the only one, and its final parts stay for any bytes that follow.
use Rattle.std.proofs.Common.{◌≡◌, ℕ, zero, suc, ◌+◌, ◌≤◌, inl, inr, true, List, [], ◌∷◌, ◌++◌, length}
use Rattle.std.proofs.Common.{map, encode_utf8, encode_utf8_all, refl, sym, ap, ◌∙◌, arith, subst}
use Rattle.std.specs.List.{flat_map}
use Rattle.std.specs.Str.{all_scalars}
use Rattle.std.proofs.lemmas.Bool.{and_parts}
use Rattle.std.proofs.lemmas.List.{length-append, append-nil, append_assoc}
use Rattle.encoding_definitions.specs.Sequence.{IsIncomplete}
use Rattle.encoding_definitions.specs.Parts.{Part, Character, IllFormed, bytes_of, IsFirstPart, StartsWith}
use Rattle.encoding_definitions.specs.Parts.{ArePartsOf, lossy_scalar, lossy_utf8, malformed_count, AreFinal}
use Rattle.encoding_definitions.proofs.SequenceLemmas.{decide_incomplete}
use Rattle.encoding_definitions.proofs.PartsLemmas.{has_first_part, part_bytes, same_first_part, IsFirstPart-append}

-- ---- runs of parts
pub StartsWith-append : (bs : List ℕ) (ps : List Part) (mid : List ℕ) (qs : List Part) (rest : List ℕ) → StartsWith bs ps mid → StartsWith mid qs rest
    → StartsWith bs (ps ++ qs) rest
StartsWith-append bs [] mid qs rest e s = subst (λ xs. StartsWith xs qs rest) (sym e) s
StartsWith-append bs (p ∷ ps) mid qs rest (after, f, more) s = (after, f, StartsWith-append after ps mid qs rest more s)

pub StartsWith-one : (bs : List ℕ) (part : Part) (rest : List ℕ) → IsFirstPart bs part rest → StartsWith bs (part ∷ []) rest
StartsWith-one bs part rest f = (rest, f, refl)

-- the bytes start with the joined bytes of the parts
pub StartsWith-bytes : (bs : List ℕ) (ps : List Part) (rest : List ℕ) → StartsWith bs ps rest → bs ≡ flat_map bytes_of ps ++ rest
StartsWith-bytes bs [] rest e = e
StartsWith-bytes bs (p ∷ ps) rest (after, f, more) =
    (part_bytes bs p after f).0 ∙ ap (λ xs. bytes_of p ++ xs) (StartsWith-bytes after ps rest more)
    ∙ sym (append_assoc (bytes_of p) (flat_map bytes_of ps) rest)

pub parts-bytes : (bs : List ℕ) (ps : List Part) → ArePartsOf bs ps → flat_map bytes_of ps ≡ bs
parts-bytes bs ps h = sym (StartsWith-bytes bs ps [] h ∙ append-nil (flat_map bytes_of ps))

-- ---- there is one list of parts
parts_within : (n : ℕ) (bs : List ℕ) → length bs ≤ n → (ps : List Part) × ArePartsOf bs ps
parts_within n [] h = ([], refl)
parts_within zero (b ∷ bs) h = absurd (omega arith)
parts_within (suc n) (b ∷ bs) h =
    let first = has_first_part (b ∷ bs) (omega arith) in
    let bytes = part_bytes (b ∷ bs) first.0 first.1 first.2 in
    let less : length first.1 ≤ n = omega (arith, ap length bytes.0, length-append (bytes_of first.0) first.1, bytes.1) in
    let more = parts_within n first.1 less in
    (first.0 ∷ more.0, (first.1, first.2, more.1))

pub has_parts : (bs : List ℕ) → (ps : List Part) × ArePartsOf bs ps
has_parts bs = parts_within (length bs) bs (omega arith)

-- ---- there is only one
no_first_part : (part : Part) (rest : List ℕ) → IsFirstPart [] part rest → ⊥
no_first_part part rest f =
    let bytes = part_bytes [] part rest f in
    omega (arith, ap length bytes.0, length-append (bytes_of part) rest, bytes.1)

-- first parts are a prefix of all the parts, and the rest has the other parts
pub parts_split : (bs : List ℕ) (ps : List Part) (rest : List ℕ) (all : List Part) → StartsWith bs ps rest → ArePartsOf bs all
    → (more : List Part) × (all ≡ ps ++ more) × ArePartsOf rest more
parts_split bs [] rest all e h = (all, refl, subst (λ xs. ArePartsOf xs all) e h)
parts_split bs (p ∷ ps) rest [] (after, f, s) e = absurd (no_first_part p after (subst (λ xs. IsFirstPart xs p after) e f))
parts_split bs (p ∷ ps) rest (q ∷ all) (after, f, s) (then', g, t) =
    let same = same_first_part bs p after q then' f g in
    let more = parts_split after ps rest all s (subst (λ xs. ArePartsOf xs all) (sym same.1) t) in
    (more.0, (λ i. (sym same.0) i ∷ (more.1) i), more.2)

no_parts : (ps : List Part) → ArePartsOf [] ps → ps ≡ []
no_parts [] h = refl
no_parts (p ∷ ps) (after, f, s) = absurd (no_first_part p after f)

pub same_parts : (bs : List ℕ) (ps qs : List Part) → ArePartsOf bs ps → ArePartsOf bs qs → ps ≡ qs
same_parts bs ps qs h k =
    let split = parts_split bs ps [] qs h k in
    sym (split.1 ∙ ap (λ xs. ps ++ xs) (no_parts split.0 split.2) ∙ append-nil ps)

-- ---- the final parts
-- if no bytes are left, the last part is no incomplete sequence
abbrev IsClosed : List Part → List ℕ → Type 0
IsClosed ps rest = rest ≡ [] → (prefix : List Part) (x : List ℕ) → ps ≡ prefix ++ IllFormed x ∷ [] → IsIncomplete x → ⊥

closed_tail : (p : Part) (ps : List Part) (rest : List ℕ) → IsClosed (p ∷ ps) rest → IsClosed ps rest
closed_tail p ps rest c e prefix x same b = c e (p ∷ prefix) x (ap (λ xs. p ∷ xs) same) b

-- if nothing follows a part, it is the last
closed_head : (p : Part) (ps : List Part) (after rest : List ℕ) → StartsWith after ps rest → IsClosed (p ∷ ps) rest
    → after ≡ [] → (x : List ℕ) → p ≡ IllFormed x → IsIncomplete x → ⊥
closed_head p [] after rest s c e x same b = c (sym s ∙ e) [] x (ap (λ q. q ∷ []) same) b
closed_head p (q ∷ ps) after rest (then', f, s) c e x same b = no_first_part q then' (subst (λ xs. IsFirstPart xs q then') e f)

-- they are the first parts for any bytes that follow
pub final_stay : (bs : List ℕ) (ps : List Part) (rest more : List ℕ) → StartsWith bs ps rest → IsClosed ps rest → StartsWith (bs ++ more) ps (rest ++ more)
final_stay bs [] rest more e c = ap (λ xs. xs ++ more) e
final_stay bs (p ∷ ps) rest more (after, f, s) c =
    (after ++ more, IsFirstPart-append bs p after more f (closed_head p ps after rest s c), final_stay after ps rest more s (closed_tail p ps rest c))

pub final_prefix : (bs : List ℕ) (ps : List Part) (rest more : List ℕ) (all : List Part) → AreFinal bs ps rest → ArePartsOf (bs ++ more) all
    → (others : List Part) × (all ≡ ps ++ others)
final_prefix bs ps rest more all s h =
    let split = parts_split (bs ++ more) ps (rest ++ more) all (final_stay bs ps rest more s.starts s.closed) h in
    (split.0, split.1)

-- ---- characters in a row
pub StartsWith-characters : (cs rest : List ℕ) → all_scalars cs ≡ true → StartsWith (encode_utf8_all cs ++ rest) (map Character cs) rest
StartsWith-characters [] rest h = refl
StartsWith-characters (c ∷ cs) rest h =
    let parts = and_parts _ _ h in
    (encode_utf8_all cs ++ rest, (parts.0, append_assoc (encode_utf8 c) (encode_utf8_all cs) rest), StartsWith-characters cs rest parts.1)

-- ---- the text of parts and the number of malformed sequences
pub lossy_utf8-append : (ps qs : List Part) → lossy_utf8 (ps ++ qs) ≡ lossy_utf8 ps ++ lossy_utf8 qs
lossy_utf8-append [] qs = refl
lossy_utf8-append (p ∷ ps) qs =
    ap (λ xs. encode_utf8 (lossy_scalar p) ++ xs) (lossy_utf8-append ps qs) ∙ sym (append_assoc (encode_utf8 (lossy_scalar p)) (lossy_utf8 ps) (lossy_utf8 qs))

pub malformed_count-append : (ps qs : List Part) → malformed_count (ps ++ qs) ≡ malformed_count ps + malformed_count qs
malformed_count-append [] qs = omega arith
malformed_count-append (Character c ∷ ps) qs = malformed_count-append ps qs
malformed_count-append (IllFormed x ∷ ps) qs = omega (arith, malformed_count-append ps qs)

pub lossy_utf8-characters : (cs : List ℕ) → lossy_utf8 (map Character cs) ≡ encode_utf8_all cs
lossy_utf8-characters [] = refl
lossy_utf8-characters (c ∷ cs) = ap (λ xs. encode_utf8 c ++ xs) (lossy_utf8-characters cs)

pub malformed_count-characters : (cs : List ℕ) → malformed_count (map Character cs) ≡ 0
malformed_count-characters [] = refl
malformed_count-characters (c ∷ cs) = malformed_count-characters cs

-- there are no more malformed sequences than bytes
pub malformed_count-bytes : (bs : List ℕ) (ps : List Part) (rest : List ℕ) → StartsWith bs ps rest → malformed_count ps + length rest ≤ length bs
malformed_count-bytes bs [] rest e = omega (arith, ap length e)
malformed_count-bytes bs (Character c ∷ ps) rest (after, f, s) =
    let bytes = part_bytes bs (Character c) after f in
    omega (arith, malformed_count-bytes after ps rest s, ap length bytes.0, length-append (encode_utf8 c) after)
malformed_count-bytes bs (IllFormed x ∷ ps) rest (after, f, s) =
    let bytes = part_bytes bs (IllFormed x) after f in
    omega (arith, malformed_count-bytes after ps rest s, ap length bytes.0, length-append x after, bytes.1)

-- ---- each list of bytes has final parts
abbrev HasFinal : List ℕ → Type 0
HasFinal bs = (ps : List Part) × (rest : List ℕ) × AreFinal bs ps rest

no_push : (prefix : List Part) (p : Part) → [] ≡ prefix ++ p ∷ [] → ⊥
no_push prefix p e = omega (arith, ap length e, length-append prefix (p ∷ []))

head_part : (p q : Part) (ps qs : List Part) → p ∷ ps ≡ q ∷ qs → p ≡ q
head_part p q ps qs e = cc

tail_parts : (p q : Part) (ps qs : List Part) → p ∷ ps ≡ q ∷ qs → ps ≡ qs
tail_parts p q ps qs e = cc

-- a part before final ones is final, unless it is an incomplete sequence that is all
final_more : (bs : List ℕ) (p : Part) (after : List ℕ) (ps : List Part) (rest : List ℕ) → IsFirstPart bs p after → AreFinal after ps rest
    → (after ≡ [] → (x : List ℕ) → p ≡ IllFormed x → IsIncomplete x → ⊥) → AreFinal bs (p ∷ ps) rest
final_more bs p after ps rest f s stays = record { starts = (after, f, s.starts); still_open = s.still_open; closed = closed }
  where
    closed : IsClosed (p ∷ ps) rest
    closed e [] x same b =
        let none : StartsWith after [] rest = subst (λ qs. StartsWith after qs rest) (tail_parts p (IllFormed x) ps [] same) s.starts in
        stays (none ∙ e) x (head_part p (IllFormed x) ps [] same) b
    closed e (q ∷ prefix) x same b = s.closed e prefix x (tail_parts p q ps (prefix ++ IllFormed x ∷ []) same) b

-- nothing of an incomplete sequence is final
final_none : (bs x : List ℕ) → bs ≡ x ++ [] → IsIncomplete x → HasFinal bs
final_none bs x e b = (
  [],
  bs,
  record {
    starts = refl;
    still_open = inr (subst IsIncomplete (sym (e ∙ append-nil x)) b);
    closed = λ _ prefix y same c. no_push prefix (IllFormed y) same;
  },
)

final_first : (bs : List ℕ) (p : Part) (after : List ℕ) → IsFirstPart bs p after → HasFinal after → HasFinal bs
final_first bs p (y ∷ ys) f s = (p ∷ s.0, s.1, final_more bs p (y ∷ ys) s.0 s.1 f s.2 (λ e x same b. cc))
final_first bs (Character c) [] f s = (Character c ∷ s.0, s.1, final_more bs (Character c) [] s.0 s.1 f s.2 (λ e x same b. cc))
final_first bs (IllFormed x) [] f s =
    let bytes = part_bytes bs (IllFormed x) [] f in
    elim (decide_incomplete x bytes.1) [
      | inl b ↦ final_none bs x bytes.0 b
      | inr n ↦ (IllFormed x ∷ s.0, s.1, final_more bs (IllFormed x) [] s.0 s.1 f s.2 (λ e y same b. n (subst IsIncomplete (sym (same_bytes x y same)) b)))
    ]
  where
    same_bytes : (x y : List ℕ) → IllFormed x ≡ IllFormed y → x ≡ y
    same_bytes x y e = cc

final_of : (bs : List ℕ) (ps : List Part) → ArePartsOf bs ps → HasFinal bs
final_of bs [] e = ([], [], record { starts = e; still_open = inl refl; closed = λ _ prefix x same b. no_push prefix (IllFormed x) same })
final_of bs (p ∷ ps) (after, f, s) = final_first bs p after f (final_of after ps s)

pub has_final : (bs : List ℕ) → HasFinal bs
has_final bs = let all = has_parts bs in final_of bs all.0 all.1
