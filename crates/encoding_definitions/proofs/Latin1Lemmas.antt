-- Latin1 text in UTF-8: its characters are of one byte below 0x80, or of two with the first 0xC2 or 0xC3.
use Rattle.std.proofs.Common.{◌≡◌, ℕ, suc, zero, ◌+◌, ◌-◌, ◌*◌, ◌/◌, ◌%◌, ◌<◌, ◌≤◌, inl, inr, List, [], ◌∷◌, ◌++◌, length, take, drop, slice_index}
use Rattle.std.proofs.Common.{encode_utf8, encode_utf8_all, IsUtf8, refl, sym, ap, ◌∙◌, arith, subst, append_assoc, take-add, true}
use Rattle.std.specs.Str.{all_scalars, chars}
use Rattle.std.proofs.str.Laws.{two, three, four}
use Rattle.std.proofs.lemmas.Bool.{cases_lt, and_from, and_parts}
use Rattle.std.proofs.lemmas.List.{append-nil, length-drop, length-take-le, take_more, drop_all, get_or-drop, take-append-drop, drop_more}
use Rattle.std.proofs.lemmas.Str.{cons_from_encodes, encodes-append, encode_ascii, chars-encodes}
use lib.Utf8.{scalar, low_scalar}
use Rattle.encoding_definitions.specs.Prefixes.{IsLongestPrefix}
use Rattle.encoding_definitions.specs.Latin1.{IsLatin1, IsUtf8Latin1}

-- the bytes start with a Latin1 character
abbrev pub BeginsLatin1 : List ℕ → Type 0
BeginsLatin1 bs = (c : ℕ) × (c ≤ 0xFF) × (rest : List ℕ) × (bs ≡ encode_utf8 c ++ rest)

-- ---- scalar values of a list
IsLatin1-cons : (c : ℕ) (cs : List ℕ) → c ≤ 0xFF → IsLatin1 cs → IsLatin1 (c ∷ cs)
IsLatin1-cons c cs l h zero = l
IsLatin1-cons c cs l h (suc i) = h i

pub IsLatin1-rest : (c : ℕ) (cs : List ℕ) → IsLatin1 (c ∷ cs) → IsLatin1 cs
IsLatin1-rest c cs h i = h (suc i)

IsLatin1-append : (xs ys : List ℕ) → IsLatin1 xs → IsLatin1 ys → IsLatin1 (xs ++ ys)
IsLatin1-append [] ys g h = h
IsLatin1-append (x ∷ xs) ys g h = IsLatin1-cons x (xs ++ ys) (g 0) (IsLatin1-append xs ys (IsLatin1-rest x xs g) h)

pub IsLatin1-following : (xs ys : List ℕ) → IsLatin1 (xs ++ ys) → IsLatin1 ys
IsLatin1-following [] ys h = h
IsLatin1-following (x ∷ xs) ys h = IsLatin1-following xs ys (IsLatin1-rest x (xs ++ ys) h)

pub scalars_of_latin1 : (cs : List ℕ) → IsLatin1 cs → all_scalars cs ≡ true
scalars_of_latin1 [] h = refl
scalars_of_latin1 (c ∷ cs) h = and_from (scalar c) (all_scalars cs) (low_scalar c (omega (arith, h 0))) (scalars_of_latin1 cs (IsLatin1-rest c cs h))

pub IsUtf8Latin1-nil : IsUtf8Latin1 []
IsUtf8Latin1-nil = ([], (λ i. omega arith), refl)

IsUtf8Latin1-cons : (c : ℕ) (bs : List ℕ) → c ≤ 0xFF → IsUtf8Latin1 bs → IsUtf8Latin1 (encode_utf8 c ++ bs)
IsUtf8Latin1-cons c bs l h = (c ∷ h.0, IsLatin1-cons c h.0 l h.1, ap (λ xs. encode_utf8 c ++ xs) h.2)

-- one more character
IsUtf8Latin1-push : (bs : List ℕ) (c : ℕ) → IsUtf8Latin1 bs → c ≤ 0xFF → IsUtf8Latin1 (bs ++ encode_utf8 c)
IsUtf8Latin1-push bs c h l = (
  h.0 ++ c ∷ [],
  IsLatin1-append h.0 (c ∷ []) h.1 (IsLatin1-cons c [] l (λ i. omega arith)),
  encodes-append h.0 (c ∷ []) ∙ ap (λ xs. xs ++ (encode_utf8 c ++ [])) h.2 ∙ ap (λ xs. bs ++ xs) (append-nil (encode_utf8 c)),
)

-- ---- the bytes of a character
two_bytes : (a b : ℕ) → 0xC2 ≤ a → a < 0xC4 → 0x80 ≤ b → b ≤ 0xBF → encode_utf8 ((a - 192) * 64 + (b - 128)) ≡ a ∷ b ∷ []
two_bytes a b l h m n =
    let c = (a - 192) * 64 + (b - 128) in
    let lead : 192 + c / 64 ≡ a = omega arith in
    let last : 128 + c % 64 ≡ b = omega arith in
    two c (omega arith) (omega arith) ∙ rw (lead, last) refl

-- what starts with a Latin1 character, by its bytes
latin1_bytes : (bs : List ℕ) → BeginsLatin1 bs → (0 < length bs) × (slice_index bs 0 < 0xC4)
    × (0x80 ≤ slice_index bs 0 → (0xC2 ≤ slice_index bs 0) × (1 < length bs) × (0x80 ≤ slice_index bs 1) × (slice_index bs 1 ≤ 0xBF))
latin1_bytes bs (c, l, rest, e) = elim (cases_lt c 128) [
  | inl p ↦ let same : bs ≡ c ∷ rest = e ∙ ap (λ xs. xs ++ rest) (encode_ascii c p) in
      rw same (omega arith, omega arith, λ q. absurd (omega arith))
  | inr p ↦ let same : bs ≡ (192 + c / 64) ∷ (128 + c % 64) ∷ rest = e ∙ ap (λ xs. xs ++ rest) (two c p (omega arith)) in
      rw same (omega arith, omega arith, λ q. (omega arith, omega arith, omega arith, omega arith))
]

-- ---- prefixes
pub split_prefix : (ds cs : List ℕ) (rest : List ℕ) → encode_utf8_all cs ≡ encode_utf8_all ds ++ rest
    → (es : List ℕ) × (cs ≡ ds ++ es) × (encode_utf8_all es ≡ rest)
split_prefix [] cs rest e = (cs, refl, e)
split_prefix (d ∷ ds) cs rest e =
    let first = cons_from_encodes cs (encode_utf8_all ds ++ rest) d (e ∙ append_assoc (encode_utf8 d) (encode_utf8_all ds) rest) in
    let more = split_prefix ds first.0 rest first.2 in
    (more.0, first.1 ∙ ap (λ xs. d ∷ xs) more.1, more.2)

begins : (ds es rest : List ℕ) → IsLatin1 (ds ++ es) → encode_utf8_all es ≡ rest → 0 < length rest → BeginsLatin1 rest
begins [] [] rest h e l = absurd (omega (arith, ap length e))
begins [] (c ∷ es) rest h e l = (c, h 0, encode_utf8_all es, sym e)
begins (d ∷ ds) es rest h e l = begins ds es rest (IsLatin1-rest d (ds ++ es) h) e l

BeginsLatin1-prefix : (xs ys : List ℕ) → BeginsLatin1 xs → BeginsLatin1 (xs ++ ys)
BeginsLatin1-prefix xs ys (c, l, rest, e) = (c, l, rest ++ ys, ap (λ zs. zs ++ ys) e ∙ append_assoc (encode_utf8 c) rest ys)

-- a Latin1 prefix followed by no Latin1 character is the longest
pub latin1_prefix_len : (bs : List ℕ) (n : ℕ) → n ≤ length bs → IsUtf8Latin1 (take n bs) → ¬ (BeginsLatin1 (drop n bs)) → IsLongestPrefix IsUtf8Latin1 bs n
latin1_prefix_len bs n l h stop = record {
  within = l;
  kind = h;
  longest = λ m b k. elim (cases_lt n m) [
    | inl p ↦
        let whole : take m bs ≡ take n bs ++ take (m - n) (drop n bs) = let e : m ≡ n + (m - n) = omega arith in ap (λ j. take j bs) e
        ∙ take-add n (m - n) bs in
        let parts = split_prefix h.0 k.0 (take (m - n) (drop n bs)) (k.2 ∙ whole ∙ ap (λ xs. xs ++ take (m - n) (drop n bs)) (sym h.2)) in
        let long : length (take (m - n) (drop n bs)) ≡ m - n = length-take-le (m - n) (drop n bs) (omega (arith, length-drop n bs)) in
        let first = begins h.0 parts.0 (take (m - n) (drop n bs)) (subst IsLatin1 parts.1 k.1) parts.2 (omega arith) in
        absurd (stop (subst BeginsLatin1 (take-append-drop (m - n) (drop n bs)) (BeginsLatin1-prefix _ (drop (m - n) (drop n bs)) first)))
    | inr p ↦ p
  ];
}

-- ---- a loop over the bytes
pub at_drop_start : (bs : List ℕ) (i : ℕ) → slice_index (drop i bs) 0 ≡ slice_index bs i
at_drop_start bs i = get_or-drop i bs 0 0 ∙ ap (λ j. slice_index bs j) (omega arith)

pub latin1_more_one : (bs : List ℕ) (i : ℕ) → i < length bs → IsUtf8Latin1 (take i bs) → slice_index bs i < 0x80 → IsUtf8Latin1 (take (i + 1) bs)
latin1_more_one bs i l h p =
    let more = IsUtf8Latin1-push (take i bs) (slice_index bs i) h (omega arith) in
    rw (take_more bs i 0 l, sym (encode_ascii (slice_index bs i) p)) more

pub latin1_more_two : (bs : List ℕ) (i : ℕ) → i + 1 < length bs → IsUtf8Latin1 (take i bs) → 0xC2 ≤ slice_index bs i → slice_index bs i < 0xC4
    → 0x80 ≤ slice_index bs (i + 1) → slice_index bs (i + 1) ≤ 0xBF → IsUtf8Latin1 (take (i + 2) bs)
latin1_more_two bs i l h p q r s =
    let a = slice_index bs i in
    let b = slice_index bs (i + 1) in
    let more = IsUtf8Latin1-push (take i bs) ((a - 192) * 64 + (b - 128)) h (omega arith) in
    let prefix : take (i + 2) bs ≡ take i bs ++ (a ∷ b ∷ []) =
    ap (λ j. take j bs) (let e : i + 2 ≡ (i + 1) + 1 = omega arith in e) ∙ take_more bs (i + 1) 0 l
    ∙ ap (λ xs. xs ++ b ∷ []) (take_more bs i 0 (omega arith)) ∙ append_assoc (take i bs) (a ∷ []) (b ∷ []) in
    rw (prefix, sym (two_bytes a b p q r s)) more

pub latin1_stop : (bs : List ℕ) (i : ℕ) → i ≤ length bs → IsUtf8Latin1 (take i bs)
    → (i < length bs → (0x80 ≤ slice_index bs i) × (0xC2 ≤ slice_index bs i → slice_index bs i < 0xC4 → i + 1 < length bs → 0x80 ≤ slice_index bs (i + 1)
    → slice_index bs (i + 1) ≤ 0xBF → ⊥))
    → IsLongestPrefix IsUtf8Latin1 bs i
latin1_stop bs i l h stop = latin1_prefix_len bs i l h (λ b.
    let known = latin1_bytes (drop i bs) b in
    let here = at_drop_start bs i in
    let next = get_or-drop i bs 1 0 in
    let inside : i < length bs = omega (arith, length-drop i bs, known.0) in
    let found = stop inside in
    let more = known.2 (omega (arith, found.0)) in
    found.1 (omega (arith, more.0)) (omega (arith, known.1)) (omega (arith, length-drop i bs, more.1)) (omega (arith, more.2)) (omega (arith, more.3)))

-- ---- well-formed text: each byte before an index is below 0xC4, and the byte at the index isn't
record Stops (n : ℕ) (bs : List ℕ) : Type 0 where
  pub within : n ≤ length bs
  pub low : (k : ℕ) → k < n → slice_index bs k < 0xC4
  pub high : n < length bs → 0xC4 ≤ slice_index bs n

abbrev PrefixOf : List ℕ → Type 0
PrefixOf bs = (m : ℕ) → Stops m bs → IsUtf8Latin1 (take m bs)

stops_one : (c n : ℕ) (rest : List ℕ) → c < 128 → Stops n (c ∷ rest) → PrefixOf rest → IsUtf8Latin1 (take n (c ∷ rest))
stops_one c zero rest p h more = IsUtf8Latin1-nil
stops_one c (suc n) rest p h more =
    let after : Stops n rest = record { within = omega (arith, h.within); low = λ k q. h.low (suc k) (omega arith); high = λ q. h.high (omega arith) } in
    subst (λ xs. IsUtf8Latin1 (xs ++ take n rest)) (encode_ascii c p) (IsUtf8Latin1-cons c (take n rest) (omega arith) (more n after))

stops_two : (c n : ℕ) (rest : List ℕ) → 128 ≤ c → c < 2048 → Stops n ((192 + c / 64) ∷ (128 + c % 64) ∷ rest) → PrefixOf rest
    → IsUtf8Latin1 (take n ((192 + c / 64) ∷ (128 + c % 64) ∷ rest))
stops_two c zero rest l p h more = IsUtf8Latin1-nil
stops_two c (suc zero) rest l p h more = absurd (omega (arith, h.high (omega arith)))
stops_two c (suc (suc n)) rest l p h more =
    let after : Stops n rest = record { within = omega (arith, h.within); low = λ k q. h.low (suc (suc k)) (omega arith); high = λ q. h.high (omega arith) } in
    subst (λ xs. IsUtf8Latin1 (xs ++ take n rest)) (two c l p) (IsUtf8Latin1-cons c (take n rest) (omega (arith, h.low 0 (omega arith))) (more n after))

-- the prefix has no byte of a character from U+0800 on
stops_more : (bs : List ℕ) (n a : ℕ) (rest : List ℕ) → bs ≡ a ∷ rest → 0xC4 ≤ a → Stops n bs → IsUtf8Latin1 (take n bs)
stops_more bs zero a rest e l h = IsUtf8Latin1-nil
stops_more bs (suc n) a rest e l h = absurd (let first : slice_index bs 0 ≡ a = ap (λ xs. slice_index xs 0) e in omega (arith, h.low 0 (omega arith)))

stops_text : (cs bs : List ℕ) (n : ℕ) → all_scalars cs ≡ true → encode_utf8_all cs ≡ bs → Stops n bs → IsUtf8Latin1 (take n bs)
stops_text [] bs n s e h = let none : n ≡ 0 = omega (arith, h.within, ap length e) in rw none IsUtf8Latin1-nil
stops_text (c ∷ cs) bs n s e h =
    let rest = encode_utf8_all cs in
    let more : PrefixOf rest = λ m g. stops_text cs rest m (and_parts (scalar c) (all_scalars cs) s).1 refl g in
    let start : (prefix : List ℕ) → encode_utf8 c ≡ prefix → bs ≡ prefix ++ rest = λ prefix q. sym e ∙ ap (λ xs. xs ++ rest) q in
    elim (cases_lt c 128) [
      | inl p ↦ let same = start (c ∷ []) (encode_ascii c p) in
          subst (λ xs. IsUtf8Latin1 (take n xs)) (sym same) (stops_one c n rest p (subst (Stops n) same h) more)
      | inr p ↦ elim (cases_lt c 2048) [
        | inl q ↦ let same = start ((192 + c / 64) ∷ (128 + c % 64) ∷ []) (two c p q) in
            subst (λ xs. IsUtf8Latin1 (take n xs)) (sym same) (stops_two c n rest p q (subst (Stops n) same h) more)
        | inr q ↦ elim (cases_lt c 65536) [
          | inl r ↦ stops_more bs n _ _ (start _ (three c q r)) (omega arith) h
          | inr r ↦ stops_more bs n _ _ (start _ (four c r)) (omega arith) h
        ]
      ]
    ]

pub latin1_text_prefix : (bs : List ℕ) (n : ℕ) → IsUtf8 bs → n ≤ length bs → ((k : ℕ) → k < n → slice_index bs k < 0xC4)
    → (n < length bs → 0xC4 ≤ slice_index bs n)
    → IsLongestPrefix IsUtf8Latin1 bs n
latin1_text_prefix bs n u l low high =
    latin1_stop bs n l (stops_text u.0 bs n u.1.0 u.1.1 (record { within = l; low = low; high = high }))
    (λ p. (omega (arith, high p), λ q r s t v. omega (arith, high p)))

-- ---- text as characters
pub latin1_chars : (bs : List ℕ) → IsUtf8Latin1 bs → IsLatin1 (chars bs) × (encode_utf8_all (chars bs) ≡ bs)
latin1_chars bs (cs, l, e) =
    let same : chars bs ≡ cs = ap chars (sym e) ∙ chars-encodes cs (scalars_of_latin1 cs l) in
    rw same (l, e)

-- the next character of the rest
next_char : (src cs : List ℕ) (i j : ℕ) → drop i src ≡ encode_utf8_all (drop j cs) → i < length src
    → (j < length cs) × (drop i src ≡ encode_utf8 (slice_index cs j) ++ encode_utf8_all (drop (j + 1) cs))
next_char src cs i j e l =
    let inside : j < length cs = elim (cases_lt j (length cs)) [
      | inl p ↦ p
      | inr p ↦ absurd (omega (arith, length-drop i src, ap length e, ap (λ xs. length (encode_utf8_all xs)) (drop_all j cs p)))
    ] in
    (inside, e ∙ ap encode_utf8_all (drop_more cs j 0 inside))

pub next_of_one : (src cs : List ℕ) (i j : ℕ) → IsLatin1 cs → drop i src ≡ encode_utf8_all (drop j cs) → i < length src → slice_index src i < 0x80
    → (j < length cs) × (slice_index src i ≡ slice_index cs j) × (drop (i + 1) src ≡ encode_utf8_all (drop (j + 1) cs))
next_of_one src cs i j h e l p =
    let next = next_char src cs i j e l in
    let here = drop_more src i 0 l in
    elim (cases_lt (slice_index cs j) 128) [
      | inl q ↦ let both = sym here ∙ next.1 ∙ ap (λ xs. xs ++ encode_utf8_all (drop (j + 1) cs)) (encode_ascii _ q) in (next.0, cc, cc)
      | inr q ↦ let both = sym here ∙ next.1 ∙ ap (λ xs. xs ++ encode_utf8_all (drop (j + 1) cs)) (two _ q (omega (arith, h j))) in
          let first : slice_index src i ≡ 192 + slice_index cs j / 64 = cc in absurd (omega arith)
    ]

pub next_of_two : (src cs : List ℕ) (i j : ℕ) → IsLatin1 cs → drop i src ≡ encode_utf8_all (drop j cs) → i < length src → 0x80 ≤ slice_index src i
    → (j < length cs) × (i + 1 < length src) × (0x80 ≤ slice_index cs j) × (slice_index src i ≡ 192 + slice_index cs j / 64)
    × (slice_index src (i + 1) ≡ 128 + slice_index cs j % 64)
    × (drop (i + 2) src ≡ encode_utf8_all (drop (j + 1) cs))
next_of_two src cs i j h e l p =
    let next = next_char src cs i j e l in
    let here = drop_more src i 0 l in
    let rest = encode_utf8_all (drop (j + 1) cs) in
    elim (cases_lt (slice_index cs j) 128) [
      | inl q ↦ let both = sym here ∙ next.1 ∙ ap (λ xs. xs ++ rest) (encode_ascii _ q) in
          let first : slice_index src i ≡ slice_index cs j = cc in absurd (omega arith)
      | inr q ↦ let both = sym here ∙ next.1 ∙ ap (λ xs. xs ++ rest) (two _ q (omega (arith, h j))) in
          let following : drop (i + 1) src ≡ (128 + slice_index cs j % 64) ∷ rest = cc in
          let inside : i + 1 < length src = omega (arith, length-drop (i + 1) src, ap length following) in
          let there = drop_more src (i + 1) 0 inside in
          let last : drop (i + 2) src ≡ drop ((i + 1) + 1) src = ap (λ k. drop k src) (let e : i + 2 ≡ (i + 1) + 1 = omega arith in e) in
          (next.0, inside, q, cc, cc, cc)
    ]
