-- Which bytes are well-formed sequences and which are incomplete ones, and what follows from the rows of the table.
use Rattle.std.proofs.Common.{◌≡◌, ◌≢◌, ℕ, suc, ◌+◌, ◌<◌, ◌≤◌, ◌⊎◌, inl, inr, Bool, true, false, ◌&&◌, ◌||◌, List, [], ◌∷◌}
use Rattle.std.proofs.Common.{◌++◌, length, refl, sym, ap, arith, subst, nat_le, slice_index, if◌then◌else◌, ◌==◌, ◌↔◌}
use Rattle.std.proofs.lemmas.Bool.{and_parts, and_from, or_cases, or_left, or_right, true≢false}
use Rattle.std.proofs.lemmas.Bool.{cases_Bool, both_ways, leb-true, le-leb, eq-eqb, cond_both, cases_lt}
use Rattle.std.proofs.lemmas.Bool.Decides.{nat_tests}
use Rattle.std.proofs.lemmas.List.{length-append, append_assoc}
use Rattle.std.specs.Str.Lossy.{second_byte_min, second_byte_max}
use Rattle.std.specs.List.{list_any}
use Rattle.std.specs.Prelude.{IsTrue}
use Rattle.encoding_definitions.specs.Parts.{BeginsWithNoCharacter}
use Rattle.encoding_definitions.specs.Sequence.{table_3_7, matches_row, IsContinuation, IsSecond, IsSequence, IsIncomplete}

-- the bytes are in one of the rows
abbrev in_some_row : List (List (ℕ × ℕ)) → List ℕ → Bool
in_some_row table bs = list_any (λ row. matches_row row bs) table

-- ---- incomplete sequences, by a test on the rows
-- the bytes are in the first ranges of the row, and a range is left
abbrev pub begins_row : List (ℕ × ℕ) → List ℕ → Bool
begins_row [] bs = false
begins_row (range ∷ row) [] = true
begins_row (range ∷ row) (b ∷ bs) = (nat_le range.0 b && nat_le b range.1) && begins_row row bs

abbrev pub begins_some_row : List (List (ℕ × ℕ)) → List ℕ → Bool
begins_some_row [] bs = false
begins_some_row (row ∷ more) bs = begins_row row bs || begins_some_row more bs

-- each range of the row holds a byte
abbrev ranges_hold : List (ℕ × ℕ) → Bool
ranges_hold [] = true
ranges_hold (range ∷ row) = nat_le range.0 range.1 && ranges_hold row

abbrev rows_hold : List (List (ℕ × ℕ)) → Bool
rows_hold [] = true
rows_hold (row ∷ more) = ranges_hold row && rows_hold more

begins_row-prefix : (row : List (ℕ × ℕ)) (bs rest : List ℕ) → 0 < length rest → matches_row row (bs ++ rest) ≡ true → begins_row row bs ≡ true
begins_row-prefix [] [] [] h e = absurd (omega arith)
begins_row-prefix [] [] (r ∷ rest) h e = e
begins_row-prefix [] (b ∷ bs) rest h e = e
begins_row-prefix (range ∷ row) [] rest h e = refl
begins_row-prefix (range ∷ row) (b ∷ bs) rest h e =
    let parts = and_parts _ _ e in
    and_from _ _ parts.0 (begins_row-prefix row bs rest h parts.1)

begins_some_row-prefix : (table : List (List (ℕ × ℕ))) (bs rest : List ℕ) → 0 < length rest → in_some_row table (bs ++ rest) ≡ true
    → begins_some_row table bs ≡ true
begins_some_row-prefix [] bs rest h e = e
begins_some_row-prefix (row ∷ more) bs rest h e = elim (or_cases _ _ e) [
  | inl p ↦ or_left _ _ (begins_row-prefix row bs rest h p)
  | inr q ↦ or_right _ _ (begins_some_row-prefix more bs rest h q)
]

-- the least bytes that complete the row
row-filled : (row : List (ℕ × ℕ)) → ranges_hold row ≡ true → (rest : List ℕ) × (length rest ≡ length row) × (matches_row row rest ≡ true)
row-filled [] e = ([], refl, refl)
row-filled (range ∷ row) e =
    let parts = and_parts (nat_le range.0 range.1) (ranges_hold row) e in
    let more = row-filled row parts.1 in
    let least : nat_le range.0 range.0 ≡ true = grind (arith, nat_tests) in
    (range.0 ∷ more.0, ap suc more.1, and_from _ _ (and_from _ _ least parts.0) more.2)

begins_row-rest : (row : List (ℕ × ℕ)) (bs : List ℕ) → ranges_hold row ≡ true → begins_row row bs ≡ true
    → (rest : List ℕ) × (0 < length rest) × (matches_row row (bs ++ rest) ≡ true)
begins_row-rest [] bs h e = absurd (true≢false (sym e))
begins_row-rest (range ∷ row) [] h e = let more = row-filled (range ∷ row) h in (more.0, omega (arith, more.1), more.2)
begins_row-rest (range ∷ row) (b ∷ bs) h e =
    let parts = and_parts _ _ e in
    let more = begins_row-rest row bs (and_parts _ _ h).1 parts.1 in
    (more.0, more.1, and_from _ _ parts.0 more.2)

begins_some_row-rest : (table : List (List (ℕ × ℕ))) (bs : List ℕ) → rows_hold table ≡ true → begins_some_row table bs ≡ true
    → (rest : List ℕ) × (0 < length rest) × (in_some_row table (bs ++ rest) ≡ true)
begins_some_row-rest [] bs h e = absurd (true≢false (sym e))
begins_some_row-rest (row ∷ more) bs h e = elim (or_cases _ _ e) [
  | inl p ↦ let found = begins_row-rest row bs (and_parts _ _ h).0 p in (found.0, found.1, or_left _ _ found.2)
  | inr q ↦ let found = begins_some_row-rest more bs (and_parts _ _ h).1 q in (found.0, found.1, or_right _ _ found.2)
]

pub begins_some_row-IsIncomplete : (bs : List ℕ) → IsIncomplete bs → begins_some_row table_3_7 bs ≡ true
begins_some_row-IsIncomplete bs h = begins_some_row-prefix table_3_7 bs h.1 h.2 h.3

pub IsIncomplete-begins_some_row : (bs : List ℕ) → 0 < length bs → begins_some_row table_3_7 bs ≡ true → IsIncomplete bs
IsIncomplete-begins_some_row bs h e = let found = begins_some_row-rest table_3_7 bs refl e in (h, found.0, found.1, found.2)

-- ---- each list is an incomplete sequence or not
pub decide_sequence : (bs : List ℕ) → IsSequence bs ⊎ (IsSequence bs → ⊥)
decide_sequence bs = elim (cases_Bool (in_some_row table_3_7 bs)) [ inl e ↦ inl e | inr e ↦ inr (both_ways _ e) ]

pub decide_incomplete : (bs : List ℕ) → 0 < length bs → IsIncomplete bs ⊎ (IsIncomplete bs → ⊥)
decide_incomplete bs h = elim (cases_Bool (begins_some_row table_3_7 bs)) [
  | inl e ↦ inl (IsIncomplete-begins_some_row bs h e)
  | inr e ↦ inr (λ b. both_ways _ e (begins_some_row-IsIncomplete bs b))
]

-- ---- prefixes of well-formed and of incomplete sequences
pub IsIncomplete-prefix : (prefix more : List ℕ) → 0 < length prefix → IsIncomplete (prefix ++ more) → IsIncomplete prefix
IsIncomplete-prefix prefix more h b = (h, more ++ b.1, omega (arith, length-append more b.1, b.2), subst IsSequence (append_assoc prefix more b.1) b.3)

pub IsSequence-prefix : (prefix more : List ℕ) → 0 < length prefix → 0 < length more → IsSequence (prefix ++ more) → IsIncomplete prefix
IsSequence-prefix prefix more h k s = (h, more, k, s)

-- ---- sequences by their bytes
-- b may follow a, the first of three or four bytes
abbrev pub is_second : ℕ → ℕ → Bool
is_second a b = nat_le (second_byte_min a) b && nat_le b (second_byte_max a)

-- the bytes of a sequence, by their number
abbrev pub HasShape : List ℕ → Type 0
HasShape [] = ⊥
HasShape (a ∷ []) = a ≤ 0x7F
HasShape (a ∷ b ∷ []) = (0xC2 ≤ a) × (a ≤ 0xDF) × IsContinuation b
HasShape (a ∷ b ∷ c ∷ []) = (0xE0 ≤ a) × (a ≤ 0xEF) × IsTrue (is_second a b) × IsContinuation c
HasShape (a ∷ b ∷ c ∷ d ∷ []) = (0xF0 ≤ a) × (a ≤ 0xF4) × IsTrue (is_second a b) × IsContinuation c × IsContinuation d
HasShape (a ∷ b ∷ c ∷ d ∷ e ∷ more) = ⊥

-- the bytes of an incomplete sequence
abbrev pub HasOpenShape : List ℕ → Type 0
HasOpenShape [] = ⊥
HasOpenShape (a ∷ []) = (0xC2 ≤ a) × (a ≤ 0xF4)
HasOpenShape (a ∷ b ∷ []) = (0xE0 ≤ a) × (a ≤ 0xF4) × IsTrue (is_second a b)
HasOpenShape (a ∷ b ∷ c ∷ []) = (0xF0 ≤ a) × (a ≤ 0xF4) × IsTrue (is_second a b) × IsContinuation c
HasOpenShape (a ∷ b ∷ c ∷ d ∷ more) = ⊥

matches_row-length : (row : List (ℕ × ℕ)) (bs : List ℕ) → matches_row row bs ≡ true → length bs ≡ length row
matches_row-length [] [] e = refl
matches_row-length [] (b ∷ bs) e = absurd (true≢false (sym e))
matches_row-length (range ∷ row) [] e = absurd (true≢false (sym e))
matches_row-length (range ∷ row) (b ∷ bs) e = ap suc (matches_row-length row bs (and_parts (nat_le range.0 b && nat_le b range.1) (matches_row row bs) e).1)

-- no row is longer than n
abbrev short_rows : ℕ → List (List (ℕ × ℕ)) → Bool
short_rows n [] = true
short_rows n (row ∷ more) = nat_le (length row) n && short_rows n more

in_some_row-length : (n : ℕ) (table : List (List (ℕ × ℕ))) (bs : List ℕ) → short_rows n table ≡ true → in_some_row table bs ≡ true → length bs ≤ n
in_some_row-length n [] bs s e = absurd (true≢false (sym e))
in_some_row-length n (row ∷ more) bs s e =
    let parts = and_parts (nat_le (length row) n) (short_rows n more) s in
    elim (or_cases (matches_row row bs) (in_some_row more bs) e) [
      | inl p ↦ omega (arith, leb-true _ _ parts.0, matches_row-length row bs p)
      | inr q ↦ in_some_row-length n more bs parts.1 q
    ]

pub IsSequence-some : (bs : List ℕ) → IsSequence bs → 0 < length bs
IsSequence-some [] s = cc
IsSequence-some (b ∷ bs) s = omega arith

pub length-IsSequence : (bs : List ℕ) → IsSequence bs → length bs ≤ 4
length-IsSequence bs s = in_some_row-length 4 table_3_7 bs refl s

-- only the rows of that length
abbrev rows_of : ℕ → List (List (ℕ × ℕ)) → List (List (ℕ × ℕ))
rows_of n [] = []
rows_of n (row ∷ more) = if length row == n then row ∷ rows_of n more else rows_of n more

-- the same as `matches_row` and `in_some_row`, as facts
abbrev InRow : List (ℕ × ℕ) → List ℕ → Type 0
InRow [] [] = Unit {0}
InRow [] (b ∷ bs) = ⊥
InRow (range ∷ row) [] = ⊥
InRow (range ∷ row) (b ∷ bs) = (range.0 ≤ b) × (b ≤ range.1) × InRow row bs

abbrev InSomeRow : List (List (ℕ × ℕ)) → List ℕ → Type 0
InSomeRow [] bs = ⊥
InSomeRow (row ∷ more) bs = InRow row bs ⊎ InSomeRow more bs

InRow-matches_row : (row : List (ℕ × ℕ)) (bs : List ℕ) → matches_row row bs ≡ true → InRow row bs
InRow-matches_row [] [] e = tt
InRow-matches_row [] (b ∷ bs) e = true≢false (sym e)
InRow-matches_row (range ∷ row) [] e = true≢false (sym e)
InRow-matches_row (range ∷ row) (b ∷ bs) e =
    let parts = and_parts (nat_le range.0 b && nat_le b range.1) (matches_row row bs) e in
    let sides = and_parts (nat_le range.0 b) (nat_le b range.1) parts.0 in
    (leb-true _ _ sides.0, leb-true _ _ sides.1, InRow-matches_row row bs parts.1)

InSomeRow-in_some_row : (table : List (List (ℕ × ℕ))) (bs : List ℕ) → in_some_row table bs ≡ true → InSomeRow (rows_of (length bs) table) bs
InSomeRow-in_some_row [] bs e = true≢false (sym e)
InSomeRow-in_some_row (row ∷ more) bs e = elim (or_cases (matches_row row bs) (in_some_row more bs) e) [
  | inl p ↦ rw (eq-eqb _ _ (sym (matches_row-length row bs p))) (inl (InRow-matches_row row bs p))
  | inr q ↦ cond_both (length row == length bs) (row ∷ rows_of (length bs) more) (rows_of (length bs) more)
      (λ rest. InSomeRow rest bs)
      (λ _. inr (InSomeRow-in_some_row more bs q)) (λ _. InSomeRow-in_some_row more bs q)
]

is_second-other : (a b : ℕ) → a ≢ 0xE0 → a ≢ 0xED → a ≢ 0xF0 → a ≢ 0xF4 → IsContinuation b → IsTrue (is_second a b)
is_second-other a b e f g h c = grind (arith, nat_tests)

is_second-E0 : (a b : ℕ) → a ≡ 0xE0 → 0xA0 ≤ b → b ≤ 0xBF → IsTrue (is_second a b)
is_second-E0 a b e l h = grind (arith, nat_tests)

is_second-ED : (a b : ℕ) → a ≡ 0xED → 0x80 ≤ b → b ≤ 0x9F → IsTrue (is_second a b)
is_second-ED a b e l h = grind (arith, nat_tests)

is_second-F0 : (a b : ℕ) → a ≡ 0xF0 → 0x90 ≤ b → b ≤ 0xBF → IsTrue (is_second a b)
is_second-F0 a b e l h = grind (arith, nat_tests)

is_second-F4 : (a b : ℕ) → a ≡ 0xF4 → 0x80 ≤ b → b ≤ 0x8F → IsTrue (is_second a b)
is_second-F4 a b e l h = grind (arith, nat_tests)

shape_three : (a b c : ℕ) → InSomeRow (rows_of 3 table_3_7) (a ∷ b ∷ c ∷ []) → HasShape (a ∷ b ∷ c ∷ [])
shape_three a b c (inl (l, h, (m, n, (o, p, u)))) = (omega arith, omega arith, is_second-E0 a b (omega arith) m n, (o, p))
shape_three a b c (inr (inl (l, h, (m, n, (o, p, u))))) = (
  omega arith,
  omega arith,
  is_second-other a b (omega arith) (omega arith) (omega arith)
      (omega arith) (m, n),
  (o, p),
)
shape_three a b c (inr (inr (inl (l, h, (m, n, (o, p, u)))))) = (omega arith, omega arith, is_second-ED a b (omega arith) m n, (o, p))
shape_three a b c (inr (inr (inr (inl (l, h, (m, n, (o, p, u))))))) = (
  omega arith,
  omega arith,
  is_second-other a b (omega arith) (omega arith) (omega arith)
      (omega arith) (m, n),
  (o, p),
)
shape_three a b c (inr (inr (inr (inr none)))) = absurd none

shape_four : (a b c d : ℕ) → InSomeRow (rows_of 4 table_3_7) (a ∷ b ∷ c ∷ d ∷ []) → HasShape (a ∷ b ∷ c ∷ d ∷ [])
shape_four a b c d (inl (l, h, (m, n, (o, p, (q, r, u))))) = (omega arith, omega arith, is_second-F0 a b (omega arith) m n, (o, p), (q, r))
shape_four a b c d (inr (inl (l, h, (m, n, (o, p, (q, r, u)))))) = (
  omega arith,
  omega arith,
  is_second-other a b (omega arith) (omega arith) (omega arith)
      (omega arith) (m, n),
  (o, p),
  (q, r),
)
shape_four a b c d (inr (inr (inl (l, h, (m, n, (o, p, (q, r, u))))))) = (omega arith, omega arith, is_second-F4 a b (omega arith) m n, (o, p), (q, r))
shape_four a b c d (inr (inr (inr none))) = absurd none

pub HasShape-IsSequence : (bs : List ℕ) → IsSequence bs → HasShape bs
HasShape-IsSequence [] s = absurd (true≢false (sym s))
HasShape-IsSequence (a ∷ []) s = elim (InSomeRow-in_some_row table_3_7 (a ∷ []) s) [ inl p ↦ p.1 | inr none ↦ absurd none ]
HasShape-IsSequence (a ∷ b ∷ []) s = elim (InSomeRow-in_some_row table_3_7 (a ∷ b ∷ []) s) [ inl p ↦ (p.0, p.1, (p.2.0, p.2.1)) | inr none ↦ absurd none ]
HasShape-IsSequence (a ∷ b ∷ c ∷ []) s = shape_three a b c (InSomeRow-in_some_row table_3_7 (a ∷ b ∷ c ∷ []) s)
HasShape-IsSequence (a ∷ b ∷ c ∷ d ∷ []) s = shape_four a b c d (InSomeRow-in_some_row table_3_7 (a ∷ b ∷ c ∷ d ∷ []) s)
HasShape-IsSequence (a ∷ b ∷ c ∷ d ∷ e ∷ more) s = let long = length-IsSequence (a ∷ b ∷ c ∷ d ∷ e ∷ more) s in absurd (omega arith)

sequence_one : (a : ℕ) → HasShape (a ∷ []) → in_some_row table_3_7 (a ∷ []) ≡ true
sequence_one a h = grind (arith, nat_tests)

sequence_two : (a b : ℕ) → HasShape (a ∷ b ∷ []) → in_some_row table_3_7 (a ∷ b ∷ []) ≡ true
sequence_two a b h = grind (arith, nat_tests)

sequence_three : (a b c : ℕ) → HasShape (a ∷ b ∷ c ∷ []) → in_some_row table_3_7 (a ∷ b ∷ c ∷ []) ≡ true
sequence_three a b c h = grind (arith, nat_tests)

sequence_four : (a b c d : ℕ) → HasShape (a ∷ b ∷ c ∷ d ∷ []) → in_some_row table_3_7 (a ∷ b ∷ c ∷ d ∷ []) ≡ true
sequence_four a b c d h = grind (arith, nat_tests)

pub IsSequence-HasShape : (bs : List ℕ) → HasShape bs → IsSequence bs
IsSequence-HasShape [] h = absurd h
IsSequence-HasShape (a ∷ []) h = sequence_one a h
IsSequence-HasShape (a ∷ b ∷ []) h = sequence_two a b h
IsSequence-HasShape (a ∷ b ∷ c ∷ []) h = sequence_three a b c h
IsSequence-HasShape (a ∷ b ∷ c ∷ d ∷ []) h = sequence_four a b c d h
IsSequence-HasShape (a ∷ b ∷ c ∷ d ∷ e ∷ more) h = absurd h

-- ---- incomplete sequences by their bytes
opens : (bs rest : List ℕ) → 0 < length bs → 0 < length rest → HasShape (bs ++ rest) → HasOpenShape bs
opens [] rest h k s = absurd (omega arith)
opens (a ∷ []) [] h k s = absurd (omega arith)
opens (a ∷ []) (b ∷ []) h k s = (omega arith, omega arith)
opens (a ∷ []) (b ∷ c ∷ []) h k s = (omega arith, omega arith)
opens (a ∷ []) (b ∷ c ∷ d ∷ []) h k s = (omega arith, omega arith)
opens (a ∷ []) (b ∷ c ∷ d ∷ e ∷ more) h k s = absurd s
opens (a ∷ b ∷ []) [] h k s = absurd (omega arith)
opens (a ∷ b ∷ []) (c ∷ []) h k s = (s.0, omega arith, s.2)
opens (a ∷ b ∷ []) (c ∷ d ∷ []) h k s = (omega arith, s.1, s.2)
opens (a ∷ b ∷ []) (c ∷ d ∷ e ∷ more) h k s = absurd s
opens (a ∷ b ∷ c ∷ []) [] h k s = absurd (omega arith)
opens (a ∷ b ∷ c ∷ []) (d ∷ []) h k s = (s.0, s.1, s.2, s.3)
opens (a ∷ b ∷ c ∷ []) (d ∷ e ∷ more) h k s = absurd s
opens (a ∷ b ∷ c ∷ d ∷ []) [] h k s = absurd (omega arith)
opens (a ∷ b ∷ c ∷ d ∷ []) (e ∷ more) h k s = absurd s
opens (a ∷ b ∷ c ∷ d ∷ e ∷ more) rest h k s = absurd s

pub HasOpenShape-IsIncomplete : (bs : List ℕ) → IsIncomplete bs → HasOpenShape bs
HasOpenShape-IsIncomplete bs b = opens bs b.1 b.0 b.2 (HasShape-IsSequence _ b.3)

-- some byte may be the second
is_second-least : (a : ℕ) → IsTrue (is_second a (second_byte_min a))
is_second-least a = grind (arith, nat_tests)

abbrev IsOpen : List ℕ → Type 0
IsOpen bs = (rest : List ℕ) × (0 < length rest) × HasShape (bs ++ rest)

open_one : (a : ℕ) → 0xC2 ≤ a → a ≤ 0xF4 → IsOpen (a ∷ [])
open_one a l h = elim (cases_lt a 0xE0) [
  | inl p ↦ (0x80 ∷ [], omega arith, (l, omega arith, (omega arith, omega arith)))
  | inr p ↦ elim (cases_lt a 0xF0) [
    | inl q ↦ (second_byte_min a ∷ 0x80 ∷ [], omega arith, (p, omega arith, is_second-least a, (omega arith, omega arith)))
    | inr q ↦ (second_byte_min a ∷ 0x80 ∷ 0x80 ∷ [], omega arith, (q, h, is_second-least a, (omega arith, omega arith), (omega arith, omega arith)))
  ]
]

open_two : (a b : ℕ) → 0xE0 ≤ a → a ≤ 0xF4 → IsTrue (is_second a b) → IsOpen (a ∷ b ∷ [])
open_two a b l h s = elim (cases_lt a 0xF0) [
  | inl q ↦ (0x80 ∷ [], omega arith, (l, omega arith, s, (omega arith, omega arith)))
  | inr q ↦ (0x80 ∷ 0x80 ∷ [], omega arith, (q, h, s, (omega arith, omega arith), (omega arith, omega arith)))
]

open_any : (bs : List ℕ) → HasOpenShape bs → IsOpen bs
open_any [] h = absurd h
open_any (a ∷ []) h = open_one a h.0 h.1
open_any (a ∷ b ∷ []) h = open_two a b h.0 h.1 h.2
open_any (a ∷ b ∷ c ∷ []) h = (0x80 ∷ [], omega arith, (h.0, h.1, h.2, h.3, (omega arith, omega arith)))
open_any (a ∷ b ∷ c ∷ d ∷ more) h = absurd h

pub length-HasOpenShape : (bs : List ℕ) → HasOpenShape bs → (0 < length bs) × (length bs ≤ 3)
length-HasOpenShape [] h = absurd h
length-HasOpenShape (a ∷ []) h = (omega arith, omega arith)
length-HasOpenShape (a ∷ b ∷ []) h = (omega arith, omega arith)
length-HasOpenShape (a ∷ b ∷ c ∷ []) h = (omega arith, omega arith)
length-HasOpenShape (a ∷ b ∷ c ∷ d ∷ more) h = absurd h

pub IsIncomplete-HasOpenShape : (bs : List ℕ) → HasOpenShape bs → IsIncomplete bs
IsIncomplete-HasOpenShape bs h = let found = open_any bs h in ((length-HasOpenShape bs h).0, found.0, found.1, IsSequence-HasShape _ found.2)

pub length-IsIncomplete : (bs : List ℕ) → IsIncomplete bs → length bs ≤ 3
length-IsIncomplete bs b = (length-HasOpenShape bs (HasOpenShape-IsIncomplete bs b)).1

-- ---- sequences by the bytes of a longer list
-- what is read of bytes that start with a sequence
abbrev pub Reads : List ℕ → Type 0
Reads bs = (0 < length bs)
    × (0x80 ≤ slice_index bs 0 → (1 < length bs) × IsSecond (slice_index bs 0) (slice_index bs 1))
    × (0xE0 ≤ slice_index bs 0 → (2 < length bs) × IsContinuation (slice_index bs 2))
    × (0xF0 ≤ slice_index bs 0 → (3 < length bs) × IsContinuation (slice_index bs 3))

pub second_two : (a b : ℕ) → 0xC2 ≤ a → a ≤ 0xDF → IsContinuation b → IsSecond a b
second_two a b l h c = grind (arith, nat_tests)

pub second_more : (a b : ℕ) → 0xE0 ≤ a → a ≤ 0xF4 → IsTrue (is_second a b) → IsSecond a b
second_more a b l h s = let parts = and_parts _ _ s in (omega arith, h, leb-true _ _ parts.0, leb-true _ _ parts.1)

pub Reads-HasShape : (prefix rest : List ℕ) → HasShape prefix → Reads (prefix ++ rest)
Reads-HasShape [] rest h = absurd h
Reads-HasShape (a ∷ []) rest h = (omega arith, λ l. absurd (omega arith), λ l. absurd (omega arith), λ l. absurd (omega arith))
Reads-HasShape (a ∷ b ∷ []) rest h = (omega arith, λ l. (omega arith, second_two a b h.0 h.1 h.2), λ l. absurd (omega arith), λ l. absurd (omega arith))
Reads-HasShape (a ∷ b ∷ c ∷ []) rest h = (
  omega arith,
  λ l. (omega arith, second_more a b h.0 (omega arith) h.2),
  λ l. (omega arith, h.3),
  λ l. absurd
      (omega arith),
)
Reads-HasShape (a ∷ b ∷ c ∷ d ∷ []) rest h = (
  omega arith,
  λ l. (
    omega arith,
    second_more a b
        (omega arith) h.1 h.2,
  ),
  λ l. (omega arith, h.3),
  λ l. (omega arith, h.4),
)
Reads-HasShape (a ∷ b ∷ c ∷ d ∷ e ∷ more) rest h = absurd h

pub no_character_reads : (bs : List ℕ) → (Reads bs → ⊥) → BeginsWithNoCharacter bs
no_character_reads bs n prefix rest e s = n (subst Reads (sym e) (Reads-HasShape prefix rest (HasShape-IsSequence prefix s)))

pub second_from : (a b : ℕ) → IsSecond a b → IsTrue (is_second a b)
second_from a b (l, h, m, n) = and_from _ _ (le-leb _ _ m) (le-leb _ _ n)

pub second_two_from : (a b : ℕ) → IsSecond a b → a < 0xE0 → IsContinuation b
second_two_from a b s l = grind (arith, nat_tests)

-- ---- an incomplete sequence that the next byte continues
pub second_goes_on : (a b : ℕ) → IsSecond a b → IsSequence (a ∷ b ∷ []) ⊎ IsIncomplete (a ∷ b ∷ [])
second_goes_on a b s = elim (cases_lt a 0xE0) [
  | inl l ↦ inl (IsSequence-HasShape (a ∷ b ∷ []) (s.0, omega arith, second_two_from a b s l))
  | inr l ↦ inr (IsIncomplete-HasOpenShape (a ∷ b ∷ []) (l, s.1, second_from a b s))
]

pub third_goes_on : (a b c : ℕ) → HasOpenShape (a ∷ b ∷ []) → IsContinuation c → IsSequence (a ∷ b ∷ c ∷ []) ⊎ IsIncomplete (a ∷ b ∷ c ∷ [])
third_goes_on a b c h t = elim (cases_lt a 0xF0) [
  | inl l ↦ inl (IsSequence-HasShape (a ∷ b ∷ c ∷ []) (h.0, omega arith, h.2, t))
  | inr l ↦ inr (IsIncomplete-HasOpenShape (a ∷ b ∷ c ∷ []) (l, h.1, h.2, t))
]

-- ---- sequences by their first byte
pub begins_by_range : (a : ℕ) → IsIncomplete (a ∷ []) ↔ ((0xC2 ≤ a) × (a ≤ 0xF4))
begins_by_range a = (HasOpenShape-IsIncomplete (a ∷ []), IsIncomplete-HasOpenShape (a ∷ []))

-- the length of sequences whose first byte starts sequences of several
pub length_by_first : (a n : ℕ) → 0xC2 ≤ a → a ≤ 0xF4 → ((rest : List ℕ) → IsSequence (a ∷ rest) → n ≡ 1 + length rest)
    → (a < 0xE0 → n ≡ 2) × (0xE0 ≤ a → a < 0xF0 → n ≡ 3) × (0xF0 ≤ a → n ≡ 4)
length_by_first a n l h all = (
  λ q. omega (arith, all (0x80 ∷ []) (IsSequence-HasShape (a ∷ 0x80 ∷ []) (l, omega arith, (omega arith, omega arith)))),
  λ p q. omega (
    arith,
    all (second_byte_min a ∷ 0x80 ∷ [])
        (IsSequence-HasShape (a ∷ second_byte_min a ∷ 0x80 ∷ []) (p, omega arith, is_second-least a, (omega arith, omega arith))),
  ),
  λ q. omega (
    arith,
    all (second_byte_min a ∷ 0x80 ∷ 0x80 ∷ [])
        (IsSequence-HasShape (a ∷ second_byte_min a ∷ 0x80 ∷ 0x80 ∷ []) (q, h, is_second-least a, (omega arith, omega arith), (omega arith, omega arith))),
  ),
)
