-- Well-formed UTF-8 byte sequences: Unicode Standard, Table 3-7. The formulas that decide sequences of three and of
-- four bytes by a table of 384 entries: one for each second byte, followed by one for each first byte from 0x80 on. And
-- the pending bytes of a decoder, which it keeps between calls.
use Rattle.std.specs.Prelude.{ℕ, ◌<◌, ◌≤◌, Bool, true, false, ◌&&◌, List, [], ◌∷◌, ◌++◌, length, ◌⊎◌}
use Rattle.std.specs.Prelude.{nat_le, IsTrue, ◌+◌, ◌*◌, ◌/◌, ◌^◌, slice_index, bit_and, bit_or, ◌≡◌}
use Rattle.std.specs.List.{list_any}
use Rattle.std.specs.Str.Lossy.{second_byte_min, second_byte_max}

-- the nine rows of the table: for each byte of a sequence, the least and the greatest value
abbrev pub table_3_7 : List (List (ℕ × ℕ))
table_3_7 = ((0x00, 0x7F) ∷ [])
    ∷ ((0xC2, 0xDF) ∷ (0x80, 0xBF) ∷ [])
    ∷ ((0xE0, 0xE0) ∷ (0xA0, 0xBF) ∷ (0x80, 0xBF) ∷ [])
    ∷ ((0xE1, 0xEC) ∷ (0x80, 0xBF) ∷ (0x80, 0xBF) ∷ [])
    ∷ ((0xED, 0xED) ∷ (0x80, 0x9F) ∷ (0x80, 0xBF) ∷ [])
    ∷ ((0xEE, 0xEF) ∷ (0x80, 0xBF) ∷ (0x80, 0xBF) ∷ [])
    ∷ ((0xF0, 0xF0) ∷ (0x90, 0xBF) ∷ (0x80, 0xBF) ∷ (0x80, 0xBF) ∷ [])
    ∷ ((0xF1, 0xF3) ∷ (0x80, 0xBF) ∷ (0x80, 0xBF) ∷ (0x80, 0xBF) ∷ [])
    ∷ ((0xF4, 0xF4) ∷ (0x80, 0x8F) ∷ (0x80, 0xBF) ∷ (0x80, 0xBF) ∷ [])
    ∷ []

-- the bytes are in these ranges, one for one
abbrev pub matches_row : List (ℕ × ℕ) → List ℕ → Bool
matches_row [] [] = true
matches_row [] (b ∷ bs) = false
matches_row (range ∷ row) [] = false
matches_row (range ∷ row) (b ∷ bs) = (nat_le range.0 b && nat_le b range.1) && matches_row row bs

-- a well-formed sequence: the bytes of one character, which match one of the rows
abbrev pub IsSequence : List ℕ → Type 0
IsSequence bs = IsTrue (list_any (λ row. matches_row row bs) table_3_7)

-- a byte after the first of a sequence
abbrev pub IsContinuation : ℕ → Type 0
IsContinuation b = (0x80 ≤ b) × (b ≤ 0xBF)

-- b may follow a, the first byte of a sequence of several
abbrev pub IsSecond : ℕ → ℕ → Type 0
IsSecond a b = (0xC2 ≤ a) × (a ≤ 0xF4) × (second_byte_min a ≤ b) × (b ≤ second_byte_max a)

-- an incomplete sequence: a prefix of a well-formed sequence, neither empty nor the whole of it
abbrev pub IsIncomplete : List ℕ → Type 0
IsIncomplete bs = (0 < length bs) × (rest : List ℕ) × (0 < length rest) × IsSequence (bs ++ rest)

-- the byte starts no sequence, neither of one byte nor of several: a continuation byte, or one that UTF-8 never has
abbrev pub IsNeverLeading : ℕ → Type 0
IsNeverLeading b = (IsSequence (b ∷ []) ⊎ IsIncomplete (b ∷ [])) → ⊥

-- the first three bytes, in eight bits
abbrev pub three_byte_formula : List ℕ → ℕ → ℕ → ℕ → ℕ
three_byte_formula table lead second third = bit_or (bit_and (slice_index table second) (slice_index table (lead + 0x80))) (third / 2 ^ 6)

-- in sixteen bits, the same with the two highest bits of the fourth byte above them
abbrev pub four_byte_formula : List ℕ → ℕ → ℕ → ℕ → ℕ → ℕ
four_byte_formula table lead second third fourth = bit_or (three_byte_formula table lead second third) (bit_and fourth 0xC0 * 2 ^ 2)

-- none, or an incomplete sequence
abbrev pub IsPending : List ℕ → Type 0
IsPending p = (p ≡ []) ⊎ IsIncomplete p
