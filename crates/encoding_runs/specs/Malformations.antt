-- Why a sequence is malformed: Unicode Standard, Table 3-7.
use Rattle.std.specs.Prelude.{◌≡◌, ℕ, ◌≤◌, List, [], ◌∷◌, ◌⊎◌, IsTrue}
use Rattle.std.specs.List.{list_any}
use Rattle.encoding_definitions.specs.Sequence.{matches_row, IsContinuation, IsIncomplete}
use Rattle.encoding_runs.specs.declared.malformed.Malformation.{Malformation}
use Rattle.encoding_runs.specs.declared.malformed.Malformation.TheVariants.{UnexpectedContinuation, DisallowedByte, Overlong, Surrogate, TooLarge, Truncated, IncompleteAtEnd}

-- After four first bytes the table has fewer second bytes than the other continuation bytes allow. The rows of those
-- that it leaves out: of code points that a shorter sequence encodes, of surrogates, and of values above U+10FFFF.
abbrev pub overlong_rows : List (List (ℕ × ℕ))
overlong_rows = ((0xE0, 0xE0) ∷ (0x80, 0x9F) ∷ []) ∷ ((0xF0, 0xF0) ∷ (0x80, 0x8F) ∷ []) ∷ []

abbrev pub surrogate_rows : List (List (ℕ × ℕ))
surrogate_rows = ((0xED, 0xED) ∷ (0xA0, 0xBF) ∷ []) ∷ []

abbrev pub too_large_rows : List (List (ℕ × ℕ))
too_large_rows = ((0xF4, 0xF4) ∷ (0x90, 0xBF) ∷ []) ∷ []

-- x is one byte, and this byte and the next one match one of the rows
abbrev pub IsExcludedBy : List (List (ℕ × ℕ)) → List ℕ → List ℕ → Type 0
IsExcludedBy rows x rest = (a : ℕ) × (b : ℕ) × (more : List ℕ) × (x ≡ a ∷ []) × (rest ≡ b ∷ more) × IsTrue (list_any (λ row. matches_row row (a ∷ b ∷ [])) rows)

-- a byte that no row of the table has: C0, C1, and all from F5 on
abbrev pub IsDisallowed : ℕ → Type 0
IsDisallowed b = ((0xC0 ≤ b) × (b ≤ 0xC1)) ⊎ (0xF5 ≤ b)

-- x is malformed for this reason, with these bytes after it
abbrev pub IsMalformation : List ℕ → List ℕ → Malformation → Type 0
IsMalformation x rest UnexpectedContinuation = (b : ℕ) × (x ≡ b ∷ []) × IsContinuation b
IsMalformation x rest DisallowedByte = (b : ℕ) × (x ≡ b ∷ []) × IsDisallowed b
IsMalformation x rest Overlong = IsExcludedBy overlong_rows x rest
IsMalformation x rest Surrogate = IsExcludedBy surrogate_rows x rest
IsMalformation x rest TooLarge = IsExcludedBy too_large_rows x rest
IsMalformation x rest Truncated = IsIncomplete x × (b : ℕ) × (more : List ℕ) × (rest ≡ b ∷ more) × (IsContinuation b → ⊥)
IsMalformation x rest IncompleteAtEnd = IsIncomplete x × (rest ≡ [])
