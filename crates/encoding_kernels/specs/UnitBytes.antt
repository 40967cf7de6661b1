-- Code units of UTF-16LE and UTF-16BE: each is two bytes, and the byte order says whether the more significant one is first.
use Rattle.std.specs.Prelude.{ℕ, ◌+◌, ◌*◌, Bool, true, false, List, [], ◌∷◌}
use Rattle.std.specs.List.{flat_map}

-- the code unit of two bytes
abbrev pub unit_of : Bool → ℕ → ℕ → ℕ
unit_of false a b = a + 0x100 * b
unit_of true a b = 0x100 * a + b

-- the bytes of pairs of them
abbrev pub bytes_in : List (List ℕ) → List ℕ
bytes_in pairs = flat_map (λ pair. pair) pairs

-- the code units of bytes, without the last one of an odd number
abbrev pub units_of : Bool → List ℕ → List ℕ
units_of big [] = []
units_of big (a ∷ []) = []
units_of big (a ∷ b ∷ bs) = unit_of big a b ∷ units_of big bs
