-- Which bytes of a vector are kept: those of code units in two or in four bytes each, and the bytes of Latin1 that bytes of
-- UTF-8 end.
use Rattle.std.specs.Prelude.{◌≡◌, ℕ, ◌+◌, ◌*◌, ◌%◌, ◌<◌, ◌⊎◌, ◌&&◌, nat_lt, Bool, nat_le, List, [], ◌∷◌, ◌++◌, if◌then◌else◌, encode_utf8}

-- of two bytes for each test, from index `at` on, the index of the first, and that of the second if the test holds
abbrev pub kept_places : ℕ → List Bool → List ℕ
kept_places at [] = []
kept_places at (b ∷ bs) = (if b then at ∷ (at + 1) ∷ [] else at ∷ []) ++ kept_places (at + 2) bs

-- the UTF-8 of the code unit is both bytes, or the first if it is ASCII
abbrev pub EncodesTo : ℕ → ℕ → ℕ → Type 0
EncodesTo unit x y = (if nat_le 0x80 unit then x ∷ y ∷ [] else x ∷ []) ≡ encode_utf8 unit

-- the Latin1 byte that the byte x ends as UTF-8 after p, if it ends one
abbrev pub latin1_ended : ℕ → ℕ → List ℕ
latin1_ended p x = if nat_lt x 0x80 then x ∷ [] else (if nat_lt x 0xC0 then ((p * 64 + x % 64) % 256) ∷ [] else [])

-- the Latin1 bytes that these bytes end after p
abbrev pub all_latin1_ended : ℕ → List ℕ → List ℕ
all_latin1_ended p [] = []
all_latin1_ended p (x ∷ xs) = latin1_ended p x ++ all_latin1_ended x xs

-- for each pair of bytes, whether both end a byte
abbrev pub both_end : List ℕ → List Bool
both_end [] = []
both_end (a ∷ []) = []
both_end (a ∷ b ∷ xs) = (nat_lt a 0xC0 && nat_lt b 0xC0) ∷ both_end xs

-- after p, a and b end the bytes x and y, or only x
abbrev pub EndsPair : ℕ → ℕ → ℕ → ℕ → ℕ → Type 0
EndsPair p a b x y = (a < 0xC0) ⊎ (b < 0xC0) → (if nat_lt a 0xC0 && nat_lt b 0xC0 then x ∷ y ∷ [] else x ∷ []) ≡ latin1_ended p a ++ latin1_ended a b

-- indices of four bytes for each two tests, from `at` on: of the first byte if the first test holds. If only the second
-- holds, they are those of the last and the second byte, and otherwise of the third, the last and the second.
abbrev pub unit_places : ℕ → List Bool → List ℕ
unit_places at [] = []
unit_places at (b ∷ []) = []
unit_places at (ascii ∷ short ∷ bs) = (if ascii then at ∷ [] else (if short then (at + 3) ∷ (at + 1) ∷ [] else (at + 2) ∷ (at + 3) ∷ (at + 1) ∷ [])) ++ unit_places (at + 4) bs

-- for each code unit, whether it is ASCII, and whether it is below U+0800
abbrev pub length_classes : List ℕ → List Bool
length_classes [] = []
length_classes (u ∷ us) = nat_lt u 0x80 ∷ nat_lt u 0x800 ∷ length_classes us

-- the UTF-8 of the code unit is x if it is ASCII, else y as its last byte after w, and z before both if it has three
abbrev pub EncodesBy : ℕ → ℕ → ℕ → ℕ → ℕ → Type 0
EncodesBy unit x y z w = (if nat_lt unit 0x80 then x ∷ [] else (if nat_lt unit 0x800 then w ∷ y ∷ [] else z ∷ w ∷ y ∷ [])) ≡ encode_utf8 unit
