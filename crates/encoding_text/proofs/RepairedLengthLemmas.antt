-- The length of repaired text, by that of its well-formed prefix.
use Rattle.std.proofs.Common.{◌≡◌, ℕ, ◌+◌, ◌-◌, ◌^◌, ◌<◌, ◌≤◌, List, [], ◌++◌, length, map, drop, encode_utf8_all, ap, ◌∙◌, arith, subst}
use Rattle.std.specs.Prelude.{Option, Some, None, SomeIff}
use Rattle.std.specs.Str.{IsUtf8}
use Rattle.std.proofs.lemmas.List.{length-append, length-take, take-append-drop}
use Rattle.encoding_definitions.specs.Parts.{Part, Character, ArePartsOf, StartsWith, lossy_utf8}
use Rattle.encoding_definitions.specs.Prefixes.{IsLongestPrefix}
use Rattle.encoding_definitions.proofs.DecompositionLemmas.{StartsWith-append, StartsWith-characters, lossy_utf8-append, lossy_utf8-characters}

-- the parts of a text are those of its characters, then those of what follows them
pub parts_after : (bs : List ℕ) (n : ℕ) → IsLongestPrefix IsUtf8 bs n → (others : List Part) → ArePartsOf (drop n bs) others
    → (parts : List Part) × ArePartsOf bs parts × (length (lossy_utf8 parts) ≡ length (lossy_utf8 others) + n)
parts_after bs n prefix others are =
    let (cs, (scalars, spelled)) = prefix.kind in
    let whole : encode_utf8_all cs ++ drop n bs ≡ bs = ap (λ xs. xs ++ drop n bs) spelled ∙ take-append-drop n bs in
    let first : StartsWith bs (map Character cs) (drop n bs) =
    subst (λ xs. StartsWith xs (map Character cs) (drop n bs)) whole (StartsWith-characters cs (drop n bs) scalars) in
    let text = ap length (lossy_utf8-append (map Character cs) others) ∙ length-append (lossy_utf8 (map Character cs)) (lossy_utf8 others) in (
      map Character cs ++ others,
      StartsWith-append bs (map Character cs) (drop n bs) others [] first are,
      omega (arith, text, ap length (lossy_utf8-characters cs), ap length spelled, length-take n bs, prefix.within),
    )

pub too_long : (m n s : ℕ) → s ≡ m + n → (m ≤ 2 ^ 64 - 1 → ⊥) → s ≤ 2 ^ 64 - 1 → ⊥
too_long m n s e h l = h (omega arith)

pub same_sum : (r : Option ℕ) (x m n s : ℕ) → x ≡ m → s ≡ m + n → SomeIff r (x + n < 2 ^ 64) (x + n) → SomeIff r (s ≤ 2 ^ 64 - 1) s
same_sum None x m n s e f h = λ l. h (omega arith)
same_sum (Some k) x m n s e f (l, is) = (omega arith, omega arith)
