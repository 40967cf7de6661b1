use Rattle.std.proofs.Common.{◌≡◌, ◌<◌, ◌∙◌, ℕ, List, [], ◌∷◌, ◌++◌, ap, refl, subst, sym}
use Rattle.std.specs.List.{flat_map, AllByRecursion}
use Rattle.std.specs.Str.Lossy.{utf8_lossy}
use Rattle.cuts_example.specs.Cuts.{EndsWithAscii}
use Rattle.cuts_example.proofs.law_lines.Goals as goal

joined : ((line more : List ℕ) (b : ℕ) → b < 128 → utf8_lossy ((line ++ b ∷ []) ++ more) ≡ utf8_lossy (line ++ b ∷ []) ++ utf8_lossy more)
    → (lines : List (List ℕ)) → AllByRecursion EndsWithAscii lines → utf8_lossy (flat_map (λ line. line) lines) ≡ flat_map utf8_lossy lines
unfolding utf8_lossy
joined law [] each = refl
joined law (line ∷ lines) ((prefix, b, low, whole), each) =
    let more = flat_map (λ line. line) lines in
    subst (λ (xs : List ℕ). utf8_lossy (xs ++ more) ≡ utf8_lossy xs ++ flat_map utf8_lossy lines) (sym whole)
    (law prefix more b low ∙ ap (λ xs. utf8_lossy (prefix ++ b ∷ []) ++ xs) (joined law lines each))

pub returns : goal.returns
returns c = joined c.law_cuts.ensures.lines
