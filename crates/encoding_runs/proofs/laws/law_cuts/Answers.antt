use Rattle.std.proofs.Common.{◌≡◌, ◌<◌, ◌∙◌, ℕ, List, [], ◌∷◌, ◌++◌, subst, sym}
use Rattle.std.specs.Str.Lossy.{utf8_lossy}
use Rattle.encoding_definitions.specs.Parts.{AreFinal}
use Rattle.encoding_definitions.proofs.DecompositionLemmas.{has_final, has_parts}
use Rattle.encoding_definitions.proofs.LossyLemmas.{repaired-utf8_lossy}
use Rattle.encoding_runs.proofs.FinalLemmas.{cut_parts, cut_texts, cut_counts, ascii_settles}
use Rattle.encoding_runs.proofs.laws.law_cuts.Goals as goal

-- the repaired text of a line and of what follows it
lossy_lines : (line more : List ℕ) (b : ℕ) → b < 128 → utf8_lossy ((line ++ b ∷ []) ++ more) ≡ utf8_lossy (line ++ b ∷ []) ++ utf8_lossy more
lossy_lines line more b low =
    let bs = line ++ b ∷ [] in
    let (parts, rest, final) = has_final bs in
    let whole : AreFinal bs parts [] = subst (λ xs. AreFinal bs parts xs) (ascii_settles line rest b parts low final) final in
    let others = has_parts more in
    let all = has_parts (bs ++ more) in
    sym (repaired-utf8_lossy (bs ++ more) all.0 all.1) ∙ cut_texts bs more parts others.0 all.0 whole others.1 all.1
    ∙ (λ i. repaired-utf8_lossy bs parts whole.starts i ++ repaired-utf8_lossy more others.0 others.1 i)

pub returns : goal.returns
returns c = record { parts = cut_parts; texts = cut_texts; counts = cut_counts; after_ascii = ascii_settles; lines = lossy_lines }
