use Rattle.std.proofs.Common.{◌≡◌, ℕ, List, [], ◌++◌, length, inl, inr, ap, subst, arith}
use Rattle.std.proofs.lemmas.List.{nil_from_length}
use Rattle.encoding_runs.specs.Parts.{Part, ArePartsOf, AreFinal}
use Rattle.encoding_runs.proofs.DecompositionLemmas.{malformed_count-bytes}
use Rattle.cuts_example.specs.Cuts.{MayBeCutAfter}
use Rattle.cuts_example.proofs.CutPieceLemmas.{malformed_after}
use Rattle.cuts_example.proofs.law_cut.Goals as goal

pub returns : goal.returns
returns c =
    -- the parts of a piece are final
    let are_final : (piece : List ℕ) (parts : List Part) → MayBeCutAfter piece → ArePartsOf piece parts → AreFinal piece parts [] = λ piece parts may are.
    let (all, rest, s) = c.law_parts.ensures.final_exist piece in
    let none : rest ≡ [] = elim may [
      | inl empty ↦ nil_from_length rest (omega (arith, ap length empty, malformed_count-bytes piece all rest s.starts))
      | inr (prefix, b, low, ends) ↦ c.law_cuts.ensures.after_ascii prefix rest b all low (subst (λ bs. AreFinal bs all rest) ends s)
    ] in
    let whole = subst (AreFinal piece all) none s in
    subst (λ ps. AreFinal piece ps []) (c.law_parts.ensures.one piece all parts whole.starts are) whole in
    record {
      repaired = λ piece more text others n m may (parts, are, is_text, is_count) (rest, are_rest, is_others, is_m).
          let (all, are_all) = c.law_parts.ensures.exist (piece ++ more) in
          let whole = are_final piece parts may are in
          let texts = c.law_cuts.ensures.texts piece more parts rest all whole are_rest are_all in
          let counts = c.law_cuts.ensures.counts piece more parts rest all whole are_rest are_all in
          (all, are_all, cc, cc);
      malformed = λ piece more found others may (parts, are, is_found) (rest, are_rest, is_others).
          let (all, are_all) = c.law_parts.ensures.exist (piece ++ more) in
          let both = c.law_cuts.ensures.parts piece more parts rest all (are_final piece parts may are) are_rest are_all in
          let places = malformed_after parts rest 0 (length piece) (omega (arith, ap length (c.law_parts.ensures.joined piece parts are))) in
          (all, are_all, cc);
    }
