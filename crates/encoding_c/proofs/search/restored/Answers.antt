use Rattle.std.proofs.Common.{◌∙◌, ap, sym, subst, true≢false, false, List, ℕ, take}
use Rattle.encoding_definitions.specs.Sequence.{IsPending}
use Rattle.encoding_runs.specs.Searches.{SearchStep}
use Rattle.encoding_c.proofs.SearchStateLemmas.{search_again}
use Rattle.encoding_c.proofs.search.restored.Goals as goal

pub returns : goal.returns
returns c =
    let piece = c.next_piece in
    let src = take c.from-2.result c.args.state.pending in
    let step = subst (λ (s : List ℕ × ℕ). SearchStep s.0 s.1 src false piece.result.0 piece.result.1 piece.new.self.0) c.at-search.ensures piece.ensures.step in
    record {
      offset = ap (λ (s : List ℕ × ℕ). s.1) c.at.ensures;
      left = λ valid.
          let pending = subst (λ n. IsPending (take n c.args.state.pending)) (sym c.from-2.ensures) valid.1 in
          absurd (true≢false (sym (c.is_all_read.ensures.1 (search_again c.args.state.start src pending _ _ _ step)) ∙ c.if-is_all_read.false));
      other = λ _. ap (λ (s : List ℕ × ℕ). s.0) c.at.ensures;
    }
