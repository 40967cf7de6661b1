use Rattle.std.proofs.Common.{[], inl, refl}
use Rattle.cuts_example.proofs.law_searches.Goals as goal

pub returns : goal.returns
returns c =
    record {
      same = λ bs calls others (at, chain, end) (at', chain', end').
          c.law_block_search.ensures.one bs _ _ (c.law_block_search.ensures.whole bs calls at chain end)
          (c.law_block_search.ensures.whole bs others at' chain' end');
      indices = λ bs calls (at, chain, end). c.law_block_search.ensures.indices bs _ (c.law_block_search.ensures.whole bs calls at chain end);
      so_far = λ bs calls at chain. c.law_block_search.ensures.prefix [] 0 bs calls (λ _. inl refl) at chain;
    }
