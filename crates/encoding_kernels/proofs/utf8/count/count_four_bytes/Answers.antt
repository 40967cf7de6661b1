use Rattle.std.proofs.Common.{◌∙◌, arith}
use Rattle.encoding_kernels.proofs.CountLemmas.{skipped_fours}
use Rattle.encoding_kernels.proofs.utf8.count.count_four_bytes.Goals as goal

pub returns : goal.returns
returns c =
    let shorter = c.prefix_len_below-shorter in
    c.sum_from.ensures ∙ skipped_fours c.args.bytes.now 0 shorter.result (omega arith) shorter.ensures.within (λ k from. shorter.ensures.below k)
