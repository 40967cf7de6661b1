use Rattle.std.proofs.lemmas.List.{take_rest}
use Rattle.encoding_text.proofs.RepairedLengthLemmas.{parts_after, same_sum, too_long}
use Rattle.encoding_text.proofs.SufficesLemmas.{repaired_suffices}
use Rattle.encoding_text.proofs.count.repaired_utf8_length.Goals as goal

pub returns-in_err-repaired_length-clause-length : goal.returns-in_err-repaired_length-clause-length
returns-in_err-repaired_length-clause-length c =
    let (others, are, none) = rw take_rest at (c.in_err-repaired_length.ensures {u = tt}) in
    let (parts, whole, long) = parts_after c.args.src.now c.utf8_valid_up_to-valid.result c.utf8_valid_up_to-valid.ensures others are in
    (parts, whole, rw c.from_residual.ensures (too_long _ _ _ long none))

pub returns-in_err-repaired_length-clause-suffices : goal.returns-in_err-repaired_length-clause-suffices
returns-in_err-repaired_length-clause-suffices c = rw c.from_residual.ensures tt

pub returns-clause-length : goal.returns-clause-length
returns-clause-length c =
    let (others, are, some) = rw take_rest at (c.in_ok-repaired_length.ensures {u = tt}) in
    let (parts, whole, long) = parts_after c.args.src.now c.utf8_valid_up_to-valid.result c.utf8_valid_up_to-valid.ensures others are in
    (parts, whole, same_sum c.checked_add.result _ _ _ _ some.1 long c.checked_add.ensures)

pub returns-clause-suffices : goal.returns-clause-suffices
returns-clause-suffices c =
    let (parts, whole, some) = returns-clause-length c in
    repaired_suffices c.args.src.now parts c.checked_add.result whole some
