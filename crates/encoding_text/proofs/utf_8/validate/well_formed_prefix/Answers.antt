use Rattle.std.proofs.Common.{arith}
use Rattle.encoding_kernels.proofs.ScanLemmas.{below_prefix}
use Rattle.encoding_text.proofs.WholePrefixesLemmas.{rest_stops, whole_text}
use Rattle.encoding_text.proofs.utf_8.validate.well_formed_prefix.Goals as goal

pub returns-then-is_short : goal.returns-then-is_short
returns-then-is_short c =
    let whole = whole_text c.args.src.now (c.is_short.ensures.0 c.if-is_short.true) in
    (whole.within, whole.kind)

pub of_two-requires-clause-not_empty : goal.of_two-requires-clause-not_empty
of_two-requires-clause-not_empty c =
    let prefix = c.ascii_valid_up_to_by_length-ascii.ensures in
    (rest_stops _ _ prefix (omega (arith, prefix.within))).0

pub of_two-requires-clause-lead : goal.of_two-requires-clause-lead
of_two-requires-clause-lead c =
    let prefix = c.ascii_valid_up_to_by_length-ascii.ensures in
    (rest_stops _ _ prefix (omega (arith, prefix.within))).1

pub well_formed_blocks-requires-clause-ascii : goal.well_formed_blocks-requires-clause-ascii
well_formed_blocks-requires-clause-ascii c =
    let prefix = c.ascii_valid_up_to_by_length-ascii.ensures in
    (prefix.within, below_prefix _ _ prefix)
