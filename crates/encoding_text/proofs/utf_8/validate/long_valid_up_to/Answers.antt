use Rattle.std.proofs.Common.{◌<◌, arith, sym, ◌∙◌}
use Rattle.std.proofs.lemmas.List.{take_rest}
use Rattle.std.proofs.lemmas.Str.{IsUtf8-from_ascii}
use Rattle.encoding_definitions.proofs.Utf8Lemmas.{IsLongestPrefix-utf8}
use Rattle.encoding_kernels.proofs.ScanLemmas.{Each-take, below_prefix}
use Rattle.encoding_text.proofs.FirstLemmas.{shown_none}
use Rattle.encoding_text.proofs.WholePrefixesLemmas.{rest_stops, whole_prefix_text, whole_text}
use Rattle.encoding_text.proofs.utf_8.validate.long_valid_up_to.Goals as goal

pub returns-then-is_some : goal.returns-then-is_some
returns-then-is_some c =
    let src = c.args.src.now in
    let run = c.run_len_below-first.ensures in
    let below = Each-take (λ b. b < 0x80) (omega arith) src c.run_len_below-first.result (λ k l. run.pass k (omega arith) (omega (arith, l))) in
    IsLongestPrefix-utf8 src c.run_len_below-first.result (omega (arith, run.within)) (IsUtf8-from_ascii _ below)
    (rw take_rest at (shown_none _ _ c.of_two.ensures.no_character (sym c.is_some.ensures ∙ c.if-is_some.true)))

pub returns-then-is_short : goal.returns-then-is_short
returns-then-is_short c = whole_text c.args.src.now (c.is_short.ensures.0 c.if-is_short.true)

pub returns-then-ascii-src : goal.returns-then-ascii-src
returns-then-ascii-src c =
    whole_prefix_text c.args.src.now c.ascii_valid_up_to_by_length-ascii.result c.ascii_valid_up_to_by_length-ascii.ensures c.if-ascii-src.true

pub valid_after-requires-2-clause-ascii : goal.valid_after-requires-2-clause-ascii
valid_after-requires-2-clause-ascii c _ = below_prefix _ _ c.ascii_valid_up_to_by_length-ascii.ensures

pub of_two-requires-2-clause-not_empty : goal.of_two-requires-2-clause-not_empty
of_two-requires-2-clause-not_empty c =
    let prefix = c.ascii_valid_up_to_by_length-ascii.ensures in
    (rest_stops _ _ prefix (omega (arith, prefix.within))).0

pub of_two-requires-2-clause-lead : goal.of_two-requires-2-clause-lead
of_two-requires-2-clause-lead c =
    let prefix = c.ascii_valid_up_to_by_length-ascii.ensures in
    (rest_stops _ _ prefix (omega (arith, prefix.within))).1

pub returns-then-is_some-2 : goal.returns-then-is_some-2
returns-then-is_some-2 c =
    let prefix = c.ascii_valid_up_to_by_length-ascii.ensures in
    IsLongestPrefix-utf8 c.args.src.now _ prefix.within (IsUtf8-from_ascii _ prefix.kind)
    (rw take_rest at (shown_none _ _ c.of_two-2.ensures.no_character (sym c.is_some-2.ensures ∙ c.if-is_some-2.true)))
