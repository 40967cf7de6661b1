use Rattle.std.proofs.Common.{sym, ◌∙◌}
use Rattle.std.specs.Str.{IsAscii}
use Rattle.std.proofs.lemmas.List.{take_rest}
use Rattle.std.proofs.lemmas.Str.{IsUtf8-from_ascii}
use Rattle.encoding_definitions.specs.Prefixes.{IsLongestPrefix}
use Rattle.encoding_definitions.proofs.Utf8Lemmas.{IsLongestPrefix-utf8}
use Rattle.encoding_text.proofs.FirstLemmas.{shown_none}
use Rattle.encoding_text.proofs.WholePrefixesLemmas.{ascii_ends, prefix_of, rest_stops}
use Rattle.encoding_text.proofs.utf_8.validate.valid_up_to_by_vectors.Goals as goal
use Rattle.encoding_text.proofs.utf_8.validate.valid_up_to_by_vectors.Goals.{then-src-ge-HALF_BLOCK, else-src-ge-HALF_BLOCK}

pub of_two-requires-clause-not_empty : goal.of_two-requires-clause-not_empty
of_two-requires-clause-not_empty g c =
    let prefix : IsLongestPrefix IsAscii c.args.src.now c.if-src-ge-HALF_BLOCK.ascii = elim c.if-src-ge-HALF_BLOCK.branch [
      | then-src-ge-HALF_BLOCK w ↦ rw w.ascii-is (prefix_of c.args.src.now _ w.run_len_by_two-ascii.ensures)
      | else-src-ge-HALF_BLOCK w ↦ rw w.ascii-is (prefix_of c.args.src.now _ w.run_len_by_two-ascii-else-src-ge-HALF_BLOCK.ensures)
    ] in
    (rest_stops _ _ prefix (ascii_ends _ _ prefix c.requires.other)).0

pub of_two-requires-clause-lead : goal.of_two-requires-clause-lead
of_two-requires-clause-lead g c =
    let prefix : IsLongestPrefix IsAscii c.args.src.now c.if-src-ge-HALF_BLOCK.ascii = elim c.if-src-ge-HALF_BLOCK.branch [
      | then-src-ge-HALF_BLOCK w ↦ rw w.ascii-is (prefix_of c.args.src.now _ w.run_len_by_two-ascii.ensures)
      | else-src-ge-HALF_BLOCK w ↦ rw w.ascii-is (prefix_of c.args.src.now _ w.run_len_by_two-ascii-else-src-ge-HALF_BLOCK.ensures)
    ] in
    (rest_stops _ _ prefix (ascii_ends _ _ prefix c.requires.other)).1

pub returns-then-is_some : goal.returns-then-is_some
returns-then-is_some g c =
    let prefix : IsLongestPrefix IsAscii c.args.src.now c.if-src-ge-HALF_BLOCK.ascii = elim c.if-src-ge-HALF_BLOCK.branch [
      | then-src-ge-HALF_BLOCK w ↦ rw w.ascii-is (prefix_of c.args.src.now _ w.run_len_by_two-ascii.ensures)
      | else-src-ge-HALF_BLOCK w ↦ rw w.ascii-is (prefix_of c.args.src.now _ w.run_len_by_two-ascii-else-src-ge-HALF_BLOCK.ensures)
    ] in
    IsLongestPrefix-utf8 c.args.src.now _ prefix.within (IsUtf8-from_ascii _ prefix.kind)
    (rw take_rest at (shown_none _ _ c.of_two.ensures.no_character (sym c.is_some.ensures ∙ c.if-is_some.true)))

pub returns-then-is_some-2 : goal.returns-then-is_some-2
returns-then-is_some-2 g c =
    let prefix = c.well_formed_short-well_formed.ensures in
    IsLongestPrefix-utf8 c.args.src.now _ prefix.0 prefix.1
    (rw take_rest at (shown_none _ _ c.of_two-then-src-well_formed-ge-ASCII_END.ensures.no_character
    (sym c.is_some-then-src-well_formed-ge-ASCII_END.ensures ∙ c.if-is_some-2.true)))
