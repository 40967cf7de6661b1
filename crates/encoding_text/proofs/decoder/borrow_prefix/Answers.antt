use Rattle.std.proofs.Common.{◌≡◌, arith, subst}
use Rattle.encoding_definitions.specs.Prefixes.{IsLongestPrefix}
use Rattle.std.specs.Str.{IsUtf8}
use Rattle.encoding_definitions.proofs.Utf8Lemmas.{no_character_after}
use Rattle.std.proofs.lemmas.Str.{IsUtf8-from_ascii}
use Rattle.encoding_text.proofs.BorrowedLemmas.{borrowed_end}
use Rattle.encoding_text.proofs.decoder.borrow_prefix.Goals as goal

pub end_after_two-end-requires-clause-no_character : goal.end_after_two-end-requires-clause-no_character
end_after_two-end-requires-clause-no_character c =
    let none : c.valid_beyond_ascii-length.result ≡ 0 = omega (arith, c.if-length-gt0.false) in
    no_character_after c.args.src.now 0 (subst (IsLongestPrefix IsUtf8 c.args.src.now) none c.valid_beyond_ascii-length.ensures)

pub returns : goal.returns
returns c = borrowed_end _ _ _ _ _ _ c.end_after_two-end.ensures c.piece_at_end.ensures.all_read c.piece_at_end.ensures.malformed

pub from_utf8_unchecked-text-requires : goal.from_utf8_unchecked-text-requires
from_utf8_unchecked-text-requires c = IsUtf8-from_ascii _ (c.is_short.ensures.0 c.if-is_short.true)
