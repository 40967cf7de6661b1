use Rattle.std.proofs.Common.{[], sym, subst}
use Rattle.std.specs.Str.{IsUtf8}
use Rattle.cuts_example.proofs.text_of_pieces.Goals as goal

pub from_utf8_unchecked-requires : goal.from_utf8_unchecked-requires
from_utf8_unchecked-requires c =
    let (parts, are, text, counted) = c.in_ok-whole.ensures in
    subst IsUtf8 (sym text) (c.law_parts.ensures.repaired c.args.bytes.now [] parts are)
