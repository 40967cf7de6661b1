use Rattle.std.proofs.Common.{◌∙◌, ap}
use Rattle.engine_example.proofs.turns.text_by_turns.Goals as goal

pub from_utf8_unchecked-requires : goal.from_utf8_unchecked-requires
from_utf8_unchecked-requires c = (c.law_utf16_round_trip.ensures.utf8 c.args.units.now _ c.in_ok-bytes.ensures).0

pub returns : goal.returns
returns c = ap (λ v. v.items) c.from_utf8_unchecked.ensures.value ∙ (c.law_utf16_round_trip.ensures.utf8 c.args.units.now _ c.in_ok-bytes.ensures).1
