-- Sets of lemmas on the definitions, each for the goals of one function.
use Rattle.std.proofs.lemmas.Bool.{both_ways}
use Rattle.std.proofs.lemmas.List.Edits.{fill_more}
use Rattle.encoding_definitions.proofs.BidiUnitsLemmas.{unit_form, unit_scalar, unit_high, unit_low_none}
use Rattle.encoding_definitions.proofs.ClearingLemmas.{byte_after, clear_next}
use Rattle.encoding_definitions.proofs.SequenceLemmas.{no_character_reads}
use Rattle.encoding_definitions.proofs.SurrogateLemmas.{repair_starts, repair_goes_on, repair_ends}

-- which code units are right-to-left
pub ruleset bidi_units = (unit_form, unit_scalar, unit_high, unit_low_none)

-- whether a character comes first
pub ruleset characters = (both_ways, no_character_reads)

-- a loop that sets continuation bytes to zero
pub ruleset clearing = (fill_more, byte_after, clear_next)

-- a loop from one unpaired surrogate to the next
pub ruleset surrogate_repair = (repair_starts, repair_goes_on, repair_ends)
