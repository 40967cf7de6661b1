use Rattle.encoding_definitions.proofs.SurrogateLemmas.{repaired_exist, repaired_one, repaired_places, repaired_valid, repaired_twice}
use Rattle.encoding_definitions.proofs.SurrogateLemmas.{repaired_counts, repaired_lossy, valid_stays, valid_spelled, valid_paired}
use Rattle.encoding_runs.proofs.laws.law_surrogate_repair.Goals as goal

pub returns : goal.returns
returns c = record {
  spelled = valid_spelled;
  paired = valid_paired;
  exist = repaired_exist;
  one = repaired_one;
  places = repaired_places;
  valid = repaired_valid;
  twice = repaired_twice;
  counts = repaired_counts;
  lossy = repaired_lossy;
  stays = valid_stays;
}
