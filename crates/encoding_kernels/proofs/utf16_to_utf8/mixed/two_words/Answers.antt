use Rattle.encoding_kernels.proofs.MixedLemmas.{last_lanes, lead_lanes, words_small, words_spell}
use Rattle.encoding_kernels.proofs.utf16_to_utf8.mixed.two_words.Goals as goal

pub returns-clause-lane_count : goal.returns-clause-lane_count
returns-clause-lane_count c =
    ((last_lanes c.args.units c.fits-units.0 c.fits-units.1).long, (lead_lanes c.args.units c.fits-units.0 c.fits-units.1).long)

pub returns-clause-upper_bound : goal.returns-clause-upper_bound
returns-clause-upper_bound c = words_small c.args.units c.fits-units.0 c.fits-units.1

pub returns-clause-spelled : goal.returns-clause-spelled
returns-clause-spelled c = words_spell c.args.units c.fits-units.0 c.fits-units.1
