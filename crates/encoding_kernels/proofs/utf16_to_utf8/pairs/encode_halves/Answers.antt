use Rattle.std.proofs.Common.{map, ◌∙◌}
use Rattle.std.specs.Prelude.{nat_le}
use Rattle.std.proofs.lemmas.List.{length-map}
use Rattle.encoding_kernels.proofs.SurrogatePairsLemmas.{spelled_halves}
use Rattle.encoding_kernels.proofs.utf16_to_utf8.pairs.encode_halves.Goals as goal

pub returns-clause-spelled : goal.returns-clause-spelled
returns-clause-spelled c =
    c.keep_pairs.ensures.kept (map (nat_le 0x80) c.args.units) (length-map c.args.units (nat_le 0x80) ∙ c.fits-units.0) c.mask_beyond_ascii.ensures.mask
    ∙ spelled_halves c.args.units c.args.before c.bytes_of_halves.result c.fits-units.0 c.bytes_of_halves.ensures.bytes
