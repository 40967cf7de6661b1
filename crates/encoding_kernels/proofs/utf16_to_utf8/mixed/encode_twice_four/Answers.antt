use Rattle.std.proofs.Common.{◌+◌, ◌∙◌, ap, arith, take, get_or}
use Rattle.encoding_kernels.specs.KeptBytes.{length_classes}
use Rattle.encoding_kernels.proofs.MixedLemmas.{classes_long, spelled_four}
use Rattle.encoding_kernels.proofs.utf16_to_utf8.mixed.encode_twice_four.Goals as goal

pub returns-clause-lower : goal.returns-clause-lower
returns-clause-lower c us l m spells =
    ap (take c.unit_places_by-count.result.1) c.select_in_halves.ensures.lower
    ∙ spelled_four us c.unit_places_by-count.result.0 (λ j. get_or c.args.bytes j 0) c.unit_places_by-count.result.1
    (c.unit_places_by-count.ensures.kept (length_classes us) (omega (arith, classes_long us)) m) (λ k i. spells k (omega (arith, l)))

pub returns-clause-upper : goal.returns-clause-upper
returns-clause-upper c us l m spells =
    ap (take c.unit_places_by-more.result.1) c.select_in_halves.ensures.upper
    ∙ spelled_four us c.unit_places_by-more.result.0 (λ j. get_or c.args.bytes (16 + j) 0) c.unit_places_by-more.result.1
    (c.unit_places_by-more.ensures.kept (length_classes us) (omega (arith, classes_long us)) m) (λ k i. spells k (omega (arith, l)))
