use Rattle.std.proofs.Common.{inr, refl}
use Rattle.encoding_kernels.proofs.Utf8LookupLemmas.{high_places, low_places}
use Rattle.encoding_kernels.proofs.BidiUnitLookupLemmas.{lanes_clear, lanes_left, lanes_long}
use Rattle.encoding_kernels.proofs.bidi.units.groups_of_32.Goals as goal

pub swizzle : goal.swizzle
swizzle c = high_places 32 (inr refl) c.args.upper c.fits-upper

pub swizzle-2 : goal.swizzle-2
swizzle-2 c = low_places 32 (inr refl) c.args.upper c.fits-upper

pub swizzle-3 : goal.swizzle-3
swizzle-3 c = high_places 32 (inr refl) c.args.lower c.fits-lower

pub swizzle-4 : goal.swizzle-4
swizzle-4 c = low_places 32 (inr refl) c.args.lower c.fits-lower

pub returns-clause-length : goal.returns-clause-length
returns-clause-length c = lanes_long c.args.upper c.args.lower c.fits-upper c.fits-lower

pub returns-clause-lanes : goal.returns-clause-lanes
returns-clause-lanes c = lanes_clear c.args.upper c.args.lower c.fits-upper c.fits-lower

pub returns-clause-others : goal.returns-clause-others
returns-clause-others c = lanes_left c.args.upper c.args.lower c.fits-upper c.fits-lower
