use Rattle.std.proofs.Common.{◌+◌, arith, inr, refl}
use Rattle.encoding_kernels.proofs.Utf8LookupLemmas.{high_places, low_places}
use Rattle.encoding_kernels.proofs.BidiByteLookupLemmas.{lanes_long, loaded, none_at}
use Rattle.encoding_kernels.proofs.bidi.bytes.groups_of_32.Goals as goal

pub swizzle : goal.swizzle
swizzle c = high_places 32 (inr refl) _ (loaded c.args.bytes.now c.type_inv.bytes c.args.at (omega arith))

pub swizzle-2 : goal.swizzle-2
swizzle-2 c = low_places 32 (inr refl) _ (loaded c.args.bytes.now c.type_inv.bytes c.args.at (omega arith))

pub swizzle-3 : goal.swizzle-3
swizzle-3 c = high_places 32 (inr refl) _ (loaded c.args.bytes.now c.type_inv.bytes (c.args.at + 1) (omega arith))

pub swizzle-4 : goal.swizzle-4
swizzle-4 c = low_places 32 (inr refl) _ (loaded c.args.bytes.now c.type_inv.bytes (c.args.at + 1) (omega arith))

pub swizzle-5 : goal.swizzle-5
swizzle-5 c = high_places 32 (inr refl) _ (loaded c.args.bytes.now c.type_inv.bytes (c.args.at + 2) (omega arith))

pub swizzle-6 : goal.swizzle-6
swizzle-6 c = low_places 32 (inr refl) _ (loaded c.args.bytes.now c.type_inv.bytes (c.args.at + 2) (omega arith))

pub returns-clause-length : goal.returns-clause-length
returns-clause-length c = lanes_long c.args.bytes.now c.type_inv.bytes c.args.at c.requires

pub returns-clause-lanes : goal.returns-clause-lanes
returns-clause-lanes c = none_at c.args.bytes.now c.type_inv.bytes c.args.at c.requires
