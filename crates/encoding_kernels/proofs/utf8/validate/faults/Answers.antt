use Rattle.std.proofs.Common.{inl, refl}
use Rattle.encoding_kernels.proofs.Utf8LookupLemmas.{are_bytes, are_previous, high_places, low_places, text_lanes_follow, text_lanes_long}
use Rattle.encoding_kernels.proofs.utf8.validate.faults.Goals as goal

pub swizzle : goal.swizzle
swizzle g c =
    let before = c.bytes_before.ensures in
    high_places 16 (inl refl) _ (are_previous 16 (inl refl) c.args.src.now c.args.at c.requires.2 c.type_inv.src before.three before.two before.one)

pub swizzle-2 : goal.swizzle-2
swizzle-2 g c =
    let before = c.bytes_before.ensures in
    low_places 16 (inl refl) _ (are_previous 16 (inl refl) c.args.src.now c.args.at c.requires.2 c.type_inv.src before.three before.two before.one)

pub swizzle-3 : goal.swizzle-3
swizzle-3 g c =
    let before = c.bytes_before.ensures in
    high_places 16 (inl refl) _ (are_bytes 16 (inl refl) c.args.src.now c.args.at c.requires.2 c.type_inv.src before.three before.two before.one)

pub returns-clause-length : goal.returns-clause-length
returns-clause-length g c =
    let before = c.bytes_before.ensures in
    text_lanes_long 16 (inl refl) c.args.src.now c.args.at c.requires.2 c.type_inv.src before.three before.two before.one

pub returns-clause-lanes : goal.returns-clause-lanes
returns-clause-lanes g c =
    let before = c.bytes_before.ensures in
    text_lanes_follow 16 (inl refl) c.args.src.now c.args.at c.requires.2 c.type_inv.src before.three before.two before.one
