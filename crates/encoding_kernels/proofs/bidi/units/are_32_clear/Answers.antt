use Rattle.std.proofs.Common.{refl}
use Rattle.encoding_kernels.proofs.BidiUnitLookupLemmas.{none_in_32, none_but_forms}
use Rattle.encoding_kernels.proofs.bidi.units.are_32_clear.Goals as goal

pub returns-then-not-this : goal.returns-then-not-this
returns-then-not-this g c t =
    none_in_32 c.args.units.now c.args.at _ _ _ c.bytes_of_32.ensures.upper c.bytes_of_32.ensures.lower c.groups_of_32-groups.ensures.lanes
    (c.is_zero.ensures.0 t)

pub returns-then-is_zero : goal.returns-then-is_zero
returns-then-is_zero g c t =
    none_but_forms c.args.units.now c.args.at _ _ _ c.bytes_of_32.ensures.upper c.bytes_of_32.ensures.lower (λ k. (c.type_inv.units k).fits)
    c.groups_of_32-groups.ensures.length c.groups_of_32-groups.ensures.others (c.if-is_zero.ensures.0 refl) (c.pass.ensures.0 t)
