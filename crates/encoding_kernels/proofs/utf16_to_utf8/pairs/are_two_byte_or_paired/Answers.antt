use Rattle.std.proofs.Common.{◌+◌, w16, arith, subst, sym, eqb, leb, bit_and}
use Rattle.encoding_definitions.specs.Utf16.{IsLowSurrogate}
use Rattle.encoding_kernels.proofs.VectorLemmas.{HasLanes_loaded, HasLanes-splat, HasLanes-zip2}
use Rattle.encoding_kernels.proofs.MaskLemmas.{tests_of, tests_or, tests_xor, none_passes}
use Rattle.encoding_kernels.proofs.SurrogatePairsLemmas.{halves_lanes}
use Rattle.encoding_kernels.proofs.utf16_to_utf8.pairs.are_two_byte_or_paired.Goals as goal

pub returns : goal.returns
returns g c t =
    let us = g.S.CodeUnits.units c.args.src in
    let at = c.args.at in
    let units = HasLanes_loaded at 16 us _ (omega arith) c.sixteen-units.ensures in
    let next = HasLanes_loaded (at + 1) 16 us _ (omega arith) c.sixteen-next.ensures in
    let high = tests_of w16 eqb (HasLanes-zip2 bit_and units (HasLanes-splat 16 0xFC00)) (HasLanes-splat 16 0xD800) in
    let low = tests_of w16 eqb (HasLanes-zip2 bit_and next (HasLanes-splat 16 0xFC00)) (HasLanes-splat 16 0xDC00) in
    let halves = tests_of w16 eqb (HasLanes-zip2 bit_and units (HasLanes-splat 16 0xF800)) (HasLanes-splat 16 0xD800) in
    let several = tests_of w16 leb (HasLanes-splat 16 0x800) units in
    halves_lanes us at c.requires.code_units
    (λ h. let none = (c.if-is_low_surrogate.ensures {u = tt}).1 (subst IsLowSurrogate (sym c.unit_at.ensures) h) in cc)
    ((none_passes (tests_or (tests_xor high low) (tests_xor several halves)) (omega arith)).0 t)
