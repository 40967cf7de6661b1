use Rattle.std.proofs.Common.{ℕ, ◌+◌, ◌*◌, ◌/◌, ◌%◌, ◌^◌, w16, leb, bit_and}
use Rattle.encoding_kernels.proofs.VectorLemmas.{HasLanes-itself, HasLanes-splat, HasLanes-zip2}
use Rattle.encoding_kernels.proofs.MaskLemmas.{tests_of, chosen_by}
use Rattle.encoding_kernels.proofs.SurrogatePairsLemmas.{halves_spell}
use Rattle.encoding_kernels.proofs.utf16_to_utf8.pairs.bytes_of_halves.Goals as goal

pub returns-clause-bytes : goal.returns-clause-bytes
returns-clause-bytes c k l =
    let units = HasLanes-itself 8 c.args.units c.fits-units.0 in
    let before = HasLanes-itself 8 c.args.before c.fits-before.0 in
    let add = λ (a b : ℕ). (a + b) % 2 ^ 16 in
    let left = λ (a b : ℕ). a * 2 ^ b % 2 ^ 16 in
    let right = λ (a b : ℕ). a / 2 ^ b in
    let splat = HasLanes-splat 8 in
    let last = HasLanes-zip2 left (HasLanes-zip2 bit_and units (splat 0x3F)) (splat 8) in
    let upper = HasLanes-zip2 right units (splat 6) in
    let short = HasLanes-zip2 add (HasLanes-zip2 add upper last) (splat 0x80C0) in
    let lead = HasLanes-zip2 add units (splat 0x40) in
    let second = HasLanes-zip2 left (HasLanes-zip2 bit_and (HasLanes-zip2 right lead (splat 2)) (splat 0x3F)) (splat 8) in
    let high = HasLanes-zip2 add (HasLanes-zip2 add (HasLanes-zip2 right lead (splat 8)) second) (splat 0x8018) in
    let third = HasLanes-zip2 add (HasLanes-zip2 left (HasLanes-zip2 bit_and before (splat 3)) (splat 4)) (HasLanes-zip2 bit_and upper (splat 0xF)) in
    let low = HasLanes-zip2 add (HasLanes-zip2 add third last) (splat 0x8080) in
    let half = chosen_by (tests_of w16 leb (splat 0xDC00) units) low high in
    let several = chosen_by (tests_of w16 leb (splat 0x800) units) half short in
    let all = chosen_by (tests_of w16 leb (splat 0x80) units) several units in
    halves_spell c.args.units c.args.before _ k all c.requires l
