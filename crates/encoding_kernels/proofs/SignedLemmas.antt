-- Code units below U+0800 that are compared as signed numbers.
use Rattle.std.proofs.Common.{◌≡◌, ℕ, ◌<◌, List, map, length, get_or, replicate, ap, sym, ◌∙◌, arith, w16}
use Rattle.std.proofs.lemmas.Bool.Decides.{nat_tests}
use Rattle.std.proofs.lemmas.Grind.{same_number_lists}
use Rattle.std.proofs.lemmas.List.{length-map, get_or-map}
use Rattle.std.specs.Simd.Lanes.{zip2}
use lib.Dec.{leb}
use mir.Syntax.{mask, lt, cast, signed, unsigned}
use borrow.Rule.Simd.Lanes.{act1, act2}
use borrow.Table.Row.{s_int}
use Rattle.encoding_kernels.proofs.VectorLemmas.{HasLanes-itself, HasLanes-splat, HasLanes-zip2, compared}

abbrev pub to_signed : ℕ → ℕ
to_signed = act1 (cast unsigned signed w16) (s_int w16) (s_int w16)

abbrev pub below_signed : ℕ → ℕ → ℕ
below_signed = act2 (mask (lt signed)) (s_int w16) (s_int w16) (s_int w16)

same_lane : (u : ℕ) → u < 0x800 → below_signed 0x7F (to_signed u) ≡ compared w16 leb 0x80 u
same_lane u l = grind (arith, nat_tests)

-- the comparison of signed lanes is that of unsigned ones
pub same_comparison : (us : List ℕ) → length us ≡ 16 → ((k : ℕ) → k < 16 → get_or us k 0 < 0x800)
    → zip2 below_signed (replicate 16 0x7F) (map to_signed us) ≡ zip2 (compared w16 leb) (replicate 16 0x80) us
same_comparison us long small =
    let units = HasLanes-itself 16 us long in
    let size : length (map to_signed us) ≡ 16 = length-map us to_signed ∙ long in
    let signs = HasLanes-zip2 below_signed (HasLanes-splat 16 0x7F) (HasLanes-itself 16 (map to_signed us) size) in
    let plain = HasLanes-zip2 (compared w16 leb) (HasLanes-splat 16 0x80) units in
    same_number_lists (zip2 below_signed (replicate 16 0x7F) (map to_signed us)) (zip2 (compared w16 leb) (replicate 16 0x80) us)
    (omega (arith, signs.long, plain.long)) (λ k l.
    let within : k < 16 = omega (arith, signs.long) in
    signs.each k within ∙ ap (below_signed 0x7F) (get_or-map to_signed us k 0 0 (omega (arith, long))) ∙ same_lane (get_or us k 0) (small k within)
    ∙ sym (plain.each k within))
