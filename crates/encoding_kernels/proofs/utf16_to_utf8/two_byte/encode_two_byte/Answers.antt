use Rattle.std.proofs.Common.{◌≡◌, ◌+◌, ◌*◌, ◌/◌, ◌++◌, ◌∙◌, bit_and, sym, ap, subst, arith, take, drop, length-take-le}
use Rattle.std.proofs.Common.{length-drop, get_or, get_or-take, get_or-drop, encode_utf8_all, take-append-drop}
use Rattle.std.proofs.lemmas.Str.{encodes-append}
use Rattle.std.specs.Int.RustNames.{count_ones}
use Rattle.encoding_kernels.specs.KeptBytes.{EncodesTo}
use Rattle.encoding_kernels.proofs.UniformLemmas.{spelled_eight}
use Rattle.encoding_kernels.proofs.Latin1ToUtf8Lemmas.{low_others, high_others, others_small}
use Rattle.encoding_kernels.proofs.utf16_to_utf8.two_byte.encode_two_byte.Goals as goal

pub places_by-requires-2 : goal.places_by-requires-2
places_by-requires-2 c = others_small c.args.units c.fits-units.0 c.mask_of_others-mask.result c.mask_of_others-mask.ensures.mask

pub returns-clause-spelled : goal.returns-clause-spelled
returns-clause-spelled c =
    let us = c.args.units in
    let long = c.fits-units.0 in
    let mask = c.mask_of_others-mask.result in
    let is = c.mask_of_others-mask.ensures.mask in
    let bytes = c.both_bytes.result in
    let spells = c.both_bytes.ensures.bytes in
    let prefix = spelled_eight (take 8 us) c.places_by.result (λ j. get_or bytes j 0) _ (length-take-le 8 us (omega (arith, long)))
    (low_others us long mask is) c.places_by.ensures.kept
    (λ k l. subst (λ u. EncodesTo u (get_or bytes (2 * k) 0) (get_or bytes (2 * k + 1) 0)) (sym (get_or-take 8 us k 0 l)) (spells k (omega arith))) in
    let back = spelled_eight (drop 8 us) c.places_by-2.result (λ j. get_or bytes (16 + j) 0) _ (omega (arith, length-drop 8 us, long))
    (high_others us long mask is) c.places_by-2.ensures.kept
    (λ k l.
    let even : 2 * (8 + k) ≡ 16 + 2 * k = omega arith in
    let odd : 2 * (8 + k) + 1 ≡ 16 + (2 * k + 1) = omega arith in
    subst (λ j. EncodesTo (get_or (drop 8 us) k 0) (get_or bytes (16 + 2 * k) 0) (get_or bytes j 0)) odd
    (subst (λ j. EncodesTo (get_or (drop 8 us) k 0) (get_or bytes j 0) (get_or bytes (2 * (8 + k) + 1) 0)) even
    (subst (λ u. EncodesTo u (get_or bytes (2 * (8 + k)) 0) (get_or bytes (2 * (8 + k) + 1) 0)) (sym (get_or-drop 8 us k 0))
    (spells (8 + k) (omega arith))))) in
    (λ i. take (8 + count_ones (bit_and mask 0xFF)) (c.select_in_halves.ensures.lower i) ++ take (8 + count_ones (mask / 256))
    (c.select_in_halves.ensures.upper i)) ∙ (λ i. prefix i ++ back i)
    ∙ sym (encodes-append (take 8 us) (drop 8 us)) ∙ ap encode_utf8_all (take-append-drop 8 us)
