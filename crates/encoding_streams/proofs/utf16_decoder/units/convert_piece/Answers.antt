use Rattle.std.proofs.Common.{◌≡◌, ◌*◌, ◌≤◌, take, ◌∙◌, sym, ap, subst, arith}
use Rattle.std.proofs.lemmas.List.{length-take, length-take-le, take-take}
use Rattle.encoding_streams.specs.Utf16Steps.{AreValidUnitsOf}
use Rattle.encoding_streams.proofs.Utf16WriteLemmas.{valid_advance}
use Rattle.encoding_streams.proofs.utf16_decoder.units.convert_piece.Goals as goal

pub returns-clause-characters : goal.returns-clause-characters
returns-clause-characters c =
    let src = c.args.src.now in
    let count = c.min-count.result in
    let valid = c.valid_units-valid.result in
    let copied = c.decode_utf16_bytes in
    let (us, are) = c.valid_units-valid.ensures.valid in
    let (vs, spelled, writes) = copied.ensures.code_units in
    let within = c.valid_units-valid.ensures.within in
    let few : 2 * valid ≤ 2 * count = omega (arith, within, length-take (2 * count) src) in
    let long = length-take-le (2 * valid) src (omega (arith, within, length-take (2 * count) src)) in
    let all : copied.result.0 ≡ 2 * valid = omega (arith, copied.ensures.count, copied.ensures.read, long, few, c.min-count.ensures, c.min.ensures) in
    valid_advance c.args.order src us vs c.args.dst.now copied.new.dst copied.result.0 copied.result.1 copied.ensures.read
    (subst (λ bytes. AreValidUnitsOf c.args.order bytes us) (take-take (2 * valid) (2 * count) src few ∙ ap (λ n. take n src) (sym all)) are)
    (spelled ∙ take-take copied.result.0 (2 * valid) src (omega (arith, all))) (λ k. (c.type_inv.dst k).fits) writes
