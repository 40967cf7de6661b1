use Rattle.std.proofs.Common.{◌≡◌, ◌≤◌, ◌++◌, length, drop, min, refl, ap, sym, arith}
use Rattle.std.proofs.lemmas.List.{length-take, length-take-le}
use Rattle.encoding_streams.proofs.Utf16WriteLemmas.{writes_all, writes_utf16}
use Rattle.encoding_streams.proofs.utf16_decoder.units.write_units.Goals as goal

pub returns-then-units-dst : goal.returns-then-units-dst
returns-then-units-dst c =
    writes_all _ _ _ c.requires.valid
    (record {
      count = refl;
      fits = c.if-units-dst.true;
      placed = ap (λ xs. xs ++ drop (length c.args.units.now) c.args.dst.now) c.copy_from_slice.ensures.after;
    })

pub returns : goal.returns
returns c =
    let count = c.utf16_valid_up_to-count.result in
    let room = length c.args.dst.now in
    let fewer : room ≡ min (length c.args.units.now) room = omega arith in
    let short : count ≤ room = omega (arith, c.utf16_valid_up_to-count.ensures.within, length-take room c.args.units.now) in
    let within : count ≤ length c.args.units.now = omega (arith, short, fewer) in
    writes_utf16 _ _ _ room _ c.requires.valid fewer c.utf16_valid_up_to-count.ensures
    (record {
      count = sym (length-take-le count c.args.units.now within);
      fits = short;
      placed = ap (λ xs. xs ++ drop count c.args.dst.now) c.copy_from_slice-2.ensures.after;
    })
