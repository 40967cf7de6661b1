use Rattle.std.proofs.Common.{true, false, ap, arith}
use Rattle.std.proofs.lemmas.List.{length-take}
use Rattle.encoding_text.proofs.Utf16BytesLemmas.{copied_ascii, is_big, next_beyond}
use Rattle.encoding_text.proofs.utf_16.copy_utf16_bytes_to_ascii.Goals as goal

pub returns-in-LittleEndian-clause-copied : goal.returns-in-LittleEndian-clause-copied
returns-in-LittleEndian-clause-copied c =
    let copied = c.copy_ascii_units.ensures in
    copied_ascii c.args.order false (ap is_big c.in-LittleEndian.is) c.args.src.now (λ k. (c.type_inv.src k).fits) c.args.dst.now _ c.min-count.result _
    (omega (arith, copied.within, c.min-count.ensures, length-take c.min-count.result c.args.dst.now)) copied.below copied.copied

pub returns-in-LittleEndian-clause-stops : goal.returns-in-LittleEndian-clause-stops
returns-in-LittleEndian-clause-stops c = λ unit rest room e.
    next_beyond c.args.order false (ap is_big c.in-LittleEndian.is) c.args.src.now _ unit rest e
    (λ more. c.copy_ascii_units.ensures.stops (omega (arith, room, more, c.min-count.ensures, length-take c.min-count.result c.args.dst.now)))

pub returns-in-BigEndian-clause-copied : goal.returns-in-BigEndian-clause-copied
returns-in-BigEndian-clause-copied c =
    let copied = c.copy_ascii_units-in-BigEndian.ensures in
    copied_ascii c.args.order true (ap is_big c.in-BigEndian.is) c.args.src.now (λ k. (c.type_inv.src k).fits) c.args.dst.now _ c.min-count.result _
    (omega (arith, copied.within, c.min-count.ensures, length-take c.min-count.result c.args.dst.now)) copied.below copied.copied

pub returns-in-BigEndian-clause-stops : goal.returns-in-BigEndian-clause-stops
returns-in-BigEndian-clause-stops c = λ unit rest room e.
    next_beyond c.args.order true (ap is_big c.in-BigEndian.is) c.args.src.now _ unit rest e
    (λ more. c.copy_ascii_units-in-BigEndian.ensures.stops (omega (arith, room, more, c.min-count.ensures, length-take c.min-count.result c.args.dst.now)))
