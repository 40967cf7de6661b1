use Rattle.std.proofs.Common.{◌≡◌, ◌∙◌, sym, length, arith, ap, refl, Err, take}
use Rattle.std.proofs.lemmas.List.{length-append, length-take}
use Rattle.encoding_c.proofs.LengthLemmas.{stops_short}
use Rattle.encoding_c.proofs.repair.encoding_text_repair_slice.Goals as goal

pub unreachable-requires : goal.unreachable-requires
unreachable-requires c =
    let e = c.in-Err.ensures {u = tt} in
    let stop = e.err.1 in
    let w = c.repair_slice.new.writer in
    let failed = (e.failed refl).1 (ap Err e.err.0) in
    let full = w.full failed in
    let short = stops_short c.args.src.now stop.0 stop.1 stop.2 stop.3 in
    let out = ap length stop.4 in
    let last = c.dst-in-Err-1.given in
    let room : length w.room.now ≡ length c.args.dst.now = ap length (sym (last.1.1 (sym e.keeps.memory))) ∙ last.1.0 in
    omega (
      arith,
      short,
      full,
      room,
      c.if-dst-src.false,
      out,
      length-take w.written w.room.now,
      length-append
          (take 0 c.args.dst.now) stop.1,
      length-take 0 c.args.dst.now,
    )
