use Rattle.std.proofs.Common.{◌+◌, drop, arith}
use Rattle.std.proofs.lemmas.List.{take_rest, length-drop, length-take}
use Rattle.encoding_text.proofs.CallLemmas.{malformed_some}
use Rattle.encoding_text.proofs.ReplacingLemmas.{left_after, none_fits_character, none_fits_end, none_fits_replacement}
use Rattle.encoding_text.proofs.ReplacingLemmas.{parts_converted, parts_empty, parts_full, parts_none, parts_replaced}
use Rattle.encoding_text.proofs.ReplacingLemmas.{parts_reported, replaced_within, report_reads, room_after, written_within}
use Rattle.encoding_text.proofs.decoder.replacing.convert_parts.Goals as goal

pub loop-dst-init : goal.loop-dst-init
loop-dst-init g c = record {
  neutral = c.none-pending.ensures;
  repaired = parts_none g.U.CodeUnit.encode c.args.src.now c.args.dst.now;
  read_within = omega arith;
  within = omega arith;
  counted = omega arith;
}

pub returns-in-InputEmpty : goal.returns-in-InputEmpty
returns-in-InputEmpty g c =
    let encode = g.U.CodeUnit.encode in
    let call = rw (take_rest c.args.src.now c.loop-dst.read, c.loop-dst.invariant.neutral, c.in-InputEmpty.is) at c.decode-result.ensures in
    let (d, none) = parts_empty encode _ _ _ _ _ _ _ _ _ _ _ c.loop-dst.invariant.repaired call in
    parts_converted encode _ _ _ _ _ _ d (none_fits_end encode _ _ none)

pub write_replacement-written-requires : goal.write_replacement-written-requires
write_replacement-written-requires g c =
    let encode = g.U.CodeUnit.encode in
    let call = rw (take_rest c.args.src.now c.loop-dst.read, c.loop-dst.invariant.neutral, c.in-Malformed.is) at c.decode-result.ensures in
    let reads = report_reads encode _ _ _ _ _ _ _ _ _ _ _ c.loop-dst.invariant.repaired _ _ call in
    let left = left_after encode _ _ _ _ _ _ _ _ _ _ _ c.loop-dst.invariant.repaired _ call c.loop-dst.invariant.within in
    let replacement = c.replacement_length-replacement.ensures in
    record { dst_length = omega (arith, reads.3, left, replacement.length, replacement.at_most) }

pub loop-dst-smaller-in-Malformed : goal.loop-dst-smaller-in-Malformed
loop-dst-smaller-in-Malformed g c =
    let encode = g.U.CodeUnit.encode in
    let call = rw (take_rest c.args.src.now c.loop-dst.read, c.loop-dst.invariant.neutral, c.in-Malformed.is) at c.decode-result.ensures in
    let reads = report_reads encode _ _ _ _ _ _ _ _ _ _ _ c.loop-dst.invariant.repaired _ _ call in
    omega (arith, reads.0, reads.1, length-drop c.loop-dst.read c.args.src.now)

pub loop-dst-preserved-in-Malformed : goal.loop-dst-preserved-in-Malformed
loop-dst-preserved-in-Malformed g c =
    let encode = g.U.CodeUnit.encode in
    let call = rw (take_rest c.args.src.now c.loop-dst.read, c.loop-dst.invariant.neutral, c.in-Malformed.is) at c.decode-result.ensures in
    let reads = report_reads encode _ _ _ _ _ _ _ _ _ _ _ c.loop-dst.invariant.repaired _ _ call in
    let w = c.write_replacement-written in
    let next = parts_reported encode _ _ _ _ _ _ _ _ _ _ _ c.loop-dst.invariant.repaired _ _ call w.new.dst w.result w.ensures in
    record {
      neutral = reads.2;
      repaired = next;
      read_within = omega (arith, reads.1, length-drop c.loop-dst.read c.args.src.now, c.loop-dst.invariant.read_within);
      within = written_within encode _ _ _ _ _ _ next;
      counted = replaced_within encode _ _ _ _ _ _ next;
    }

pub returns-in_default : goal.returns-in_default
returns-in_default g c =
    let encode = g.U.CodeUnit.encode in
    let call = rw (take_rest c.args.src.now c.loop-dst.read, c.loop-dst.invariant.neutral, c.in-OutputFull.is) at c.decode-result.ensures in
    let (none, d, some, stops) = parts_full encode _ _ _ _ _ _ _ _ _ _ _ c.loop-dst.invariant.repaired call in
    parts_converted encode _ _ _ _ _ _ d (none_fits_character encode _ _ stops (rw take_rest at c.in_default.ensures.if_none))

pub returns-then-dst-written : goal.returns-then-dst-written
returns-then-dst-written g c =
    let encode = g.U.CodeUnit.encode in
    let call = rw (take_rest c.args.src.now c.loop-dst.read, c.loop-dst.invariant.neutral, c.in-OutputFull.is) at c.decode-result.ensures in
    let (none, d, some, stops) = parts_full encode _ _ _ _ _ _ _ _ _ _ _ c.loop-dst.invariant.repaired call in
    let replacement = c.replacement_length-replacement.ensures in
    let room = room_after c.loop-dst.dst c.decode-result.new.dst c.loop-dst.written _ _ c.decode-result.ensures.1 c.loop-dst.invariant.within in
    parts_converted encode _ _ _ _ _ _ d
    (none_fits_replacement encode _ _ stops (omega (arith, c.if-dst-written.true, replacement.length, c.loop-dst.auto.dst, room.0)))

pub loop-dst-smaller : goal.loop-dst-smaller
loop-dst-smaller g c =
    let encode = g.U.CodeUnit.encode in
    let call = rw (take_rest c.args.src.now c.loop-dst.read, c.loop-dst.invariant.neutral, c.in-OutputFull.is) at c.decode-result.ensures in
    let (none, d, some, stops) = parts_full encode _ _ _ _ _ _ _ _ _ _ _ c.loop-dst.invariant.repaired call in
    let found = rw take_rest at c.in-Some.ensures.if_some in
    let one = malformed_some _ _ _ found.1 in
    omega (arith, some, one, length-take c.in-Some.length (drop (c.loop-dst.read + c.decode-result.result.1) c.args.src.now))

pub loop-dst-preserved : goal.loop-dst-preserved
loop-dst-preserved g c =
    let encode = g.U.CodeUnit.encode in
    let call = rw (take_rest c.args.src.now c.loop-dst.read, c.loop-dst.invariant.neutral, c.in-OutputFull.is) at c.decode-result.ensures in
    let (none, d, some, stops) = parts_full encode _ _ _ _ _ _ _ _ _ _ _ c.loop-dst.invariant.repaired call in
    let found = rw take_rest at c.in-Some.ensures.if_some in
    let w = c.write_replacement-written-in-OutputFull in
    let next = parts_replaced encode _ _ _ _ _ _ d w.new.dst c.in-Some.length w.result found.0 found.1 w.ensures in
    record {
      neutral = none;
      repaired = next;
      read_within = omega (arith, found.0, some, length-drop (c.loop-dst.read + c.decode-result.result.1) c.args.src.now);
      within = written_within encode _ _ _ _ _ _ next;
      counted = replaced_within encode _ _ _ _ _ _ next;
    }
