use Rattle.std.proofs.Common.{ℕ, ◌+◌, ◌≤◌, arith, length, drop, set, subst, sym}
use Rattle.std.specs.Char.Escape.{encode_utf16}
use Rattle.std.proofs.lemmas.List.{take_rest, drop-drop, length-drop, length-take, length-set}
use Rattle.encoding_definitions.specs.Parts.{BeginsWithNoCharacter}
use Rattle.encoding_text.proofs.CallLemmas.{malformed_some}
use Rattle.encoding_text.proofs.ConvertingLemmas.{converts_prefix, none_after}
use Rattle.encoding_text.proofs.RepairingLemmas.{replaced_malformed, replaced_characters, repaired_length, characters_short}
use Rattle.encoding_text.proofs.mem.to_utf16.convert_malformed.Goals as goal

pub slice_bounds-malformed_length-count : goal.slice_bounds-malformed_length-count
slice_bounds-malformed_length-count c = c.loop-length.invariant.within

pub slice_bounds-malformed_length-start : goal.slice_bounds-malformed_length-start
slice_bounds-malformed_length-start c = c.loop-length.invariant.within

pub overflow_add-read-in-Some : goal.overflow_add-read-in-Some
overflow_add-read-in-Some c =
    let src = c.args.src.now in
    let next = c.loop-length.read + c.in-Some.length in
    let d = converts_prefix encode_utf16 _ _ _ _ _ (rw (take_rest src next) at c.convert_utf8_to_utf16_up_to_invalid-bytes.ensures) in
    let malformed = rw (take_rest src c.loop-length.read) at (c.in-Some.ensures {u = tt}).if_some in
    omega (arith, d.within, length-drop next src, malformed.0, length-drop c.loop-length.read src, c.loop-length.invariant.within)

pub loop-length-smaller : goal.loop-length-smaller
loop-length-smaller c =
    let src = c.args.src.now in
    let rest = drop c.loop-length.read src in
    let malformed = rw (take_rest src c.loop-length.read) at (c.in-Some.ensures {u = tt}).if_some in
    omega (
      arith,
      malformed.0,
      malformed_some _ _ _ malformed.1,
      length-take c.in-Some.length rest,
      length-drop c.loop-length.read src,
      c.loop-length.invariant.within,
    )

pub loop-length-preserved : goal.loop-length-preserved
loop-length-preserved c =
    let src = c.args.src.now in
    let read = c.loop-length.read in
    let written = c.loop-length.written in
    let n = c.in-Some.length in
    let next = read + n in
    let call = c.convert_utf8_to_utf16_up_to_invalid-bytes in
    let bytes = call.result.0 in
    let malformed = rw (take_rest src read) at (c.in-Some.ensures {u = tt}).if_some in
    let some = malformed_some _ _ _ malformed.1 in
    let room = c.loop-length.invariant.room in
    let inside = c.loop-length.invariant.within in
    let replaced = set c.loop-length.dst written 0xFFFD in
    let fits : length (drop next src) ≤ length (drop (written + 1) replaced) = omega (
      arith,
      length-drop next src,
      length-drop (written + 1) replaced,
      length-set {A = ℕ},
      malformed.0,
      length-drop read src,
      length-take n (drop read src),
      some,
      room,
      inside,
    ) in
    let one = replaced_malformed src _ _ read written n c.loop-length.invariant.replaced (omega (arith, room)) malformed.1 in
    let maximal = rw (take_rest src next) at call.ensures in
    let d = converts_prefix encode_utf16 _ _ _ _ _ maximal in
    let short = characters_short _ _ _ _ _ d in
    let long = repaired_length _ _ (written + 1) _ _ d.writes (omega (arith, room, length-set {A = ℕ})) in
    record {
      replaced = replaced_characters src _ _ _ next (written + 1) bytes call.result.1 one d;
      none = subst BeginsWithNoCharacter (drop-drop bytes next src) (none_after _ _ _ _ _ maximal (rw (sym (take_rest replaced (written + 1))) at fits));
      within = omega (arith, d.within, length-drop next src, inside, malformed.0, length-drop read src);
      room = omega (
        arith,
        long,
        length-set {A = ℕ},
        short.0,
        d.within,
        length-drop next src,
        malformed.0,
        length-drop read src,
        some,
        room,
        inside,
        length-take n (drop read src),
      );
    }
