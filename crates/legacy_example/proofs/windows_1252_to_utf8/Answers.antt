use Rattle.std.proofs.Common.{◌≡◌, ◌+◌, ◌-◌, ◌<◌, ◌++◌, [], ◌∷◌, length, take, drop, map, slice_index, encode_utf8_all, arith, ap, ◌∙◌, refl}
use Rattle.std.proofs.lemmas.List.{take_all, length-take, length-drop}
use Rattle.encoding_text.proofs.PrefixesLemmas.{WritesPrefix-same, WritesPrefix_after}
use Rattle.legacy_example.specs.Windows1252.{scalar_of}
use Rattle.legacy_example.proofs.IndexLemmas.{one_written, scalar_below}
use Rattle.legacy_example.proofs.WritingLemmas.{ascii_bytes, bytes_run, byte_bytes_after, room_left}
use Rattle.legacy_example.proofs.windows_1252_to_utf8.Goals as goal

pub loop-read-init : goal.loop-read-init
loop-read-init c =
    let prefix = c.copy_ascii_to_ascii-read.ensures.prefix in
    record { within = prefix.within; written = WritesPrefix-same _ _ _ _ _ _ c.copy_ascii_to_ascii-read.ensures.copied refl (ascii_bytes _ prefix.kind) }

pub convert_latin1_to_utf8-written-requires : goal.convert_latin1_to_utf8-written-requires
convert_latin1_to_utf8-written-requires c =
    let src = c.args.src.now in
    let left =
    room_left src c.args.dst.now c.loop-read.dst c.loop-read.read c.loop-read.written
    (λ k. omega (arith, c.type_inv.src k)) c.requires.dst_length c.loop-read.invariant.within c.loop-read.invariant.written in
    record {
      dst_length =
          omega (
            arith,
            left,
            length-take (c.loop-read.read + c.latin1_length-run.result - c.loop-read.read)
                (drop c.loop-read.read src),
            length-drop c.loop-read.read src,
          );
    }

pub returns-then-read-src : goal.returns-then-read-src
returns-then-read-src c =
    let src = c.args.src.now in
    let run = c.latin1_length-run in
    let latin1 = c.convert_latin1_to_utf8-written in
    let whole =
    bytes_run src c.args.dst.now c.loop-read.dst _ c.loop-read.read run.result c.loop-read.written latin1.result c.loop-read.invariant.written
    run.ensures.same latin1.ensures.written in
    let all : take (c.loop-read.read + run.result) src ≡ src = take_all _ src (omega arith) in
    record { written = WritesPrefix-same _ _ _ _ _ _ whole refl (ap (λ xs. encode_utf8_all (map scalar_of xs)) all) }

pub convert_utf16_to_utf8-written-requires : goal.convert_utf16_to_utf8-written-requires
convert_utf16_to_utf8-written-requires c =
    let src = c.args.src.now in
    let run = c.latin1_length-run in
    let latin1 = c.convert_latin1_to_utf8-written in
    let whole =
    bytes_run src c.args.dst.now c.loop-read.dst _ c.loop-read.read run.result c.loop-read.written latin1.result c.loop-read.invariant.written
    run.ensures.same latin1.ensures.written in
    let within : c.loop-read.read + run.result < length src = omega arith in
    let left = room_left src c.args.dst.now _ (c.loop-read.read + run.result) (c.loop-read.written + latin1.result)
    (λ k. omega (arith, c.type_inv.src k)) c.requires.dst_length (omega (arith, within)) whole in
    record { dst_length = omega (arith, left, within) }

pub loop-read-preserved : goal.loop-read-preserved
loop-read-preserved c =
    let src = c.args.src.now in
    let run = c.latin1_length-run in
    let latin1 = c.convert_latin1_to_utf8-written in
    let place = c.loop-read.read + run.result in
    let whole =
    bytes_run src c.args.dst.now c.loop-read.dst _ c.loop-read.read run.result c.loop-read.written latin1.result c.loop-read.invariant.written
    run.ensures.same latin1.ensures.written in
    let within : place < length src = omega arith in
    let below : c.code_unit.result < 0xD800 = omega (arith, c.code_unit.ensures, scalar_below (slice_index src place) (omega (arith, c.type_inv.src place))) in
    let unit = one_written c.law_utf16_round_trip.ensures.scalars c.code_unit.result _ below c.convert_utf16_to_utf8-written.ensures.all in
    let more = ap (λ xs. encode_utf8_all (map scalar_of (take place src)) ++ xs) (unit ∙ ap (λ b. encode_utf8_all (b ∷ [])) c.code_unit.ensures)
    ∙ byte_bytes_after src place within in
    record {
      within = omega arith;
      written =
          WritesPrefix-same _ _ _ _ _ _ (WritesPrefix_after _ _ _ _ _ _ _ whole c.convert_utf16_to_utf8-written.ensures.unchanged_after) refl more;
    }
