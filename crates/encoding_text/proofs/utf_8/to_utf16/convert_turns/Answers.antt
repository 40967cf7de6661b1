use Rattle.std.proofs.Common.{◌≡◌, ℕ, ◌+◌, ◌-◌, ◌≤◌, List, arith, drop, length, take}
use Rattle.std.specs.List.{flat_map}
use Rattle.std.specs.Char.Escape.{encode_utf16}
use Rattle.std.specs.Str.{IsUtf8, chars}
use Rattle.std.proofs.lemmas.List.{length-take, take-take, take_rest}
use borrow.Rule.Slice.PartMut.{put_mid}
use Rattle.encoding_definitions.specs.Prefixes.{IsLongestPrefix, WritesPrefix}
use Rattle.encoding_text.specs.Steps.{ConvertsSome}
use Rattle.encoding_text.proofs.ConvertingLemmas.{converted_ascii, converted_more, converted_rejected, converted_text, converted_unfit, converts_longest}
use Rattle.encoding_text.proofs.utf_8.to_utf16.convert_turns.Goals as goal
use Rattle.encoding_text.proofs.utf_8.to_utf16.convert_turns.Goals.{then-read-src+then-src-read-lt-ASCII_END, else-read-src}

-- a piece of what is left, and the text at its start, are sliced
text_after : (src old new sub : List ℕ) (read written room valid units : ℕ) → ConvertsSome encode_utf16 src old new read written
    → IsLongestPrefix IsUtf8 (take (read + room - read) (drop read src)) valid
    → WritesPrefix (take (length new - written) (drop written new)) sub units (flat_map encode_utf16 (chars (take (read + valid - read) (drop read src))))
    → ConvertsSome encode_utf16 src old (put_mid written (length new - written) new sub) (read + valid) (written + units)
text_after src old new sub read written room valid units d f w =
    let whole : read + room - read ≡ room = omega arith in
    let size : read + valid - read ≡ valid = omega arith in
    let found = rw whole at f in
    let short : valid ≤ room = omega (arith, found.within, length-take room (drop read src)) in
    converted_text encode_utf16 src old new sub read written valid units d (rw (take-take valid room (drop read src) short) at found.kind)
    (omega (arith, found.within, length-take room (drop read src))) (rw size at w)

pub decode_utf8_scalar-scalar-requires : goal.decode_utf8_scalar-scalar-requires
decode_utf8_scalar-scalar-requires c =
    let at = c.if-read-src.read + c.utf8_valid_up_to-valid.result in
    let found = rw take_rest at c.in-Some.ensures.length in
    let size : at + c.in-Some.length - at ≡ c.in-Some.length = omega arith in
    record { sequence = rw size found.2 }

pub loop-read-preserved : goal.loop-read-preserved
loop-read-preserved c =
    let ascii : ConvertsSome encode_utf16 c.args.src.now c.args.dst.now c.if-read-src.dst c.if-read-src.read c.if-read-src.written =
    elim c.if-read-src.branch [
      | then-read-src+then-src-read-lt-ASCII_END w ↦
          rw (w.dst-is, w.read-is, w.written-is)
          (converted_ascii _ _ _ _ _ _ _ c.loop-read.invariant.converted w.copy_to_basic_latin-ascii.ensures.prefix w.copy_to_basic_latin-ascii.ensures.copied)
      | else-read-src w ↦ rw (w.dst-is, w.read-is, w.written-is) c.loop-read.invariant.converted
    ] in
    let after : c.args.ascii ≤ c.if-read-src.written =
    elim c.if-read-src.branch [
      | then-read-src+then-src-read-lt-ASCII_END w ↦ omega (arith, c.loop-read.invariant.after, w.written-is)
      | else-read-src w ↦ omega (arith, c.loop-read.invariant.after, w.written-is)
    ] in
    let text = text_after _ _ _ _ _ _ _ _ _ ascii c.utf8_valid_up_to-valid.ensures c.convert_text-written.ensures in
    let at = c.if-read-src.read + c.utf8_valid_up_to-valid.result in
    let found = rw take_rest at c.in-Some.ensures.length in
    let size : at + c.in-Some.length - at ≡ c.in-Some.length = omega arith in
    let s = c.decode_utf8_scalar-scalar.ensures in
    record {
      converted = converted_more encode_utf16 _ _ _ _ _ _ _ c.in-Some.length _ text s.scalar
          (rw size at s.spelled) found.1 c.in-Some-write_utf16.ensures.written;
      after = omega (arith, after);
    }

pub returns-in_default-write_utf16-clause-converts : goal.returns-in_default-write_utf16-clause-converts
returns-in_default-write_utf16-clause-converts c =
    let ascii : ConvertsSome encode_utf16 c.args.src.now c.args.dst.now c.if-read-src.dst c.if-read-src.read c.if-read-src.written =
    elim c.if-read-src.branch [
      | then-read-src+then-src-read-lt-ASCII_END w ↦
          rw (w.dst-is, w.read-is, w.written-is)
          (converted_ascii _ _ _ _ _ _ _ c.loop-read.invariant.converted w.copy_to_basic_latin-ascii.ensures.prefix w.copy_to_basic_latin-ascii.ensures.copied)
      | else-read-src w ↦ rw (w.dst-is, w.read-is, w.written-is) c.loop-read.invariant.converted
    ] in
    let text = text_after _ _ _ _ _ _ _ _ _ ascii c.utf8_valid_up_to-valid.ensures c.convert_text-written.ensures in
    let at = c.if-read-src.read + c.utf8_valid_up_to-valid.result in
    let size : at + c.in-Some.length - at ≡ c.in-Some.length = omega arith in
    let s = c.decode_utf8_scalar-scalar.ensures in
    let unfit = c.in_default-write_utf16.ensures.unfit in
    converts_longest encode_utf16 _ _ _ _ _ (converted_unfit encode_utf16 _ _ _ _ _ _ _ c.in-Some.length text s.scalar (rw size at s.spelled) unfit.1 unfit.0)

pub returns-in_default-clause-converts : goal.returns-in_default-clause-converts
returns-in_default-clause-converts c =
    let ascii : ConvertsSome encode_utf16 c.args.src.now c.args.dst.now c.if-read-src.dst c.if-read-src.read c.if-read-src.written =
    elim c.if-read-src.branch [
      | then-read-src+then-src-read-lt-ASCII_END w ↦
          rw (w.dst-is, w.read-is, w.written-is)
          (converted_ascii _ _ _ _ _ _ _ c.loop-read.invariant.converted w.copy_to_basic_latin-ascii.ensures.prefix w.copy_to_basic_latin-ascii.ensures.copied)
      | else-read-src w ↦ rw (w.dst-is, w.read-is, w.written-is) c.loop-read.invariant.converted
    ] in
    let text = text_after _ _ _ _ _ _ _ _ _ ascii c.utf8_valid_up_to-valid.ensures c.convert_text-written.ensures in
    converts_longest encode_utf16 _ _ _ _ _ (converted_rejected encode_utf16 _ _ _ _ _ text (rw take_rest at c.in_default.ensures.no_character))
