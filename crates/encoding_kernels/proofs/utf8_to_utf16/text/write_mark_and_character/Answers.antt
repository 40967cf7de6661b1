use Rattle.std.proofs.Common.{◌≡◌, ℕ, ◌<◌, ◌≤◌, zero, suc, List, [], ◌∷◌, arith, drop, length, refl, slice_index, slice_set, subst, sym}
use Rattle.std.specs.Str.{IsAscii, IsUtf8}
use Rattle.std.proofs.lemmas.List.{length-set, take_rest}
use Rattle.encoding_kernels.specs.EndingUnits.{WritesUtf16}
use Rattle.encoding_kernels.proofs.Utf8ToUtf16Lemmas.{puts_ascii}
use Rattle.encoding_kernels.proofs.Utf8ToUtf16LoopLemmas.{due_exact, putting_first, putting_more, putting_some}
use Rattle.encoding_kernels.proofs.utf8_to_utf16.text.write_mark_and_character.Goals as goal

one : (b : ℕ) → b < 0x80 → IsAscii (b ∷ [])
one b low zero = low
one b low (suc k) = omega arith

mark : (src old : List ℕ) (unit : ℕ) → 1 < length src → length src ≤ length old → IsUtf8 src → slice_index src 0 < 0x80
    → unit ≡ slice_index src 0 → WritesUtf16 src old (slice_set old 0 unit) 1 1 1
mark [] old unit long room u low is = elim long [ ]
mark (b ∷ bs) [] unit long room u low is = elim room [ ]
mark (b ∷ bs) (d ∷ ds) unit long room u low is = puts_ascii (b ∷ bs) (d ∷ ds) (unit ∷ ds) 1 u (omega (arith, long)) (one b low)
    (record { count = refl; fits = omega arith; placed = (λ i. is i ∷ ds) })

pub returns-then-src-ge-ASCII_END-clause-written : goal.returns-then-src-ge-ASCII_END-clause-written
returns-then-src-ge-ASCII_END-clause-written c =
    due_exact c.args.src.now c.args.dst.now c.write_character.new.dst _ _ c.requires.text c.write_character.ensures.written

pub write_character-bytes-requires-clause-text : goal.write_character-bytes-requires-clause-text
write_character-bytes-requires-clause-text c =
    let src = c.args.src.now in
    let first = mark src c.args.dst.now c.from.result c.requires.dst_length.0 c.requires.dst_length.1 c.requires.text
    (omega (arith, c.if-src-ge-ASCII_END.false)) c.from.ensures in
    subst IsUtf8 (sym (take_rest src 1)) first.rest

pub returns-clause-written : goal.returns-clause-written
returns-clause-written c =
    let src = c.args.src.now in
    let first = mark src c.args.dst.now c.from.result c.requires.dst_length.0 c.requires.dst_length.1 c.requires.text
    (omega (arith, c.if-src-ge-ASCII_END.false)) c.from.ensures in
    let puts = rw (take_rest src 1) at c.write_character-bytes.ensures.written in
    let start = putting_first _ _ _ _ _ c.requires.text (due_exact src c.args.dst.now _ 1 1 c.requires.text first) in
    putting_some (putting_more _ _ _ _ _ _ _ _ (omega (arith, c.requires.dst_length, length-set c.args.dst.now 0 c.from.result)) start
    (due_exact (drop 1 src) _ c.write_character-bytes.new.dst _ _ first.rest puts))
