use Rattle.std.proofs.Common.{◌≡◌, ◌≢◌, ℕ, ◌+◌, ◌<◌, ◌≤◌, ◌*◌, true, List, ◌++◌, length, take, min, refl, sym, ap, ◌∙◌, arith}
use Rattle.std.proofs.lemmas.Bool.{both_ways, eqb-true, eqb-false}
use Rattle.std.proofs.lemmas.List.{length-append, length-take, length-take-le}
use Rattle.encoding_streams.proofs.Utf16WindowLemmas.{at_most_two, window_full, fewer_pending, window_advances, unpaired_full, unpaired_read, unpaired_pending}
use Rattle.encoding_streams.proofs.Utf16WindowLemmas.{pending_whole, cut_full, cut_report}
use Rattle.encoding_streams.proofs.utf16_decoder.resume.Goals.{then-not-last-via-then-not-last, then-not-last-via-else-not-last+then-count-eq0}
use Rattle.encoding_streams.proofs.utf16_decoder.resume.Goals.{else-not-is_empty-via-then-not-is_empty+else-dst-max_units_per_scalar-2}
use Rattle.encoding_streams.proofs.utf16_decoder.resume.Goals.{else-not-is_empty-via-else-not-is_empty}
use Rattle.encoding_streams.proofs.utf16_decoder.resume.Goals as goal

window_length : (p src window : List ℕ) (count : ℕ) → count ≡ min 4 (length p + length src) → take count window ≡ take 4 (p ++ src)
    → length (take count window) ≡ count
window_length p src window count e f = omega (arith, e, ap length f, length-take 4 (p ++ src), length-append p src)

pub returns-then-taken-eq0 : goal.returns-then-taken-eq0
returns-then-taken-eq0 g c =
    let (some, within, short, valid, spelled) = c.in-Characters.ensures in
    let size : length (take c.in-Characters.valid c.in-Characters.units) ≡ c.in-Characters.valid = length-take-le _ _ within in
    window_full c.args.order g.U.CodeUnit.encode g.U.CodeUnit.need _ _ _ _ _ c.requires.pending c.followed_by-count.ensures.bytes _ _ _ _ c.write-taken.ensures
    (spelled ∙ ap (λ n. take (2 * n) (take c.followed_by-count.result.1 c.followed_by-count.result.0)) (sym size)) (omega (arith, short, size))
    (omega (arith, some, size)) c.if-taken-eq0.true

pub overflow_mul-result : goal.overflow_mul-result
overflow_mul-result g c =
    let (some, within, short, valid, spelled) = c.in-Characters.ensures in
    let size : length (take c.in-Characters.valid c.in-Characters.units) ≡ c.in-Characters.valid = length-take-le _ _ within in
    omega (
      arith,
      at_most_two c.args.order g.U.CodeUnit.encode g.U.CodeUnit.need _ _ _ _ c.args.last c.requires.pending c.followed_by-count.ensures.bytes _ _ _ _
          c.write-taken.ensures
          (spelled ∙ ap (λ n. take (2 * n) (take c.followed_by-count.result.1 c.followed_by-count.result.0)) (sym size))
          (omega (arith, short, size)),
    )

pub overflow_sub-result : goal.overflow_sub-result
overflow_sub-result g c =
    let (some, within, short, valid, spelled) = c.in-Characters.ensures in
    let size : length (take c.in-Characters.valid c.in-Characters.units) ≡ c.in-Characters.valid = length-take-le _ _ within in
    omega (
      arith,
      fewer_pending c.args.order g.U.CodeUnit.encode g.U.CodeUnit.need _ _ _ _ c.args.last c.requires.pending c.followed_by-count.ensures.bytes _ _ _ _
          c.write-taken.ensures
          (spelled ∙ ap (λ n. take (2 * n) (take c.followed_by-count.result.1 c.followed_by-count.result.0)) (sym size))
          (omega (arith, short, size)) c.if-taken-eq0.false,
      c.len-before.ensures.length,
    )

pub returns-else-taken-eq0 : goal.returns-else-taken-eq0
returns-else-taken-eq0 g c =
    let (some, within, short, valid, spelled) = c.in-Characters.ensures in
    let size : length (take c.in-Characters.valid c.in-Characters.units) ≡ c.in-Characters.valid = length-take-le _ _ within in
    let bytes = spelled ∙ ap (λ n. take (2 * n) (take c.followed_by-count.result.1 c.followed_by-count.result.0)) (sym size) in
    let whole : 2 * length (take c.in-Characters.valid c.in-Characters.units) ≤ length (take c.followed_by-count.result.1 c.followed_by-count.result.0) =
    omega (arith, short, size) in
    let less = fewer_pending c.args.order g.U.CodeUnit.encode g.U.CodeUnit.need _ _ _ _ c.args.last c.requires.pending c.followed_by-count.ensures.bytes _ _ _ _
    c.write-taken.ensures bytes whole c.if-taken-eq0.false in
    rw (c.len-before.ensures.length, c.none.ensures) (
      omega (arith, less),
      refl,
      window_advances c.args.order g.U.CodeUnit.encode g.U.CodeUnit.need _ _ _ _ c.args.last c.requires.pending c.followed_by-count.ensures.bytes _ _ _ _
          c.write-taken.ensures bytes whole c.if-taken-eq0.false,
    )

pub returns-then-dst-max_units_per_scalar : goal.returns-then-dst-max_units_per_scalar
returns-then-dst-max_units_per_scalar g c =
    unpaired_full c.args.order g.U.CodeUnit.encode g.U.CodeUnit.need _ _ _ _ _ c.requires.pending c.followed_by-count.ensures.bytes
    c.in-Unpaired.ensures.0 c.in-Unpaired.ensures.1 (omega (arith, c.if-dst-max_units_per_scalar.true, c.max_units_per_scalar.ensures.dst_length))

pub returns-then-before-lt3 : goal.returns-then-before-lt3
returns-then-before-lt3 g c =
    rw (c.len-before.ensures.length, c.none-then-before-lt3.ensures)
    (unpaired_read c.args.order g.U.CodeUnit.encode g.U.CodeUnit.need _ _ _ _ _ c.requires.pending c.followed_by-count.ensures.bytes
    c.in-Unpaired.ensures.0 c.in-Unpaired.ensures.1 (omega (arith, c.if-before-lt3.true, c.len-before.ensures.length))
    (omega (arith, c.if-dst-max_units_per_scalar.false, c.max_units_per_scalar.ensures.dst_length)))

pub returns-else-before-lt3 : goal.returns-else-before-lt3
returns-else-before-lt3 g c =
    unpaired_pending c.args.order g.U.CodeUnit.encode g.U.CodeUnit.need _ _ _ _ _ c.requires.pending c.followed_by-count.ensures.bytes
    c.in-Unpaired.ensures.0 c.in-Unpaired.ensures.1 (omega (arith, c.if-before-lt3.false, c.len-before.ensures.length))
    (omega (arith, c.if-dst-max_units_per_scalar.false, c.max_units_per_scalar.ensures.dst_length)) c.followed_by-count.result.0 _
    c.followed_by-count.result.1 refl
    (omega (arith, c.if-before-lt3.false, c.len-before.ensures.length, c.followed_by-count.ensures.count)) c.hold.ensures

pub returns-then-not-last : goal.returns-then-not-last
returns-then-not-last g c =
    let joined = c.followed_by-count.ensures in
    let none : c.args.last ≡ true → length (take c.followed_by-count.result.1 c.followed_by-count.result.0) ≡ 0 = λ marked. elim c.then-not-last.branch [
      | then-not-last-via-then-not-last w ↦ absurd (both_ways _ w.if-not-last.true marked)
      | then-not-last-via-else-not-last+then-count-eq0 w ↦
          omega (arith, w.if-count-eq0.true, length-take c.followed_by-count.result.1 c.followed_by-count.result.0)
    ] in
    pending_whole c.args.order g.U.CodeUnit.encode g.U.CodeUnit.need _ _ _ _ _ c.requires.pending joined.bytes c.in-Incomplete.ensures _
    c.of.ensures none

pub returns-then-dst-max_units_per_scalar-2 : goal.returns-then-dst-max_units_per_scalar-2
returns-then-dst-max_units_per_scalar-2 g c =
    let joined = c.followed_by-count.ensures in
    let size = window_length _ _ c.followed_by-count.result.0 _ joined.count joined.bytes in
    let unread : length c.args.src.now ≢ 0 = eqb-false _ _ (sym c.is_empty.ensures ∙ c.if-not-is_empty.true) in
    cut_full c.args.order g.U.CodeUnit.encode g.U.CodeUnit.need _ _ _ _ _ c.requires.pending joined.bytes c.in-Incomplete.ensures c.if-not-last.false
    (omega (arith, c.if-count-eq0.false, size)) (omega (arith, unread))
    (omega (arith, c.if-dst-max_units_per_scalar-2.true, c.max_units_per_scalar-then-not-is_empty.ensures.dst_length))

pub returns-else-not-is_empty : goal.returns-else-not-is_empty
returns-else-not-is_empty g c =
    let joined = c.followed_by-count.ensures in
    let size = window_length _ _ c.followed_by-count.result.0 _ joined.count joined.bytes in
    let room : 0 < length c.args.src.now → g.U.CodeUnit.need ≤ length c.args.dst.now = λ some. elim c.else-not-is_empty.branch [
      | else-not-is_empty-via-then-not-is_empty+else-dst-max_units_per_scalar-2 w ↦
          omega (arith, w.if-dst-max_units_per_scalar-2.false, w.max_units_per_scalar-then-not-is_empty.ensures.dst_length)
      | else-not-is_empty-via-else-not-is_empty w ↦
          let none : length c.args.src.now ≡ 0 = eqb-true _ _ (sym c.is_empty.ensures ∙ w.if-not-is_empty.false) in
          absurd (omega (arith, some, none))
    ] in
    rw c.none-in-Incomplete.ensures
    (cut_report c.args.order g.U.CodeUnit.encode g.U.CodeUnit.need _ _ _ _ _ c.requires.pending joined.bytes c.in-Incomplete.ensures _ c.if-not-last.false
    (omega (arith, c.if-count-eq0.false, size)) (sym size) room)
