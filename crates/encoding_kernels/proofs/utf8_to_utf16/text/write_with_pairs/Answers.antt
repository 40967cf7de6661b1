use Rattle.std.proofs.Common.{◌*◌, ◌<◌, Bool, arith, false, get_or, ltb, true}
use Rattle.std.proofs.lemmas.List.{take_rest}
use Rattle.encoding_kernels.proofs.Utf8ToUtf16LoopLemmas.{due_block, putting_first, putting_more, putting_some}
use Rattle.encoding_kernels.proofs.utf8_to_utf16.text.write_with_pairs.Goals as goal
use mir.Val.{bool_byte}

-- a bit is 0 or 1
bit : (b : Bool) → bool_byte b < 2
bit true = omega arith
bit false = omega arith

pub bounds-src-read : goal.bounds-src-read
bounds-src-read c = omega (arith, c.leading_triples-count.ensures.within, c.requires.dst_length)

pub bounds-src-read-then-are_bytes_below : goal.bounds-src-read-then-are_bytes_below
bounds-src-read-then-are_bytes_below c = omega (
  arith,
  c.leading_triples-count.ensures.within,
  c.requires.dst_length,
  c.from.ensures,
  bit (ltb (get_or c.args.src.now (3 * c.leading_triples-count.result) 0) 0x80),
)

pub overflow_add-read : goal.overflow_add-read
overflow_add-read c = omega (
  arith,
  c.leading_triples-count.ensures.within,
  c.from.ensures,
  bit (ltb (get_or c.args.src.now (3 * c.leading_triples-count.result) 0) 0x80),
)

pub write_mark_and_character-bytes-requires-clause-dst_length : goal.write_mark_and_character-bytes-requires-clause-dst_length
write_mark_and_character-bytes-requires-clause-dst_length c = omega (arith, c.leading_triples-count.ensures.within, c.requires.dst_length)

pub returns-then-src-read-ge-FOUR_BYTES-clause-written : goal.returns-then-src-read-ge-FOUR_BYTES-clause-written
returns-then-src-read-ge-FOUR_BYTES-clause-written c =
    let count = c.leading_triples-count in
    let due = due_block c.args.src.now c.args.dst.now c.write_triples.new.dst (3 * count.result) count.result 8 c.requires.text
    (omega (arith, count.ensures.within, c.requires.dst_length)) c.write_triples.ensures in
    let puts = rw (take_rest c.args.src.now (3 * count.result)) at c.write_mark_and_character-bytes.ensures.written in
    putting_some (putting_more _ _ _ _ _ _ _ _ (omega (arith, count.ensures.within, c.requires.dst_length))
    (putting_first _ _ _ _ _ c.requires.text due) puts)
