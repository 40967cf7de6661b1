use Rattle.std.proofs.Common.{◌≡◌, ℕ, ◌+◌, ◌-◌, ◌<◌, ◌≤◌, List, arith, drop, get_or, inl, inr, length}
use Rattle.std.proofs.Common.{length-drop, length-take, ltb, map, refl, subst, sym, take, w8}
use Rattle.std.proofs.lemmas.Bool.{cases_lt}
use Rattle.std.specs.Str.{IsUtf8}
use Rattle.std.proofs.lemmas.List.{take_rest}
use Rattle.std.proofs.lemmas.Str.{IsCharBoundary-before_ascii}
use Rattle.encoding_kernels.proofs.GroupLemmas.{below_each, both_below, group_first, group_whole}
use Rattle.encoding_kernels.proofs.MaskLemmas.{chosen_by, tests_of}
use Rattle.encoding_kernels.proofs.Utf8ToUtf16LoopLemmas.{due_block, due_exact, putting_more, putting_some}
use Rattle.encoding_kernels.proofs.VectorLemmas.{HasLanes_load, compared}
use Rattle.encoding_kernels.specs.Scans.{BelowBetween, BelowUpTo}
use Rattle.encoding_kernels.proofs.utf8_to_utf16.text.convert_groups.Goals as goal
use lib.Lanes.{chunk, sel_l, top, zip2}

abbrev greater : List ℕ → List ℕ → List ℕ
greater xs ys = sel_l (map (top 7) (zip2 (compared w8 ltb) xs ys)) ys xs

-- the greatest bytes of the last three strides
abbrev last : List ℕ → List ℕ
last src = greater (greater (chunk 16 16 src) (chunk 32 16 src)) (chunk 48 16 src)

ascii_from_16 : (src : List ℕ) → 64 ≤ length src → ((i : ℕ) → i < 16 → get_or (last src) i 0 < 0x80) → BelowBetween 0x80 src 16 64
ascii_from_16 src room =
    let second = HasLanes_load 16 16 src (omega arith) in
    let third = HasLanes_load 32 16 src (omega arith) in
    let fourth = HasLanes_load 48 16 src (omega arith) in
    let two = chosen_by (tests_of w8 ltb second third) third second in
    below_each 0x80 src _ (chosen_by (tests_of w8 ltb two fourth) fourth two)

below_64 : (src : List ℕ) → 64 ≤ length src → ((i : ℕ) → i < 16 → get_or (greater (chunk 0 16 src) (last src)) i 0 < 0xF0) → BelowUpTo 0xF0 src 64
below_64 src room low k l =
    let there : 0 + k ≡ k = omega arith in
    let first = HasLanes_load 0 16 src (omega arith) in
    let second = HasLanes_load 16 16 src (omega arith) in
    let third = HasLanes_load 32 16 src (omega arith) in
    let fourth = HasLanes_load 48 16 src (omega arith) in
    let two = chosen_by (tests_of w8 ltb second third) third second in
    let rest = chosen_by (tests_of w8 ltb two fourth) fourth two in
    let greatest = chosen_by (tests_of w8 ltb first rest) rest first in
    let both = λ (i : ℕ) (h : i < 16). both_below 0xF0 _ _ (subst (λ x. x < 0xF0) (greatest.each i h) (low i h)) in
    elim (cases_lt k 16) [
      | inl b ↦ subst (λ n. get_or src n 0 < 0xF0) there (both k b).0
      | inr b ↦ below_each 0xF0 src _ rest (λ i h. subst (λ x. x < 0xF0) (sym (rest.each i h)) (both i h).1) k b l
    ]

-- the text that is left
room_left : (src : List ℕ) (read : ℕ) → 88 ≤ length src - read → 64 ≤ length (take (length src - read) (drop read src))
room_left src read room = omega (arith, length-take (length src - read) (drop read src), length-drop read src)

pub write_stride-written-requires-clause-short : goal.write_stride-written-requires-clause-short
write_stride-written-requires-clause-short c _ k l =
    below_64 _ (room_left c.args.src.now c.loop-read.read c.loop-read-test.true) (c.is_below-is_short.ensures c.if-not-is_short.false) k (omega (arith, l))

pub write_group-bytes-requires-clause-short : goal.write_group-bytes-requires-clause-short
write_group-bytes-requires-clause-short c _ =
    below_64 _ (room_left c.args.src.now c.loop-read.read c.loop-read-test.true) (c.is_below-is_short.ensures c.if-not-is_short.false)

pub loop-read-preserved-then-begins_triples : goal.loop-read-preserved-then-begins_triples
loop-read-preserved-then-begins_triples c =
    let l = c.loop-read in
    let puts = rw (take_rest c.args.src.now l.read) at c.write_triples.ensures in
    putting_more _ _ _ _ _ _ _ _ (omega arith) l.invariant
    (due_exact (drop l.read c.args.src.now) _ c.write_triples.new.dst _ _ l.invariant.rest puts)

pub loop-read-preserved-then-not-is_short : goal.loop-read-preserved-then-not-is_short
loop-read-preserved-then-not-is_short c =
    let puts = rw (take_rest c.args.src.now c.loop-read.read) at c.write_with_pairs-bytes.ensures.written in
    putting_more _ _ _ _ _ _ _ _ (omega arith) c.loop-read.invariant puts

pub loop-read-preserved : goal.loop-read-preserved
loop-read-preserved c =
    let puts = rw (take_rest c.args.src.now c.loop-read.read) at c.write_group-bytes.ensures.written in
    putting_more _ _ _ _ _ _ _ _ (omega arith) c.loop-read.invariant puts

pub returns-then-before_ascii-clause-written : goal.returns-then-before_ascii-clause-written
returns-then-before_ascii-clause-written c =
    let src = c.args.src.now in
    let l = c.loop-read in
    let write = c.write_stride-written in
    let rest = take (length src - l.read) (drop l.read src) in
    let old = take (length l.dst - l.written) (drop l.written l.dst) in
    let text = subst IsUtf8 (sym (take_rest src l.read)) l.invariant.rest in
    let ascii = ascii_from_16 rest (room_left src l.read c.loop-read-test.true) (c.is_below-before_ascii.ensures c.if-before_ascii.true) in
    let stored = group_first rest old write.new.dst 16 16 _ _ refl write.auto.dst write.ensures in
    let puts = due_block rest old write.new.dst 16 _ _ text (omega arith)
    (group_whole rest old write.new.dst 16 _ _ text (IsCharBoundary-before_ascii rest 16
    (omega (arith, length-take (length src - l.read) (drop l.read src), length-drop l.read src)) (ascii 16 (omega arith) (omega arith))) stored) in
    putting_some (putting_more _ _ _ _ _ _ _ _ (omega arith) l.invariant (rw (take_rest src l.read) at puts))
