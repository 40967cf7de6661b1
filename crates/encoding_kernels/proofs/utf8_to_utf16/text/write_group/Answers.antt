use Rattle.std.proofs.Common.{ℕ, ◌≡◌, ◌≤◌, ◌*◌, ◌+◌, ◌-◌, arith, drop, length, refl}
use Rattle.std.proofs.lemmas.List.{length-drop, length-take}
use Rattle.encoding_kernels.specs.EndingUnits.{WritesUtf16}
use Rattle.encoding_kernels.proofs.GroupLemmas.{group_first, group_more, group_text, group_whole}
use Rattle.encoding_kernels.proofs.Utf8ToUtf16LoopLemmas.{due_block}
use borrow.Rule.Slice.PartMut.{put_mid}
use Rattle.encoding_kernels.proofs.utf8_to_utf16.text.write_group.Goals.{then-this-lt4, else-this-lt4}
use Rattle.encoding_kernels.proofs.utf8_to_utf16.text.write_group.Goals as goal

pub loop-stride-init : goal.loop-stride-init
loop-stride-init g c = group_first c.args.src.now c.args.dst.now c.write_stride-written.new.dst 16 16 _ _ refl c.write_stride-written.auto.dst
    c.write_stride-written.ensures

pub loop-stride-preserved : goal.loop-stride-preserved
loop-stride-preserved g c =
    let l = c.loop-stride in
    let same = c.write_stride-written-in-loop-stride.auto.dst in
    group_more c.args.src.now c.args.dst.now l.dst c.write_stride-written-in-loop-stride.new.dst (16 * l.stride) 16 (16 * l.stride + 0)
    (16 * (l.stride + 1)) l.written _ 8 (omega arith) (omega arith)
    (omega arith) (omega arith) (omega (arith, same, length-take (length l.dst - l.written) (drop l.written l.dst), length-drop l.written l.dst)) l.invariant
    c.write_stride-written-in-loop-stride.ensures

pub returns-clause-written : goal.returns-clause-written
returns-clause-written g c =
    let src = c.args.src.now in
    let old = c.args.dst.now in
    let l = c.loop-stride in
    let end = c.whole_end-end.result in
    let to = c.if-this-lt4.to in
    let boundary = c.whole_end-end.ensures.end.2 in
    let same = c.write_stride.auto.dst in
    let last = λ (next : ℕ) (e : 48 + to ≡ next) (room : next ≤ length src). group_more src old l.dst c.write_stride.new.dst (16 * l.stride) (to - 0) 48 next
    l.written c.write_stride.result 8 (omega arith) (omega (arith, e)) room (omega arith)
    (omega (arith, same, length-take (length l.dst - l.written) (drop l.written l.dst), length-drop l.written l.dst)) l.invariant c.write_stride.ensures in
    let text : WritesUtf16 src old (put_mid l.written (length l.dst - l.written) l.dst c.write_stride.new.dst) end (l.written + c.write_stride.result)
    (l.written + c.write_stride.result + 8) = elim c.if-this-lt4.branch [
      | then-this-lt4 w ↦
          group_text src old _ end 64 _ _ c.requires.text c.whole_end-end.ensures.end.1 (omega arith) boundary (c.whole_end-end.ensures.cut w.if-this-lt4.true)
          (last 64 (omega (arith, w.to-is)) (omega arith))
      | else-this-lt4 w ↦ group_whole src old _ end _ _ c.requires.text boundary (last end (omega (arith, w.to-is)) (omega arith))
    ] in
    due_block src old _ end _ _ c.requires.text (omega arith) text
