use Rattle.std.proofs.Common.{ℕ, List, ◌≡◌, ◌≤◌, ◌+◌, ◌-◌, arith, drop, length, refl, subst}
use Rattle.std.specs.Char.Escape.{encode_utf16}
use Rattle.std.specs.List.{flat_map}
use Rattle.std.specs.Str.{IsUtf8, chars}
use Rattle.std.proofs.lemmas.List.{length-drop, length-take, take_all}
use Rattle.std.proofs.lemmas.Str.{IsCharBoundary-end}
use Rattle.encoding_definitions.specs.Prefixes.{WritesPrefix}
use Rattle.encoding_kernels.specs.EndingUnits.{StoresUnits, WritesCompressed}
use Rattle.encoding_kernels.proofs.GroupLemmas.{group_first, group_more, group_whole}
use Rattle.encoding_kernels.proofs.Utf8ToUtf16LoopLemmas.{puts_whole}
use Rattle.encoding_kernels.proofs.utf8_to_utf16.strides.write_strides.Goals as goal

whole : (src old new : List ℕ) (written at : ℕ) → at ≡ length src → IsUtf8 src → length src ≤ length old → StoresUnits src old new at written (written + 0)
    → WritesPrefix old new written (flat_map encode_utf16 (chars src))
whole src old new written at end u room s =
    let n = length src in
    puts_whole src src old new n written u (take_all n src (omega arith)) room
    (group_whole src old new n written written u (IsCharBoundary-end src)
    (subst (λ k. StoresUnits src old new k written written) end (subst (λ m. StoresUnits src old new at written m) (omega arith) s)))

pub loop-at-init : goal.loop-at-init
loop-at-init g c = (
  omega arith,
  omega arith,
  group_first c.args.src.now c.args.dst.now c.write_stride-written.new.dst 16 16 _ _ refl c.write_stride-written.auto.dst
      c.write_stride-written.ensures,
)

pub loop-at-preserved : goal.loop-at-preserved
loop-at-preserved g c =
    let l = c.loop-at in
    let same = c.write_stride-written-in-loop-at.auto.dst in (
      omega arith,
      omega arith,
      group_more c.args.src.now c.args.dst.now l.dst c.write_stride-written-in-loop-at.new.dst l.at 16 (l.at + 0) (l.at + 16) l.written _ 0 (omega arith)
          (omega arith) (omega arith) (omega arith)
          (omega (arith, same, length-take (length l.dst - l.written) (drop l.written l.dst), length-drop l.written l.dst)) l.invariant.2
          c.write_stride-written-in-loop-at.ensures,
    )

pub returns-then-at-src : goal.returns-then-at-src
returns-then-at-src g c = whole _ _ _ _ c.loop-at.at (omega arith) c.requires.text c.requires.dst_length.1 c.loop-at.invariant.2

pub returns : goal.returns
returns g c =
    let l = c.loop-at in
    let n = length c.args.src.now in
    let same = c.write_stride.auto.dst in
    whole _ _ _ _ _ refl c.requires.text c.requires.dst_length.1
    (group_more c.args.src.now c.args.dst.now l.dst c.write_stride.new.dst l.at (16 - (l.at - (n - 16))) (n - 16 + (l.at - (n - 16))) n l.written _ 0
    (omega arith) (omega arith) (omega arith) (omega arith)
    (omega (arith, same, length-take (length l.dst - l.written) (drop l.written l.dst), length-drop l.written l.dst)) l.invariant.2
    (subst (WritesCompressed _ _ _ _ c.write_stride.result) (omega arith) c.write_stride.ensures))
