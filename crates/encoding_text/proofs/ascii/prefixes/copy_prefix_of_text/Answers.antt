use Rattle.std.proofs.Common.{ℕ, ◌+◌, ◌-◌, ◌≤◌, List, length, drop, take, inl, inr, arith, refl, subst}
use Rattle.std.specs.Str.{IsAscii}
use Rattle.std.proofs.lemmas.List.{take_rest, length-take, take-take}
use borrow.Rule.Slice.PartMut.{put_mid}
use Rattle.encoding_definitions.specs.Prefixes.{IsLongestPrefix, WritesPrefix}
use Rattle.encoding_kernels.proofs.Utf8ToUtf16LoopLemmas.{Putting, due_ascii, putting_more, putting_prefix}
use Rattle.encoding_kernels.proofs.Utf8ToUtf16LoopLemmas.{putting_some, unpacked_none, unpacked_part, unpacked_prefix}
use Rattle.encoding_kernels.specs.Scans.{IsRunBelow}
use Rattle.encoding_text.proofs.ascii.prefixes.copy_prefix_of_text.Goals as goal

pub loop-at-init : goal.loop-at-init
loop-at-init c = unpacked_none _ _

pub loop-at-preserved : goal.loop-at-preserved
loop-at-preserved c =
    let all : IsRunBelow 0x80 c.args.src.now c.loop-at.at 64 64 = record {
      within = omega arith;
      pass = c.if-not-are_bytes_below.ensures.0 refl;
      stops =
          λ l. absurd (omega arith);
    } in
    unpacked_part _ _ _ _ _ _ _ c.requires.text (omega arith) (inl refl) c.requires.dst_length c.loop-at.invariant all c.unpack_block-in-loop-at.ensures

pub returns-then-not-are_bytes_below : goal.returns-then-not-are_bytes_below
returns-then-not-are_bytes_below c =
    unpacked_prefix _ _ _ _ c.requires.text
    (unpacked_part _ _ _ _ _ _ _ c.requires.text (omega arith)
    (inr (omega arith)) c.requires.dst_length c.loop-at.invariant c.run_len_below-run.ensures c.unpack_block.ensures)

pub returns-then-run-lt-STRIDE : goal.returns-then-run-lt-STRIDE
returns-then-run-lt-STRIDE c =
    unpacked_prefix _ _ _ _ c.requires.text
    (unpacked_part _ _ _ _ _ _ _ c.requires.text (omega arith)
    (inr (omega arith)) c.requires.dst_length c.loop-at-2.invariant c.run_len_below-run-in-loop-at-2.ensures c.unpack.ensures)

pub loop-at-2-preserved : goal.loop-at-2-preserved
loop-at-2-preserved c =
    unpacked_part _ _ _ _ _ _ _ c.requires.text (omega arith)
    (inl (omega arith)) c.requires.dst_length c.loop-at-2.invariant c.run_len_below-run-in-loop-at-2.ensures c.unpack-in-loop-at-2.ensures

pub returns-then-at-src : goal.returns-then-at-src
returns-then-at-src c = unpacked_prefix _ _ _ _ c.requires.text c.loop-at-2.invariant

-- an exact ASCII prefix more
ascii_after : (src old new sub : List ℕ) (read written n : ℕ) → written ≤ length new → Putting src old new read written
    → IsLongestPrefix IsAscii (take (length (take (length new - written) (drop written new))) (take (length src - read) (drop read src))) n
    → WritesPrefix (take (length new - written) (drop written new)) sub n (take n (take (length src - read) (drop read src)))
    → Putting src old (put_mid written (length new - written) new sub) (read + n) (written + n)
ascii_after src old new sub read written n room d p w =
    let bytes = drop read src in
    let m = length (take (length new - written) (drop written new)) in
    let prefix : IsLongestPrefix IsAscii (take m bytes) n = subst (λ xs. IsLongestPrefix IsAscii (take m xs) n) (take_rest src read) p in
    let within : n ≤ length (take m bytes) = prefix.within in
    let ascii : IsAscii (take n bytes) = subst IsAscii (take-take n m bytes (omega (arith, within, length-take m bytes))) prefix.kind in
    let written_to : WritesPrefix (take (length new - written) (drop written new)) sub n (take n bytes) =
    subst (λ xs. WritesPrefix (take (length new - written) (drop written new)) sub n (take n xs)) (take_rest src read) w in
    putting_more src old new sub read written n n room d (due_ascii bytes _ sub n d.rest (omega (arith, within, length-take m bytes)) ascii written_to)

pub returns : goal.returns
returns c =
    let d = putting_prefix _ _ _ _ c.requires.text c.loop-at-2.invariant in
    let exact = c.copy_to_basic_latin.ensures in
    putting_some
    (ascii_after _ _ _ _ _ _ _ (omega (arith, c.loop-at-2.invariant.within, c.loop-at-2.invariant.same, c.requires.dst_length)) d exact.prefix exact.copied)
