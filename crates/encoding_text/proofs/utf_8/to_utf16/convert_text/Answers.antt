use Rattle.std.proofs.Common.{◌+◌, arith, subst, sym}
use Rattle.std.specs.Str.{IsUtf8}
use Rattle.std.proofs.lemmas.List.{take_rest}
use Rattle.encoding_kernels.proofs.Utf8ToUtf16LoopLemmas.{putting_all, putting_more}
use Rattle.encoding_text.proofs.utf_8.to_utf16.convert_text.Goals as goal

pub loop-read-preserved : goal.loop-read-preserved
loop-read-preserved c =
    let src = c.args.src.now in
    let prefix = rw (take_rest src c.loop-read.read) at c.copy_prefix_of_text-ascii.ensures in
    let ascii = putting_more _ _ _ _ _ _ _ _ (omega arith) c.loop-read.invariant prefix in
    let puts = rw (take_rest src (c.loop-read.read + c.copy_prefix_of_text-ascii.result)) at c.convert_valid_utf8_to_utf16-bytes.ensures.written in
    putting_more _ _ _ _ _ _ _ _ (omega arith) ascii puts

pub returns-then-read-src : goal.returns-then-read-src
returns-then-read-src c =
    let prefix = rw (take_rest c.args.src.now c.loop-read.read) at c.copy_prefix_of_text-ascii.ensures in
    putting_all _ _ _ _ _ c.requires.text c.requires.dst_length (omega arith) (putting_more _ _ _ _ _ _ _ _ (omega arith) c.loop-read.invariant prefix)

pub copy_prefix_of_text-ascii-requires-clause-text : goal.copy_prefix_of_text-ascii-requires-clause-text
copy_prefix_of_text-ascii-requires-clause-text c = subst IsUtf8 (sym (take_rest c.args.src.now c.loop-read.read)) c.loop-read.invariant.rest

pub convert_valid_utf8_to_utf16-bytes-requires-clause-text : goal.convert_valid_utf8_to_utf16-bytes-requires-clause-text
convert_valid_utf8_to_utf16-bytes-requires-clause-text c =
    let prefix = rw (take_rest c.args.src.now c.loop-read.read) at c.copy_prefix_of_text-ascii.ensures in
    let ascii = putting_more _ _ _ _ _ _ _ _ (omega arith) c.loop-read.invariant prefix in
    subst IsUtf8 (sym (take_rest c.args.src.now (c.loop-read.read + c.copy_prefix_of_text-ascii.result))) ascii.rest
