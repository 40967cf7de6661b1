use Rattle.std.proofs.Common.{arith, subst, sym}
use Rattle.std.specs.Str.{IsUtf8}
use Rattle.std.proofs.lemmas.List.{take_rest}
use Rattle.encoding_kernels.proofs.Utf8ToUtf16LoopLemmas.{putting_all, putting_rest}
use Rattle.encoding_text.proofs.ConvertingLemmas.{putting_ascii}
use Rattle.encoding_text.proofs.mem.to_utf16.convert_long_text.Goals as goal

pub returns-then-ascii-src : goal.returns-then-ascii-src
returns-then-ascii-src c =
    let ascii = c.unpack_ascii_prefix-ascii.ensures in
    let start = putting_ascii _ _ _ _ c.requires.text ascii.prefix ascii.copied in
    putting_all _ _ _ _ _ c.requires.text c.requires.dst_length (omega (arith, c.if-ascii-src.true)) start

pub convert_text-requires-2-clause-text : goal.convert_text-requires-2-clause-text
convert_text-requires-2-clause-text c =
    let ascii = c.unpack_ascii_prefix-ascii.ensures in
    let start = putting_ascii _ _ _ _ c.requires.text ascii.prefix ascii.copied in
    subst IsUtf8 (sym (take_rest c.args.src.now c.unpack_ascii_prefix-ascii.result)) start.rest

pub returns : goal.returns
returns c =
    let ascii = c.unpack_ascii_prefix-ascii.ensures in
    let start = putting_ascii _ _ _ _ c.requires.text ascii.prefix ascii.copied in
    let rest = rw (take_rest c.args.src.now c.unpack_ascii_prefix-ascii.result) at c.convert_text-2.ensures in
    putting_rest _ _ _ _ _ _ _ c.requires.text c.requires.dst_length (omega arith) start rest
