use Rattle.std.proofs.Common.{arith, refl}
use Rattle.encoding_kernels.proofs.Utf16ToUtf8Lemmas.{bmp_more, writes_none}
use Rattle.encoding_kernels.proofs.utf16_to_utf8.bytes.convert_ascii_and_blocks.Goals as goal

pub loop-read-init : goal.loop-read-init
loop-read-init g c = writes_none _ c.args.dst.now

pub loop-read-preserved : goal.loop-read-preserved
loop-read-preserved g c =
    let ascii = bmp_more c.skip.ensures c.loop-read.invariant c.copy_ascii_prefix-ascii.ensures in
    bmp_more c.skip-in-loop-read.ensures ascii (c.convert_blocks-units.ensures.restored refl)

pub loop-read-smaller : goal.loop-read-smaller
loop-read-smaller g c =
    let ascii = bmp_more c.skip.ensures c.loop-read.invariant c.copy_ascii_prefix-ascii.ensures in
    let all = bmp_more c.skip-in-loop-read.ensures ascii (c.convert_blocks-units.ensures.restored refl) in
    omega (arith, all.within, c.if-units-eq0.false)

pub returns-then-read-count : goal.returns-then-read-count
returns-then-read-count g c = bmp_more c.skip.ensures c.loop-read.invariant c.copy_ascii_prefix-ascii.ensures

pub returns-then-units-eq0 : goal.returns-then-units-eq0
returns-then-units-eq0 g c =
    let ascii = bmp_more c.skip.ensures c.loop-read.invariant c.copy_ascii_prefix-ascii.ensures in
    bmp_more c.skip-in-loop-read.ensures ascii (c.convert_blocks-units.ensures.restored refl)

pub overflow_add-read : goal.overflow_add-read
overflow_add-read g c =
    let ascii = bmp_more c.skip.ensures c.loop-read.invariant c.copy_ascii_prefix-ascii.ensures in
    omega (arith, ascii.within, c.count-count.ensures.count)

pub overflow_add-read-in-loop-read : goal.overflow_add-read-in-loop-read
overflow_add-read-in-loop-read g c =
    let ascii = bmp_more c.skip.ensures c.loop-read.invariant c.copy_ascii_prefix-ascii.ensures in
    let all = bmp_more c.skip-in-loop-read.ensures ascii (c.convert_blocks-units.ensures.restored refl) in
    omega (arith, all.within, c.count-count.ensures.count)
