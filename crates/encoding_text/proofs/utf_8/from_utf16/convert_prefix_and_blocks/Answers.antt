use Rattle.std.proofs.Common.{arith, rules}
use Rattle.encoding_definitions.specs.Utf16.{AreCodeUnits}
use Rattle.encoding_kernels.proofs.OverwriteLemmas.{ascii_plain}
use Rattle.encoding_kernels.proofs.Utf16ToUtf8Lemmas.{converts_bmp, converts_more, converts_more_scalars, converts_prefix, converts_unchanged}
use Rattle.encoding_text.proofs.utf_8.from_utf16.convert_prefix_and_blocks.Goals as goal

pub returns-then-prefix-src : goal.returns-then-prefix-src
returns-then-prefix-src c =
    let us = c.args.src.now in
    let units : AreCodeUnits us = λ k. omega (arith, c.type_inv.src k) in
    let call = c.copy_ascii-prefix.ensures in
    let all = converts_bmp us units (ascii_plain call.within.0 call.ascii call.copied) in
    record { prefix = converts_prefix us units all; unchanged_after = converts_unchanged us units all; within = all.within; progress = λ t. cc }

pub returns-then-src-read-lt-BASIC_LATIN_END : goal.returns-then-src-read-lt-BASIC_LATIN_END
returns-then-src-read-lt-BASIC_LATIN_END c =
    let us = c.args.src.now in
    let units : AreCodeUnits us = λ k. omega (arith, c.type_inv.src k) in
    let call = c.copy_ascii-prefix.ensures in
    let next = c.convert_blocks-units.ensures in
    let all = converts_more us units (converts_bmp us units (ascii_plain call.within.0 call.ascii call.copied)) next.prefix next.unchanged_after next.within in
    record { prefix = converts_prefix us units all; unchanged_after = converts_unchanged us units all; within = all.within; progress = λ t. omega arith }

pub returns-then-not-is_pair : goal.returns-then-not-is_pair
returns-then-not-is_pair c =
    let us = c.args.src.now in
    let units : AreCodeUnits us = λ k. omega (arith, c.type_inv.src k) in
    let call = c.copy_ascii-prefix.ensures in
    let next = c.convert_blocks-units.ensures in
    let all = converts_more us units (converts_bmp us units (ascii_plain call.within.0 call.ascii call.copied)) next.prefix next.unchanged_after next.within in
    record { prefix = converts_prefix us units all; unchanged_after = converts_unchanged us units all; within = all.within; progress = λ t. cc }

pub returns : goal.returns
returns c =
    let us = c.args.src.now in
    let units : AreCodeUnits us = λ k. omega (arith, c.type_inv.src k) in
    let call = c.copy_ascii-prefix.ensures in
    let next = c.convert_blocks-units.ensures in
    let last = c.convert_paired_blocks-paired.ensures in
    let some = converts_more us units (converts_bmp us units (ascii_plain call.within.0 call.ascii call.copied)) next.prefix next.unchanged_after next.within in
    let all = converts_more_scalars us units some last in
    record { prefix = converts_prefix us units all; unchanged_after = converts_unchanged us units all; within = all.within; progress = search rules }
