use Rattle.std.proofs.Common.{length, arith}
use Rattle.encoding_definitions.proofs.Utf16PrefixLemmas.{IsUtf8-longest, prefix_all, join_longest, join_rest}
use Rattle.encoding_text.proofs.utf_8.from_utf16.convert_utf16_to_utf8_partial.Goals as goal

pub returns-then-read-src-clause-longest : goal.returns-then-read-src-clause-longest
returns-then-read-src-clause-longest c =
    let inner = c.convert_utf16_to_utf8_partial_inner-read.ensures in
    prefix_all c.args.src.now (length c.args.dst.now) _ _ inner.prefix c.if-read-src.true
    (omega (arith, inner.unchanged_after.count, inner.unchanged_after.fits))

pub returns-clause-longest : goal.returns-clause-longest
returns-clause-longest c =
    let inner = c.convert_utf16_to_utf8_partial_inner-read.ensures in
    let tail = c.convert_utf16_to_utf8_partial_tail-more.ensures in
    join_longest c.args.src.now _ _ _ _ _ _ _ inner.prefix inner.unchanged_after tail.longest tail.unchanged_after

pub returns-clause-unchanged_after : goal.returns-clause-unchanged_after
returns-clause-unchanged_after c =
    let inner = c.convert_utf16_to_utf8_partial_inner-read.ensures in
    let tail = c.convert_utf16_to_utf8_partial_tail-more.ensures in
    join_rest c.args.src.now _ _ _ _ _ _ _ inner.prefix inner.unchanged_after tail.longest tail.unchanged_after

pub returns-then-read-src-clause-text : goal.returns-then-read-src-clause-text
returns-then-read-src-clause-text c = IsUtf8-longest _ _ _ _ (returns-then-read-src-clause-longest c)

pub returns-clause-text : goal.returns-clause-text
returns-clause-text c = IsUtf8-longest _ _ _ _ (returns-clause-longest c)
