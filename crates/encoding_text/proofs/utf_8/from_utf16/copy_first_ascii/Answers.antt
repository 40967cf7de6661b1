use Rattle.std.proofs.Common.{ℕ, ◌≤◌, List, [], length, take, subst, sym, refl, arith}
use Rattle.std.specs.Str.{IsAscii}
use Rattle.std.proofs.lemmas.List.{take_all}
use Rattle.encoding_definitions.specs.Prefixes.{WritesPrefix}
use Rattle.encoding_definitions.specs.Utf16.{AreCodeUnits, IsUtf8OfPrefix}
use Rattle.encoding_kernels.proofs.OverwriteLemmas.{ascii_plain}
use Rattle.encoding_kernels.proofs.Utf16ToUtf8Lemmas.{converts_bmp, converts_prefix}
use Rattle.encoding_text.proofs.Latin1ConversionLemmas.{ascii_taken}
use Rattle.encoding_text.proofs.utf_8.from_utf16.copy_first_ascii.Goals as goal

-- ASCII is its own UTF-8
copied_ascii : (us old new : List ℕ) (n : ℕ) → AreCodeUnits us → n ≤ length us → IsAscii (take n us) → WritesPrefix old new n (take n us)
    → IsUtf8OfPrefix us n (take n new)
copied_ascii us old new n units within ascii w = converts_prefix us units (converts_bmp us units (ascii_plain within ascii w))

no_units : (us : List ℕ) → AreCodeUnits us → IsUtf8OfPrefix us 0 []
no_units us units = copied_ascii us [] [] 0 units (omega arith) (λ k. omega arith) (record { count = refl; fits = omega arith; placed = refl })

pub returns-then-not-begins_with_ascii-clause-prefix : goal.returns-then-not-begins_with_ascii-clause-prefix
returns-then-not-begins_with_ascii-clause-prefix c = no_units c.args.src.now (λ k. omega (arith, c.type_inv.src k))

pub returns-then-src-gt-UNIT_BLOCK-clause-prefix : goal.returns-then-src-gt-UNIT_BLOCK-clause-prefix
returns-then-src-gt-UNIT_BLOCK-clause-prefix c =
    let call = c.pack_blocks.ensures in
    copied_ascii c.args.src.now _ _ _ (λ k. omega (arith, c.type_inv.src k)) call.within (ascii_taken _ _ call.ascii) call.copied

pub returns-then-write_short_ascii_as_bytes-clause-prefix : goal.returns-then-write_short_ascii_as_bytes-clause-prefix
returns-then-write_short_ascii_as_bytes-clause-prefix c =
    let us = c.args.src.now in
    let call = c.write_short_ascii_as_bytes.ensures in
    let is = c.if-write_short_ascii_as_bytes.true in
    let all = sym (take_all (length us) us (omega arith)) in
    copied_ascii us _ _ (length us) (λ k. omega (arith, c.type_inv.src k)) (omega arith) (subst IsAscii all (call.0.0 is))
    (subst (WritesPrefix c.args.dst.now _ (length us)) all (call.1 is))

pub returns-clause-prefix : goal.returns-clause-prefix
returns-clause-prefix c = no_units c.args.src.now (λ k. omega (arith, c.type_inv.src k))
