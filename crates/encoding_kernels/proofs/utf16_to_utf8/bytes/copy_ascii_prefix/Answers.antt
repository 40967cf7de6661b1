use Rattle.std.proofs.Common.{◌≡◌, ℕ, List, ap, arith, length, length-take, subst, take}
use denote.Param.{number}
use Rattle.encoding_kernels.specs.UnitBytes.{bytes_in, units_of}
use Rattle.encoding_kernels.specs.Scans.{BelowUpTo}
use Rattle.encoding_definitions.specs.Prefixes.{WritesPrefix}
use Rattle.encoding_kernels.specs.contracts.utf16_to_utf8.bytes.copy_ascii_prefix.{BIG-type}
use Rattle.encoding_kernels.proofs.UnitBytesLemmas.{length-units_of}
use Rattle.encoding_kernels.proofs.UpToSurrogateLemmas.{ascii_first}
use Rattle.encoding_kernels.proofs.Utf16ToUtf8Lemmas.{writes_none}
use Rattle.encoding_kernels.proofs.utf16_to_utf8.bytes.copy_ascii_prefix.Goals as goal

pub returns-then-count-eq0 : goal.returns-then-count-eq0
returns-then-count-eq0 g c = writes_none _ c.args.dst.now

pub returns : goal.returns
returns g c =
    let copied = c.copy_ascii_units.ensures in
    let bytes : c.as_flattened.result.now ≡ bytes_in c.args.src.pairs.now = c.as_flattened.ensures.value in
    let us = λ (bs : List ℕ). units_of (BIG-type (number g.row.BIG)) bs in
    ascii_first (us (bytes_in c.args.src.pairs.now)) c.args.dst.now _ c.min-count.result _
    (omega (arith, copied.within, c.min-count.ensures, c.count.ensures.count, length-take c.min-count.result c.args.dst.now))
    (subst (λ bs. BelowUpTo 0x80 (us bs) c.copy_ascii_units.result) bytes copied.below)
    (subst (λ bs. WritesPrefix (take c.min-count.result c.args.dst.now) c.copy_ascii_units.new.dst c.copy_ascii_units.result
    (take c.copy_ascii_units.result (us bs))) bytes copied.copied)

pub copy_ascii_units-requires : goal.copy_ascii_units-requires
copy_ascii_units-requires g c = omega (
  arith,
  c.min-count.ensures,
  c.count.ensures.count,
  length-take c.min-count.result c.args.dst.now,
  length-units_of (BIG-type (number g.row.BIG)) (bytes_in c.args.src.pairs.now),
  ap length c.as_flattened.ensures.value,
)
