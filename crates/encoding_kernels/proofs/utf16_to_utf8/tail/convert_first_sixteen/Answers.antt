use Rattle.std.proofs.Common.{refl, ap, sym, ◌∙◌, ◌≤◌, arith, length}
use Rattle.encoding_definitions.proofs.PrefixesLemmas.{WritesPrefix-same}
use Rattle.encoding_kernels.proofs.Utf16ToUtf8Lemmas.{first_units_plain, first_units_written, first_units_bytes}
use Rattle.encoding_kernels.proofs.utf16_to_utf8.tail.convert_first_sixteen.Goals as goal

pub returns-then-dst-ge-ROOM-clause-written : goal.returns-then-dst-ge-ROOM-clause-written
returns-then-dst-ge-ROOM-clause-written g c =
    let us = g.S.CodeUnits.units c.args.src in
    let units = c.first_sixteen-units.result in
    let start = c.first_sixteen-units.ensures.1 in
    let plain = c.non_surrogate_prefix.ensures in
    let few : c.min-first.result ≤ 16 = omega (arith, c.min-first.ensures, plain.within) in
    let within : c.min-first.result ≤ length us = omega (arith, c.min-first.ensures) in
    let part = first_units_written us units _ _ few within start c.with_zeros-lanes.ensures c.write_mixed.result c.write_mixed.ensures.count in
    record {
      within = within;
      plain = first_units_plain us units _ _ few within start c.with_zeros-lanes.ensures (λ k l. plain.plain k (omega (arith, c.min-first.ensures)));
      written = WritesPrefix-same _ _ _ _ _ _ c.write_mixed.ensures.written refl part.1;
    }

pub returns-clause-written : goal.returns-clause-written
returns-clause-written g c =
    let us = g.S.CodeUnits.units c.args.src in
    let units = c.first_sixteen-units.result in
    let start = c.first_sixteen-units.ensures.1 in
    let plain = c.non_surrogate_prefix.ensures in
    let few : c.min-first.result ≤ 16 = omega (arith, c.min-first.ensures, plain.within) in
    let within : c.min-first.result ≤ length us = omega (arith, c.min-first.ensures) in
    let stored = c.store_mixed-stored.ensures in
    let part = first_units_bytes us units _ _ few within start c.with_zeros-lanes.ensures _ _ _ stored.stored stored.length_bound.0 in
    record {
      within = within;
      plain = first_units_plain us units _ _ few within start c.with_zeros-lanes.ensures (λ k l. plain.plain k (omega (arith, c.min-first.ensures)));
      written = WritesPrefix-same _ _ _ _ _ _ c.copy_prefix.ensures (ap length part.1 ∙ sym part.0) part.1;
    }
