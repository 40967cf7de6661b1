use Rattle.std.proofs.Common.{◌≡◌, arith}
use Rattle.encoding_kernels.proofs.OverwriteLemmas.{spills_rest}
use Rattle.encoding_kernels.proofs.utf16_to_utf8.mixed.write_sixteen.Goals as goal

pub returns-clause-written : goal.returns-clause-written
returns-clause-written c =
    let stored = c.store_mixed-written.ensures.stored in
    let same : c.length_of_sixteen.result ≡ c.store_mixed-written.result = omega (arith, c.length_of_sixteen.ensures.count, stored.counted) in
    spills_rest c.args.dst.now c.store_mixed-written.new.dst _ c.args.at c.length_of_sixteen.result c.store_mixed-written.result same stored
    (omega (arith, c.requires.dst_length, c.store_mixed-written.ensures.length_bound))
