use Rattle.std.proofs.Common.{◌+◌, ◌++◌, take, drop, ap, ◌∙◌}
use Rattle.encoding_kernels.specs.UnitBytes.{units_of}
use Rattle.encoding_kernels.proofs.ScanLemmas.{run_taken, run_below, run_ends}
use Rattle.encoding_kernels.proofs.utf16.bytes.copy_ascii_of_sixteen.Goals as goal

pub returns-then-run-eq-STRIDE-clause-ascii : goal.returns-then-run-eq-STRIDE-clause-ascii
returns-then-run-eq-STRIDE-clause-ascii c =
    let run = c.units_run_len_below-run.ensures in
    run_below 16 c.args.at (units_of c.args.big c.args.src.now) c.sixteen_units.ensures c.units_run_len_below-run.result run.within run.pass

pub returns-else-run-eq-STRIDE-clause-ascii : goal.returns-else-run-eq-STRIDE-clause-ascii
returns-else-run-eq-STRIDE-clause-ascii c =
    let run = c.units_run_len_below-run.ensures in
    run_below 16 c.args.at (units_of c.args.big c.args.src.now) c.sixteen_units.ensures c.units_run_len_below-run.result run.within run.pass

pub returns-else-run-eq-STRIDE-clause-stops : goal.returns-else-run-eq-STRIDE-clause-stops
returns-else-run-eq-STRIDE-clause-stops c =
    run_ends 16 c.args.at (units_of c.args.big c.args.src.now) c.sixteen_units.ensures c.units_run_len_below-run.result c.units_run_len_below-run.ensures

pub returns-else-run-eq-STRIDE-clause-copied : goal.returns-else-run-eq-STRIDE-clause-copied
returns-else-run-eq-STRIDE-clause-copied c =
    let at = c.args.at in
    let run = c.units_run_len_below-run in
    c.pack_first.ensures
    ∙ ap (λ xs. take at c.args.dst.now ++ (xs ++ drop (at + run.result) c.args.dst.now))
    (run_taken 16 at (units_of c.args.big c.args.src.now) c.sixteen_units.ensures run.result run.ensures.within)
