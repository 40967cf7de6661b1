use Rattle.std.proofs.Common.{◌≡◌, ◌<◌, subst}
use Rattle.encoding_runs.specs.Repairs.{RepairsAll}
use Rattle.utf8_repair.proofs.ServiceLemmas.{both, prefix_written}
use Rattle.utf8_repair.proofs.service.repair_source.Goals as goal

pub returns-clause-served : goal.returns-clause-served
returns-clause-served g c =
    let e = c.repair-outcome.ensures in
    let status = c.status_of.ensures in
    record {
      unchanged = λ is.
          let (repaired, none, (bytes, read, less, all, ended)) = both (λ n. n ≡ 0) _ c.repair-outcome.result e.ok (status.unchanged is) in
          (bytes, subst (RepairsAll bytes _ _ _ _) none all);
      replaced = λ is.
          let (repaired, some, (bytes, read, less, all, ended)) = both (λ n. 0 < n) _ c.repair-outcome.result e.ok (status.replaced is) in
          (bytes, repaired.replaced, some, all);
      read_fault = λ is. let (bytes, less, final_text) = e.read_fault (status.read_fault.0 is) in (bytes, final_text);
      limit = λ is. e.limit (status.limit.0 is);
    }

pub returns-clause-prefix : goal.returns-clause-prefix
returns-clause-prefix g c = λ before.
    let e = c.repair-outcome.ensures in
    prefix_written c.repair-outcome.result _ _ _ _ _ _ e.ok e.read_fault (λ is. e.write_fault is before) e.limit

pub returns-clause-write_fault : goal.returns-clause-write_fault
returns-clause-write_fault g c = λ is before.
    let (bytes, few, stopped) = c.repair-outcome.ensures.write_fault (c.status_of.ensures.write_fault.0 is) before in
    (bytes, g.R.Source.has_ended c.repair-outcome.new.reader, stopped)
