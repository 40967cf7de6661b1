use Rattle.std.proofs.Common.{rules, ap, sym}
use Rattle.utf8_repair.proofs.ServiceLemmas.{prefix_of}
use Rattle.utf8_repair.proofs.service.repair_stream.Goals as goal

pub returns-clause-served : goal.returns-clause-served
returns-clause-served g c =
    let run = c.repair_source.ensures.served in
    record {
      unchanged = λ is. let all = run.unchanged is in search (rules, all);
      replaced = λ is. let all = run.replaced is in search (rules, all);
      read_fault = λ is. let final_text = run.read_fault is in search (rules, final_text);
      limit = λ is. let final_text = run.limit is in search (rules, final_text);
    }

pub returns-clause-prefix : goal.returns-clause-prefix
returns-clause-prefix g c =
    prefix_of _ _ _ _ _ _ _ _ (ap g.R.Read.remaining (sym c.new-source.ensures.as_it_was)) (search rules)
    (ap g.W.Write.contents (sym c.new-sink.ensures.as_it_was)) (search rules) (c.repair_source.ensures.prefix c.new-source.ensures.not_ended)
