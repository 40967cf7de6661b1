use Rattle.std.proofs.Common.{◌≡◌, ◌≢◌, ◌∙◌, sym, arith}
use Rattle.utf8_repair.proofs.ServiceLemmas.{all_kept, before_flush, prefix_kept, final_kept}
use Rattle.utf8_repair.proofs.service.repair_and_flush.Goals as goal

pub returns-clause-served : goal.returns-clause-served
returns-clause-served g c =
    let run = c.repair_stream-status.ensures.served in
    let flushed : c.status_after.result ≢ 4 → c.status_after.result ≡ c.repair_stream-status.result =
    before_flush c.flush.result _ _ c.status_after.ensures.failed c.status_after.ensures.flushed in
    record {
      unchanged = λ is.
          let (bytes, all) = run.unchanged (sym (flushed (λ four. omega (arith, is, four))) ∙ is) in
          (bytes, all_kept _ _ _ _ _ _ _ all c.flush.ensures.bytes);
      replaced = λ is.
          let (bytes, n, some, all) = run.replaced (sym (flushed (λ four. omega (arith, is, four))) ∙ is) in
          (bytes, n, some, all_kept _ _ _ _ _ _ _ all c.flush.ensures.bytes);
      read_fault = λ is.
          let (bytes, final_text) = run.read_fault (sym (flushed (λ four. omega (arith, is, four))) ∙ is) in
          (bytes, final_kept _ _ _ _ _ _ final_text c.flush.ensures.bytes);
      limit = λ is.
          let (bytes, most, final_text) = run.limit (sym (flushed (λ four. omega (arith, is, four))) ∙ is) in
          (bytes, most, final_kept _ _ _ _ _ _ final_text c.flush.ensures.bytes);
    }

pub returns-clause-write_fault : goal.returns-clause-write_fault
returns-clause-write_fault g c = λ _.
    let (bytes, ended, prefix) = c.repair_stream-status.ensures.prefix in
    (bytes, ended, prefix_kept _ _ _ _ _ _ _ prefix c.flush.ensures.bytes)
