use Rattle.std.proofs.Common.{◌∙◌, arith}
use Rattle.encoding_text.proofs.ResumeLemmas.{resumed_four, resumed_lead, resumed_longer, resumed_rejected, resumed_whole}
use Rattle.encoding_text.proofs.decoder.pending.Pending.resume.Goals as goal

pub by_bytes-requires-clause-lead : goal.by_bytes-requires-clause-lead
by_bytes-requires-clause-lead c =
    resumed_lead _ _ _ _ _ _ c.self.view_is c.self.told c.self.invariant c.requires.unfinished c.min-more.ensures c.copy_from_slice.ensures.after

pub invariant_of-self : goal.invariant_of-self
invariant_of-self c =
    let ended = resumed_longer _ _ _ _ _ _ c.self.view_is c.self.told c.self.invariant c.requires.unfinished c.min-more.ensures c.copy_from_slice.ensures.after
    c.in-Incomplete.ensures.1 in
    (ended.0, c.in-Incomplete.ensures.1)

pub overflow_sub-result : goal.overflow_sub-result
overflow_sub-result c =
    (resumed_rejected _ _ _ _ _ _ c.self.view_is c.self.told c.self.invariant c.requires.unfinished c.min-more.ensures c.copy_from_slice.ensures.after
    _ c.in-Malformed.ensures.1 (c.in-Malformed.ensures.3 _)).0

pub overflow_sub-result-in-Character : goal.overflow_sub-result-in-Character
overflow_sub-result-in-Character c =
    let whole = resumed_whole _ _ _ _ _ _ c.self.view_is c.self.told c.self.invariant c.requires.unfinished c.min-more.ensures c.copy_from_slice.ensures.after
    _ c.in-Character.ensures.1 c.in-Character.ensures.2 in
    omega (arith, whole.1)

pub unreachable-requires : goal.unreachable-requires
unreachable-requires c =
    let first = c.in-Ascii.ensures {u = tt} in
    let whole = resumed_whole _ _ _ _ _ _ c.self.view_is c.self.told c.self.invariant c.requires.unfinished c.min-more.ensures c.copy_from_slice.ensures.after
    1 first.0 first.1 in
    omega (arith, whole.0, whole.1)

pub returns-in-Incomplete : goal.returns-in-Incomplete
returns-in-Incomplete c =
    let ended = resumed_longer _ _ _ _ _ _ c.self.view_is c.self.told c.self.invariant c.requires.unfinished c.min-more.ensures c.copy_from_slice.ensures.after
    c.in-Incomplete.ensures.1 in
    (ended.1, ended.2)

pub returns-in-Malformed : goal.returns-in-Malformed
returns-in-Malformed c =
    let r = resumed_rejected _ _ _ _ _ _ c.self.view_is c.self.told c.self.invariant c.requires.unfinished c.min-more.ensures c.copy_from_slice.ensures.after
    _ c.in-Malformed.ensures.1 (c.in-Malformed.ensures.3 _) in
    (r.1, r.2, r.3, r.4, r.5, r.6, r.7, c.self-in-Malformed.view_is ∙ c.none.ensures)

pub returns-in-Character : goal.returns-in-Character
returns-in-Character c =
    let r = resumed_whole _ _ _ _ _ _ c.self.view_is c.self.told c.self.invariant c.requires.unfinished c.min-more.ensures c.copy_from_slice.ensures.after
    _ c.in-Character.ensures.1 c.in-Character.ensures.2 in
    let four =
    resumed_four _ _ _ _ _ _ c.self.view_is c.self.told c.self.invariant c.requires.unfinished c.min-more.ensures c.copy_from_slice.ensures.after in (
      omega (arith, r.1),
      omega (arith, r.1, r.2, c.min-more.ensures),
      omega (arith, r.2, c.min-more.ensures, c.self.invariant.0),
      four,
      r.3,
      r.4,
      c.self-in-Character.view_is ∙ c.none-in-Character.ensures,
    )
