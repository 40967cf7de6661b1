use Rattle.std.proofs.Common.{arith, take}
use Rattle.std.proofs.lemmas.List.{length-append, length-take}
use Rattle.encoding_definitions.proofs.SequenceLemmas.{length-IsIncomplete}
use Rattle.encoding_text.proofs.BorrowedLemmas.{borrowed_rejected}
use Rattle.encoding_text.proofs.decoder.resume_borrowed.Goals as goal

pub overflow_cast-result : goal.overflow_cast-result
overflow_cast-result c =
    let r = rw c.in-Rejected-default.is-0 at c.resume.ensures in
    omega (
      arith,
      r.1,
      length-IsIncomplete _ r.2,
      length-append c.args.pending.now
          (take c.resume.result.1 c.args.src.now),
      length-take c.resume.result.1 c.args.src.now,
      r.0,
    )

pub returns-in-Rejected-default : goal.returns-in-Rejected-default
returns-in-Rejected-default c =
    let r = rw c.in-Rejected-default.is-0 at c.resume.ensures in
    borrowed_rejected _ _ _ _ _ _ c.requires.unfinished r
