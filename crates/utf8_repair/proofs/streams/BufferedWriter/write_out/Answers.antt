use Rattle.utf8_repair.proofs.ByteStreamLemmas.{sent_piece}
use Rattle.utf8_repair.proofs.streams.BufferedWriter.write_out.Goals as goal

pub returns-then-has-clause-bytes : goal.returns-then-has-clause-bytes
returns-then-has-clause-bytes g c =
    let (prefix, is, kept) = c.in_ok-gather.ensures.taken c.if-not-branch.false in
    sent_piece c.send.result _ _ _ prefix c.args.piece.now c.gather.new.self.held is kept c.send.ensures.ok c.send.ensures.err
