use Rattle.std.proofs.Common.{length, sym, subst}
use Rattle.encoding_text.specs.Encoding.{EncodeStep}
use Rattle.encoding_text.specs.declared.utf_8.encoder.EncoderResult.TheVariants.{OutputFull}
use Rattle.encoding_text.proofs.EncoderLemmas.{LeavesOpen, fresh_full}
use Rattle.encoding_text.proofs.utf_8.encoder.Utf8Encoder.encode_fresh.Goals as goal

pub returns-then-read-due-clause-call : goal.returns-then-read-due-clause-call
returns-then-read-due-clause-call c =
    let d = c.due_length-due.ensures in
    let l : LeavesOpen c.args.src.now c.args.last c.due_length-due.result =
    record { within = d.within; surrogate = d.surrogate; last_opens_none = d.last; waits = d.waits } in
    subst (EncodeStep _ c.args.src.now (length c.args.dst.now) c.args.last OutputFull _ _) (sym c.requires.fresh)
    (fresh_full c.args.src.now (length c.args.dst.now) c.args.last _ _ _ l c.convert_utf16_to_utf8_partial-read.ensures.longest c.if-read-due.true)
