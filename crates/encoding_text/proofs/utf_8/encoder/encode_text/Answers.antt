use Rattle.std.proofs.Common.{length}
use Rattle.encoding_definitions.proofs.PrefixesLemmas.{written_is}
use Rattle.encoding_text.proofs.EncoderCallLemmas.{text_empty, text_full}
use Rattle.encoding_text.proofs.utf_8.encoder.encode_text.Goals as goal

pub returns-then-read-src-clause-call : goal.returns-then-read-src-clause-call
returns-then-read-src-clause-call c =
    let copy = c.copy_text-read.ensures in
    text_full c.args.src.now (length c.args.dst.now) _ _ c.utf8.src copy.longest (written_is _ _ _ _ copy.unchanged_after) c.if-read-src.true

pub returns-clause-call : goal.returns-clause-call
returns-clause-call c =
    let copy = c.copy_text-read.ensures in
    text_empty c.args.src.now (length c.args.dst.now) _ _ c.utf8.src copy.longest (written_is _ _ _ _ copy.unchanged_after) c.if-read-src.false copy.within
