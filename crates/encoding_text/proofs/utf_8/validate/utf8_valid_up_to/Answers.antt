use Rattle.encoding_text.proofs.WholePrefixesLemmas.{whole_text}
use Rattle.encoding_text.proofs.utf_8.validate.utf8_valid_up_to.Goals as goal

pub returns-then-is_short : goal.returns-then-is_short
returns-then-is_short c = whole_text c.args.src.now (c.is_short.ensures.0 c.if-is_short.true)
