use Rattle.std.proofs.Common.{length}
use Rattle.encoding_text.proofs.WholePrefixesLemmas.{stops_in_fitting}
use Rattle.encoding_text.proofs.mem.latin1.copy_ascii.Goals as goal

pub returns-clause-stops : goal.returns-clause-stops
returns-clause-stops c = stops_in_fitting c.args.src.now (length c.args.dst.now) _ c.copy_ascii_prefix.ensures.prefix
