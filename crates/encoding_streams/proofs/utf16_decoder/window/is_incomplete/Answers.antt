use Rattle.std.proofs.Common.{true≢false, sym}
use Rattle.encoding_streams.proofs.Utf16WindowLemmas.{not_incomplete}
use Rattle.encoding_streams.proofs.utf16_decoder.window.is_incomplete.Goals as goal

pub returns-in_default : goal.returns-in_default
returns-in_default c = record {
  yes = λ e. absurd (true≢false (sym e));
  no = λ _. not_incomplete c.args.order c.args.bytes.now c.first_of.result c.first_of.ensures c.in_default.not-Incomplete;
}
