use Rattle.std.proofs.Common.{refl}
use Rattle.encoding_streams.proofs.Utf16WindowLemmas.{unpaired_start}
use Rattle.encoding_streams.proofs.utf16_decoder.window.is_for_resume.Goals as goal

pub returns-in-Unpaired : goal.returns-in-Unpaired
returns-in-Unpaired c = λ _ _. unpaired_start c.args.order c.args.src.now _ refl c.in-Unpaired.ensures.0 c.in-Unpaired.ensures.1
