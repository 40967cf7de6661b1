use Rattle.std.proofs.Common.{◌≡◌, arith, encode_utf8_all}
use Rattle.std.proofs.lemmas.Grind.{common_steps}
use Rattle.encoding_text.proofs.Latin1ConversionLemmas.{IsUtf8-bytes}
use Rattle.encoding_text.proofs.mem.borrowed.utf8_of_latin1.Goals as goal

pub from_utf8_unchecked-requires : goal.from_utf8_unchecked-requires
from_utf8_unchecked-requires c =
    let text : c.truncate.new.self.items ≡ encode_utf8_all c.args.bytes.now = grind (arith, common_steps) in
    rw text (IsUtf8-bytes c.args.bytes.now (λ i. omega (arith, c.type_inv.bytes i)))
