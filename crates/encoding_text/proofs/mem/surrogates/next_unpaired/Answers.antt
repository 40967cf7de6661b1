use Rattle.std.proofs.Common.{◌+◌, ◌-◌, drop, arith, subst}
use Rattle.std.proofs.lemmas.List.{take_rest}
use Rattle.encoding_definitions.specs.Prefixes.{IsLongestPrefix}
use Rattle.encoding_definitions.specs.Surrogates.{IsValidUtf16}
use Rattle.encoding_text.proofs.mem.surrogates.next_unpaired.Goals as goal

pub returns-clause-prefix : goal.returns-clause-prefix
returns-clause-prefix c =
    let from = c.args.from in
    let found = c.utf16_valid_up_to.result in
    subst (λ n. IsLongestPrefix IsValidUtf16 (drop from c.args.units.now) n) {x = found} {y = from + found - from} (omega arith)
    (subst (λ xs. IsLongestPrefix IsValidUtf16 xs found) (take_rest c.args.units.now from) c.utf16_valid_up_to.ensures)
