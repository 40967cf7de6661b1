use Rattle.std.proofs.Common.{◌<◌, length, arith}
use Rattle.std.proofs.lemmas.Bool.Decides.{nat_tests}
use Rattle.encoding_c.proofs.SearchStateLemmas.{stores_first}
use Rattle.encoding_c.proofs.search.store.Goals as goal

pub returns-clause-stored : goal.returns-clause-stored
returns-clause-stored c = λ old out w.
    let more : 0 < length c.args.some.now = grind (arith, nat_tests, c.is_empty.ensures, c.if-is_empty.false) in
    stores_first old c.args.found.now c.args.count out c.args.some.now _ c.numbered.result c.numbered.ensures c.requires.at_most_one more
    (omega (arith, c.requires.within, more)) w
