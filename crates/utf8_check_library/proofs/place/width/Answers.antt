use Rattle.std.proofs.Common.{[], arith}
use Rattle.utf8_check_library.proofs.PlaceLemmas.{parts_few}
use Rattle.utf8_check_library.proofs.place.width.Goals as goal

pub returns-in-Characters-clause-few : goal.returns-in-Characters-clause-few
returns-in-Characters-clause-few c =
    let (parts, are, count) = c.utf8_count.ensures in omega (arith, count, parts_few c.args.bytes.now parts [] are)
