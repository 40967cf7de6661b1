use Rattle.std.proofs.Common.{◌≡◌, ◌+◌, ◌-◌, ◌++◌, length, take, drop, ap, sym, ◌∙◌, arith, rules, length-take-le, length-drop}
use Rattle.std.proofs.lemmas.List.{drop-append-le, take_at, take-append-drop}
use Rattle.encoding_definitions.specs.Prefixes.{WritesPrefix}
use Rattle.encoding_definitions.proofs.PrefixesLemmas.{WritesPrefix_after}
use Rattle.utf8_repair.proofs.streams.held.Held.push.Goals as goal

-- an empty queue has space for `N` bytes
pub returns-then-piece-self-clause-capacity : goal.returns-then-piece-self-clause-capacity
returns-then-piece-self-clause-capacity g c = λ none fits.
    let held = c.self.inside in
    let i = c.self.invariant in
    let size : length held.bytes ≡ g.row.N = search rules in
    let prefix = length-take-le held.end held.bytes (omega arith) in
    let spent : held.end - held.start ≡ 0 = omega (arith, prefix, length-drop held.start (take held.end held.bytes), ap length (c.self.view_is ∙ none)) in
    let at_start = i.3 (omega arith) in
    absurd (omega (arith, c.if-piece-self.true))

pub returns-clause-taken : goal.returns-clause-taken
returns-clause-taken g c = λ _.
    let held = c.self.inside in
    let piece = c.args.piece.now in
    let size : length held.bytes ≡ g.row.N = search rules in
    let prefix = take held.end held.bytes in
    let ends : length prefix ≡ held.end = length-take-le held.end held.bytes (omega arith) in
    let queued : WritesPrefix held.bytes held.bytes held.end prefix =
    record { count = sym ends; fits = omega arith; placed = sym (take-append-drop held.end held.bytes) } in
    let all = WritesPrefix_after held.bytes held.bytes held.end prefix _ _ piece queued c.copy_prefix.ensures in
    ap (λ xs. drop held.start (take (held.end + length piece) xs)) all.placed
    ∙ ap (drop held.start) (take_at (prefix ++ piece) _ _ (sym all.count)) ∙ drop-append-le held.start prefix piece (omega arith)
    ∙ ap (λ xs. xs ++ piece) c.self.view_is
