use Rattle.std.proofs.Common.{◌≡◌, ◌+◌, ◌-◌, ℕ, ap, arith, drop}
use Rattle.utf8_check_library.specs.Lines.{line_feeds}
use Rattle.utf8_check_library.proofs.PlaceLemmas.{feeds_next}
use Rattle.utf8_check_library.proofs.place.count_line_feeds.Goals as goal

pub loop-at-preserved : goal.loop-at-preserved
loop-at-preserved c =
    let before = c.loop-at.invariant in
    let at = c.loop-at.at in
    let span = c.min-span.result in
    let n : ℕ = at + span - at in
    let same : n ≡ span = omega arith in
    let rest : line_feeds (drop (at + n) c.args.bytes.now) ≡ line_feeds (drop (at + span) c.args.bytes.now) =
    ap (λ k. line_feeds (drop (at + k) c.args.bytes.now)) same in
    let next = feeds_next at n c.loop-at.count c.args.bytes.now before.counted in
    record {
      counted = omega (arith, next, rest, c.count_in_span.ensures.count, c.from-count.ensures);
      few = omega (arith, before.few, c.count_in_span.ensures.few, c.from-count.ensures, same);
      within = omega (arith, before.within, c.min-span.ensures);
    }
