use Rattle.std.proofs.Common.{◌≡◌, ◌∙◌, ◌+◌, ℕ, List, ap, arith, length, map}
use Rattle.std.proofs.lemmas.Bool.Decides.{nat_tests}
use Rattle.std.proofs.lemmas.List.{take_rest}
use Rattle.std.specs.Str.{chars}
use Rattle.encoding_definitions.specs.Parts.{Character}
use Rattle.utf8_check_library.specs.Lines.{line_feeds, place_after}
use Rattle.utf8_check_library.proofs.PlaceLemmas.{place_with_feed, place_without_feed}
use Rattle.utf8_check_library.proofs.place.Place.after_text.Goals as goal

pub returns-then-line_feeds-eq0 : goal.returns-then-line_feeds-eq0
returns-then-line_feeds-eq0 c =
    let bytes : List ℕ = c.as_bytes-bytes.result.now in
    let none : line_feeds bytes ≡ 0 = grind (arith, nat_tests, c.count_line_feeds-line_feeds.ensures.count, c.if-line_feeds-eq0.true) in
    place_without_feed _ _ _ bytes _ c.as_bytes-bytes.ensures.utf8 none c.width.ensures.count
    ∙ ap (λ xs. place_after c.args.columns (c.args.self.line, c.args.self.column) (map Character (chars xs))) c.as_bytes-bytes.ensures.value

pub returns : goal.returns
returns c =
    let counts = rw take_rest at c.width-2.ensures.count in
    let bytes : List ℕ = c.as_bytes-bytes.result.now in
    let start = c.after_last_line_feed-start in
    let line : c.args.self.line + c.count_line_feeds-line_feeds.result ≡ c.args.self.line + line_feeds bytes =
    ap (λ n. c.args.self.line + n) c.count_line_feeds-line_feeds.ensures.count in
    (λ i. (line i, c.width-2.result + 1))
    ∙ place_with_feed _ _ _ bytes start.result _ c.as_bytes-bytes.ensures.utf8 start.ensures.within start.ensures.none_after
    start.ensures.line_feed (λ e. grind (arith, nat_tests, e, c.count_line_feeds-line_feeds.ensures.count, c.if-line_feeds-eq0.false)) counts
    ∙ ap (λ xs. place_after c.args.columns (c.args.self.line, c.args.self.column) (map Character (chars xs))) c.as_bytes-bytes.ensures.value
