use Rattle.std.proofs.Common.{◌≡◌, [], ◌==◌, length, sym, ap, subst, ◌∙◌}
use Rattle.std.proofs.lemmas.Bool.{both_ways, eqb-true}
use Rattle.std.proofs.lemmas.List.{nil_from_length}
use Rattle.std.proofs.lemmas.Str.{IsUtf8-nil}
use Rattle.std.specs.Str.{IsUtf8}
use Rattle.encoding_definitions.proofs.Utf8Lemmas.{IsUtf8-sequence}
use Rattle.encoding_definitions.specs.Sequence.{IsSequence}
use Rattle.encoding_runs.specs.Reading.{held_of}
use Rattle.encoding_runs.proofs.ReaderPieceLemmas.{yields_held}
use Rattle.encoding_runs.proofs.reader.utf8_reader.Utf8ReaderRead.read.Goals.{then-is_empty-2+else-dst-ge-BLOCK_LENGTH+in_ok-hold, else-is_empty-2}
use Rattle.encoding_runs.proofs.reader.utf8_reader.Utf8ReaderRead.read.Goals as goal

pub returns-clause-characters : goal.returns-clause-characters
returns-clause-characters g c =
    let give = c.give.ensures in
    let held = c.args.self.now.held in
    elim c.if-is_empty-2.branch [
      | then-is_empty-2+else-dst-ge-BLOCK_LENGTH+in_ok-hold w ↦
          let none : held ≡ [] =
          nil_from_length held (ap length (sym c.unread.ensures.value) ∙ eqb-true _ _ (sym c.is_empty-2.ensures ∙ w.if-is_empty-2.true)) in
          let same = ap held_of w.self-is in
          yields_held IsUtf8 IsSequence IsUtf8-nil IsUtf8-sequence c.if-is_empty-2.self.held _ _ _ _ give.bytes give.copied_length give.same_length held
          (λ some. absurd (some none)) (λ _ some. subst IsSequence (sym same) (w.hold.ensures.one (λ e. some (same ∙ e))))
      | else-is_empty-2 w ↦
          yields_held IsUtf8 IsSequence IsUtf8-nil IsUtf8-sequence c.if-is_empty-2.self.held _ _ _ _ give.bytes give.copied_length give.same_length held
          (λ _. sym (ap held_of w.self-is))
          (λ none. absurd (both_ways _ w.if-is_empty-2.false (c.is_empty-2.ensures ∙ ap (λ bs. length bs == 0) (c.unread.ensures.value ∙ none))))
    ]
