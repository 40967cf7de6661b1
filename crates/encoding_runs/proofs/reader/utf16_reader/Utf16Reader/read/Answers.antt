use Rattle.std.proofs.Common.{◌≡◌, [], ◌==◌, length, refl, sym, ap, subst, ◌∙◌}
use Rattle.std.proofs.lemmas.Bool.{both_ways, eqb-true}
use Rattle.std.proofs.lemmas.List.{nil_from_length}
use Rattle.encoding_definitions.specs.Surrogates.{IsValidUtf16}
use Rattle.encoding_runs.specs.Reading.{IsUtf16Character, half_of}
use Rattle.encoding_runs.proofs.ReaderPieceLemmas.{yields_held}
use Rattle.encoding_runs.proofs.ReaderTextLemmas.{valid_character}
use Rattle.encoding_definitions.proofs.SurrogateLemmas.{valid-encode}
use Rattle.encoding_runs.proofs.reader.utf16_reader.Utf16Reader.read.Goals.{then-is_empty-2+else-dst-ge-BLOCK_LENGTH+in_ok-hold, else-is_empty-2}
use Rattle.encoding_runs.proofs.reader.utf16_reader.Utf16Reader.read.Goals as goal

pub returns-clause-characters : goal.returns-clause-characters
returns-clause-characters g c =
    let give = c.give.ensures in
    let held = c.args.self.now.held in
    elim c.if-is_empty-2.branch [
      | then-is_empty-2+else-dst-ge-BLOCK_LENGTH+in_ok-hold w ↦
          let none : held ≡ [] =
          nil_from_length held (ap length (sym c.unread.ensures.value) ∙ eqb-true _ _ (sym c.is_empty-2.ensures ∙ w.if-is_empty-2.true)) in
          let same = ap half_of w.self-is in
          yields_held IsValidUtf16 IsUtf16Character
          (valid-encode [] [] refl refl) valid_character c.if-is_empty-2.self.held _ _ _ _ give.bytes give.copied_length
          give.same_length held (λ some. absurd (some none)) (λ _ some. subst IsUtf16Character (sym same) (w.hold.ensures.one (λ e. some (same ∙ e))))
      | else-is_empty-2 w ↦
          yields_held IsValidUtf16 IsUtf16Character
          (valid-encode [] [] refl refl) valid_character c.if-is_empty-2.self.held _ _ _ _ give.bytes give.copied_length
          give.same_length held (λ _. sym (ap half_of w.self-is))
          (λ none. absurd (both_ways _ w.if-is_empty-2.false (c.is_empty-2.ensures ∙ ap (λ bs. length bs == 0) (c.unread.ensures.value ∙ none))))
    ]
