use Rattle.std.proofs.Common.{◌≡◌, inr, [], ◌∷◌, slice_index, arith, subst}
use Rattle.encoding_definitions.specs.Sequence.{IsContinuation, IsIncomplete}
use Rattle.std.proofs.lemmas.Bool.{both_ways}
use Rattle.encoding_text.proofs.CallLemmas.{begins_before}
use Rattle.encoding_text.proofs.FirstLemmas.{single, incomplete_none, masked, one_incomplete, shows_malformed, unpaired}
use Rattle.encoding_text.proofs.utf_8.first.First.of_two.Goals as goal

pub returns-then-bytes-second-clause-several : goal.returns-then-bytes-second-clause-several
returns-then-bytes-second-clause-several c =
    let both = masked (IsIncomplete (slice_index c.args.bytes.now 0 ∷ [])) c.begins_several.result (slice_index c.args.bytes.now c.min-second.result)
    (c.type_inv.bytes c.min-second.result).fits
    c.begins_several.ensures in
    begins_before c.args.bytes.now c.requires.not_empty (both.0 (rw c.from-mask.ensures at c.if-bytes-second.true)).0

pub returns-then-second-eq1-clause-shown : goal.returns-then-second-eq1-clause-shown
returns-then-second-eq1-clause-shown c =
    let both = masked (IsIncomplete (slice_index c.args.bytes.now 0 ∷ [])) c.begins_several.result (slice_index c.args.bytes.now c.min-second.result)
    (c.type_inv.bytes c.min-second.result).fits
    c.begins_several.ensures in
    let one : 1 ≡ c.min-second.result = omega (arith, c.if-second-eq1.true) in
    shows_malformed c.args.bytes.now 1 (omega arith) (omega arith) (λ last. unpaired c.args.bytes.now c.requires.lead last (omega arith)
    (λ h. (rw c.from-mask.ensures at c.if-bytes-second.false) (both.1 (h.0, subst (λ k. IsContinuation (slice_index c.args.bytes.now k)) one h.1))))

pub returns-then-second-eq1-clause-no_character : goal.returns-then-second-eq1-clause-no_character
returns-then-second-eq1-clause-no_character c =
    let both = masked (IsIncomplete (slice_index c.args.bytes.now 0 ∷ [])) c.begins_several.result (slice_index c.args.bytes.now c.min-second.result)
    (c.type_inv.bytes c.min-second.result).fits
    c.begins_several.ensures in
    let one : 1 ≡ c.min-second.result = omega (arith, c.if-second-eq1.true) in
    (shows_malformed c.args.bytes.now 1 (omega arith) (omega arith) (λ last. unpaired c.args.bytes.now c.requires.lead last (omega arith)
    (λ h. (rw c.from-mask.ensures at c.if-bytes-second.false) (both.1 (h.0, subst (λ k. IsContinuation (slice_index c.args.bytes.now k)) one h.1))))).2

pub returns-then-begins_several-clause-shown : goal.returns-then-begins_several-clause-shown
returns-then-begins_several-clause-shown c =
    let begun = one_incomplete c.args.bytes.now (omega (arith, c.requires.not_empty)) (c.begins_several-2.ensures.0 c.if-begins_several.true) in
    (incomplete_none c.args.bytes.now begun, inr begun)

pub returns-clause-shown : goal.returns-clause-shown
returns-clause-shown c =
    shows_malformed c.args.bytes.now 1 (omega arith) c.requires.not_empty (λ last. single c.args.bytes.now c.requires.lead last c.requires.not_empty
    (λ o. both_ways _ c.if-begins_several.false (c.begins_several-2.ensures.1 o)))
