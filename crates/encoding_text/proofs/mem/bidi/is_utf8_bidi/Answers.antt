use Rattle.std.proofs.Common.{◌≡◌, ℕ, ◌-◌, ◌≤◌, ◌↔◌, inl, List, length, take, drop, arith, refl, sym, ◌∙◌, subst}
use Rattle.std.specs.Str.{IsAscii, IsUtf8}
use Rattle.std.proofs.lemmas.List.{take_rest, take-take, length-take}
use Rattle.std.proofs.lemmas.Bool.{eqb-true, eqb-false}
use Rattle.std.proofs.lemmas.Str.{IsUtf8-nil}
use Rattle.encoding_definitions.specs.Bidi.{IsBidiBytes, IsBidiText}
use Rattle.encoding_definitions.specs.Prefixes.{IsLongestPrefix}
use Rattle.encoding_definitions.proofs.BidiTextLemmas.{character_bidi, bidi_character, found_in_bytes, rejected_no_text}
use Rattle.encoding_definitions.proofs.Utf8Lemmas.{IsUtf8-sequence}
use Rattle.encoding_kernels.proofs.ScanLemmas.{below_prefix}
use Rattle.encoding_kernels.proofs.BidiLemmas.{IsLeftToRight, ascii_text, clear_whole, clear_rest, clear_none}
use Rattle.encoding_text.proofs.mem.bidi.is_utf8_bidi.Goals as goal

-- the slice from an index on
abbrev rest : List ℕ → ℕ → List ℕ
rest bs n = take (length bs - n) (drop n bs)

-- left-to-right characters at the start decide nothing
after : (bs : List ℕ) (n : ℕ) → n ≤ length bs → IsLeftToRight (take n bs) → IsBidiBytes (rest bs n) ↔ IsBidiBytes bs
after bs n within clear = rw take_rest (clear_whole bs n within clear, clear_rest bs n within clear)

after_ascii : (bs all : List ℕ) (n : ℕ) → (IsBidiBytes bs ↔ IsBidiBytes all) → IsLongestPrefix IsAscii bs n → IsBidiBytes (rest bs n) ↔ IsBidiBytes all
after_ascii bs all n same prefix =
    let step = after bs n prefix.within (ascii_text bs n prefix.within (below_prefix bs n prefix)) in
    (λ b. same.0 (step.0 b), λ b. step.1 (same.1 b))

-- the ASCII, and a well-formed piece after it
after_piece : (bs all : List ℕ) (n most k : ℕ) → (IsBidiBytes bs ↔ IsBidiBytes all) → IsLongestPrefix IsAscii bs n
    → IsLongestPrefix IsUtf8 (take most (rest bs n)) k → (IsBidiText (take k (rest bs n)) → ⊥) → IsBidiBytes (rest (rest bs n) k) ↔ IsBidiBytes all
after_piece bs all n most k same prefix piece none =
    let before = after_ascii bs all n same prefix in
    let text = subst IsUtf8 (take-take k most (rest bs n) (omega (arith, piece.within, length-take most (rest bs n)))) piece.kind in
    let step = after (rest bs n) k (omega (arith, piece.within, length-take most (rest bs n))) (text, none) in
    (λ b. before.0 (step.0 b), λ b. step.1 (before.1 b))

empty_clear : (bs : List ℕ) → length bs ≡ 0 → IsBidiBytes bs → ⊥
empty_clear bs none = clear_none bs 0 (omega (arith, none)) (ascii_text bs 0 (omega arith) (λ k l. absurd (omega (arith, l))))

pub returns-then-prefix-rest : goal.returns-then-prefix-rest
returns-then-prefix-rest c =
    let prefix = c.ascii_valid_up_to_by_length-prefix.ensures in
    let clear = ascii_text _ _ prefix.within (below_prefix _ _ prefix) in
    (λ e. absurd (cc), λ b. absurd (clear_none c.loop-rest.rest.now _ (omega arith) clear (c.loop-rest.invariant.1 b)))

pub returns-then-has_right_to_left : goal.returns-then-has_right_to_left
returns-then-has_right_to_left c =
    let same = after_ascii _ _ _ c.loop-rest.invariant c.ascii_valid_up_to_by_length-prefix.ensures in
    (λ _. same.0 (found_in_bytes _ 0 _ (omega arith) IsUtf8-nil ((c.if-has_right_to_left.ensures {u = tt}).0 refl)), λ _. refl)

pub returns-then-is_empty : goal.returns-then-is_empty
returns-then-is_empty c =
    let same = after_piece _ _ _ _ _ c.loop-rest.invariant c.ascii_valid_up_to_by_length-prefix.ensures c.utf8_valid_up_to-valid.ensures
    (λ b. let e = (c.if-has_right_to_left.ensures {u = tt}).1 b in cc) in
    (λ e. absurd (cc), λ b. absurd (empty_clear _ (eqb-true _ _ (sym c.is_empty.ensures ∙ c.if-is_empty.true)) (same.1 b)))

pub returns-in_default : goal.returns-in_default
returns-in_default c =
    let same = after_piece _ _ _ _ _ c.loop-rest.invariant c.ascii_valid_up_to_by_length-prefix.ensures c.utf8_valid_up_to-valid.ensures
    (λ b. let e = (c.if-has_right_to_left.ensures {u = tt}).1 b in cc) in
    let some = eqb-false _ _ (sym c.is_empty.ensures ∙ c.if-is_empty.false) in
    (λ _. same.0 (inl (rejected_no_text _ 0 (omega (arith, some)) IsUtf8-nil c.in_default.ensures.no_character)), λ _. refl)

pub returns-then-is_right_to_left : goal.returns-then-is_right_to_left
returns-then-is_right_to_left c =
    let same = after_piece _ _ _ _ _ c.loop-rest.invariant c.ascii_valid_up_to_by_length-prefix.ensures c.utf8_valid_up_to-valid.ensures
    (λ b. let e = (c.if-has_right_to_left.ensures {u = tt}).1 b in cc) in
    let scalar = c.decode_utf8_scalar.ensures in
    let found = character_bidi _ _ scalar.scalar scalar.spelled ((c.if-is_right_to_left.ensures {u = tt}).0 refl) in
    (λ _. same.0 (found_in_bytes _ 0 _ (omega arith) IsUtf8-nil found), λ _. refl)

pub loop-rest-preserved : goal.loop-rest-preserved
loop-rest-preserved c =
    let same = after_piece _ _ _ _ _ c.loop-rest.invariant c.ascii_valid_up_to_by_length-prefix.ensures c.utf8_valid_up_to-valid.ensures
    (λ b. let e = (c.if-has_right_to_left.ensures {u = tt}).1 b in cc) in
    let found = c.in-Some.ensures.length in
    let step = after _ _ found.1 (
      IsUtf8-sequence _ found.2,
      λ b. let e = (c.if-is_right_to_left.ensures {u = tt}).1 (bidi_character _ _ c.decode_utf8_scalar.ensures.spelled b) in cc,
    ) in
    (λ b. same.0 (step.0 b), λ b. step.1 (same.1 b))
