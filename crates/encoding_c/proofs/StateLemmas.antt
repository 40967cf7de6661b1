-- What is kept between two calls: of a decoder the pending bytes; of an encoder the pending surrogate, the last unit of the source or
-- the one before.
use Rattle.std.proofs.Common.{◌≡◌, ℕ, zero, suc, ◌+◌, ◌-◌, ◌≤◌, inl, inr, Bool, false, true≢false, List, [], ◌∷◌, ◌++◌, length, take, slice_index, refl, sym}
use Rattle.std.proofs.Common.{ap, ◌∙◌, arith, encode_utf8_all, ◌<◌}
use Rattle.std.proofs.lemmas.List.{append-nil, take_all, get_or-append-add, length-append}
use Rattle.encoding_definitions.specs.Sequence.{IsPending}
use Rattle.encoding_text.specs.OneResult.{AreSamePiece}
use Rattle.encoding_text.specs.Decoding.{IsDecodeResult, DecodeStepInto, IsBorrowedResult, BorrowedDecodeStep}
use Rattle.encoding_text.specs.declared.decoder.DecoderResult.{DecoderResult}
use Rattle.encoding_text.specs.declared.decoder.DecoderResult.TheVariants.{InputEmpty, OutputFull, Malformed}
use Rattle.encoding_text.specs.declared.decoder.Piece.{Piece}
use Rattle.encoding_text.specs.declared.decoder.Piece.TheVariants as piece
use Rattle.encoding_text.proofs.BorrowedLemmas.{same_piece}
use Rattle.encoding_c.specs.States.{IsPendingUnit}
use Rattle.std.proofs.lemmas.Bool.{cases_lt}
use Rattle.encoding_text.specs.Encoding.{IsPendingSurrogate, EncodeStep}
use Rattle.encoding_text.specs.declared.utf_8.encoder.EncoderResult.{EncoderResult}
use Rattle.encoding_text.specs.declared.utf_8.encoder.EncoderResult.TheVariants.{InputEmpty, OutputFull}

-- at most three bytes of an array are those of its first three
pub first_three : (xs q : List ℕ) (n : ℕ) → n ≡ length q → n ≤ 3 → take n xs ≡ q → take n (slice_index xs 0 ∷ slice_index xs 1 ∷ slice_index xs 2 ∷ []) ≡ q
first_three xs q zero size few e = e
first_three (a ∷ xs) q (suc zero) size few e = e
first_three (a ∷ b ∷ xs) q (suc (suc zero)) size few e = e
first_three (a ∷ b ∷ c ∷ xs) q (suc (suc (suc zero))) size few e = e
first_three xs q (suc (suc (suc (suc n)))) size few e = absurd (omega (arith, few))
first_three [] q (suc n) size few e = absurd (omega (arith, size, ap length e))
first_three (a ∷ []) q (suc (suc n)) size few e = absurd (omega (arith, size, ap length e))
first_three (a ∷ b ∷ []) q (suc (suc (suc n))) size few e = absurd (omega (arith, size, ap length e))

-- pending bytes that a new decoder reads are pending in it
pub pending_again : (src : List ℕ) → IsPending src → (returned : Piece) (read : ℕ) (q : List ℕ) → BorrowedDecodeStep [] src false returned read q
    → returned ≡ piece.InputEmpty
pending_again src pending returned read q call = said returned (same_piece [] src false returned piece.InputEmpty read (length src) q src call again).0
  where
    again : BorrowedDecodeStep [] src false piece.InputEmpty (length src) src
    again = record { pending_before = inl refl; pending = pending; answer = (refl, refl, λ e. absurd (true≢false (sym e))) }

    said : (r : Piece) → AreSamePiece r piece.InputEmpty → r ≡ piece.InputEmpty
    said (piece.Text t) s = absurd s
    said (piece.Char c) s = absurd s
    said (piece.Malformed k) s = absurd s
    said piece.InputEmpty s = refl

-- the unit left pending is the last one of the pending surrogate before and the source
last_unit : (surrogate src prefix left_open : List ℕ) (before unit : ℕ) → surrogate ++ src ≡ prefix ++ left_open → IsPendingSurrogate left_open
    → (0 < length surrogate → surrogate ≡ before ∷ [])
    → IsPendingUnit InputEmpty src before unit → 0 < length left_open → left_open ≡ unit ∷ []
last_unit surrogate src prefix [] before unit e h one kept some = absurd (omega (arith, some))
last_unit surrogate src prefix (u ∷ v ∷ us) before unit e h one kept some = absurd h
last_unit surrogate src prefix (u ∷ []) before unit e h one kept some = ap (λ k. k ∷ []) (elim (cases_lt 0 (length src)) [
  | inl more ↦
      let place : length prefix + 0 ≡ length surrogate + (length src - 1) = omega (arith, sizes, more) in
      sym (get_or-append-add prefix (u ∷ []) 0 0) ∙ ap (λ xs. slice_index xs (length prefix + 0)) (sym e) ∙ ap (λ k. slice_index (surrogate ++ src) k) place
      ∙ get_or-append-add surrogate src (length src - 1) 0 ∙ sym (kept.0 more)
  | inr none ↦
      let is : surrogate ≡ before ∷ [] = one (omega (arith, sizes, none)) in
      let place : length prefix + 0 ≡ 0 = omega (arith, sizes, none, ap length is) in
      let all : surrogate ++ src ≡ before ∷ [] = ap (λ xs. surrogate ++ xs) (empty src none) ∙ append-nil surrogate ∙ is in
      sym (get_or-append-add prefix (u ∷ []) 0 0) ∙ ap (λ xs. slice_index xs (length prefix + 0)) (sym e ∙ all) ∙ ap (λ k. slice_index (before ∷ []) k) place
      ∙ sym (kept.1 (omega (arith, none)))
])
  where
    sizes : length surrogate + length src ≡ length prefix + 1
    sizes = omega (arith, ap length e, length-append surrogate src, length-append prefix (u ∷ []))

    empty : (xs : List ℕ) → length xs ≤ 0 → xs ≡ []
    empty [] h = refl
    empty (x ∷ xs) h = absurd (omega (arith, h))

pub unit_after : (surrogate src out after : List ℕ) (room : ℕ) (last : Bool) (result : EncoderResult) (read before unit : ℕ)
    → EncodeStep surrogate src room last result read out after
    → (0 < length surrogate → surrogate ≡ before ∷ []) → IsPendingUnit result src before unit → 0 < length after → after ≡ unit ∷ []
unit_after surrogate src out after room last InputEmpty read before unit c one kept some =
    let same = c.answer.2 in
    same ∙ last_unit surrogate src c.are_encodable.prefix c.left_open before unit c.are_encodable.whole c.are_encodable.surrogate one kept
    (omega (arith, some, ap length same))
unit_after surrogate src out after room last OutputFull read before unit c one kept some = elim (cases_lt 0 c.taken) [
  | inl more ↦ absurd (omega (arith, some, ap length (c.answer.2 more).1))
  | inr none ↦
      let same = (c.answer.1 (omega (arith, none))).1 in
      same ∙ one (omega (arith, some, ap length same)) ∙ ap (λ k. k ∷ []) (sym kept)
]
