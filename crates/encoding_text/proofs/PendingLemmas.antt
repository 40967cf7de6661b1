-- One more byte after an incomplete sequence.
use Rattle.std.proofs.Common.{◌≡◌, ◌≢◌, ℕ, ◌+◌, ◌⊎◌, inl, inr, List, [], ◌∷◌, ◌++◌, length, take, slice_index, refl, arith}
use Rattle.std.proofs.lemmas.List.{take_at}
use Rattle.std.proofs.lemmas.Bool.{cases_lt}
use Rattle.encoding_definitions.specs.Sequence.{IsSequence, IsIncomplete, IsPending}
use Rattle.encoding_text.specs.Steps.{GoesOn}
use Rattle.encoding_definitions.proofs.SequenceLemmas.{HasShape, HasOpenShape, HasShape-IsSequence, IsSequence-HasShape, HasOpenShape-IsIncomplete}
use Rattle.encoding_definitions.proofs.SequenceLemmas.{IsIncomplete-HasOpenShape, second_two, second_more, second_from, second_two_from, length_by_first}

-- the length of the sequences that start with this byte
abbrev pub SequenceLength : ℕ → ℕ → Type 0
SequenceLength lead n = (rest : List ℕ) → IsSequence (lead ∷ rest) → n ≡ 1 + length rest

pub pending_incomplete : (p : List ℕ) → p ≢ [] → IsPending p → IsIncomplete p
pending_incomplete p n (inl e) = absurd (n e)
pending_incomplete p n (inr b) = b

goes_on_whole : (p : List ℕ) (b : ℕ) → HasOpenShape p → HasShape (p ++ b ∷ []) → GoesOn (slice_index p 0) (length p) b
goes_on_whole [] b h s = absurd h
goes_on_whole (a ∷ []) b h s = (λ _. second_two a b s.0 s.1 s.2, λ n. absurd (n refl))
goes_on_whole (a ∷ c ∷ []) b h s = (λ e. absurd (omega arith), λ _. s.3)
goes_on_whole (a ∷ c ∷ d ∷ []) b h s = (λ e. absurd (omega arith), λ _. s.4)
goes_on_whole (a ∷ c ∷ d ∷ e ∷ more) b h s = absurd h

goes_on_longer : (p : List ℕ) (b : ℕ) → HasOpenShape p → HasOpenShape (p ++ b ∷ []) → GoesOn (slice_index p 0) (length p) b
goes_on_longer [] b h s = absurd h
goes_on_longer (a ∷ []) b h s = (λ _. second_more a b s.0 s.1 s.2, λ n. absurd (n refl))
goes_on_longer (a ∷ c ∷ []) b h s = (λ e. absurd (omega arith), λ _. s.3)
goes_on_longer (a ∷ c ∷ d ∷ []) b h s = absurd s
goes_on_longer (a ∷ c ∷ d ∷ e ∷ more) b h s = absurd h

-- a byte that makes a well-formed or a longer incomplete sequence continues it
pub goes_on : (p : List ℕ) (b : ℕ) → IsIncomplete p → IsSequence (p ++ b ∷ []) ⊎ IsIncomplete (p ++ b ∷ []) → GoesOn (slice_index p 0) (length p) b
goes_on p b o (inl s) = goes_on_whole p b (HasOpenShape-IsIncomplete p o) (HasShape-IsSequence _ s)
goes_on p b o (inr l) = goes_on_longer p b (HasOpenShape-IsIncomplete p o) (HasOpenShape-IsIncomplete _ l)

whole_shape : (p : List ℕ) (b n : ℕ) → HasOpenShape p → GoesOn (slice_index p 0) (length p) b → SequenceLength (slice_index p 0) n → length p + 1 ≡ n
    → HasShape (p ++ b ∷ [])
whole_shape [] b n h g l e = absurd h
whole_shape (a ∷ []) b n h g l e =
    let s = g.0 refl in
    let size = length_by_first a n h.0 h.1 l in
    elim (cases_lt a 0xE0) [
      | inl q ↦ (s.0, omega arith, second_two_from a b s q)
      | inr q ↦ elim (cases_lt a 0xF0) [ inl r ↦ absurd (omega (arith, size.1 q r)) | inr r ↦ absurd (omega (arith, size.2 r)) ]
    ]
whole_shape (a ∷ c ∷ []) b n h g l e =
    let size = length_by_first a n (omega arith) h.1 l in
    elim (cases_lt a 0xF0) [
      | inl r ↦ (h.0, omega arith, h.2, g.1 (omega arith))
      | inr r ↦ absurd (omega (arith, size.2 r))
    ]
whole_shape (a ∷ c ∷ d ∷ []) b n h g l e = (h.0, h.1, h.2, h.3, g.1 (omega arith))
whole_shape (a ∷ c ∷ d ∷ f ∷ more) b n h g l e = absurd h

longer_shape : (p : List ℕ) (b n : ℕ) → HasOpenShape p → GoesOn (slice_index p 0) (length p) b → SequenceLength (slice_index p 0) n → length p + 1 ≢ n
    → HasOpenShape (p ++ b ∷ [])
longer_shape [] b n h g l e = absurd h
longer_shape (a ∷ []) b n h g l e =
    let s = g.0 refl in
    let size = length_by_first a n h.0 h.1 l in
    elim (cases_lt a 0xE0) [
      | inl q ↦ absurd (e (omega (arith, size.0 q)))
      | inr q ↦ (q, s.1, second_from a b s)
    ]
longer_shape (a ∷ c ∷ []) b n h g l e =
    let size = length_by_first a n (omega arith) h.1 l in
    elim (cases_lt a 0xF0) [
      | inl r ↦ absurd (e (omega (arith, size.1 h.0 r)))
      | inr r ↦ (r, h.1, h.2, g.1 (omega arith))
    ]
longer_shape (a ∷ c ∷ d ∷ []) b n h g l e =
    let size = length_by_first a n (omega arith) h.1 l in
    absurd (e (omega (arith, size.2 h.0)))
longer_shape (a ∷ c ∷ d ∷ f ∷ more) b n h g l e = absurd h

pub whole_sequence : (p : List ℕ) (b n : ℕ) → IsIncomplete p → GoesOn (slice_index p 0) (length p) b → SequenceLength (slice_index p 0) n → length p + 1 ≡ n
    → IsSequence (p ++ b ∷ [])
whole_sequence p b n o g l e = IsSequence-HasShape _ (whole_shape p b n (HasOpenShape-IsIncomplete p o) g l e)

pub longer_incomplete : (p : List ℕ) (b n : ℕ) → IsIncomplete p → GoesOn (slice_index p 0) (length p) b → SequenceLength (slice_index p 0) n → length p + 1 ≢ n
    → IsIncomplete (p ++ b ∷ [])
longer_incomplete p b n o g l e = IsIncomplete-HasOpenShape _ (longer_shape p b n (HasOpenShape-IsIncomplete p o) g l e)

-- ---- bytes in an array
pub kept_bytes : (bs rest : List ℕ) → take (length bs) (bs ++ rest) ≡ bs
kept_bytes bs rest = take_at bs rest (length bs) refl
