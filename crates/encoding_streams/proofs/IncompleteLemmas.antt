-- Incomplete sequences by their number of bytes.
use Rattle.std.proofs.Common.{◌≡◌, ℕ, ◌≤◌, List, [], ◌∷◌, length, slice_index, refl, arith}
use Rattle.std.proofs.lemmas.Bool.Decides.{nat_tests}
use Rattle.encoding_definitions.specs.Sequence.{IsContinuation, IsIncomplete, IsSecond}
use Rattle.encoding_definitions.proofs.SequenceLemmas.{HasOpenShape-IsIncomplete, IsIncomplete-HasOpenShape, second_more}

pub one_byte : (bs : List ℕ) → length bs ≡ 1 → bs ≡ slice_index bs 0 ∷ []
one_byte [] size = absurd (omega (arith, size))
one_byte (a ∷ []) size = refl
one_byte (a ∷ b ∷ bs) size = absurd (omega (arith, size))

pub two_open : (bs : List ℕ) → length bs ≡ 2 → 0xE0 ≤ slice_index bs 0 → IsSecond (slice_index bs 0) (slice_index bs 1) → IsIncomplete bs
two_open [] size l second = absurd (omega (arith, size))
two_open (a ∷ []) size l second = absurd (omega (arith, size))
two_open (a ∷ b ∷ []) size l (above, below, least, most) = IsIncomplete-HasOpenShape (a ∷ b ∷ []) (l, below, grind (arith, nat_tests))
two_open (a ∷ b ∷ c ∷ bs) size l second = absurd (omega (arith, size))

pub open_two : (bs : List ℕ) → length bs ≡ 2 → IsIncomplete bs → (0xE0 ≤ slice_index bs 0) × IsSecond (slice_index bs 0) (slice_index bs 1)
open_two [] size h = absurd (omega (arith, size))
open_two (a ∷ []) size h = absurd (omega (arith, size))
open_two (a ∷ b ∷ []) size h = let (l, below, second) = HasOpenShape-IsIncomplete (a ∷ b ∷ []) h in (l, second_more a b l below second)
open_two (a ∷ b ∷ c ∷ bs) size h = absurd (omega (arith, size))

pub three_open : (bs : List ℕ) → length bs ≡ 3 → 0xF0 ≤ slice_index bs 0 → IsSecond (slice_index bs 0) (slice_index bs 1)
    → IsContinuation (slice_index bs 2)
    → IsIncomplete bs
three_open [] size l second third = absurd (omega (arith, size))
three_open (a ∷ []) size l second third = absurd (omega (arith, size))
three_open (a ∷ b ∷ []) size l second third = absurd (omega (arith, size))
three_open (a ∷ b ∷ c ∷ []) size l (above, below, least, most) third =
    IsIncomplete-HasOpenShape (a ∷ b ∷ c ∷ []) (l, below, grind (arith, nat_tests), third)
three_open (a ∷ b ∷ c ∷ d ∷ bs) size l second third = absurd (omega (arith, size))

pub open_three : (bs : List ℕ) → length bs ≡ 3 → IsIncomplete bs
    → (0xF0 ≤ slice_index bs 0) × IsSecond (slice_index bs 0) (slice_index bs 1) × IsContinuation (slice_index bs 2)
open_three [] size h = absurd (omega (arith, size))
open_three (a ∷ []) size h = absurd (omega (arith, size))
open_three (a ∷ b ∷ []) size h = absurd (omega (arith, size))
open_three (a ∷ b ∷ c ∷ []) size h =
    let (l, below, second, third) = HasOpenShape-IsIncomplete (a ∷ b ∷ c ∷ []) h in (l, second_more a b (omega (arith, l)) below second, third)
open_three (a ∷ b ∷ c ∷ d ∷ bs) size h = absurd (omega (arith, size))
