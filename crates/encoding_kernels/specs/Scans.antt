-- A vector is the list of its lanes. Indices that pass a test, masks of those that don't, and ranges of a list whose
-- units are below a bound.
use Rattle.std.specs.Prelude.{◌≡◌, ℕ, ◌<◌, List, length, slice_index, ◌+◌, ◌≤◌, ◌↔◌}
use lib.Count.{count_trailing_zeros}
use Rattle.encoding_kernels.specs.Following.{IsZeroTo}

-- there are n lanes, and lane k is f k
pub record HasLanes (n : ℕ) (lanes : List ℕ) (f : ℕ → ℕ) : Type 0 where
  pub long : length lanes ≡ n
  pub each : (k : ℕ) → k < n → slice_index lanes k ≡ f k

-- each index in `from..to` passes
abbrev pub PassBetween : (ℕ → Type 0) → ℕ → ℕ → Type 0
PassBetween P from to = (k : ℕ) → from ≤ k → k < to → P k

-- a test of w indices by vectors of n lanes, one or several
abbrev pub IsWidth : ℕ → ℕ → Type 0
IsWidth n w = (0 < n) × (n ≤ 64) × (n ≤ w)

-- the first `run` of the n indices from `at` on pass, and the next, if there is one, doesn't
pub record IsPassRun (P : ℕ → Type 0) (at n run : ℕ) : Type 0 where
  pub within : run ≤ n
  pub pass : PassBetween P at (at + run)
  pub stops : run < n → P (at + run) → ⊥

-- the mask is zero if and only if each of the n indices from `at` on passes, and else its lowest bit is the first that
-- doesn't
pub record Marks (P : ℕ → Type 0) (at n mask : ℕ) : Type 0 where
  pub none : (mask ≡ 0) ↔ PassBetween P at (at + n)
  pub lowest : 0 < mask → IsPassRun P at n (count_trailing_zeros 64 mask)

-- each unit in `from..to` is below the bound
abbrev pub BelowBetween : ℕ → List ℕ → ℕ → ℕ → Type 0
BelowBetween bound xs = PassBetween (λ k. slice_index xs k < bound)

-- each of the n units from `at` on is below the bound
abbrev pub AllBelow : ℕ → List ℕ → ℕ → ℕ → Type 0
AllBelow bound xs at n = BelowBetween bound xs at (at + n)

-- each unit before the index is below the bound
abbrev pub BelowUpTo : ℕ → List ℕ → ℕ → Type 0
BelowUpTo bound xs place = (k : ℕ) → k < place → slice_index xs k < bound

-- `IsPassRun` for the units below the bound
abbrev pub IsRunBelow : ℕ → List ℕ → ℕ → ℕ → ℕ → Type 0
IsRunBelow bound xs = IsPassRun (λ k. slice_index xs k < bound)

-- the lanes are all zero if and only if each of the n units from `at` on is below the bound
pub record JoinsOthers (bound : ℕ) (xs : List ℕ) (at n : ℕ) (lanes : List ℕ) : Type 0 where
  pub long : length lanes ≡ 32
  pub zero : IsZeroTo lanes 32 ↔ AllBelow bound xs at n
