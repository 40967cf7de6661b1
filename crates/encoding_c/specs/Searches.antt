-- What the storage of a search represents between two calls, and what a call stores and returns.
use Rattle.std.specs.Prelude.{◌≡◌, ℕ, ◌+◌, ◌-◌, ◌^◌, ◌≤◌, Bool, List, [], length, map, take}
use Rattle.encoding_definitions.specs.Prefixes.{WritesPrefix}
use Rattle.encoding_definitions.specs.Sequence.{IsPending}
use Rattle.encoding_runs.specs.Searches.{IsBlockSearch}
use Rattle.encoding_runs.specs.declared.search.StreamMalformation.{StreamMalformation}
use Rattle.encoding_runs.specs.declared.search.SearchedBlock.{SearchedBlock}
use Rattle.encoding_c.specs.Status.{malformation_number}
use Rattle.encoding_c.specs.declared.search.EncodingMalformedSearch.{EncodingMalformedSearch}
use Rattle.encoding_c.specs.declared.search.EncodingStreamMalformation.{EncodingStreamMalformation}
use Rattle.encoding_c.specs.declared.search.EncodingSearchBlockResult.{EncodingSearchBlockResult}

-- the storage holds what a call may leave there: at most three bytes that may be pending, at an offset that fits
abbrev pub IsValidSearchState : EncodingMalformedSearch → Type 0
IsValidSearchState state = (state.count ≤ 3) × IsPending (take state.count state.pending) × (state.start + state.count ≤ 2 ^ 64 - 1)

-- the search that the storage represents: the offset, and the pending bytes that a call left there, and otherwise none
pub record RepresentsSearch (state : EncodingMalformedSearch) (p : List ℕ) (start : ℕ) : Type 0 where
  pub offset : start ≡ state.start
  pub left : IsValidSearchState state → p ≡ take state.count state.pending
  pub other : ¬ (IsValidSearchState state) → p ≡ []

-- the malformed sequence with the number of its kind
abbrev pub numbered_malformation : StreamMalformation → EncodingStreamMalformation
numbered_malformation found = record { offset = found.offset; length = found.length; kind = malformation_number found.kind }

-- a call with p pending, whose first byte is at offset `start`, or the next byte if nothing is pending
pub record SearchCall (p : List ℕ) (start : ℕ) (src : List ℕ) (last : Bool) (after : EncodingMalformedSearch) (old new : List EncodingStreamMalformation) (result : EncodingSearchBlockResult) : Type 0 where
  pub q : List ℕ
  pub next : ℕ
  pub stands : RepresentsSearch after q next
  pub follows : next + length q ≡ start + length p + result.read
  pub out : List StreamMalformation
  pub stored : WritesPrefix old new result.found (map numbered_malformation out)
  pub block : SearchedBlock
  pub searched : IsBlockSearch p src (start, length old) last block result.read out q
  pub finished : block.finished ≡ result.finished
