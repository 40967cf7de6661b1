-- What a function for C returns that classifies its source, that finds the longest ASCII prefix, or
-- that says why a sequence is malformed.
use Rattle.std.specs.Prelude.{◌≡◌, ℕ, ◌<◌, List, length, slice_get, Some}
use Rattle.std.specs.Str.{IsAscii}
use Rattle.encoding_definitions.specs.Prefixes.{IsLongestPrefix}
use Rattle.encoding_runs.specs.declared.malformed.Malformation.{Malformation}
use Rattle.encoding_runs.specs.declared.malformed.Malformation.TheVariants.{UnexpectedContinuation, DisallowedByte, Overlong, Surrogate, TooLarge, Truncated, IncompleteAtEnd}
use Rattle.encoding_c.specs.declared.status.EncodingPrefix.{EncodingPrefix}

-- 0 says that the first fact holds, 2 that only the second does, and 1 that neither does
pub record IsChoice (First Second : Type 0) (result : ℕ) : Type 0 where
  pub first : First → result ≡ 0
  pub second : ¬ First → Second → result ≡ 2
  pub neither : ¬ First → ¬ Second → result ≡ 1

-- `length` is that of the longest ASCII prefix; `other` is the number after it, or 0, which is ASCII, if there is none
pub record IsPrefixOf (xs : List ℕ) (prefix : EncodingPrefix) : Type 0 where
  pub longest : IsLongestPrefix IsAscii xs prefix.length
  pub following : prefix.length < length xs → slice_get xs prefix.length ≡ Some prefix.other
  pub all : prefix.length ≡ length xs → prefix.other ≡ 0

-- the number of a kind of malformed sequence
abbrev pub malformation_number : Malformation → ℕ
malformation_number UnexpectedContinuation = 1
malformation_number DisallowedByte = 2
malformation_number Overlong = 3
malformation_number Surrogate = 4
malformation_number TooLarge = 5
malformation_number Truncated = 6
malformation_number IncompleteAtEnd = 7
