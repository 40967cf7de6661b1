-- What a conversion from UTF-8 reads and writes.
use Rattle.std.specs.Prelude.{◌≡◌, ℕ, ◌≤◌, true, List, ◌++◌, length, take, encode_utf8, encode_utf8_all}
use Rattle.std.specs.Str.{all_scalars, IsUtf8}
use Rattle.std.specs.Char.{IsScalar}
use Rattle.std.specs.Char.Escape.{encode_utf16}
use Rattle.std.specs.List.{flat_map}
use Rattle.encoding_definitions.specs.Prefixes.{IsLongestPrefix, IsLongestFittingPrefix, WritesPrefix}

-- the characters of the longest well-formed prefix
pub record AreScalarsOfValidPrefix (bs scalars : List ℕ) : Type 0 where
  pub valid : ℕ
  pub prefix : IsLongestPrefix IsUtf8 bs valid
  pub are_scalars : all_scalars scalars ≡ true
  pub spelled : encode_utf8_all scalars ≡ take valid bs

-- of the characters of the longest well-formed prefix of src, the longest prefix that fits is read and written
pub record ConvertsMaximal {A : Type 0} (encode : ℕ → List A) (src : List ℕ) (old new : List A) (read written : ℕ) : Type 0 where
  pub scalars : List ℕ
  pub text : AreScalarsOfValidPrefix src scalars
  pub out : List A
  pub longest : IsLongestFittingPrefix encode_utf8 encode scalars (length old) read out
  pub writes : WritesPrefix old new written out

-- the bytes start with a character whose output is no longer than `room`
abbrev pub FittingBegins : {A : Type 0} → (ℕ → List A) → List ℕ → ℕ → Type 0
FittingBegins encode bs room = (c : ℕ) × (rest : List ℕ) × IsScalar c × (bs ≡ encode_utf8 c ++ rest) × (length (encode c) ≤ room)

-- the characters of the longest well-formed prefix of src are written in UTF-16
abbrev pub WritesText : List ℕ → List ℕ → List ℕ → ℕ → Type 0
WritesText src old new written = (scalars : List ℕ) × AreScalarsOfValidPrefix src scalars × WritesPrefix old new written (flat_map encode_utf16 scalars)
