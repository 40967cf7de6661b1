-- What private functions promise of their steps; no public contract cites these. Of a copy: that it is of ASCII. Of a
-- conversion from UTF-8: the longest prefix that fits, by what comes after it. Of the decoder: what ends a call that has read its source, or whose
-- next bytes start with no character, and what pending bytes become when more bytes come.
use Rattle.std.specs.Prelude.{◌≡◌, ℕ, ◌-◌, ◌≤◌, true, List, length, take, drop, encode_utf8_all, Bool, false, [], ◌≢◌, ◌+◌, ◌<◌, ◌∷◌, ◌++◌, ◌⊎◌, ◌↔◌, IsTrue, IsFalse}
use Rattle.std.specs.Str.{all_scalars, IsAscii}
use Rattle.std.specs.List.{flat_map}
use Rattle.encoding_definitions.specs.Prefixes.{WritesPrefix}
use Rattle.encoding_definitions.specs.Converting.{FittingBegins}
use Rattle.encoding_definitions.specs.Parts.{BeginsWithNoCharacter}
use Rattle.encoding_definitions.specs.Sequence.{IsIncomplete, IsPending, IsSequence, IsSecond, IsContinuation}
use Rattle.encoding_text.specs.Decoding.{IsMalformed}
use Rattle.encoding_text.specs.declared.decoder.DecoderResult.{DecoderResult}
use Rattle.encoding_text.specs.declared.decoder.DecoderResult.TheVariants.{InputEmpty, OutputFull, Malformed}
use Rattle.encoding_text.specs.declared.utf_8.first.First.{First}
use Rattle.encoding_text.specs.declared.utf_8.first.First.TheVariants as first
use Rattle.encoding_text.specs.declared.decoder.pending.Resumed.{Resumed}
use Rattle.encoding_text.specs.declared.decoder.pending.Resumed.TheVariants as resume

-- all of the source is copied if it is ASCII, and nothing otherwise
abbrev pub CopiesIfAscii : List ℕ → List ℕ → List ℕ → Bool → Type 0
CopiesIfAscii src old new result = (IsTrue result ↔ IsAscii src) × (IsTrue result → WritesPrefix old new (length src) src) × (IsFalse result → new ≡ old)

-- what the bytes begin with: a character, or none and then a malformed sequence or one that is incomplete at their end
abbrev pub IsFirst : List ℕ → First → Type 0
IsFirst bs first.Ascii = (1 ≤ length bs) × IsSequence (take 1 bs)
IsFirst bs (first.Character n) = (1 < n) × (n ≤ length bs) × IsSequence (take n bs)
IsFirst bs (first.Malformed n) = (n ≤ 3) × (n ≤ length bs) × BeginsWithNoCharacter bs × ((last : Bool) → IsMalformed (take n bs) (drop n bs) last)
IsFirst bs first.Incomplete = BeginsWithNoCharacter bs × IsPending bs

-- whole characters are read and written
pub record ConvertsSome {A : Type 0} (encode : ℕ → List A) (src : List ℕ) (old new : List A) (read written : ℕ) : Type 0 where
  pub scalars : List ℕ
  pub are_scalars : all_scalars scalars ≡ true
  pub within : read ≤ length src
  pub spelled : encode_utf8_all scalars ≡ take read src
  pub writes : WritesPrefix old new written (flat_map encode scalars)

-- whole characters are read and written, and the rest doesn't start with a character that would fit
pub record ConvertsUntilFull {A : Type 0} (encode : ℕ → List A) (src : List ℕ) (old new : List A) (read written : ℕ) : Type 0 where
  pub scalars : List ℕ
  pub are_scalars : all_scalars scalars ≡ true
  pub within : read ≤ length src
  pub spelled : encode_utf8_all scalars ≡ take read src
  pub writes : WritesPrefix old new written (flat_map encode scalars)
  pub stops : FittingBegins encode (drop read src) (length old - written) → ⊥

-- what a call that has read all of its source returns, with p pending
abbrev pub IsResultAtEnd : List ℕ → Bool → DecoderResult → List ℕ → Type 0
IsResultAtEnd p last InputEmpty q = (q ≡ p) × (last ≡ true → p ≡ []) × IsPending p
IsResultAtEnd p last OutputFull q = ⊥
IsResultAtEnd p last (Malformed k second) q = (second ≡ 0) × (k ≡ length p) × (q ≡ []) × IsIncomplete p × (last ≡ true)

-- what a call returns if the bytes that are left start with no character: a malformed sequence is read, or an
-- incomplete sequence stays pending
abbrev pub IsResultWithoutCharacter : List ℕ → Bool → DecoderResult → ℕ → List ℕ → Type 0
IsResultWithoutCharacter rest last InputEmpty read q = (read ≡ length rest) × (q ≡ rest) × IsIncomplete rest × (last ≡ false)
IsResultWithoutCharacter rest last OutputFull read q = ⊥
IsResultWithoutCharacter rest last (Malformed k second) read q = (second ≡ 0) × (read ≡ k) × (k ≤ length rest) × (q ≡ []) × IsMalformed (take k rest) (drop k rest) last

-- the byte b may follow the first `count` bytes of a sequence that starts with lead
abbrev pub GoesOn : ℕ → ℕ → ℕ → Type 0
GoesOn lead count b = (count ≡ 1 → IsSecond lead b) × (count ≢ 1 → IsContinuation b)

-- the byte b doesn't continue the incomplete sequence x
abbrev pub IsRejected : List ℕ → ℕ → Type 0
IsRejected x b = (IsSequence (x ++ b ∷ []) ⊎ IsIncomplete (x ++ b ∷ [])) → ⊥

-- the bytes of the source after p, up to the one that ends the sequence or doesn't continue it
abbrev pub Resumes : List ℕ → List ℕ → Resumed → ℕ → List ℕ → Type 0
Resumes p src resume.Ended read q = (read ≡ length src) × (q ≡ p ++ src)
Resumes p src (resume.Complete bytes n) read q =
    (0 < read) × (read ≤ length src) × (n ≤ 4) × (length bytes ≡ 4) × (take n bytes ≡ p ++ take read src) × IsSequence (p ++ take read src) × (q ≡ [])
Resumes p src (resume.Rejected k) read q =
    (read < length src) × (k ≡ length p + read) × IsIncomplete (p ++ take read src)
    × (b : ℕ) × (more : List ℕ) × (drop read src ≡ b ∷ more) × IsRejected (p ++ take read src) b × (q ≡ [])
