-- Successive calls of a decoder or an encoder over one source: what those of a decoder yield, by what each of them
-- yields, and what those of an encoder write; its pending bytes are its pending surrogate, and a call's form is its
-- space. And a bounded conversion, repeated on the rest of its source: Encoding Standard, `encodeInto`.
use Rattle.std.specs.Prelude.{◌≡◌, ℕ, ◌+◌, ◌≤◌, Bool, true, List, [], ◌∷◌, length, take, drop, ◌++◌, Any, false}
use Rattle.std.specs.List.{flat_map, list_any}
use Rattle.encoding_definitions.specs.Parts.{Part, bytes_of, ArePartsOf, Yields}
use Rattle.encoding_definitions.specs.Utf16.{AreCodeUnits, Part16, units_of_part16, utf8_of_part16, ArePartsOf16, StartsWith16, IsUtf8OfLongestPrefix}
use Rattle.encoding_text.specs.Encoding.{IsPendingSurrogate}
use Rattle.encoding_text.specs.declared.utf_8.encoder.EncoderResult.{EncoderResult}
use Rattle.encoding_text.specs.declared.utf_8.encoder.EncoderResult.TheVariants.{InputEmpty}

-- What one call does. The arguments: what is pending before it, its source, its form, whether it is marked last, its
-- result, how much it reads, what it writes, and what is pending after it.
abbrev pub CallRelation : Type 0 → Type 0 → Type 0 → Type 1
CallRelation Form Result A = List ℕ → List ℕ → Form → Bool → Result → ℕ → List A → List ℕ → Type 0

-- one call: its form, the most of the unread source that it takes, whether it is marked last, its result, how much it
-- reads, what it writes, and what is pending after it
pub record Call (Form Result A : Type 0) : Type 0 where
  pub form : Form
  pub piece : ℕ
  pub last : Bool
  pub result : Result
  pub read : ℕ
  pub out : List A
  pub pending : List ℕ

-- Each call is in the relation. It takes the first `piece` units of the unread source, or all of them if fewer, and
-- starts with what the previous call left pending. A call marked last takes all that is unread.
abbrev pub IsChain : {Form Result A : Type 0} → CallRelation Form Result A → List ℕ → List ℕ → List (Call Form Result A) → Type 0
IsChain Does p unread [] = Unit {0}
IsChain Does p unread (call ∷ calls) =
    Does p (take call.piece unread) call.form call.last call.result call.read call.out call.pending
    × (call.last ≡ true → length unread ≤ call.piece) × IsChain Does call.pending (drop call.read unread) calls

-- how much they read in total
abbrev pub read_in_all : {Form Result A : Type 0} → List (Call Form Result A) → ℕ
read_in_all [] = 0
read_in_all (call ∷ calls) = call.read + read_in_all calls

-- what they write in total
abbrev pub output_of : {Form Result A : Type 0} → List (Call Form Result A) → List A
output_of calls = flat_map (λ call. call.out) calls

-- what is pending after them
abbrev pub pending_after : {Form Result A : Type 0} → List ℕ → List (Call Form Result A) → List ℕ
pending_after p [] = p
pending_after p (call ∷ calls) = pending_after call.pending calls

-- one of them is marked last
abbrev pub some_last : {Form Result A : Type 0} → List (Call Form Result A) → Bool
some_last calls = list_any (λ call. call.last) calls

-- One call yields the first parts of p and src. The bytes of these parts, then what is pending, are p and the bytes
-- read. Unless the call is marked last, they are the first parts for any continuation of src. If it is marked last and
-- returns `InputEmpty`, they are all parts.
pub record YieldsFirstParts {Form Result A : Type 0} (AreYielded : Form → Result → List A → List Part → Type 0) (IsInputEmpty : Result → Type 0) (p src : List ℕ) (form : Form) (last : Bool) (result : Result) (read : ℕ) (out : List A) (q : List ℕ) : Type 0 where
  pub parts : List Part
  pub yielded : AreYielded form result out parts
  pub prefix : Yields p src last parts read q
  pub bytes : flat_map bytes_of parts ++ q ≡ p ++ take read src
  pub all : last ≡ true → IsInputEmpty result → ArePartsOf (p ++ src) parts

-- the parts that calls yield in sequence, with a relation that says by its form, result and output what one call yields
abbrev pub AreYieldedInSequence : {Form Result A : Type 0} → (Form → Result → List A → List Part → Type 0) → List (Call Form Result A) → List Part → Type 0
AreYieldedInSequence AreYielded [] parts = parts ≡ []
AreYieldedInSequence AreYielded (call ∷ calls) parts = (first : List Part) × (others : List Part)
    × AreYielded call.form call.result call.out first × AreYieldedInSequence AreYielded calls others × (parts ≡ first ++ others)

-- In sequence the calls yield a prefix of the parts of p and b. The bytes of the prefix, then what is pending, are p
-- and the bytes read. If no call is marked last, it is a prefix for any continuation of b. Once a call marked last
-- returns `InputEmpty`, it is all parts.
pub record YieldTheParts {Form Result A : Type 0} (AreYielded : Form → Result → List A → List Part → Type 0) (IsInputEmpty : Result → Type 0) (p b : List ℕ) (calls : List (Call Form Result A)) : Type 0 where
  pub parts : List Part
  pub in_sequence : AreYieldedInSequence AreYielded calls parts
  pub prefix : Yields p b (some_last calls) parts (read_in_all calls) (pending_after p calls)
  pub bytes : flat_map bytes_of parts ++ pending_after p calls ≡ p ++ take (read_in_all calls) b
  pub all : Any (λ call. (call.last ≡ true) × IsInputEmpty call.result) calls → ArePartsOf (p ++ b) parts

-- The output is the UTF-8 of the first parts of the pending surrogate and the source. The code units of these parts,
-- then what is pending, are the old pending surrogate and the code units read. Once a call marked last returns
-- `InputEmpty`, they are all parts. If no call is marked last, they are the first parts for any continuation.
pub record EncodesFirstParts (surrogate src : List ℕ) (calls : List (Call ℕ EncoderResult ℕ)) (read : ℕ) (out after : List ℕ) : Type 0 where
  pub parts : List Part16
  pub first : StartsWith16 (surrogate ++ src) parts (after ++ drop read src)
  pub written : out ≡ flat_map utf8_of_part16 parts
  pub within : read ≤ length src
  pub units : flat_map units_of_part16 parts ++ after ≡ surrogate ++ take read src
  pub one_pending : IsPendingSurrogate after
  pub all : Any (λ call. (call.last ≡ true) × (call.result ≡ InputEmpty)) calls → ArePartsOf16 (surrogate ++ src) parts
  pub stable : some_last calls ≡ false → (more : List ℕ) → AreCodeUnits more → StartsWith16 (surrogate ++ src ++ more) parts (after ++ drop read src ++ more)

-- With these spaces, in order, the conversion writes out: each time the longest fitting prefix of the units that are
-- left. The last time leaves none.
abbrev pub WritesInTurn : List ℕ → List ℕ → List ℕ → Type 0
WritesInTurn us [] out = (us ≡ []) × (out ≡ [])
WritesInTurn us (room ∷ rooms) out = (read : ℕ) × (first others : List ℕ) × IsUtf8OfLongestPrefix us room read first × WritesInTurn (drop read us) rooms others × (out ≡ first ++ others)
