-- The malformed sequences of a stream, with the offset, the length and the kind of each: one call on the next bytes, and
-- successive calls.
use Rattle.std.specs.Prelude.{◌≡◌, ◌↔◌, ℕ, ◌+◌, ◌≤◌, Bool, true, false, List, [], ◌∷◌, ◌++◌, length, take, drop, encode_utf8, Any}
use Rattle.std.specs.List.{flat_map}
use Rattle.encoding_definitions.specs.Parts.{Part, Character, IllFormed, bytes_of, ArePartsOf, Yields}
use Rattle.encoding_definitions.specs.Sequence.{IsPending}
use Rattle.encoding_text.specs.Decoding.{IsBorrowedResult}
use Rattle.encoding_text.specs.declared.decoder.Piece.TheVariants as piece
use Rattle.encoding_runs.specs.declared.malformed.Malformation.{Malformation}
use Rattle.encoding_runs.specs.declared.search.StreamMalformation.{StreamMalformation}
use Rattle.encoding_runs.specs.declared.search.SearchedBlock.{SearchedBlock}
use Rattle.encoding_runs.specs.declared.search.SearchPiece.{SearchPiece}
use Rattle.encoding_runs.specs.declared.search.SearchPiece.TheVariants.{Text, Char, Malformed, InputEmpty}
use Rattle.encoding_runs.specs.Malformations.{IsMalformation}
use Rattle.encoding_runs.specs.Calls.{Call, read_in_all, output_of, pending_after, some_last}

-- The malformed sequences among parts whose first byte is at offset `at`, in order, each with its offset, its length and
-- why it is malformed. `rest` are the bytes after the parts.
abbrev pub AreMalformed : ℕ → List Part → List ℕ → List StreamMalformation → Type 0
AreMalformed at [] rest found = found ≡ []
AreMalformed at (Character c ∷ parts) rest found = AreMalformed (at + length (encode_utf8 c)) parts rest found
AreMalformed at (IllFormed x ∷ parts) rest found = (kind : Malformation) × (others : List StreamMalformation)
    × IsMalformation x (flat_map bytes_of parts ++ rest) kind
    × (found ≡ record { offset = at; length = length x; kind = kind } ∷ others)
    × AreMalformed (at + length x) parts rest others

-- What a call without an array returns: p is pending before it, whose first byte is at offset `start`, and q after it. The
-- bytes of a malformed sequence are the pending ones and those read, and its kind is that for any bytes that follow.
abbrev pub IsSearchPiece : List ℕ → ℕ → List ℕ → Bool → SearchPiece → ℕ → List ℕ → Type 0
IsSearchPiece p start src last (Text t) read q = IsBorrowedResult p src last (piece.Text t) read q
IsSearchPiece p start src last (Char c) read q = IsBorrowedResult p src last (piece.Char c) read q
IsSearchPiece p start src last (Malformed found bytes) read q =
    IsBorrowedResult p src last (piece.Malformed found.length) read q
    × (found.offset ≡ start) × (take found.length bytes ≡ p ++ take read src)
    × ((more : List ℕ) → (last ≡ true → more ≡ []) → IsMalformation (p ++ take read src) (drop read src ++ more) found.kind)
IsSearchPiece p start src last InputEmpty read q = IsBorrowedResult p src last piece.InputEmpty read q

-- one such call
pub record SearchStep (p : List ℕ) (start : ℕ) (src : List ℕ) (last : Bool) (returned : SearchPiece) (read : ℕ) (q : List ℕ) : Type 0 where
  pub pending_before : IsPending p
  pub pending : IsPending q
  pub answer : IsSearchPiece p start src last returned read q

-- One call with p pending, on the next bytes. Its form is the offset of the first pending byte, or of the next byte if
-- nothing is pending, and the length of its array. It stores the malformed sequences among the first parts of p and src,
-- which are the same for any bytes that follow. It is finished if and only if all was read and, if these bytes are the
-- last, nothing is pending. If it isn't, its array is full.
pub record IsBlockSearch (p src : List ℕ) (form : ℕ × ℕ) (last : Bool) (block : SearchedBlock) (read : ℕ) (out : List StreamMalformation) (q : List ℕ) : Type 0 where
  pub parts : List Part
  pub was_pending : IsPending p
  pub yielded : Yields p src last parts read q
  pub malformed : (more : List ℕ) → (last ≡ true → more ≡ []) → AreMalformed form.0 parts (q ++ drop read src ++ more) out
  pub fits : length out ≤ form.1
  pub finished : (block.finished ≡ true) ↔ ((read ≡ length src) × (last ≡ true → q ≡ []))
  pub full : block.finished ≡ false → length out ≡ form.1

-- each call starts at the offset that the previous one left
abbrev pub StartInTurn : List ℕ → ℕ → List (Call (ℕ × ℕ) SearchedBlock StreamMalformation) → Type 0
StartInTurn p start [] = Unit {0}
StartInTurn p start (call ∷ calls) = (call.form.0 ≡ start)
    × ((next : ℕ) → next + length call.pending ≡ start + length p + call.read → StartInTurn call.pending next calls)

-- Calls over b store the malformed sequences of a prefix of its parts. If no call is marked last, it is a prefix for any
-- continuation of b.
pub record FindTheMalformed (p : List ℕ) (start : ℕ) (b : List ℕ) (calls : List (Call (ℕ × ℕ) SearchedBlock StreamMalformation)) : Type 0 where
  pub parts : List Part
  pub prefix : Yields p b (some_last calls) parts (read_in_all calls) (pending_after p calls)
  pub malformed : (more : List ℕ) → (some_last calls ≡ true → more ≡ [])
      → AreMalformed start parts (pending_after p calls ++ drop (read_in_all calls) b ++ more) (output_of calls)

-- some call is marked last and finished
abbrev pub IsFinished : List (Call (ℕ × ℕ) SearchedBlock StreamMalformation) → Type 0
IsFinished calls = Any (λ call. (call.last ≡ true) × (call.result.finished ≡ true)) calls

-- found are the offsets, lengths and kinds of all malformed sequences of the bytes
abbrev pub AreAllMalformed : List ℕ → List StreamMalformation → Type 0
AreAllMalformed bs found = (parts : List Part) × ArePartsOf bs parts × AreMalformed 0 parts [] found
