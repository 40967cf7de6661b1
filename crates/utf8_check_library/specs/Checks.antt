-- What a check does to its reader and its writer, by their known bytes before and after it.
use Rattle.std.specs.Prelude.{◌≡◌, ◌≢◌, ℕ, ◌+◌, ◌-◌, ◌^◌, ◌≤◌, Bool, true, false, List, [], ◌++◌, length, map, take, Option, encode_utf8}
use Rattle.std.specs.List.{flat_map}
use Rattle.std.specs.Io.KnownBytes.{Appends, Consumes, IsAtEnd}
use Rattle.std.specs.IoError.{error_kind}
use Rattle.std.specs.declared.io.ErrorKind.TheVariants as kind
use Rattle.encoding_runs.specs.Parts.{Part, Character, IllFormed, bytes_of, StartsWith, malformed_count}
use Rattle.encoding_runs.specs.Sequence.{IsPending}
use Rattle.utf8_check_library.specs.declared.input.Mode.{Mode}
use Rattle.utf8_check_library.specs.declared.input.Mode.TheVariants as mode
use Rattle.utf8_check_library.specs.declared.input.Fault.{Fault}
use Rattle.utf8_check_library.specs.declared.input.Fault.TheVariants.{Read, Write, TooLong}
use Rattle.utf8_check_library.specs.Lines.{Form, AreLines, line_of, next_place, place_after}
use Rattle.encoding_runs.specs.declared.search.SearchPiece.{SearchPiece}
use Rattle.encoding_runs.specs.declared.search.SearchPiece.TheVariants.{Text, Char, Malformed, InputEmpty}
use Rattle.std.specs.Str.{chars}

-- What is written for parts: a line for each malformed sequence, or nothing. The first part is at this place and offset,
-- and `rest` are the bytes after the parts.
abbrev pub IsWritten : Form → Mode → ℕ × ℕ → ℕ → List Part → List ℕ → List ℕ → Type 0
IsWritten form mode.List place offset parts rest text = AreLines form place offset parts rest text
IsWritten form mode.Count place offset parts rest text = text ≡ []
IsWritten form mode.Quiet place offset parts rest text = text ≡ []

-- These first parts of the bytes were checked, and `rest` follows them. `count` of the parts are malformed, and the text
-- is that for them. If these bytes aren't the last, all of this holds for any bytes that follow.
pub record ChecksBlock (form : Form) (m : Mode) (place : ℕ × ℕ) (offset : ℕ) (bs : List ℕ) (last : Bool) (text : List ℕ) (count : ℕ) (rest : List ℕ) (next : ℕ × ℕ) (end : ℕ) : Type 0 where
  pub parts : List Part
  pub starts : (more : List ℕ) → (last ≡ true → more ≡ []) → StartsWith (bs ++ more) parts (rest ++ more)
  pub written : (more : List ℕ) → (last ≡ true → more ≡ []) → IsWritten form m place offset parts (rest ++ more) text
  pub counted : count ≡ malformed_count parts
  pub place_is : m ≡ mode.List → next ≡ place_after form.1 place parts
  pub offset_is : end ≡ offset + length (flat_map bytes_of parts)

-- The same from the start of an input. If its end was seen, nothing is left to read, and otherwise all of it holds for any
-- bytes that follow.
abbrev pub ChecksInput : Form → Mode → Option (List ℕ) → Option (List ℕ) → List ℕ → Bool → List ℕ → ℕ → List ℕ → Type 0
ChecksInput form m unread left bs ended text count rest = (next : ℕ × ℕ) × (end : ℕ) × Consumes unread left bs × (ended ≡ true → IsAtEnd left)
    × ChecksBlock form m (1, 1) 0 bs ended text count rest next end

-- Bytes were read to their end, and `count` of their parts are malformed. In the mode `Quiet` the first malformed sequence
-- ends the check.
abbrev pub Checks : Form → Mode → Option (List ℕ) → Option (List ℕ) → Option (List ℕ) → Option (List ℕ) → ℕ → Type 0
Checks form m unread left old new count = (bs : List ℕ) × (ended : Bool) × (text : List ℕ) × (rest : List ℕ)
    × ChecksInput form m unread left bs ended text count rest × Appends old new text
    × ((m ≡ mode.Quiet → count ≡ 0) → (ended ≡ true) × (rest ≡ [])) × (m ≡ mode.Quiet → count ≤ 1)

-- These bytes were read, and all of their first parts were checked except an incomplete sequence at their end. It holds
-- for any bytes that follow.
abbrev pub StopsChecking : Form → Mode → Option (List ℕ) → Option (List ℕ) → Option (List ℕ) → Option (List ℕ) → List ℕ → Type 0
StopsChecking form m unread left old new bs = (text : List ℕ) × (count : ℕ) × (rest : List ℕ)
    × ChecksInput form m unread left bs false text count rest × Appends old new text
    × IsPending rest × (m ≡ mode.Quiet → count ≡ 0)

-- a prefix of the text was written: nothing, some, or all of it
abbrev pub WritesPrefixOf : List ℕ → Option (List ℕ) → Option (List ℕ) → Type 0
WritesPrefixOf text old new = (front : List ℕ) × (rest : List ℕ) × (text ≡ front ++ rest) × Appends old new front

-- These bytes were read, to their end or not, and a prefix of the text for first parts of them was written.
abbrev pub StopsByWrite : Form → Mode → Option (List ℕ) → Option (List ℕ) → Option (List ℕ) → Option (List ℕ) → Type 0
StopsByWrite form m unread left old new = (bs : List ℕ) × (ended : Bool) × (text : List ℕ) × (count : ℕ) × (rest : List ℕ)
    × ChecksInput form m unread left bs ended text count rest × WritesPrefixOf text old new

-- Why a check ended early, and what it did before: a read failed, and not because it was interrupted; a write or a flush
-- failed, and a prefix of the text for first parts of what was read was written; or all but 2^16 of the greatest number
-- of bytes were read.
abbrev pub StopsBy : Form → Mode → Fault → Option (List ℕ) → Option (List ℕ) → Option (List ℕ) → Option (List ℕ) → Type 0
StopsBy form m (Read error) unread left old new = (error_kind error ≢ kind.Interrupted)
    × (bs : List ℕ) × StopsChecking form m unread left old new bs
StopsBy form m (Write error) unread left old new = StopsByWrite form m unread left old new
StopsBy form m TooLong unread left old new = (bs : List ℕ) × (2 ^ 64 - 2 ^ 16 - 2 ≤ length bs) × StopsChecking form m unread left old new bs

-- how many malformed sequences a piece is
abbrev pub malformed_in : SearchPiece → ℕ
malformed_in (Text t) = 0
malformed_in (Char c) = 0
malformed_in (Malformed found bytes) = 1
malformed_in InputEmpty = 0

-- how many bytes of the stream a piece has
abbrev pub length_of : SearchPiece → ℕ
length_of (Text t) = length t.now
length_of (Char c) = length (encode_utf8 c)
length_of (Malformed found bytes) = found.length
length_of InputEmpty = 0

-- What is written for a piece, and how many malformed sequences it is, with the place before and after it.
abbrev pub Reports : Form → Mode → ℕ × ℕ → SearchPiece → List ℕ → ℕ → ℕ × ℕ → Type 0
Reports form m place (Text t) text count next = (text ≡ []) × (count ≡ 0) × (m ≡ mode.List → next ≡ place_after form.1 place (map Character (chars t.now)))
Reports form m place (Char c) text count next = (text ≡ []) × (count ≡ 0) × (m ≡ mode.List → next ≡ next_place form.1 place (Character c))
Reports form m place (Malformed found bytes) text count next = (count ≡ 1)
    × (m ≡ mode.List → (text ≡ line_of form.0 place.0 place.1 found.offset (take found.length bytes) found.kind)
    × (next ≡ next_place form.1 place (IllFormed (take found.length bytes))))
    × ((m ≡ mode.List → ⊥) → text ≡ [])
Reports form m place InputEmpty text count next = (text ≡ []) × (count ≡ 0) × (m ≡ mode.List → next ≡ place)
