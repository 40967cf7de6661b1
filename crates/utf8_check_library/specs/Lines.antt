-- The lines that the program writes: one for each malformed sequence.
use Rattle.std.specs.Prelude.{◌≡◌, ℕ, ◌+◌, ◌/◌, ◌%◌, nat_eq, nat_lt, List, [], ◌∷◌, ◌++◌, length, if◌then◌else◌, codes, encode_utf8}
use Rattle.std.specs.Fmt.{decimal}
use Rattle.std.specs.List.{flat_map}
use Rattle.encoding_runs.specs.Parts.{Part, Character, IllFormed, bytes_of, ArePartsOf}
use Rattle.encoding_runs.specs.Malformations.{IsMalformation}
use Rattle.utf8_check_library.specs.declared.place.Columns.{Columns}
use Rattle.utf8_check_library.specs.declared.place.Columns.TheVariants.{Characters, Bytes}
use Rattle.encoding_runs.specs.declared.malformed.Malformation.{Malformation}
use Rattle.encoding_runs.specs.declared.malformed.Malformation.TheVariants.{UnexpectedContinuation, DisallowedByte, Overlong, Surrogate, TooLarge, Truncated, IncompleteAtEnd}

-- how many columns a part has
abbrev pub width_of : Columns → Part → ℕ
width_of Characters part = 1
width_of Bytes part = length (bytes_of part)

-- Line and column of the next part: after a line feed the next line starts, and any other part, a character or a
-- malformed sequence, has one column, or one for each byte.
abbrev pub next_place : Columns → ℕ × ℕ → Part → ℕ × ℕ
next_place columns (line, column) (Character c) = if nat_eq c 10 then (line + 1, 1) else (line, column + width_of columns (Character c))
next_place columns (line, column) (IllFormed x) = (line, column + width_of columns (IllFormed x))

-- the same after parts
abbrev pub place_after : Columns → ℕ × ℕ → List Part → ℕ × ℕ
place_after columns place [] = place
place_after columns place (part ∷ parts) = place_after columns (next_place columns place part) parts

-- how many columns bytes without a line feed have
abbrev pub CountsColumns : Columns → List ℕ → ℕ → Type 0
CountsColumns Characters bs n = (parts : List Part) × ArePartsOf bs parts × (n ≡ length parts)
CountsColumns Bytes bs n = n ≡ length bs

-- how many of the items are line feeds
abbrev pub line_feeds : List ℕ → ℕ
line_feeds [] = 0
line_feeds (b ∷ bs) = (if nat_eq b 10 then 1 else 0) + line_feeds bs

-- a digit of a number below 16, in ASCII
abbrev pub hex_digit : ℕ → ℕ
hex_digit n = if nat_lt n 10 then 48 + n else 55 + n

-- a space, and the two digits of a byte
abbrev pub hex_of : ℕ → List ℕ
hex_of b = 32 ∷ hex_digit (b / 16) ∷ hex_digit (b % 16) ∷ []

-- the words for why a sequence is malformed
abbrev pub words_of : Malformation → List ℕ
words_of UnexpectedContinuation = codes "unexpected continuation byte"
words_of DisallowedByte = codes "byte of no character"
words_of Overlong = codes "overlong form"
words_of Surrogate = codes "surrogate"
words_of TooLarge = codes "above U+10FFFF"
words_of Truncated = codes "cut short"
words_of IncompleteAtEnd = codes "cut short at the end"

-- What a line starts with, and its unit of columns. The start is the name of the input.
abbrev pub Form : Type 0
Form = List ℕ × Columns

-- what a line has after the name: the place, the bytes of the malformed sequence, the words for its kind, and the offset
abbrev pub line_end : ℕ → ℕ → ℕ → List ℕ → Malformation → List ℕ
line_end line column offset bytes kind =
    codes ":" ++ decimal line ++ codes ":" ++ decimal column ++ codes ": error: malformed UTF-8:" ++ flat_map hex_of bytes ++ codes ": "
    ++ words_of kind ++ codes " (offset " ++ decimal offset ++ codes ")\n"

-- the line for a malformed sequence
abbrev pub line_of : List ℕ → ℕ → ℕ → ℕ → List ℕ → Malformation → List ℕ
line_of name line column offset bytes kind = name ++ line_end line column offset bytes kind

-- The text is the lines for the malformed sequences among parts, in order. The first part is at this place and offset,
-- and `rest` are the bytes after the parts.
abbrev pub AreLines : Form → ℕ × ℕ → ℕ → List Part → List ℕ → List ℕ → Type 0
AreLines form place offset [] rest text = text ≡ []
AreLines form place offset (Character c ∷ parts) rest text =
    AreLines form (next_place form.1 place (Character c)) (offset + length (encode_utf8 c)) parts rest text
AreLines form place offset (IllFormed x ∷ parts) rest text = (kind : Malformation) × (others : List ℕ)
    × IsMalformation x (flat_map bytes_of parts ++ rest) kind
    × (text ≡ line_of form.0 place.0 place.1 offset x kind ++ others)
    × AreLines form (next_place form.1 place (IllFormed x)) (offset + length x) parts rest others
