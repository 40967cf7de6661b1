-- Conversions that borrow their input if it is ASCII, and otherwise own their result.
use Rattle.std.specs.Prelude.{◌≡◌, ℕ, List, encode_utf8_all, Result, Ok, Err}
use Rattle.std.specs.declared.alloc.AllocError.{AllocError}
use Rattle.std.specs.Str.{IsAscii, chars}
use Rattle.std.specs.String.{string_bytes}
use Rattle.encoding_text.specs.declared.mem.borrowed.CowStr.{CowStr}
use Rattle.encoding_text.specs.declared.mem.borrowed.CowStr.TheVariants.{Borrowed as BorrowedText, Owned as OwnedText}
use Rattle.encoding_text.specs.declared.mem.borrowed.CowBytes.{CowBytes}
use Rattle.encoding_text.specs.declared.mem.borrowed.CowBytes.TheVariants.{Borrowed as BorrowedBytes, Owned as OwnedBytes}

-- the text whose characters are the bytes: borrowed if they are ASCII, and otherwise owned, if there is memory
abbrev pub DecodesLatin1 : List ℕ → Result CowStr AllocError → Type 0
DecodesLatin1 bytes (Ok (BorrowedText text)) = IsAscii bytes × (text.now ≡ bytes)
DecodesLatin1 bytes (Ok (OwnedText text)) = (¬ (IsAscii bytes)) × (string_bytes text ≡ encode_utf8_all bytes)
DecodesLatin1 bytes (Err refused) = ¬ (IsAscii bytes)

-- the scalar values of the text as bytes: borrowed if they are ASCII, and otherwise owned, if there is memory
abbrev pub EncodesLatin1 : List ℕ → Result CowBytes AllocError → Type 0
EncodesLatin1 text (Ok (BorrowedBytes bytes)) = IsAscii text × (bytes.now ≡ text)
EncodesLatin1 text (Ok (OwnedBytes bytes)) = (¬ (IsAscii text)) × (bytes.items ≡ chars text)
EncodesLatin1 text (Err refused) = ¬ (IsAscii text)
