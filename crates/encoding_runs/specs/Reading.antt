-- What a reader has left to return, and how it cuts a character.
use Rattle.std.specs.Prelude.{◌≡◌, ◌≢◌, ℕ, List, [], ◌++◌, length, Option, option_map}
use Rattle.std.specs.Char.{IsScalar}
use Rattle.std.specs.Char.Escape.{encode_utf16}
use Rattle.std.specs.List.{flat_map}
use Rattle.std.specs.Str.{chars}
use Rattle.std.specs.Str.Lossy.{utf8_lossy}
use Rattle.encoding_runs.specs.declared.reader.utf16_reader.Utf16Reader.{Utf16Reader}
use Rattle.encoding_runs.specs.declared.reader.utf8_reader.Utf8Reader.{Utf8Reader}

-- The kept rest of a character, followed by the repaired text of the pending bytes, the unread bytes, and those to
-- come, if these are known.
abbrev pub text_from : List ℕ → List ℕ → List ℕ → Option (List ℕ) → Option (List ℕ)
text_from held pending unread known = option_map (λ bytes. held ++ utf8_lossy (pending ++ (unread ++ bytes))) known

-- the text that a reader has left
abbrev pub text_left : {R : Type 0} → (R → Option (List ℕ)) → Utf8Reader R → Option (List ℕ)
text_left remaining r = text_from r.held r.decoder r.block (remaining r.inner)

-- the rest of a character whose first bytes were returned
abbrev pub held_of : {R : Type 0} → Utf8Reader R → List ℕ
held_of r = r.held

-- The same in UTF-16: a reader keeps the second half of a pair.
abbrev pub units_from : List ℕ → Option (List ℕ) → Option (List ℕ)
units_from held text = option_map (λ bytes. held ++ flat_map encode_utf16 (chars bytes)) text

abbrev pub units_left : {R : Type 0} → (R → Option (List ℕ)) → Utf16Reader R → Option (List ℕ)
units_left remaining r = units_from r.held (text_left remaining r.inner)

abbrev pub half_of : {R : Type 0} → Utf16Reader R → List ℕ
half_of r = r.held

-- the code units of one character
abbrev pub IsUtf16Character : List ℕ → Type 0
IsUtf16Character units = (c : ℕ) × IsScalar c × (units ≡ encode_utf16 c)

-- What a read returns, before what is kept after it, into `room` units. If a character was cut before, these are from
-- its rest. Otherwise they are whole characters, or, if a rest is kept, one character that doesn't fit. A rest is kept
-- only if the destination is full.
pub record YieldsCharacters (IsText IsCharacter : List ℕ → Type 0) (held : List ℕ) (room : ℕ) (yielded held' : List ℕ) : Type 0 where
  pub rest : held ≢ [] → yielded ++ held' ≡ held
  pub whole : held ≡ [] → IsText (yielded ++ held')
  pub one : held ≡ [] → held' ≢ [] → IsCharacter (yielded ++ held')
  pub full : held' ≢ [] → length yielded ≡ room
