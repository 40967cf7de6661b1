-- What is left in a buffer, how a read cuts a character, and what a call without a destination yields for at most one
-- byte.
use Rattle.std.proofs.Common.{◌≡◌, ℕ, ◌+◌, ◌-◌, ◌≤◌, List, take, drop, slice_range, sym, ap, ◌∙◌, arith, ◌≢◌, min, [], ◌∷◌}
use Rattle.std.proofs.Common.{◌++◌, length, subst, length-append, true, Bool, encode_utf8, encode_utf8_all, refl, append-nil}
use Rattle.std.proofs.lemmas.List.{drop-take, drop-drop, length-take}
use Rattle.encoding_runs.specs.Reading.{YieldsCharacters}
use Rattle.encoding_runs.specs.Steps.{text_of}
use Rattle.encoding_runs.proofs.RepairLemmas.{yielded_text}
use Rattle.encoding_text.proofs.BorrowedLemmas.{borrowed_yields}
use Rattle.encoding_runs.proofs.ReaderBlockLemmas.{some_length}
use Rattle.std.proofs.lemmas.Bool.{and_parts}
use lib.Utf8.{encode}
use Rattle.std.proofs.lemmas.Str.{length-encode, len_utf8_bounds}
use Rattle.std.specs.Char.{IsScalar}
use Rattle.std.specs.Str.{all_scalars}
use Rattle.encoding_definitions.specs.Sequence.{IsSequence}
use Rattle.encoding_definitions.specs.Parts.{Part, lossy_utf8, Yields}
use Rattle.encoding_text.specs.Decoding.{BorrowedDecodeStep}
use Rattle.encoding_text.specs.declared.decoder.Piece.{Piece}
use Rattle.encoding_text.specs.declared.decoder.Piece.TheVariants.{Text, Char, Malformed, InputEmpty}

-- without its first units
pub consumed : {A : Type 0} (units : List A) (begin end count : ℕ) → begin + count ≤ end
    → slice_range units (begin + count) end ≡ drop count (slice_range units begin end)
consumed units begin end count inside =
    let parts : end - begin ≡ count + (end - (begin + count)) = omega arith in
    sym (ap (λ n. drop count (take n (drop begin units))) parts ∙ drop-take count (end - (begin + count)) (drop begin units)
    ∙ ap (take (end - (begin + count))) (drop-drop count begin units))

module _ (IsText IsCharacter : List ℕ → Type 0) (empty : IsText []) (text : (units : List ℕ) → IsCharacter units → IsText units) where
  pub character_text : (held : List ℕ) → (held ≢ [] → IsCharacter held) → IsText held
  character_text [] one = empty
  character_text (u ∷ us) one = text (u ∷ us) (one (λ none. omega (arith, ap length none)))

  module _ (held new dst : List ℕ) (room count : ℕ) (units : held ≡ take count dst ++ new) (moved : count ≡ min room (length held))
      (size : length dst ≡ room) where
    filled : new ≢ [] → length (take count dst) ≡ room
    filled some = omega (arith, some_length new some, ap length units, length-append (take count dst) new, length-take count dst, moved, size)

    -- from what was kept before, or else from a character that was decoded
    pub yields_held : (old : List ℕ) → (old ≢ [] → old ≡ held) → (old ≡ [] → held ≢ [] → IsCharacter held)
        → YieldsCharacters IsText IsCharacter old room (take count dst) new
    yields_held old same one = record {
      rest = λ some. sym units ∙ sym (same some);
      whole = λ none. subst IsText units (character_text held (one none));
      one = λ none some. subst IsCharacter units
          (one none (λ nothing. omega (arith, some_length new some, ap length nothing, ap length units, length-append (take count dst) new)));
      full = filled;
    }

-- the text is that of the parts that the call yields
pub text_yielded : (p src : List ℕ) (last : Bool) (piece : Piece) (read : ℕ) (q : List ℕ) → BorrowedDecodeStep p src last piece read q
    → (parts : List Part) × Yields p src last parts read q × (text_of piece ≡ lossy_utf8 parts)
text_yielded p src last piece read q made =
    let (parts, are, yielded) = borrowed_yields p src last piece read q made in
    (parts, yielded, sym (yielded_text p src last piece read q parts made are).0)

-- if it is none, all was read
pub none_yielded : (p src : List ℕ) (last : Bool) (piece : Piece) (read : ℕ) (q : List ℕ) → BorrowedDecodeStep p src last piece read q → text_of piece ≡ []
    → (read ≡ length src) × (q ≡ p ++ src) × (last ≡ true → q ≡ [])
none_yielded p src last (Text text) read q call none =
    let (neutral, empty, some, bytes, prefix) = call.answer in
    absurd (omega (arith, ap length none, ap length bytes, length-take read src, prefix.within, some))
none_yielded p src last (Char c) read q call none = absurd (omega (arith, ap length none, length-encode c, len_utf8_bounds c))
none_yielded p src last (Malformed k) read q call none = absurd (omega (arith, ap length none))
none_yielded p src last InputEmpty read q call none = call.answer

pub short_text : (p src : List ℕ) (last : Bool) (piece : Piece) (read : ℕ) (q : List ℕ) → BorrowedDecodeStep p src last piece read q → length src ≤ 1
    → length (text_of piece) ≤ 4
short_text p src last (Text text) read q call short =
    let (neutral, empty, some, bytes, prefix) = call.answer in
    omega (arith, ap length bytes, length-take read src, prefix.within, short)
short_text p src last (Char c) read q call short = omega (arith, length-encode c, len_utf8_bounds c)
short_text p src last (Malformed k) read q call short = omega arith
short_text p src last InputEmpty read q call short = omega arith

module _ (each : (c : ℕ) → IsScalar c → IsSequence (encode_utf8 c)) where
  one_character : (cs : List ℕ) → all_scalars cs ≡ true → encode_utf8_all cs ≢ [] → length (encode_utf8_all cs) ≤ 1 → IsSequence (encode_utf8_all cs)
  one_character [] scalars some short = absurd (some refl)
  one_character (c ∷ []) scalars some short = subst IsSequence (sym (append-nil (encode_utf8 c))) (each c (and_parts _ _ scalars).0)
  one_character (c ∷ d ∷ cs) scalars some short =
      absurd
      (omega (
        arith,
        short,
        length-append (encode_utf8 c) (encode_utf8 d ++ encode_utf8_all cs),
        length-append (encode_utf8 d)
            (encode_utf8_all cs),
        length-encode c,
        len_utf8_bounds c,
        length-encode d,
        len_utf8_bounds d,
      ))

  -- otherwise it is one character
  pub one_yielded : (p src : List ℕ) (last : Bool) (piece : Piece) (read : ℕ) (q : List ℕ) → BorrowedDecodeStep p src last piece read q → length src ≤ 1
      → text_of piece ≢ [] → IsSequence (text_of piece)
  unfolding encode
  one_yielded p src last (Text text) read q call short some =
      let (neutral, empty, positive, bytes, prefix) = call.answer in
      let (cs, (scalars, spelled)) = prefix.kind in
      let whole = spelled ∙ sym bytes in
      subst IsSequence whole
      (one_character cs scalars (λ none. some (sym whole ∙ none)) (omega (arith, ap length spelled, length-take read src, prefix.within, short)))
  one_yielded p src last (Char c) read q call short some =
      let (pending, empty, within, scalar, spelled) = call.answer in
      each c scalar
  one_yielded p src last (Malformed k) read q call short some = each 0xFFFD refl
  one_yielded p src last InputEmpty read q call short some = absurd (some refl)
