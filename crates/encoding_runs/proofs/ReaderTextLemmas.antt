-- The text that is left after what was returned, and the same text in UTF-16.
use Rattle.std.proofs.Common.{◌≡◌, ℕ, true, false, Bool, List, [], ◌∷◌, ◌++◌, length, take, drop, Option, None, Some}
use Rattle.std.proofs.Common.{encode_utf8, refl, sym, ap, subst, ◌∙◌, arith, append_assoc, take-append-drop, length-append}
use Rattle.std.proofs.Common.{◌≢◌, ◌<◌, ◌≤◌, ◌&&◌, map, encode_utf8_all, Result, Ok, Err, IfOk, OnErr, IsTrue, append-nil}
use Rattle.std.proofs.lemmas.List.{drop-append-le}
use Rattle.std.proofs.lemmas.Str.{length-encode, len_utf8_bounds, chars-append, chars-encodes, encodes-chars, scalars-chars}
use Rattle.std.specs.Str.Lossy.{utf8_lossy}
use Rattle.std.specs.Io.KnownBytes.{Consumes, IsAtEnd, Keeps}
use Rattle.encoding_definitions.specs.Parts.{Part, StartsWith, ArePartsOf, lossy_utf8, lossy_scalar, Yields}
use Rattle.encoding_definitions.proofs.DecompositionLemmas.{StartsWith-append, lossy_utf8-append}
use Rattle.encoding_runs.specs.Reading.{text_from, YieldsCharacters, IsUtf16Character, units_from}
use Rattle.std.proofs.lemmas.Bool.Decides.{nat_tests}
use Rattle.std.proofs.lemmas.Grind.{flat_map-append}
use Rattle.std.specs.Char.{IsScalar}
use Rattle.std.specs.Char.Escape.{encode_utf16}
use Rattle.std.specs.List.{flat_map}
use Rattle.std.specs.Str.{IsUtf8, all_scalars, chars}
use Rattle.encoding_definitions.specs.Sequence.{IsSequence}
use Rattle.encoding_definitions.specs.Surrogates.{IsValidUtf16}
use Rattle.encoding_definitions.specs.Utf16.{Character16, ArePartsOf16}
use Rattle.encoding_definitions.proofs.SequenceLemmas.{length-IsSequence}
use Rattle.encoding_definitions.proofs.SurrogateLemmas.{valid-encode}

-- ---- streams
pub Keeps_then : (a b c : Option (List ℕ)) (bs : List ℕ) → Keeps a b → Consumes b c bs → Consumes a c bs
Keeps_then None b c bs p q = tt
Keeps_then (Some x) None c bs p q = absurd p
Keeps_then (Some x) (Some y) None bs p q = absurd q
Keeps_then (Some x) (Some y) (Some z) bs p q = sym p ∙ q

pub Keeps-none : (a b : Option (List ℕ)) → Consumes a b [] → Keeps a b
Keeps-none None b p = tt
Keeps-none (Some x) None p = absurd p
Keeps-none (Some x) (Some y) p = sym p

-- ---- parts and their text
-- the parts that a call yields are the first ones for any following bytes, if any may follow
pub first_parts : (p src : List ℕ) (last : Bool) (parts : List Part) (read : ℕ) (q more : List ℕ) → Yields p src last parts read q → (last ≡ true → more ≡ [])
    → StartsWith (p ++ (src ++ more)) parts (q ++ (drop read src ++ more))
first_parts p src false parts read q more yielded none =
    subst (λ bs. StartsWith bs parts (q ++ (drop read src ++ more))) (append_assoc p src more)
    (subst (StartsWith ((p ++ src) ++ more) parts) (append_assoc q (drop read src) more) (yielded.stable refl more))
first_parts p src true parts read q more yielded none =
    rw (none refl, append-nil, append-nil) yielded.first

pub no_text : (parts : List Part) → lossy_utf8 parts ≡ [] → parts ≡ []
no_text [] e = refl
no_text (part ∷ parts) e =
    let c = lossy_scalar part in
    absurd (omega (arith, ap length e, length-append (encode_utf8 c) (lossy_utf8 parts), length-encode c, len_utf8_bounds c))

module _ (exist : (bs : List ℕ) → (parts : List Part) × ArePartsOf bs parts) (lossy : (bs : List ℕ) (parts : List Part) → ArePartsOf bs parts
    → lossy_utf8 parts ≡ utf8_lossy bs) where
  pub lossy-nil : utf8_lossy [] ≡ []
  lossy-nil = sym (lossy [] [] refl)

  -- the text starts with that of the first parts
  lossy-following : (bs : List ℕ) (parts : List Part) (rest : List ℕ) → StartsWith bs parts rest → utf8_lossy bs ≡ lossy_utf8 parts ++ utf8_lossy rest
  lossy-following bs parts rest first =
      let (others, are) = exist rest in
      sym (lossy bs (parts ++ others) (StartsWith-append bs parts rest others [] first are)) ∙ lossy_utf8-append parts others
      ∙ ap (λ text. lossy_utf8 parts ++ text) (lossy rest others are)

  -- of a call on the first bytes of a block, which may be the last
  yielded_text : (p block : List ℕ) (count : ℕ) (last : Bool) (parts : List Part) (read : ℕ) (q more : List ℕ) → Yields p (take count block) last parts read q
      → (last ≡ true → drop count block ++ more ≡ [])
      → utf8_lossy (p ++ (block ++ more)) ≡ lossy_utf8 parts ++ utf8_lossy (q ++ (drop read block ++ more))
  yielded_text p block count last parts read q more yielded end =
      let prefix = take count block in
      let back = drop count block in
      let whole : prefix ++ back ≡ block = take-append-drop count block in
      let before : prefix ++ (back ++ more) ≡ block ++ more = sym (append_assoc prefix back more) ∙ ap (λ bs. bs ++ more) whole in
      let after : drop read prefix ++ (back ++ more) ≡ drop read block ++ more =
      sym (append_assoc (drop read prefix) back more) ∙ ap (λ bs. bs ++ more) (sym (drop-append-le read prefix back yielded.within) ∙ ap (drop read) whole) in
      ap (λ bs. utf8_lossy (p ++ bs)) (sym before) ∙ lossy-following _ parts _ (first_parts p prefix last parts read q (back ++ more) yielded end)
      ∙ ap (λ bs. lossy_utf8 parts ++ utf8_lossy (q ++ bs)) after

  -- what a call yields is taken from the text that is left
  pub Consumes-yielded : (known : Option (List ℕ)) (p block : List ℕ) (count : ℕ) (last : Bool) (parts : List Part) (read : ℕ) (q out : List ℕ)
      → Yields p (take count block) last parts read q
      → (last ≡ true → (drop count block ≡ []) × IsAtEnd known) → out ≡ lossy_utf8 parts
      → Consumes (text_from [] p block known) (text_from [] q (drop read block) known) out
  Consumes-yielded None p block count last parts read q out yielded end text = tt
  Consumes-yielded (Some more) p block count last parts read q out yielded end text =
      yielded_text p block count last parts read q more yielded (λ marked. ap (λ bs. bs ++ more) (end marked).0 ∙ (end marked).1)
      ∙ ap (λ bs. bs ++ utf8_lossy (q ++ (drop read block ++ more))) (sym text)

  -- or is kept
  pub Keeps-yielded : (known : Option (List ℕ)) (p block : List ℕ) (count : ℕ) (last : Bool) (parts : List Part) (read : ℕ) (q held : List ℕ)
      → Yields p (take count block) last parts read q
      → (last ≡ true → (drop count block ≡ []) × IsAtEnd known) → held ≡ lossy_utf8 parts
      → Keeps (text_from [] p block known) (text_from held q (drop read block) known)
  Keeps-yielded None p block count last parts read q held yielded end text = tt
  Keeps-yielded (Some more) p block count last parts read q held yielded end text = sym
      (Consumes-yielded (Some more) p block count last parts read q held yielded end text)

  pub no_text_left : (known : Option (List ℕ)) → IsAtEnd known → IsAtEnd (text_from [] [] [] known)
  no_text_left None end = tt
  no_text_left (Some more) end = ap utf8_lossy end ∙ lossy-nil

abbrev pub utf16_of : List ℕ → List ℕ
utf16_of text = flat_map encode_utf16 (chars text)

-- a destination of four bytes cuts no character
pub uncut : {E : Type 0} (result : Result ℕ E) (held held' dst : List ℕ) (room : ℕ) → 4 ≤ room → held ≡ []
    → IfOk result (λ n. YieldsCharacters IsUtf8 IsSequence held room (take n dst) held') → OnErr result (held' ≡ held) → held' ≡ []
uncut (Ok n) held [] dst room enough none yielded err = refl
uncut (Ok n) held (b ∷ bs) dst room enough none yielded err =
    let some : (b ∷ bs) ≢ [] = λ e. omega (arith, ap length e) in
    absurd (omega (arith, yielded.full some, length-IsSequence (take n dst ++ (b ∷ bs)) (yielded.one none some), length-append (take n dst) (b ∷ bs), enough))
uncut (Err e) held held' dst room enough none yielded err = err ∙ none

-- ---- what is left
pub Consumes-units : (known known' : Option (List ℕ)) (text : List ℕ) → IsUtf8 text → Consumes known known' text
    → Consumes (units_from [] known) (units_from [] known') (utf16_of text)
Consumes-units None known' text u e = tt
Consumes-units (Some all) None text u e = absurd e
Consumes-units (Some all) (Some rest) text u e = ap (flat_map encode_utf16) (ap chars e ∙ chars-append text rest u)
    ∙ flat_map-append encode_utf16 (chars text) (chars rest)

-- or kept
pub Keeps-units : (known known' : Option (List ℕ)) (text : List ℕ) → IsUtf8 text → Consumes known known' text
    → Keeps (units_from [] known) (units_from (utf16_of text) known')
Keeps-units None known' text u e = tt
Keeps-units (Some all) None text u e = absurd e
Keeps-units (Some all) (Some rest) text u e = sym (Consumes-units (Some all) (Some rest) text u e)

pub no_units_left : (known : Option (List ℕ)) → IsAtEnd known → IsAtEnd (units_from [] known)
no_units_left None e = tt
no_units_left (Some text) e = ap (flat_map encode_utf16) (ap chars e ∙ chars-encodes [] refl)

-- ---- single texts
some_units : (c : ℕ) → 0 < length (encode_utf16 c)
some_units c = grind (arith, nat_tests)

no_characters : (cs : List ℕ) → flat_map encode_utf16 cs ≡ [] → cs ≡ []
no_characters [] e = refl
no_characters (c ∷ cs) e = absurd (omega (arith, ap length e, length-append (encode_utf16 c) (flat_map encode_utf16 cs), some_units c))

pub no_units : (text : List ℕ) → IsUtf8 text → utf16_of text ≡ [] → text ≡ []
no_units text u none = sym (encodes-chars text u) ∙ ap encode_utf8_all (no_characters (chars text) none)

pub some_text : (text : List ℕ) → utf16_of text ≢ [] → text ≢ []
some_text text some none = some (ap (flat_map encode_utf16) (ap chars none ∙ chars-encodes [] refl))

-- a character's
pub one_character : ((bs : List ℕ) → IsSequence bs → (c : ℕ) × IsScalar c × (encode_utf8 c ≡ bs)) → (text : List ℕ) → IsSequence text
    → IsUtf16Character (utf16_of text)
one_character spelled text one =
    let (c, scalar, is) = spelled text one in
    let single : chars text ≡ c ∷ [] = ap chars (sym (append-nil (encode_utf8 c) ∙ is)) ∙ chars-encodes (c ∷ []) (ap (λ b. b && true) scalar) in
    (c, scalar, ap (flat_map encode_utf16) single ∙ append-nil (encode_utf16 c))

pub valid_units : ((cs : List ℕ) → IsTrue (all_scalars cs) → ArePartsOf16 (flat_map encode_utf16 cs) (map Character16 cs)) → (text : List ℕ) → IsUtf8 text
    → IsValidUtf16 (utf16_of text)
valid_units characters text u = (chars text, characters (chars text) (scalars-chars text u))

pub valid_character : (units : List ℕ) → IsUtf16Character units → IsValidUtf16 units
valid_character units (c, scalar, is) = valid-encode (c ∷ []) units (ap (λ b. b && true) scalar) (append-nil (encode_utf16 c) ∙ sym is)
