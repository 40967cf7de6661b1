-- Converting character by character: whole characters up to one that doesn't fit are the longest prefix that fits, and
-- the converse. Into a destination in UTF-16 that is as long as the source, all characters fit.
use Rattle.std.proofs.Common.{◌≡◌, ℕ, zero, suc, ◌+◌, ◌-◌, ◌<◌, ◌≤◌, ◌⊎◌, inl, inr, true, List, [], ◌∷◌, ◌++◌, length}
use Rattle.std.proofs.Common.{take, drop, encode_utf8, encode_utf8_all, refl, sym, ap, ◌∙◌, arith, subst, take-add}
use lib.Utf8.{scalar}
use Rattle.std.specs.Char.{IsScalar}
use Rattle.std.specs.Char.Escape.{encode_utf16}
use Rattle.std.specs.Str.{all_scalars, IsAscii, IsUtf8, chars}
use Rattle.std.specs.List.{flat_map}
use Rattle.std.proofs.lemmas.Bool.{and_from, and_parts, cases_lt}
use Rattle.std.proofs.lemmas.Grind.{flat_map-append}
use Rattle.std.proofs.lemmas.List.{append-nil, append_assoc, length-append, length-drop, length-take, length-take-le}
use Rattle.std.proofs.lemmas.List.{take_at, drop_at, take_rest, take-append-drop, take-take, take_all}
use Rattle.std.proofs.lemmas.Str.{encodes-append, encode_same, length-encode, len_utf8_bounds, IsUtf8-encode, IsUtf8-append, chars_from_encodes}
use Rattle.std.proofs.str.Laws.{scalars-append}
use borrow.Rule.Slice.PartMut.{put_mid}
use Rattle.encoding_definitions.specs.Parts.{Part, Character, IllFormed, BeginsWithNoCharacter, ArePartsOf}
use Rattle.encoding_definitions.specs.Prefixes.{IsLongestPrefix, IsLongestFittingPrefix, WritesPrefix}
use Rattle.encoding_definitions.specs.Converting.{AreScalarsOfValidPrefix, ConvertsMaximal, FittingBegins, WritesText}
use Rattle.encoding_text.specs.Steps.{ConvertsSome, ConvertsUntilFull}
use Rattle.encoding_definitions.proofs.SequenceLemmas.{IsSequence-some}
use Rattle.encoding_definitions.proofs.EncodingLemmas.{IsSequence-encode, flat_map-encode_utf8, encodes_one, length-utf16}
use Rattle.encoding_definitions.proofs.PrefixesLemmas.{WritesPrefix_after, WritesPrefix_over, WritesPrefix-length, WritesPrefix-same, put_mid-same}
use Rattle.encoding_definitions.proofs.PrefixesLemmas.{IsLongestFittingPrefix-all, IsLongestFittingPrefix-stop, flat_map_push, length-prefix}
use Rattle.encoding_definitions.proofs.Utf8Lemmas.{IsLongestPrefix-utf8, no_character_after}
use Rattle.encoding_definitions.proofs.DecompositionLemmas.{has_parts}
use Rattle.encoding_text.proofs.WholePrefixesLemmas as whole
use Rattle.encoding_kernels.proofs.Utf8ToUtf16LoopLemmas.{Putting, due_ascii, putting_first}
use Rattle.encoding_kernels.proofs.Utf8ToUtf16Lemmas.{ascii_text}

-- a list, cut after its first items
pub cut_after : {X : Type 0} (xs prefix back : List X) → xs ≡ prefix ++ back
    → (length prefix ≤ length xs) × (take (length prefix) xs ≡ prefix) × (drop (length prefix) xs ≡ back)
cut_after xs prefix back e = (
  omega (arith, ap length e, length-append prefix back),
  ap (take (length prefix)) e ∙ take_at prefix back (length prefix) refl,
  ap (drop (length prefix)) e ∙ drop_at prefix back (length prefix) refl,
)

-- the characters at the start of bytes, up to a rest that starts with none
pub leading : (bs : List ℕ) (ps : List Part) → ArePartsOf bs ps → (cs : List ℕ) × (rest : List ℕ) × (all_scalars cs ≡ true) × (bs ≡ encode_utf8_all cs ++ rest)
    × BeginsWithNoCharacter rest
leading bs [] e = ([], [], refl, e, λ prefix rest f s. omega (arith, ap length f, length-append prefix rest, IsSequence-some prefix s))
leading bs (Character c ∷ ps) (after, (s, e), more) =
    let r = leading after ps more in
    (c ∷ r.0, r.1, and_from _ _ s r.2, e ∙ ap (λ xs. encode_utf8 c ++ xs) r.3 ∙ sym (append_assoc (encode_utf8 c) (encode_utf8_all r.0) r.1), r.4)
leading bs (IllFormed x ∷ ps) (after, f, more) = ([], bs, refl, refl, f.0)

-- ---- more characters
module _ {A : Type 0} (encode : ℕ → List A) where
  -- a whole text more
  pub converted_text : (src : List ℕ) (old new sub : List A) (read written n m : ℕ) → ConvertsSome encode src old new read written
      → (u : IsUtf8 (take n (drop read src))) → n ≤ length (drop read src)
      → WritesPrefix (take (length new - written) (drop written new)) sub m (flat_map encode (chars (take n (drop read src))))
      → ConvertsSome encode src old (put_mid written (length new - written) new sub) (read + n) (written + m)
  converted_text src old new sub read written n m d u l w =
      let text = take n (drop read src) in
      let same : u.0 ≡ chars text = chars_from_encodes u.0 text u u.1.1 in
      record {
        scalars = d.scalars ++ u.0;
        are_scalars = scalars-append d.scalars u.0 d.are_scalars u.1.0;
        within = let before : read ≤ length src = d.within in omega (arith, l, length-drop read src);
        spelled = encodes-append d.scalars u.0 ∙ (λ i. d.spelled i ++ u.1.1 i) ∙ sym (take-add read n src);
        writes = WritesPrefix-same _ _ _ _ _ _ (WritesPrefix_after old new written (flat_map encode d.scalars) sub m _ d.writes w) refl
            (ap (λ cs. flat_map encode d.scalars ++ flat_map encode cs) (sym same) ∙ sym (flat_map-append encode d.scalars u.0));
      }

  -- one more character
  pub converted_more : (src : List ℕ) (old new sub : List A) (read written c n m : ℕ) → ConvertsSome encode src old new read written → IsScalar c
      → encode_utf8 c ≡ take n (drop read src) → n ≤ length (drop read src) → WritesPrefix (take (length new - written) (drop written new)) sub m (encode c)
      → ConvertsSome encode src old (put_mid written (length new - written) new sub) (read + n) (written + m)
  converted_more src old new sub read written c n m d s e l w =
      let spelled : encode_utf8_all (c ∷ []) ≡ take n (drop read src) = encodes_one c ∙ e in
      let text : IsUtf8 (take n (drop read src)) = (c ∷ [], (and_from _ _ s refl, spelled)) in
      let out : encode c ≡ flat_map encode (chars (take n (drop read src))) = sym (append-nil (encode c))
      ∙ ap (flat_map encode) (chars_from_encodes (c ∷ []) _ text spelled) in
      converted_text src old new sub read written n m d text l (subst (λ xs. WritesPrefix (take (length new - written) (drop written new)) sub m xs) out w)

  -- the rest starts with no character that fits
  converted_stops : {src : List ℕ} {old new : List A} {read written : ℕ} → ConvertsSome encode src old new read written
      → (FittingBegins encode (drop read src) (length old - written) → ⊥)
      → ConvertsUntilFull encode src old new read written
  converted_stops d n = record { scalars = d.scalars; are_scalars = d.are_scalars; within = d.within; spelled = d.spelled; writes = d.writes; stops = n }

  pub converted_rejected : (src : List ℕ) (old new : List A) (read written : ℕ) → ConvertsSome encode src old new read written
      → BeginsWithNoCharacter (drop read src)
      → ConvertsUntilFull encode src old new read written
  converted_rejected src old new read written d n = converted_stops d (λ (c, rest, s, e, f). n (encode_utf8 c) rest e (IsSequence-encode c s))

  pub converted_full : (src : List ℕ) (old new : List A) (read written c : ℕ) (rest : List ℕ) → ConvertsSome encode src old new read written → IsScalar c
      → drop read src ≡ encode_utf8 c ++ rest → length old - written < length (encode c) → ConvertsUntilFull encode src old new read written
  converted_full src old new read written c rest d s e l =
      converted_stops d (λ (b, more, t, f, g). let same = encode_same b c more rest (sym f ∙ e) in omega (arith, l, g, ap (λ k. length (encode k)) same.0))

  -- ---- the longest prefix that fits
  -- all the characters of the well-formed prefix: those that were read, and more
  whole_text : (src cs : List ℕ) (read : ℕ) → all_scalars cs ≡ true → read ≤ length src → encode_utf8_all cs ≡ take read src
      → (more : List ℕ) × AreScalarsOfValidPrefix src (cs ++ more) × (rest : List ℕ) × (all_scalars more ≡ true)
      × (drop read src ≡ encode_utf8_all more ++ rest)
  whole_text src cs read h within e =
      let parts = has_parts (drop read src) in
      let r = leading (drop read src) parts.0 parts.1 in
      let all = cs ++ r.0 in
      let text = encode_utf8_all all in
      let whole : src ≡ text ++ r.1 =
      sym (take-append-drop read src) ∙ (λ i. (sym e) i ++ r.3 i) ∙ sym (append_assoc (encode_utf8_all cs) (encode_utf8_all r.0) r.1)
      ∙ ap (λ xs. xs ++ r.1) (sym (encodes-append cs r.0)) in
      let scalars : all_scalars all ≡ true = scalars-append cs r.0 h r.2 in
      let cut = cut_after src text r.1 whole in
      let longest =
      IsLongestPrefix-utf8 src (length text) cut.0 (subst IsUtf8 (sym cut.1) (all, (scalars, refl))) (subst BeginsWithNoCharacter (sym cut.2) r.4) in
      (r.0, record { valid = length text; prefix = longest; are_scalars = scalars; spelled = sym cut.1 }, r.1, r.2, r.3)

  fits_longest : (src cs more rest : List ℕ) (old : List A) (read written : ℕ) → encode_utf8_all cs ≡ take read src → read ≤ length src
      → length (flat_map encode cs) ≡ written → written ≤ length old → all_scalars more ≡ true → drop read src ≡ encode_utf8_all more ++ rest
      → (FittingBegins encode (drop read src) (length old - written) → ⊥)
      → IsLongestFittingPrefix encode_utf8 encode (cs ++ more) (length old) read (flat_map encode cs)
  fits_longest src cs [] rest old read written e within w l h f n =
      let all = IsLongestFittingPrefix-all encode_utf8 encode cs (length old) (omega (arith, w, l)) in
      let size : length (flat_map encode_utf8 cs) ≡ read = ap length (flat_map-encode_utf8 cs ∙ e) ∙ omega (arith, length-take read src) in
      subst (λ k. IsLongestFittingPrefix encode_utf8 encode (cs ++ []) (length old) k (flat_map encode cs)) size
      (subst (λ xs. IsLongestFittingPrefix encode_utf8 encode xs (length old) (length (flat_map encode_utf8 cs)) (flat_map encode cs))
      (sym (append-nil cs)) all)
  fits_longest src cs (c ∷ more) rest old read written e within w l h f n =
      let parts = and_parts (scalar c) (all_scalars more) h in
      let next : drop read src ≡ encode_utf8 c ++ (encode_utf8_all more ++ rest) = f ∙ append_assoc (encode_utf8 c) (encode_utf8_all more) rest in
      let size : length (flat_map encode_utf8 cs) ≡ read = ap length (flat_map-encode_utf8 cs ∙ e) ∙ omega (arith, length-take read src) in
      let full : length old - written < length (encode c) = elim (cases_lt (length old - written) (length (encode c))) [
        | inl p ↦ p
        | inr p ↦ absurd (n (c, encode_utf8_all more ++ rest, parts.0, next, p))
      ] in
      subst (λ k. IsLongestFittingPrefix encode_utf8 encode (cs ++ c ∷ more) (length old) k (flat_map encode cs)) size
      (IsLongestFittingPrefix-stop encode_utf8 encode cs c more (length old) (omega (arith, w, l)) (omega (arith, w, l, full)))

  pub converts_longest : (src : List ℕ) (old new : List A) (read written : ℕ) → ConvertsUntilFull encode src old new read written
      → ConvertsMaximal encode src old new read written
  converts_longest src old new read written d =
      let t = whole_text src d.scalars read d.are_scalars d.within d.spelled in
      record {
        scalars = d.scalars ++ t.0;
        text = t.1;
        out = flat_map encode d.scalars;
        longest = fits_longest src d.scalars t.0 t.2 old read written d.spelled d.within (sym d.writes.count) d.writes.fits t.3 t.4 d.stops;
        writes = d.writes;
      }

  -- ---- the converse: no character that fits follows the longest prefix that fits
  scalars_split : (n : ℕ) (cs : List ℕ) → all_scalars cs ≡ true → (all_scalars (take n cs) ≡ true) × (all_scalars (drop n cs) ≡ true)
  scalars_split zero cs h = (refl, h)
  scalars_split (suc n) [] h = (refl, refl)
  scalars_split (suc n) (c ∷ cs) h =
      let parts = and_parts (scalar c) (all_scalars cs) h in
      let r = scalars_split n cs parts.1 in
      (and_from _ _ parts.0 r.0, r.1)

  -- the next character doesn't fit, or there is none
  none_fits : (src cs more : List ℕ) (n room written : ℕ) (t : AreScalarsOfValidPrefix src cs) → more ≡ drop n cs
      → written ≡ length (flat_map encode (take n cs)) → written ≤ room
      → (n < length cs → room < length (flat_map encode (take (n + 1) cs)))
      → FittingBegins encode (encode_utf8_all more ++ drop t.valid src) (room - written) → ⊥
  none_fits src cs [] n room written t e w l full (c, rest, s, f, g) = no_character_after src t.valid t.prefix (encode_utf8 c) rest f (IsSequence-encode c s)
  none_fits src cs (b ∷ more) n room written t e w l full (c, rest, s, f, g) =
      let same =
      encode_same b c (encode_utf8_all more ++ drop t.valid src) rest (sym (append_assoc (encode_utf8 b) (encode_utf8_all more) (drop t.valid src)) ∙ f) in
      let next : take (n + 1) cs ≡ take n cs ++ b ∷ [] = take-add n 1 cs ∙ ap (λ xs. take n cs ++ take 1 xs) (sym e) in
      let long : length (flat_map encode (take (n + 1) cs)) ≡ written + length (encode b) =
      ap (λ xs. length (flat_map encode xs)) next ∙ ap length (flat_map_push encode (take n cs) b)
      ∙ omega (arith, w, length-append (flat_map encode (take n cs)) (encode b)) in
      omega (arith, full (omega (arith, ap length e, length-drop n cs)), long, ap (λ k. length (encode k)) same.0, g, l)

  pub converts_prefix : (src : List ℕ) (old new : List A) (read written : ℕ) → ConvertsMaximal encode src old new read written
      → ConvertsUntilFull encode src old new read written
  converts_prefix src old new read written d =
      let n = d.longest.count in
      let done = take n d.scalars in
      let more = drop n d.scalars in
      let tail = drop d.text.valid src in
      let text = encode_utf8_all done in
      let whole : src ≡ text ++ (encode_utf8_all more ++ tail) =
      sym (take-append-drop d.text.valid src) ∙ ap (λ xs. xs ++ tail) (sym d.text.spelled ∙ ap encode_utf8_all (sym (take-append-drop n d.scalars))
      ∙ encodes-append done more)
      ∙ append_assoc text (encode_utf8_all more) tail in
      let size : length text ≡ read = sym (d.longest.taken ∙ ap length (flat_map-encode_utf8 done)) in
      let back : drop read src ≡ encode_utf8_all more ++ tail = ap (drop read) whole ∙ drop_at text (encode_utf8_all more ++ tail) read size in
      let count : written ≡ length (flat_map encode done) = d.writes.count ∙ ap length d.longest.written in
      record {
        scalars = done;
        are_scalars = (scalars_split n d.scalars d.text.are_scalars).0;
        within = omega (arith, ap length whole, length-append text (encode_utf8_all more ++ tail), size);
        spelled = sym (ap (take read) whole ∙ take_at text (encode_utf8_all more ++ tail) read size);
        writes = subst (λ xs. WritesPrefix old new written xs) d.longest.written d.writes;
        stops = λ f. none_fits src d.scalars more n (length old) written d.text refl count d.writes.fits d.longest.longest
            (subst (λ xs. FittingBegins encode xs (length old - written)) back f);
      }

  -- ---- where a conversion continues
  pub converts_all : (src : List ℕ) (old new : List A) (read written : ℕ) → length src ≤ read → ConvertsSome encode src old new read written
      → ConvertsMaximal encode src old new read written
  converts_all src old new read written all d = converts_longest src old new read written
      (converted_rejected src old new read written d
      (λ prefix rest e s. omega (arith, all, ap length e, length-append prefix rest, length-drop read src, IsSequence-some prefix s)))

  -- the longest well-formed prefix is converted whole
  pub converts_valid : (src : List ℕ) (old new : List A) (n written : ℕ) → IsLongestPrefix IsUtf8 src n
      → WritesPrefix old new written (flat_map encode (chars (take n src))) → ConvertsMaximal encode src old new n written
  converts_valid src old new n written p w =
      let u : IsUtf8 (take n src) = p.kind in
      let same : u.0 ≡ chars (take n src) = chars_from_encodes u.0 (take n src) u u.1.1 in
      converts_longest src old new n written (converted_rejected src old new n written (record {
        scalars = u.0;
        are_scalars = u.1.0;
        within = p.within;
        spelled = u.1.1;
        writes = subst (λ cs. WritesPrefix old new written (flat_map encode cs)) (sym same) w;
      }) (no_character_after src n p))

-- ---- a call that continues after what an earlier one converted
module _ {A : Type 0} (encode : ℕ → List A) where
  -- to convert the same prefix again changes nothing
  pub converted_again : (src : List ℕ) (old new : List A) (read written : ℕ) → ConvertsSome encode src old new read written
      → ConvertsSome encode src new new read written
  converted_again src old new read written d =
      let out = flat_map encode d.scalars in
      let rest : drop written new ≡ drop written old = ap (drop written) d.writes.placed ∙ drop_at out (drop written old) written (sym d.writes.count) in
      record {
        scalars = d.scalars;
        are_scalars = d.are_scalars;
        within = d.within;
        spelled = d.spelled;
        writes = record {
          count = d.writes.count;
          fits = omega (arith, d.writes.fits, WritesPrefix-length old new written out d.writes);
          placed = d.writes.placed ∙ ap (λ xs. out ++ xs) (sym rest);
        };
      }

  -- the first call's destination, and the second call's result
  pub converts_over : (src : List ℕ) (old mid new : List A) (n m read written : ℕ) → ConvertsSome encode src old mid n m → m ≤ written
      → ConvertsMaximal encode src mid new read written → ConvertsMaximal encode src old new read written
  converts_over src old mid new n m read written d l all = record {
    scalars = all.scalars;
    text = all.text;
    out = all.out;
    longest = subst (λ k. IsLongestFittingPrefix encode_utf8 encode all.scalars k read all.out)
        (WritesPrefix-length old mid m (flat_map encode d.scalars) d.writes) all.longest;
    writes = WritesPrefix_over old mid new m written (flat_map encode d.scalars) all.out d.writes all.writes l;
  }

-- ---- to UTF-8 itself: the prefix whose bytes fit
pub copied_prefix : (src old new : List ℕ) (room n : ℕ) → room ≤ length src → room ≤ length old → (length src ≤ room) ⊎ (length old ≤ room)
    → IsLongestPrefix IsUtf8 (take room src) n
    → new ≡ take n src ++ drop n old → ConvertsUntilFull encode_utf8 src old new n n
copied_prefix src old new room n short within all l e =
    let size : n ≤ room = let inside : n ≤ length (take room src) = l.within in omega (arith, inside, length-take room src) in
    let prefix : take n (take room src) ≡ take n src = take-take n room src size in
    let text : IsUtf8 (take n src) = subst IsUtf8 prefix l.kind in
    let long : length (take n src) ≡ n = omega (arith, length-take n src) in
    let out : take n src ≡ flat_map encode_utf8 text.0 = sym text.1.1 ∙ sym (flat_map-encode_utf8 text.0) in
    record {
      scalars = text.0;
      are_scalars = text.1.0;
      within = omega (arith, size, short);
      spelled = text.1.1;
      writes = record { count = sym long ∙ ap length out; fits = omega (arith, size, within); placed = e ∙ ap (λ xs. xs ++ drop n old) out };
      stops = stops text size;
    }
  where
    stops : IsUtf8 (take n src) → n ≤ room → FittingBegins encode_utf8 (drop n src) (length old - n) → ⊥
    stops text size (c, rest, s, f, g) =
        let k = length (encode_utf8 c) in
        let some : 0 < k = omega (arith, length-encode c, len_utf8_bounds c) in
        let next : take k (drop n src) ≡ encode_utf8 c = ap (take k) f ∙ take_at (encode_utf8 c) rest k refl in
        let inside : n + k ≤ length src = omega (arith, ap length f, length-append (encode_utf8 c) rest, length-drop n src, size, short) in
        let fits : n + k ≤ room = elim all [ inl p ↦ omega (arith, p, inside) | inr p ↦ omega (arith, p, g, size, within) ] in
        let more : IsUtf8 (take (n + k) src) = subst IsUtf8 (sym (take-add n k src)) (IsUtf8-append _ _ text (subst IsUtf8 (sym next) (IsUtf8-encode c s))) in
        let longer = l.longest (n + k) (omega (arith, length-take room src, fits, short)) (subst IsUtf8 (sym (take-take (n + k) room src fits)) more) in
        omega arith

-- all of that prefix is ASCII
pub ascii_prefix_text : (src : List ℕ) (room : ℕ) → room ≤ length src → IsAscii (take room src) → IsLongestPrefix IsUtf8 (take room src) room
ascii_prefix_text src room within ascii =
    subst (IsLongestPrefix IsUtf8 (take room src)) (length-take-le room src within) (whole.whole_text (take room src) ascii)

-- a copy of such a prefix into what fits
pub ruleset copies = (copied_prefix, ascii_prefix_text, cases_lt, length-take, length-take-le)

-- ---- a call that didn't fit left the destination unchanged
pub converted_unfit : {A : Type 0} (encode : ℕ → List A) (src : List ℕ) (old new sub : List A) (read written c n : ℕ)
    → ConvertsSome encode src old new read written → IsScalar c
    → encode_utf8 c ≡ take n (drop read src) → sub ≡ take (length new - written) (drop written new)
    → length (take (length new - written) (drop written new)) < length (encode c)
    → ConvertsUntilFull encode src old (put_mid written (length new - written) new sub) read written
converted_unfit encode src old new sub read written c n d s e same l =
    let kept : put_mid written (length new - written) new sub ≡ new = ap (put_mid written (length new - written) new) same ∙ put_mid-same new written in
    let rest : drop read src ≡ encode_utf8 c ++ drop n (drop read src) = sym (take-append-drop n (drop read src))
    ∙ ap (λ xs. xs ++ drop n (drop read src)) (sym e) in
    let room : length old - written < length (encode c) =
    omega (
      arith,
      l,
      ap length (take_rest new written),
      length-drop written new,
      WritesPrefix-length old new written
          (flat_map encode d.scalars) d.writes,
    ) in
    subst (λ xs. ConvertsUntilFull encode src old xs read written) (sym kept)
    (converted_full encode src old new read written c (drop n (drop read src)) d s rest room)

-- ---- to UTF-16: a whole text
pub ascii_written : (src old new : List ℕ) → IsAscii src → WritesPrefix old new (length src) src
    → WritesPrefix old new (length src) (flat_map encode_utf16 (chars src))
ascii_written src old new ascii w = subst (λ xs. WritesPrefix old new (length src) xs) (sym (ascii_text src ascii).1) w

-- the prefix is the whole text
pub of_whole_prefix : (src old new : List ℕ) (n written : ℕ) → take n src ≡ src → WritesPrefix old new written (flat_map encode_utf16 (chars src))
    → WritesPrefix old new written (flat_map encode_utf16 (chars (take n src)))
of_whole_prefix src old new n written all = subst (λ xs. WritesPrefix old new written (flat_map encode_utf16 (chars xs))) (sym all)

-- ---- to UTF-16: an ASCII prefix more
pub converted_run : (src old new sub : List ℕ) (read written n : ℕ) → ConvertsSome encode_utf16 src old new read written
    → n ≤ length (drop read src) → IsAscii (take n (drop read src))
    → WritesPrefix (take (length new - written) (drop written new)) sub n (take n (drop read src))
    → ConvertsSome encode_utf16 src old (put_mid written (length new - written) new sub) (read + n) (written + n)
converted_run src old new sub read written n d within ascii w =
    let text = ascii_text (take n (drop read src)) ascii in
    converted_text encode_utf16 src old new sub read written n n d text.0 within
    (subst (λ xs. WritesPrefix (take (length new - written) (drop written new)) sub n xs) (sym text.1) w)

pub converted_ascii : (src old new sub : List ℕ) (read written n : ℕ) → ConvertsSome encode_utf16 src old new read written
    → IsLongestPrefix IsAscii (take (length (take (length new - written) (drop written new))) (take (length src - read) (drop read src))) n
    → WritesPrefix (take (length new - written) (drop written new)) sub n (take n (take (length src - read) (drop read src)))
    → ConvertsSome encode_utf16 src old (put_mid written (length new - written) new sub) (read + n) (written + n)
converted_ascii src old new sub read written n d p w =
    let bytes = drop read src in
    let room = length (take (length new - written) (drop written new)) in
    let prefix : IsLongestPrefix IsAscii (take room bytes) n = subst (λ xs. IsLongestPrefix IsAscii (take room xs) n) (take_rest src read) p in
    let within : n ≤ length (take room bytes) = prefix.within in
    converted_run src old new sub read written n d (omega (arith, within, length-take room bytes))
    (subst IsAscii (take-take n room bytes (omega (arith, within, length-take room bytes))) prefix.kind)
    (subst (λ xs. WritesPrefix (take (length new - written) (drop written new)) sub n xs) (ap (take n) (take_rest src read)) w)

-- the prefix of the first bytes that are left
pub converted_fitting_ascii : (src old new sub : List ℕ) (read written room n : ℕ) → ConvertsSome encode_utf16 src old new read written
    → IsLongestPrefix IsAscii (take room (drop read src)) n
    → WritesPrefix (take (length new - written) (drop written new)) sub n (take n (take room (drop read src)))
    → ConvertsSome encode_utf16 src old (put_mid written (length new - written) new sub) (read + n) (written + n)
converted_fitting_ascii src old new sub read written room n d p w =
    let bytes = drop read src in
    let same : take n (take room bytes) ≡ take n bytes = take-take n room bytes (omega (arith, p.within, length-take room bytes)) in
    converted_run src old new sub read written n d (omega (arith, p.within, length-take room bytes)) (subst IsAscii same p.kind)
    (subst (λ xs. WritesPrefix (take (length new - written) (drop written new)) sub n xs) same w)

text_length : (src cs : List ℕ) → (t : AreScalarsOfValidPrefix src cs) → length (encode_utf8_all cs) ≡ t.valid
text_length src cs t = ap length t.spelled ∙ omega (arith, length-take t.valid src, t.prefix.within)

-- all characters of the well-formed prefix fit
pub whole_fits : (src old new : List ℕ) (read written : ℕ) → (d : ConvertsMaximal encode_utf16 src old new read written) → length src ≤ length old
    → (read ≡ d.text.valid) × WritesPrefix old new written (flat_map encode_utf16 d.scalars)
whole_fits src old new read written d l = elim (cases_lt d.longest.count (length d.scalars)) [
  | inl h ↦
      absurd
      (omega (
        arith,
        d.longest.longest h,
        length-prefix encode_utf16 d.scalars
            (d.longest.count + 1),
        length-utf16 d.scalars d.text.are_scalars,
        text_length src d.scalars d.text,
        d.text.prefix.within,
        l,
      ))
  | inr h ↦
      let all : take d.longest.count d.scalars ≡ d.scalars = take_all d.longest.count d.scalars h in
      let taken : read ≡ length (flat_map encode_utf8 d.scalars) = d.longest.taken ∙ ap (λ xs. length (flat_map encode_utf8 xs)) all in
      let out : d.out ≡ flat_map encode_utf16 d.scalars = d.longest.written ∙ ap (flat_map encode_utf16) all in
      (taken ∙ ap length (flat_map-encode_utf8 d.scalars) ∙ text_length src d.scalars d.text, subst (λ xs. WritesPrefix old new written xs) out d.writes)
]

-- what follows them begins with no character
pub none_after : (src old new : List ℕ) (read written : ℕ) → ConvertsMaximal encode_utf16 src old new read written → length src ≤ length old
    → BeginsWithNoCharacter (drop read src)
none_after src old new read written d l =
    subst (λ n. BeginsWithNoCharacter (drop n src)) (sym (whole_fits src old new read written d l).0) (no_character_after src d.text.valid d.text.prefix)

-- of bytes, which are a text if and only if all of them are read
pub text_prefix : (src old new : List ℕ) (read written : ℕ) → ConvertsMaximal encode_utf16 src old new read written → length src ≤ length old
    → WritesText src old new written
text_prefix src old new read written d l = (d.scalars, d.text, (whole_fits src old new read written d l).1)

pub text_read : (src old new : List ℕ) (read written : ℕ) → ConvertsMaximal encode_utf16 src old new read written → length src ≤ length old
    → read ≡ length src → IsUtf8 src
text_read src old new read written d l e =
    let w = whole_fits src old new read written d l in
    subst IsUtf8 (take_all d.text.valid src (omega (arith, w.0, e))) d.text.prefix.kind

pub text_all_read : (src old new : List ℕ) (read written : ℕ) → ConvertsMaximal encode_utf16 src old new read written → length src ≤ length old
    → IsUtf8 src → read ≡ length src
text_all_read src old new read written d l u =
    let w = whole_fits src old new read written d l in
    let all : length src ≤ d.text.valid = d.text.prefix.longest (length src) (omega arith) (subst IsUtf8 (sym (take_all (length src) src (omega arith))) u) in
    omega (arith, w.0, all, d.text.prefix.within)

-- ASCII at the start
pub converted_start : (src old new : List ℕ) (n : ℕ) → n ≤ length src → IsAscii (take n src) → WritesPrefix old new n (take n src)
    → ConvertsSome encode_utf16 src old new n n
converted_start src old new n within ascii w =
    let text = ascii_text (take n src) ascii in
    record {
      scalars = text.0.0;
      are_scalars = text.0.1.0;
      within = within;
      spelled = text.0.1.1;
      writes = WritesPrefix-same _ _ _ _ _ _ w refl (sym text.1 ∙ ap (flat_map encode_utf16) (sym (chars_from_encodes text.0.0 _ text.0 text.0.1.1)));
    }

-- the same, of as many bytes as may fit
pub converted_first_ascii : (src old new : List ℕ) (m n : ℕ) → n ≤ length (take m src) → IsAscii (take n (take m src))
    → WritesPrefix old new n (take n (take m src)) → ConvertsSome encode_utf16 src old new n n
converted_first_ascii src old new m n within ascii w =
    let same : take n (take m src) ≡ take n src = take-take n m src (omega (arith, within, length-take m src)) in
    converted_start src old new n (omega (arith, within, length-take m src)) (subst IsAscii same ascii) (subst (λ xs. WritesPrefix old new n xs) same w)

-- a text whose ASCII prefix is written
pub putting_ascii : (src old new : List ℕ) (n : ℕ) → IsUtf8 src → IsLongestPrefix IsAscii src n → WritesPrefix old new n (take n src)
    → Putting src old new n n
putting_ascii src old new n u p w = putting_first src old new n n u (due_ascii src old new n u p.within p.kind w)
