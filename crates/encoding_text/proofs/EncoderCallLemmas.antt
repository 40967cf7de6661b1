-- Calls of the encoder: the UTF-8 of the first parts of code units, and the characters of a text that fit.
use Rattle.std.proofs.Common.{◌≡◌, ℕ, zero, suc, ◌+◌, ◌*◌, ◌<◌, ◌≤◌, inl, inr, Bool, true, false, List, [], ◌∷◌}
use Rattle.std.proofs.Common.{◌++◌, length, take, drop, refl, sym, ap, ◌∙◌, arith, subst, ◌-◌, encode_utf8}
use Rattle.std.specs.List.{flat_map}
use Rattle.std.proofs.lemmas.Bool.{cases_lt}
use Rattle.std.proofs.lemmas.List.{append_assoc, append-nil, length-append, length-drop, drop_all, drop_at, drop-drop}
use Rattle.std.proofs.lemmas.List.{drop-append-le, take-append-le, take-append-drop, length-take-le, take_all, take_rest}
use Rattle.std.proofs.lemmas.List.Concat.{flat_map-append}
use Rattle.encoding_definitions.specs.Utf16.{AreCodeUnits, Part16, Unpaired, units_of_part16, ArePartsOf16}
use Rattle.encoding_definitions.specs.Utf16.{StartsWith16, IsHighSurrogate, Character16, utf8_of_part16}
use Rattle.encoding_definitions.specs.FirstScalar.{BeginsLow}
use Rattle.encoding_text.specs.Encoding.{IsPendingSurrogate, EndsHigh, AreEncodable, IsEncodeResult, EncodeStep}
use Rattle.encoding_text.specs.Encoding.{encodable_with_text, text_bytes_of, IsTextEncodeResult, TextEncodeStep}
use Rattle.encoding_text.specs.declared.utf_8.encoder.EncoderResult.{EncoderResult}
use Rattle.encoding_text.specs.declared.utf_8.encoder.EncoderResult.TheVariants.{InputEmpty, OutputFull}
use Rattle.encoding_definitions.proofs.Utf16Lemmas.{parts_of, parts_exist, length-utf8_of_all}
use Rattle.encoding_definitions.proofs.FirstPartsLemmas.{NoPairAcross, parts_after, StartsWith16-take, first_fits}
use Rattle.encoding_text.proofs.EncoderLemmas.{enough_room}
use Rattle.std.specs.Prelude.{map}
use Rattle.std.specs.Char.{len_utf8}
use Rattle.std.specs.Str.{chars, IsUtf8, IsCharBoundary}
use Rattle.std.proofs.lemmas.Str.{length-encode, len_utf8_bounds, IsUtf8-take, IsUtf8-drop, chars-append, encodes-chars, IsCharBoundary-past_char}
use Rattle.encoding_definitions.proofs.EncodingLemmas.{flat_map-encode_utf8}
use Rattle.encoding_definitions.specs.Prefixes.{IsLongestFittingPrefix, WritesPrefix}
use Rattle.encoding_definitions.proofs.PrefixesLemmas.{IsLongestFittingPrefix-all, IsLongestFittingPrefix-stop, WritesPrefix_after, WritesPrefix-length}
use Rattle.encoding_definitions.proofs.PrefixesLemmas.{IsLongestFittingPrefix-cons, IsLongestFittingPrefix-map, length-prefix, written_is, written_prefix}
use borrow.Rule.Slice.PartMut.{put_mid}
use Rattle.encoding_kernels.proofs.OverwriteLemmas.{utf8_plain}

-- ---- the parts to be written stay parts
-- a high surrogate that ends the parts ends their units
ends_high : (us : List ℕ) (due : List Part16) (prefix : List Part16) (u : ℕ) → flat_map units_of_part16 due ≡ us → due ≡ prefix ++ Unpaired u ∷ []
    → IsHighSurrogate u → EndsHigh us
ends_high us due prefix u e f h =
    (flat_map units_of_part16 prefix, u, sym e ∙ ap (flat_map units_of_part16) f ∙ flat_map-append units_of_part16 prefix (Unpaired u ∷ []), h)

no_pair_open : (us : List ℕ) (last : Bool) (due : List Part16) (left_open following : List ℕ) → AreEncodable us last due left_open
    → (last ≡ true → following ≡ []) → NoPairAcross due (left_open ++ following)
no_pair_open us last due (u ∷ []) following d n prefix v e h low = omega (arith, d.surrogate, low)
no_pair_open us last due (u ∷ w ∷ more) following d n prefix v e h low = absurd d.surrogate
no_pair_open us true due [] following d n prefix v e h low = subst BeginsLow (n refl) low
no_pair_open us false due [] following d n prefix v e h low =
    omega (arith, d.waits refl (ends_high us due prefix v (d.parts.1 ∙ sym (append-nil d.prefix) ∙ sym d.whole) e h))

pending_units_are : (surrogate : List ℕ) → IsPendingSurrogate surrogate → AreCodeUnits surrogate
pending_units_are [] h k = omega arith
pending_units_are (u ∷ []) h zero = omega (arith, h)
pending_units_are (u ∷ []) h (suc k) = omega arith
pending_units_are (u ∷ v ∷ us) h k = absurd h

pub at_most_one_pending : (units : List ℕ) → IsPendingSurrogate units → length units ≤ 1
at_most_one_pending [] h = omega arith
at_most_one_pending (u ∷ []) h = omega arith
at_most_one_pending (u ∷ v ∷ us) h = absurd h

pub AreCodeUnits-append : (us vs : List ℕ) → AreCodeUnits us → AreCodeUnits vs → AreCodeUnits (us ++ vs)
AreCodeUnits-append [] vs a b k = b k
AreCodeUnits-append (u ∷ us) vs a b zero = a 0
AreCodeUnits-append (u ∷ us) vs a b (suc k) = AreCodeUnits-append us vs (λ n. a (suc n)) b k

pub AreCodeUnits-surrogate : (surrogate src : List ℕ) → IsPendingSurrogate surrogate → AreCodeUnits src → AreCodeUnits (surrogate ++ src)
AreCodeUnits-surrogate surrogate src h a = AreCodeUnits-append surrogate src (pending_units_are surrogate h) a

-- ---- one call
module _ (surrogate src : List ℕ) (room : ℕ) (last : Bool) (r : EncoderResult) (read : ℕ) (out after : List ℕ)
    (c : EncodeStep surrogate src room last r read out after) where
  -- the parts that it wrote
  abbrev pub parts_written : List Part16
  parts_written = take c.longest.count c.due

  due_units : flat_map units_of_part16 c.due ≡ c.are_encodable.prefix
  due_units = c.are_encodable.parts.1

  pub taken_within : c.taken ≤ length c.are_encodable.prefix
  taken_within =
      let split : flat_map units_of_part16 c.due ≡ flat_map units_of_part16 (take c.longest.count c.due) ++ flat_map units_of_part16
      (drop c.longest.count c.due) =
      ap (flat_map units_of_part16) (sym (take-append-drop c.longest.count c.due))
      ∙ flat_map-append units_of_part16 (take c.longest.count c.due) (drop c.longest.count c.due) in
      omega (
        arith,
        c.longest.taken,
        ap length split,
        ap length due_units,
        length-append (flat_map units_of_part16 (take c.longest.count c.due))
            (flat_map units_of_part16 (drop c.longest.count c.due)),
      )

  all_units : length surrogate + length src ≡ length c.are_encodable.prefix + length c.left_open
  all_units = sym (length-append surrogate src) ∙ ap length c.are_encodable.whole ∙ length-append c.are_encodable.prefix c.left_open

  -- after the units of what it wrote come those that are pending then and those that it has not read
  come_to : (read ≤ length src) × (drop c.taken (surrogate ++ src) ≡ after ++ drop read src)
  come_to = by_result r c.answer
    where
      by_result : (r : EncoderResult) → IsEncodeResult surrogate src c.due c.left_open c.taken r read after
          → (read ≤ length src) × (drop c.taken (surrogate ++ src) ≡ after ++ drop read src)
      by_result InputEmpty (x, y, z) = (
        omega arith,
        ap (drop c.taken) c.are_encodable.whole ∙ drop_at c.are_encodable.prefix c.left_open c.taken (omega (arith, x, ap length due_units)) ∙ sym z
            ∙ sym (append-nil after)
            ∙ ap (λ xs. after ++ xs) (sym (drop_all read src (omega arith))),
      )
      by_result OutputFull (x, y, z) = elim (cases_lt 0 c.taken) [
        | inl some ↦ (
          omega (arith, (z some).0, taken_within, all_units),
          ap (λ n. drop n (surrogate ++ src)) {x = c.taken} {y = length surrogate + read} (omega (arith, (z some).0))
              ∙ sym (drop-drop read (length surrogate) (surrogate ++ src))
              ∙ ap (drop read) (drop_at surrogate src (length surrogate) refl) ∙ ap (λ xs. xs ++ drop read src) (sym (z some).1),
        )
        | inr none ↦ let zero : c.taken ≡ 0 = omega arith in (
          omega (arith, (y zero).0),
          ap (λ n. drop n (surrogate ++ src)) zero ∙ ap (λ xs. xs ++ src) (sym (y zero).1)
              ∙ ap (λ n. after ++ drop n src) (sym (y zero).0),
        )
      ]

  pub read_within : read ≤ length src
  read_within = come_to.0

  pub rest_is : drop c.taken (surrogate ++ src) ≡ after ++ drop read src
  rest_is = come_to.1

  -- they are the first parts for any units that follow, and none do if the call is marked last
  pub written_first : (following : List ℕ) → AreCodeUnits following → (last ≡ true → following ≡ [])
      → StartsWith16 (surrogate ++ src ++ following) parts_written (after ++ drop read src ++ following)
  written_first following a n =
      let open_after : List ℕ = c.left_open ++ following in
      let whole : flat_map units_of_part16 c.due ++ open_after ≡ surrogate ++ src ++ following =
      sym (append_assoc (flat_map units_of_part16 c.due) c.left_open following) ∙ ap (λ xs. xs ++ c.left_open ++ following) due_units
      ∙ ap (λ xs. xs ++ following) (sym c.are_encodable.whole) in
      let all : ArePartsOf16 (surrogate ++ src ++ following) (c.due ++ parts_of open_after) =
      subst (λ xs. ArePartsOf16 xs (c.due ++ parts_of open_after)) whole
      (parts_after c.due open_after (parts_of open_after) c.are_encodable.parts.0
      (no_pair_open (surrogate ++ src) last c.due c.left_open following c.are_encodable n)
      (parts_exist open_after (AreCodeUnits-surrogate c.left_open following c.are_encodable.surrogate a))) in
      let first : take c.longest.count (c.due ++ parts_of open_after) ≡ parts_written =
      take-append-le c.longest.count c.due (parts_of open_after) c.longest.within in
      let rest : drop (length (flat_map units_of_part16 parts_written)) (surrogate ++ src ++ following) ≡ after ++ drop read src ++ following =
      ap (λ k. drop k (surrogate ++ src ++ following)) (sym c.longest.taken)
      ∙ drop-append-le c.taken (surrogate ++ src) following (omega (arith, taken_within, all_units, length-append surrogate src))
      ∙ ap (λ xs. xs ++ following) rest_is in
      rw (first, rest) at (StartsWith16-take (surrogate ++ src ++ following) (c.due ++ parts_of open_after) c.longest.count all)

  -- the units that it read and that were pending are those of the parts and those pending then
  units_split : length (flat_map units_of_part16 parts_written) + length after ≡ length surrogate + read
  units_split =
      let left = length-drop c.taken (surrogate ++ src) in
      omega (
        arith,
        left,
        ap length rest_is,
        length-append surrogate src,
        length-append after
            (drop read src),
        length-drop read src,
        read_within,
        c.longest.taken,
        taken_within,
        all_units,
      )

  -- the output leaves three bytes for each unit that is left, if there were as many for each
  pub room_left : length out + 3 * length after ≤ 3 * (length surrogate + read)
  room_left = omega (arith, units_split, length-utf8_of_all parts_written, ap length c.longest.written)

  -- with a unit to read, and space for the first part, it reads or writes
  pub gets_on : 0 < length src → (room < 4 → 3 * (length src + length surrogate) ≤ room) → length after < 2 * read + length surrogate
  gets_on some enough = by_result r c.answer refl
    where
      by_result : (s : EncoderResult) → IsEncodeResult surrogate src c.due c.left_open c.taken s read after → r ≡ s → length after < 2 * read + length surrogate
      by_result InputEmpty (x, y, z) e = omega (arith, y, at_most_one_pending after c.surrogate_after)
      by_result OutputFull (x, y, z) e = elim (cases_lt room 4) [
        | inl small ↦ let full : OutputFull ≡ InputEmpty = sym e ∙ enough_room surrogate src room last r read out after (enough small) c in absurd (cc (full))
        | inr large ↦ let first = first_fits c.due room c.taken out (omega (arith, x)) large c.longest in
            omega (arith, (z first).0, ap length (z first).1)
      ]

  -- if it is marked last and returns `InputEmpty`, nothing is unread or pending
  pub all_encoded : last ≡ true → r ≡ InputEmpty → (read ≡ length src) × (after ≡ [])
  all_encoded l e = by_result r e c.answer
    where
      by_result : (s : EncoderResult) → s ≡ InputEmpty → IsEncodeResult surrogate src c.due c.left_open c.taken s read after
          → (read ≡ length src) × (after ≡ [])
      by_result InputEmpty e (x, y, z) = (y, z ∙ c.are_encodable.last_opens_none l)
      by_result OutputFull e x = absurd (cc (e))

-- ---- the prefix of a text up to the last character boundary that fits
module _ (text : List ℕ) (room n : ℕ) (u : IsUtf8 text) (b : IsCharBoundary text n) (within : n ≤ room)
    (nearest : (i : ℕ) → n < i → i ≤ room → IsCharBoundary text i → ⊥) where
  -- the characters before that boundary
  abbrev prefix : List ℕ
  prefix = chars (take n text)

  prefix_text : flat_map encode_utf8 prefix ≡ take n text
  prefix_text = flat_map-encode_utf8 prefix ∙ encodes-chars (take n text) (IsUtf8-take text n u b)

  prefix_length_by : length (flat_map encode_utf8 prefix) ≡ n
  prefix_length_by = ap length prefix_text ∙ length-take-le n text b.0

  rest_text : flat_map encode_utf8 (chars (drop n text)) ≡ drop n text
  rest_text = flat_map-encode_utf8 (chars (drop n text)) ∙ encodes-chars (drop n text) (IsUtf8-drop text n u b)

  whole_text : prefix ++ chars (drop n text) ≡ chars text
  whole_text = sym (chars-append (take n text) (drop n text) (IsUtf8-take text n u b)) ∙ ap chars (take-append-drop n text)

  no_more : (c : ℕ) (more : List ℕ) → chars (drop n text) ≡ c ∷ more → room < n + len_utf8 c
  no_more c more e = elim (cases_lt room (n + len_utf8 c)) [
    | inl l ↦ l
    | inr l ↦ absurd (nearest (n + len_utf8 c) (omega (arith, len_utf8_bounds c)) l
        (IsCharBoundary-past_char text (flat_map encode_utf8 more) n c b.0 (IsUtf8-drop text n u b) (sym rest_text ∙ ap (flat_map encode_utf8) e)))
  ]

  prefix_fits : (rest : List ℕ) → chars (drop n text) ≡ rest
      → IsLongestFittingPrefix encode_utf8 encode_utf8 (prefix ++ rest) room (length (flat_map encode_utf8 prefix)) (flat_map encode_utf8 prefix)
  prefix_fits [] e =
      subst (λ cs. IsLongestFittingPrefix encode_utf8 encode_utf8 cs room (length (flat_map encode_utf8 prefix)) (flat_map encode_utf8 prefix))
      (sym (append-nil prefix))
      (IsLongestFittingPrefix-all encode_utf8 encode_utf8 prefix room (omega (arith, prefix_length_by)))
  prefix_fits (c ∷ more) e =
      IsLongestFittingPrefix-stop encode_utf8 encode_utf8 prefix c more room (omega (arith, prefix_length_by))
      (omega (arith, prefix_length_by, no_more c more e, length-encode c))

  pub text_prefix : IsLongestFittingPrefix encode_utf8 encode_utf8 (chars text) room n (take n text)
  text_prefix = rw (prefix_length_by, prefix_text, whole_text) at (prefix_fits (chars (drop n text)) refl)

-- ---- the characters to be written
due_bytes : (text : List ℕ) → IsUtf8 text → flat_map utf8_of_part16 (encodable_with_text [] text) ≡ text
due_bytes text u = utf8_plain (chars text) ∙ encodes-chars text u

module _ (text : List ℕ) (room n : ℕ) (out : List ℕ) (u : IsUtf8 text) (f : IsLongestFittingPrefix encode_utf8 encode_utf8 (chars text) room n (take n text))
    (e : take n text ≡ out) where
  fits_text : IsLongestFittingPrefix text_bytes_of utf8_of_part16 (encodable_with_text [] text) room n out
  fits_text = subst (IsLongestFittingPrefix text_bytes_of utf8_of_part16 (encodable_with_text [] text) room n) e
      (IsLongestFittingPrefix-map text_bytes_of utf8_of_part16 Character16 (chars text) room n (take n text) f)

  pub text_empty : length text ≤ n → n ≤ length text → TextEncodeStep [] text room InputEmpty n out []
  text_empty h k = record {
    surrogate_before = tt;
    surrogate_after = tt;
    longest = fits_text;
    answer = (sym e ∙ take_all n text h ∙ sym (due_bytes text u), omega arith, refl);
  }

  pub text_full : n < length text → TextEncodeStep [] text room OutputFull n out []
  text_full h =
      let long : length out ≡ n = ap length (sym e) ∙ length-take-le n text (omega arith) in
      record {
        surrogate_before = tt;
        surrogate_after = tt;
        longest = fits_text;
        answer = (omega (arith, long, ap length (due_bytes text u)), (λ x. (omega (arith, long, ap length x), refl)), (λ x. refl));
      }

-- ---- a pending surrogate
module _ (surrogate text : List ℕ) (h room : ℕ) (e : surrogate ≡ h ∷ []) (high : IsHighSurrogate h) where
  pub text_waits : room < len_utf8 0xFFFD → TextEncodeStep surrogate text room OutputFull 0 [] surrogate
  text_waits l = subst (λ xs. TextEncodeStep xs text room OutputFull 0 [] xs) (sym e) (record {
    surrogate_before = high;
    surrogate_after = high;
    longest = IsLongestFittingPrefix-stop text_bytes_of utf8_of_part16 [] (Unpaired h) (map Character16 (chars text)) room (omega arith)
        (omega (arith, l, length-encode 0xFFFD));
    answer = (
      omega (
        arith,
        length-append (encode_utf8 0xFFFD)
            (flat_map utf8_of_part16 (map Character16 (chars text))),
        length-encode 0xFFFD,
      ),
      (λ x. (refl, refl)),
      (λ x. absurd (omega arith)),
    );
  })

  pub text_then : (r : EncoderResult) (read : ℕ) (out : List ℕ) → length (encode_utf8 0xFFFD) ≤ room
      → TextEncodeStep [] text (room - length (encode_utf8 0xFFFD)) r read out []
      → TextEncodeStep surrogate text room r read (encode_utf8 0xFFFD ++ out) []
  text_then r read out l c = subst (λ xs. TextEncodeStep xs text room r read (encode_utf8 0xFFFD ++ out) []) (sym e) (record {
    surrogate_before = high;
    surrogate_after = tt;
    longest = subst (λ k. IsLongestFittingPrefix text_bytes_of utf8_of_part16 (encodable_with_text (h ∷ []) text) room k
        (encode_utf8 0xFFFD ++ out)) {x = 0 + read} {y = read} (omega arith)
        (IsLongestFittingPrefix-cons text_bytes_of utf8_of_part16 (Unpaired h) (encodable_with_text [] text) room read out l c.longest);
    answer = answers r read c.answer;
  })
    where
      answers : (r : EncoderResult) (read : ℕ) → IsTextEncodeResult [] text (encodable_with_text [] text) out r read []
          → IsTextEncodeResult (h ∷ []) text (encodable_with_text (h ∷ []) text) (encode_utf8 0xFFFD ++ out) r read []
      answers InputEmpty read (x, y, z) = (ap (λ xs. encode_utf8 0xFFFD ++ xs) x, y, refl)
      answers OutputFull read (x, y, z) = (
        omega (arith, x, length-append (encode_utf8 0xFFFD) out, length-append (encode_utf8 0xFFFD) (flat_map utf8_of_part16 (encodable_with_text [] text))),
        (λ k. absurd (omega (arith, ap length k, length-append (encode_utf8 0xFFFD) out, length-encode 0xFFFD))),
        (λ k. refl),
      )

-- ---- space for all
units_bytes : (surrogate : List ℕ) (ps : List Part16) → length (flat_map utf8_of_part16 (map Unpaired surrogate ++ ps)) ≡ 3 * length surrogate + length
    (flat_map utf8_of_part16 ps)
units_bytes [] ps = omega arith
units_bytes (h ∷ surrogate) ps = omega (
  arith,
  units_bytes surrogate ps,
  length-append (encode_utf8 0xFFFD)
      (flat_map utf8_of_part16 (map Unpaired surrogate ++ ps)),
  length-encode 0xFFFD,
)

pub enough_for_text : (surrogate text : List ℕ) (room : ℕ) (r : EncoderResult) (read : ℕ) (out after : List ℕ) → IsUtf8 text
    → length text + 3 * length surrogate ≤ room
    → TextEncodeStep surrogate text room r read out after → r ≡ InputEmpty
enough_for_text surrogate text room InputEmpty read out after u h c = refl
enough_for_text surrogate text room OutputFull read out after u h c =
    let due : List Part16 = encodable_with_text surrogate text in
    let long : length (flat_map utf8_of_part16 due) ≡ 3 * length surrogate + length text = units_bytes surrogate (encodable_with_text [] text)
    ∙ ap (λ xs. 3 * length surrogate + length xs) (due_bytes text u) in
    absurd (elim (cases_lt c.longest.count (length due)) [
      | inl l ↦ omega (arith, c.longest.longest l, length-prefix utf8_of_part16 due (c.longest.count + 1), long)
      | inr l ↦ omega (arith, c.answer.0, ap length (c.longest.written ∙ ap (flat_map utf8_of_part16) (take_all c.longest.count due l)))
    ])

-- ---- the call as the encoder makes it
module _ (surrogate text old mid sub : List ℕ) (h first read written : ℕ) (r : EncoderResult) (e : surrogate ≡ h ∷ []) (high : IsHighSurrogate h)
    (w : WritesPrefix old mid first (encode_utf8 0xFFFD))
    (c : TextEncodeStep [] text (length (take (length mid - first) (drop first mid))) r read (take written sub) [])
    (v : WritesPrefix (take (length mid - first) (drop first mid)) sub written (take written sub)) where
  unit_and_text : WritesPrefix old (put_mid first (length mid - first) mid sub) (first + written) (encode_utf8 0xFFFD ++ take written sub)
  unit_and_text = WritesPrefix_after old mid first (encode_utf8 0xFFFD) sub written (take written sub) w v

  pub text_call_rest : WritesPrefix old (put_mid first (length mid - first) mid sub) (first + written)
      (take (first + written) (put_mid first (length mid - first) mid sub))
  text_call_rest = written_prefix _ _ _ _ unit_and_text

  pub text_call : TextEncodeStep surrogate text (length old) r read (take (first + written) (put_mid first (length mid - first) mid sub)) []
  text_call =
      let room : length (take (length mid - first) (drop first mid)) ≡ length old - length (encode_utf8 0xFFFD) =
      ap length (take_rest mid first) ∙ length-drop first mid ∙ omega (arith, WritesPrefix-length old mid first _ w, w.count) in
      subst (λ xs. TextEncodeStep surrogate text (length old) r read xs []) (written_is _ _ _ _ unit_and_text)
      (text_then surrogate text h (length old) e high r read (take written sub) (omega (arith, w.count, w.fits))
      (subst (λ k. TextEncodeStep [] text k r read (take written sub) []) room c))
