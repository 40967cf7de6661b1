-- The first parts of bytes, with U+FFFD for each malformed sequence, up to one that doesn't fit.
use Rattle.std.proofs.Common.{◌≡◌, ◌≢◌, inl, inr, ℕ, ◌+◌, ◌-◌, ◌<◌, ◌≤◌, true, List, [], ◌∷◌, ◌++◌}
use Rattle.std.proofs.Common.{length, take, drop, encode_utf8_all, refl, sym, ap, ◌∙◌, arith, subst}
use Rattle.std.specs.List.{flat_map}
use Rattle.std.proofs.lemmas.Bool.{cases_lt}
use Rattle.std.proofs.lemmas.List.{append-nil, append_assoc, drop-drop, drop_all, length-append, length-drop}
use Rattle.std.proofs.lemmas.List.{length-take, length_push, take_at, take_rest, take-append-drop}
use borrow.Rule.Slice.PartMut.{put_mid}
use Rattle.encoding_definitions.specs.Sequence.{IsSequence}
use Rattle.encoding_definitions.specs.Parts.{Part, Character, IllFormed, bytes_of, BeginsWithNoCharacter, IsFirstPart}
use Rattle.encoding_definitions.specs.Parts.{StartsWith, ArePartsOf, Yields, lossy_scalar, malformed_count}
use Rattle.encoding_definitions.specs.Prefixes.{WritesPrefix}
use Rattle.encoding_definitions.specs.Converting.{FittingBegins}
use Rattle.encoding_definitions.proofs.PartsLemmas.{part_bytes}
use Rattle.encoding_definitions.proofs.DecompositionLemmas.{StartsWith-append, StartsWith-bytes, StartsWith-one, has_parts, malformed_count-bytes}
use Rattle.encoding_definitions.proofs.PrefixesLemmas.{WritesPrefix-length, WritesPrefix-nil, WritesPrefix_after, flat_map_push}
use Rattle.encoding_text.specs.Decoding.{DecodeStepInto, IsMalformed}
use Rattle.encoding_text.specs.declared.decoder.DecoderResult.{DecoderResult}
use Rattle.encoding_text.specs.declared.decoder.DecoderResult.TheVariants.{InputEmpty, OutputFull, Malformed}
use Rattle.encoding_text.specs.Replacing.{ConvertsParts}
use Rattle.encoding_text.proofs.CallLemmas.{malformed_first, malformed_some, not_ascii}
use Rattle.encoding_text.proofs.FirstLemmas.{all_malformed}
use Rattle.encoding_text.proofs.RepairingLemmas.{Repaired, lossy, repaired_more, repaired_report, yields_then}

-- after `OutputFull` nothing is pending, if nothing was
pub none_pending : (q : List ℕ) (read : ℕ) → (q ≢ [] → (read ≡ 0) × (q ≡ [])) → q ≡ []
none_pending [] read h = refl
none_pending (b ∷ q) read h = (h (λ e. cc)).1

-- bytes that start with a character
pub begins_character : (bs : List ℕ) (n : ℕ) → IsSequence (take n bs) → BeginsWithNoCharacter bs → bs ≡ []
begins_character bs n s none = absurd (none (take n bs) (drop n bs) (sym (take-append-drop n bs)) s)

-- the malformed sequence at the start of all that is left
pub ruleset malformed_at_end = (not_ascii, begins_character, all_malformed)

-- no bytes have a first part
none_first : (bs : List ℕ) (part : Part) (after : List ℕ) → bs ≡ [] → IsFirstPart bs part after → ⊥
none_first bs part after e f =
    let bytes = part_bytes bs part after f in
    omega (arith, ap length e, ap length bytes.0, length-append (bytes_of part) after, bytes.1)

-- the destination keeps its length
pub room_after : {A : Type 0} (new sub : List A) (written units : ℕ) (out : List A)
    → WritesPrefix (take (length new - written) (drop written new)) sub units out
    → written ≤ length new
    → (length (put_mid written (length new - written) new sub) ≡ length new) × (written + units ≤ length new)
room_after {A} new sub written units out w l =
    let kept : length sub ≡ length (take (length new - written) (drop written new)) = WritesPrefix-length _ _ _ _ w in
    let size : length (take (length new - written) (drop written new)) ≡ length new - written = ap length (take_rest new written) ∙ length-drop written new in (
      omega (arith, kept, size, l, length-append {A = A}, length-take {A = A}, length-drop {A = A}),
      omega (arith, w.fits, size, l),
    )

module _ {A : Type 0} (encode : ℕ → List A) where
  -- the bytes start with no part whose output fits
  abbrev pub NoneFits : List ℕ → ℕ → Type 0
  NoneFits rest left = (part : Part) (after : List ℕ) → IsFirstPart rest part after → left < length (encode (lossy_scalar part))

  no_character_fits : (rest : List ℕ) (left c : ℕ) (after : List ℕ) → (FittingBegins encode rest left → ⊥) → IsFirstPart rest (Character c) after
      → left < length (encode c)
  no_character_fits rest left c after stops f = elim (cases_lt left (length (encode c))) [ inl l ↦ l | inr l ↦ absurd (stops (c, after, f.0, f.1, l)) ]

  -- they start with a character
  pub none_fits_character : (rest : List ℕ) (left : ℕ) → (FittingBegins encode rest left → ⊥) → (BeginsWithNoCharacter rest → rest ≡ []) → NoneFits rest left
  none_fits_character rest left stops begins (Character c) after f = no_character_fits rest left c after stops f
  none_fits_character rest left stops begins (IllFormed x) after f = absurd (none_first rest (IllFormed x) after (begins f.0) f)

  -- U+FFFD doesn't fit
  pub none_fits_replacement : (rest : List ℕ) (left : ℕ) → (FittingBegins encode rest left → ⊥) → left < length (encode 0xFFFD) → NoneFits rest left
  none_fits_replacement rest left stops l (Character c) after f = no_character_fits rest left c after stops f
  none_fits_replacement rest left stops l (IllFormed x) after f = l

  -- there are none
  pub none_fits_end : (rest : List ℕ) (left : ℕ) → rest ≡ [] → NoneFits rest left
  none_fits_end rest left e part after f = absurd (none_first rest part after e f)

  -- at the start
  pub parts_none : (src : List ℕ) (old : List A) → Repaired encode [] src true old old 0 0 0 [] []
  parts_none src old = record {
    parts = [];
    yielded = record { within = omega arith; first = refl; pending = inl refl; stable = λ e more. cc };
    writes = WritesPrefix-nil old;
    malformed = refl;
  }

  module _ (src : List ℕ) (old new : List A) (read written replaced : ℕ) (d : Repaired encode [] src true old new read written replaced [] []) where
    first_parts : StartsWith src d.parts (drop read src)
    first_parts = subst (λ ps. StartsWith src ps (drop read src)) (append-nil d.parts) d.yielded.first

    read_is : read ≡ length (flat_map bytes_of d.parts)
    read_is = omega (
      arith,
      ap length (StartsWith-bytes src d.parts (drop read src) first_parts),
      length-append (flat_map bytes_of d.parts) (drop read src),
      length-drop read src,
      d.yielded.within,
    )

    next_too_long : (others : List Part) → ArePartsOf (drop read src) others → NoneFits (drop read src) (length old - written)
        → length d.parts < length (d.parts ++ others) → length old < length (lossy encode (take (length d.parts + 1) (d.parts ++ others)))
    next_too_long [] h none l = absurd (omega (arith, l, length-append d.parts []))
    next_too_long (part ∷ more) h none l =
        let n = length d.parts + 1 in
        let next : take n (d.parts ++ part ∷ more) ≡ d.parts ++ part ∷ [] =
        ap (take n) (sym (append_assoc d.parts (part ∷ []) more)) ∙ take_at (d.parts ++ part ∷ []) more n (length_push d.parts part) in
        let long : length (lossy encode (d.parts ++ part ∷ [])) ≡ length (lossy encode d.parts) + length (encode (lossy_scalar part)) =
        ap length (flat_map_push (λ part. encode (lossy_scalar part)) d.parts part)
        ∙ length-append (lossy encode d.parts) (encode (lossy_scalar part)) in
        subst (λ ps. length old < length (lossy encode ps)) (sym next) (omega (arith, long, none part h.0 h.1, d.writes.count, d.writes.fits))

    parts_by : (others : List Part) → ArePartsOf (drop read src) others → NoneFits (drop read src) (length old - written)
        → ConvertsParts encode src old new read written replaced
    parts_by others h none =
        let prefix : take (length d.parts) (d.parts ++ others) ≡ d.parts = take_at d.parts others (length d.parts) refl in
        record {
          parts = d.parts ++ others;
          are_parts = StartsWith-append src d.parts (drop read src) others [] first_parts h;
          out = lossy encode d.parts;
          longest = record {
            count = length d.parts;
            within = omega (arith, length-append d.parts others);
            taken = read_is ∙ ap (λ ps. length (flat_map bytes_of ps)) (sym prefix);
            written = ap (lossy encode) (sym prefix);
            fits = omega (arith, d.writes.count, d.writes.fits);
            longest = next_too_long others h none;
          };
          writes = d.writes;
          counts = d.malformed ∙ ap malformed_count (sym prefix);
        }

    -- the parts so far are the longest prefix that fits
    pub parts_converted : NoneFits (drop read src) (length old - written) → ConvertsParts encode src old new read written replaced
    parts_converted none = let others = has_parts (drop read src) in parts_by others.0 others.1 none

    pub written_within : written ≤ length new
    written_within = omega (arith, d.writes.fits, WritesPrefix-length old new written (lossy encode d.parts) d.writes)

    -- a malformed sequence follows, and U+FFFD is written for it
    pub parts_replaced : (sub : List A) (n units : ℕ) → n ≤ length (drop read src) → IsMalformed (take n (drop read src)) (drop n (drop read src)) true
        → WritesPrefix (take (length new - written) (drop written new)) sub units (encode 0xFFFD)
        → Repaired encode [] src true old (put_mid written (length new - written) new sub) (read + n) (written + units) (replaced + 1) [] []
    parts_replaced sub n units within malformed w =
        let rest = drop read src in
        let x = take n rest in
        let first = subst (λ bs. IsFirstPart bs (IllFormed x) (drop n rest)) (take-append-drop n rest) (malformed_first x (drop n rest) true malformed) in
        let one : Yields [] rest true (IllFormed x ∷ []) n [] = record {
          within = within;
          first = StartsWith-one rest (IllFormed x) (drop n rest) first;
          pending = inl refl;
          stable = λ e more. cc;
        } in
        let before : Yields [] src true d.parts read [] = subst (λ ps. Yields [] src true ps read []) (append-nil d.parts) d.yielded in
        let next : Repaired encode [] src true old new (read + n) written replaced [] (IllFormed x ∷ []) = record {
          parts = d.parts;
          yielded = yields_then [] src true true true d.parts (IllFormed x ∷ []) read n [] [] (λ e. (e, e)) before one;
          writes = d.writes;
          malformed = d.malformed;
        } in
        repaired_report encode [] src true old _ _ (read + n) written (written + units) replaced n 0 [] (IllFormed x ∷ []) next
        (x, refl, omega (arith, length-take n rest, within))
        (WritesPrefix_after old new written (lossy encode d.parts) sub units (encode 0xFFFD) d.writes w)

  module _ (need : ℕ) (src : List ℕ) (old new sub : List A) (read written replaced bytes units : ℕ) (t : List ℕ)
      (d : Repaired encode [] src true old new read written replaced [] []) where
    -- what a call decodes, into the rest of the destination
    abbrev pub Decodes : DecoderResult → Type 0
    Decodes result = DecodeStepInto encode need [] (drop read src) (take (length new - written) (drop written new)) sub true result bytes units t

    abbrev pub dst_after : List A
    dst_after = put_mid written (length new - written) new sub

    -- what is left of the destination
    pub left_after : (result : DecoderResult) → Decodes result → written ≤ length new
        → length (take (length dst_after - (written + units)) (drop (written + units) dst_after)) ≡ length new - (written + units)
    left_after result call l = ap length (take_rest dst_after (written + units)) ∙ length-drop (written + units) dst_after
        ∙ ap (λ n. n - (written + units)) (room_after new sub written units call.0 call.1 l).0

    -- all is read
    pub parts_empty : Decodes InputEmpty
        → (d : Repaired encode [] src true old dst_after (read + bytes) (written + units) replaced [] []) × (drop (read + bytes) src ≡ [])
    parts_empty call =
        let (reported, is, r) = repaired_more encode need [] src true old new sub read written replaced [] bytes units t InputEmpty d call in
        let none : t ≡ [] = call.2.answer.2 refl in (
          subst (λ xs. Repaired encode [] src true old dst_after (read + bytes) (written + units) replaced xs []) none
              (subst (λ ps. Repaired encode [] src true old dst_after (read + bytes) (written + units) replaced t ps) is r),
          drop_all (read + bytes) src (omega (arith, call.2.answer.0, length-drop read src)),
        )

    -- the next character doesn't fit, or the next part is malformed and there is no space for any character
    pub parts_full : Decodes OutputFull
        → (t ≡ []) × (d : Repaired encode [] src true old dst_after (read + bytes) (written + units) replaced [] []) × (read + bytes < length src)
        × (FittingBegins encode (drop (read + bytes) src) (length old - (written + units)) → ⊥)
    parts_full call =
        let (reported, is, r) = repaired_more encode need [] src true old new sub read written replaced [] bytes units t OutputFull d call in
        let none : t ≡ [] = none_pending t bytes call.2.answer.4 in
        let left : length (take (length new - written) (drop written new)) - length call.0 ≡ length old - (written + units) =
        omega (
          arith,
          ap length (take_rest new written),
          length-drop written new,
          WritesPrefix-length old new written (lossy encode d.parts) d.writes,
          call.1.count,
        ) in (
          none,
          subst (λ xs. Repaired encode [] src true old dst_after (read + bytes) (written + units) replaced xs []) none
              (subst (λ ps. Repaired encode [] src true old dst_after (read + bytes) (written + units) replaced t ps) is r),
          omega (arith, call.2.answer.0, length-drop read src),
          λ f. call.2.answer.3 none (rw (sym left, sym (drop-drop bytes read src)) at f),
        )

    module _ (k second : ℕ) (call : Decodes (Malformed k second)) where
      -- a malformed sequence is reported, and U+FFFD is written for it
      pub parts_reported : (next : List A) (n : ℕ)
          → WritesPrefix (take (length dst_after - (written + units)) (drop (written + units) dst_after)) next n (encode 0xFFFD)
          → Repaired encode [] src true old (put_mid (written + units) (length dst_after - (written + units)) dst_after next) (read + bytes)
          (written + units + n)
          (replaced + 1) [] []
      parts_reported next n w =
          let (reported, is, r) = repaired_more encode need [] src true old new sub read written replaced [] bytes units t (Malformed k second) d call in
          let whole = put_mid (written + units) (length dst_after - (written + units)) dst_after next in
          subst (λ xs. Repaired encode [] src true old whole (read + bytes) (written + units + n) (replaced + 1) xs []) call.2.answer.5
          (repaired_report encode [] src true old dst_after whole (read + bytes) (written + units) (written + units + n) replaced k second t reported r is
          (WritesPrefix_after old dst_after (written + units) (lossy encode r.parts) next n (encode 0xFFFD) r.writes w))

      -- bytes are read, and there is space for any character
      pub report_reads : (0 < bytes) × (bytes ≤ length (drop read src)) × (t ≡ []) × (need ≤ length new - (written + units))
      report_reads =
          let a = call.2.answer in
          let some : 0 < bytes = omega (
            arith,
            ap length a.3,
            length-append (encode_utf8_all call.2.scalars) a.0,
            length-take bytes (drop read src),
            malformed_some a.0 (drop bytes (drop read src)) true a.6,
          ) in
          let left : need ≤ length (take (length new - written) (drop written new)) - length call.0 = a.7 (omega (arith, some, a.2)) in
          (some, a.2, a.5, omega (arith, left, ap length (take_rest new written), length-drop written new, call.1.count))

-- no more malformed sequences are replaced than bytes are read
pub replaced_within : {A : Type 0} (encode : ℕ → List A) (src : List ℕ) (old new : List A) (read written replaced : ℕ)
    → Repaired encode [] src true old new read written replaced [] [] → replaced ≤ read
replaced_within encode src old new read written replaced d =
    let first = subst (λ ps. StartsWith src ps (drop read src)) (append-nil d.parts) d.yielded.first in
    omega (arith, d.malformed, malformed_count-bytes src d.parts (drop read src) first, length-drop read src, d.yielded.within)
