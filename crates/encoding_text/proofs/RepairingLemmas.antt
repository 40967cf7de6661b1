-- Calls of a decoder and U+FFFD in turn: what is written is the text of the first parts of the source.
use Rattle.std.proofs.Common.{◌≡◌, ℕ, ◌+◌, ◌-◌, ◌<◌, ◌≤◌, Bool, true, false, List, [], ◌∷◌, ◌++◌}
use Rattle.std.proofs.Common.{length, map, take, drop, set, refl, sym, ap, ◌∙◌, arith, subst}
use Rattle.std.specs.Char.Escape.{encode_utf16}
use Rattle.std.specs.List.{flat_map}
use Rattle.std.proofs.lemmas.List.{append-nil, append_assoc, length-append, length-drop, length-take, take_rest, take-append-drop, drop-drop}
use Rattle.std.proofs.lemmas.List.Folds.{flat_map-map}
use Rattle.std.proofs.lemmas.Grind.{flat_map-append}
use borrow.Rule.Slice.PartMut.{put_mid}
use Rattle.encoding_definitions.specs.Parts.{Part, Character, IllFormed, IsFirstPart, StartsWith}
use Rattle.encoding_definitions.specs.Parts.{ArePartsOf, Yields, lossy_scalar, lossy_utf16, malformed_count}
use Rattle.encoding_definitions.specs.Prefixes.{WritesPrefix}
use Rattle.encoding_text.specs.Decoding.{DecodeStepInto, IsMalformed, IsReported}
use Rattle.encoding_text.specs.Steps.{ConvertsUntilFull}
use Rattle.encoding_text.specs.declared.decoder.DecoderResult.{DecoderResult}
use Rattle.encoding_text.specs.declared.decoder.DecoderResult.TheVariants.{Malformed}
use Rattle.encoding_text.proofs.CallLemmas.{decoded_yields, malformed_first}
use Rattle.encoding_definitions.proofs.DecompositionLemmas.{StartsWith-append, StartsWith-characters, malformed_count-append, malformed_count-characters}
use Rattle.encoding_definitions.proofs.EncodingLemmas.{length-utf16}
use Rattle.encoding_definitions.proofs.PrefixesLemmas.{WritesPrefix-length, WritesPrefix-same, WritesPrefix_after, WritesPrefix_push}

-- what a call yields, and what the next one yields of the rest
pub yields_then : (p src : List ℕ) (last next both : Bool) (ps qs : List Part) (r s : ℕ) (q t : List ℕ) → (both ≡ false → (last ≡ false) × (next ≡ false))
    → Yields p src last ps r q
    → Yields q (drop r src) next qs s t → Yields p src both (ps ++ qs) (r + s) t
yields_then p src last next both ps qs r s q t none g h = record {
  within = omega (arith, g.within, h.within, length-drop r src);
  first = subst (λ xs. StartsWith (p ++ src) (ps ++ qs) (t ++ xs)) (drop-drop s r src)
      (StartsWith-append (p ++ src) ps (q ++ drop r src) qs (t ++ drop s (drop r src)) g.first h.first);
  pending = h.pending;
  stable = λ e more.
      subst (λ xs. StartsWith (p ++ src ++ more) (ps ++ qs) (t ++ xs ++ more)) (drop-drop s r src)
      (StartsWith-append (p ++ src ++ more) ps (q ++ drop r src ++ more) qs (t ++ drop s (drop r src) ++ more) (g.stable (none e).0 more)
      (h.stable (none e).1 more));
}

module _ {A : Type 0} (encode : ℕ → List A) where
  -- the text of parts, with U+FFFD for each malformed sequence
  abbrev pub lossy : List Part → List A
  lossy parts = flat_map (λ part. encode (lossy_scalar part)) parts

  pub lossy-append : (ps qs : List Part) → lossy (ps ++ qs) ≡ lossy ps ++ lossy qs
  lossy-append ps qs = flat_map-append (λ part. encode (lossy_scalar part)) ps qs

  pub lossy-characters : (cs : List ℕ) → lossy (map Character cs) ≡ flat_map encode cs
  lossy-characters cs = flat_map-map (λ part. encode (lossy_scalar part)) Character cs

  -- parts are yielded, and the text of all except the reported ones among them is written
  pub record Repaired (p src : List ℕ) (last : Bool) (old new : List A) (read written replaced : ℕ) (q : List ℕ) (reported : List Part) : Type 0 where
    pub parts : List Part
    pub yielded : Yields p src last (parts ++ reported) read q
    pub writes : WritesPrefix old new written (lossy parts)
    pub malformed : replaced ≡ malformed_count parts

  -- what one more call decodes
  pub repaired_more : (need : ℕ) (p src : List ℕ) (last : Bool) (old new sub : List A) (read written replaced : ℕ) (q : List ℕ) (bytes units : ℕ) (t : List ℕ)
      (result : DecoderResult)
      → Repaired p src last old new read written replaced q []
      → DecodeStepInto encode need q (drop read src) (take (length new - written) (drop written new)) sub last result bytes units t
      → (reported : List Part) × IsReported result reported
      × Repaired p src last old (put_mid written (length new - written) new sub) (read + bytes) (written + units) replaced t reported
  repaired_more need p src last old new sub read written replaced q bytes units t result d (out, w, call) =
      let (more, (cs, reported, scalars, out_is, is, are), g) = decoded_yields encode need q (drop read src) _ last result bytes out t call in
      let done = d.parts in
      let before : Yields p src last done read q = subst (λ ps. Yields p src last ps read q) (append-nil done) d.yielded in
      let whole : done ++ more ≡ (done ++ map Character cs) ++ reported = ap (λ ps. done ++ ps) are ∙ sym (append_assoc done (map Character cs) reported) in (
        reported,
        is,
        record {
          parts = done ++ map Character cs;
          yielded = subst (λ ps. Yields p src last ps (read + bytes) t) whole
              (yields_then p src last last last done more read bytes q t (λ e. (e, e)) before g);
          writes = WritesPrefix-same _ _ _ _ _ _ (WritesPrefix_after old new written (lossy done) sub units out d.writes w) refl
              (ap (λ xs. lossy done ++ xs) (out_is ∙ sym (lossy-characters cs)) ∙ sym (lossy-append done (map Character cs)));
          malformed = omega (arith, d.malformed, malformed_count-append done (map Character cs), malformed_count-characters cs);
        },
      )

  -- U+FFFD for the reported part
  pub repaired_report : (p src : List ℕ) (last : Bool) (old new after : List A) (read written units replaced k second : ℕ) (q : List ℕ) (reported : List Part)
      → (d : Repaired p src last old new read written replaced q reported) → IsReported (Malformed k second) reported
      → WritesPrefix old after units (lossy d.parts ++ encode 0xFFFD)
      → Repaired p src last old after read units (replaced + 1) q []
  repaired_report p src last old new after read written units replaced k second q reported d (x, is, size) w =
      let parts : List Part = d.parts ++ IllFormed x ∷ [] in
      record {
        parts = parts;
        yielded = subst (λ ps. Yields p src last ps read q) (ap (λ ps. d.parts ++ ps) is ∙ sym (append-nil parts)) d.yielded;
        writes = WritesPrefix-same _ _ _ _ _ _ w refl
            (ap (λ xs. lossy d.parts ++ xs) (sym (append-nil (encode 0xFFFD))) ∙ sym (lossy-append d.parts (IllFormed x ∷ [])));
        malformed = omega (arith, d.malformed, malformed_count-append d.parts (IllFormed x ∷ []));
      }

-- ---- whole sources, to UTF-16: in turn characters, and U+FFFD for a malformed sequence
-- the first parts are written
pub record ReplacedSome (src old new : List ℕ) (read written : ℕ) : Type 0 where
  pub parts : List Part
  pub first : StartsWith src parts (drop read src)
  pub writes : WritesPrefix old new written (lossy_utf16 parts)

-- characters are first parts
are_first : {A : Type 0} (encode : ℕ → List A) (src : List ℕ) (old new : List A) (read written : ℕ) → (d : ConvertsUntilFull encode src old new read written)
    → StartsWith src (map Character d.scalars) (drop read src)
are_first encode src old new read written d =
    subst (λ xs. StartsWith xs (map Character d.scalars) (drop read src)) (ap (λ xs. xs ++ drop read src) d.spelled ∙ take-append-drop read src)
    (StartsWith-characters d.scalars (drop read src) d.are_scalars)

-- the characters at the start of the source
pub replaced_first : (src old new : List ℕ) (read written : ℕ) → ConvertsUntilFull encode_utf16 src old new read written
    → ReplacedSome src old new read written
replaced_first src old new read written d = record {
  parts = map Character d.scalars;
  first = are_first encode_utf16 src old new read written d;
  writes = subst (λ xs. WritesPrefix old new written xs) (sym (lossy-characters encode_utf16 d.scalars)) d.writes;
}

-- other parts after them
pub replaced_then : (src old new sub : List ℕ) (read written units : ℕ) (rest : List Part) (left : List ℕ) → ReplacedSome src old new read written
    → StartsWith (drop read src) rest left → WritesPrefix (take (length new - written) (drop written new)) sub units (lossy_utf16 rest)
    → (parts : List Part) × StartsWith src parts left × WritesPrefix old (put_mid written (length new - written) new sub) (written + units) (lossy_utf16 parts)
replaced_then src old new sub read written units rest left d are w = (
  d.parts ++ rest,
  StartsWith-append src d.parts (drop read src) rest left d.first are,
  WritesPrefix-same _ _ _ _ _ _ (WritesPrefix_after old new written (lossy_utf16 d.parts) sub units (lossy_utf16 rest) d.writes w) refl
      (sym (lossy-append encode_utf16 d.parts rest)),
)

-- more characters
pub replaced_characters : (src old new sub : List ℕ) (read written n m : ℕ) → ReplacedSome src old new read written
    → ConvertsUntilFull encode_utf16 (drop read src) (take (length new - written) (drop written new)) sub n m
    → ReplacedSome src old (put_mid written (length new - written) new sub) (read + n) (written + m)
replaced_characters src old new sub read written n m d e =
    let more = replaced_first (drop read src) (take (length new - written) (drop written new)) sub n m e in
    let all = replaced_then src old new sub read written m more.parts (drop (read + n) src) d
    (subst (λ xs. StartsWith (drop read src) more.parts xs) (drop-drop n read src) more.first) more.writes in
    record { parts = all.0; first = all.1; writes = all.2 }

-- U+FFFD for one more malformed sequence
pub replaced_malformed : (src old new : List ℕ) (read written n : ℕ) → ReplacedSome src old new read written → written < length new
    → IsMalformed (take n (drop read src)) (drop n (drop read src)) true
    → ReplacedSome src old (set new written 0xFFFD) (read + n) (written + 1)
replaced_malformed src old new read written n d room malformed =
    let x = take n (drop read src) in
    let rest = drop n (drop read src) in
    let part : List Part = IllFormed x ∷ [] in
    let is : IsFirstPart (drop read src) (IllFormed x) rest =
    subst (λ xs. IsFirstPart xs (IllFormed x) rest) (take-append-drop n (drop read src)) (malformed_first x rest true malformed) in
    record {
      parts = d.parts ++ part;
      first = StartsWith-append src d.parts (drop read src) part (drop (read + n) src) d.first (rest, is, drop-drop n read src);
      writes = WritesPrefix-same _ _ _ _ _ _ (WritesPrefix_push old new written (lossy_utf16 d.parts) 0xFFFD d.writes room) refl
          (sym (lossy-append encode_utf16 d.parts part));
    }

-- nothing is left
pub replaced_all : (src old new : List ℕ) (read written : ℕ) → ReplacedSome src old new read written → drop read src ≡ []
    → (parts : List Part) × ArePartsOf src parts × WritesPrefix old new written (lossy_utf16 parts)
replaced_all src old new read written d none = (d.parts, subst (λ xs. StartsWith src d.parts xs) none d.first, d.writes)

-- characters take no more code units than bytes
pub characters_short : (src old new : List ℕ) (read written : ℕ) → ConvertsUntilFull encode_utf16 src old new read written
    → (written ≤ read) × (length new ≡ length old)
characters_short src old new read written d =
    (omega (arith, d.writes.count, length-utf16 d.scalars d.are_scalars, ap length d.spelled, length-take read src), WritesPrefix-length _ _ _ _ d.writes)

-- how much of the destination is left after such a call
pub repaired_length : (new sub : List ℕ) (written units : ℕ) (out : List ℕ) → WritesPrefix (take (length new - written) (drop written new)) sub units out
    → written ≤ length new
    → length (put_mid written (length new - written) new sub) ≡ length new
repaired_length new sub written units out w l =
    let kept : length sub ≡ length (take (length new - written) (drop written new)) = WritesPrefix-length _ _ _ _ w in
    let size : length (take (length new - written) (drop written new)) ≡ length new - written = ap length (take_rest new written) ∙ length-drop written new in
    omega (arith, kept, size, l, length-append {A = ℕ}, length-take {A = ℕ}, length-drop {A = ℕ})
