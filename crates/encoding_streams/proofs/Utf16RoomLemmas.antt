-- What follows from one call of the UTF-16 decoder: it makes progress, and a destination of the queried length is large
-- enough.
use Rattle.std.proofs.Common.{◌≡◌, ℕ, ◌+◌, ◌-◌, ◌*◌, ◌<◌, ◌≤◌, ◌⊎◌, inl, inr, Bool, true, List, [], ◌∷◌, ◌++◌, length, take, drop, encode_utf8, refl, sym, ap}
use Rattle.std.proofs.Common.{◌∙◌, arith}
use Rattle.std.specs.Char.Escape.{encode_utf16}
use Rattle.std.specs.List.{flat_map}
use Rattle.std.specs.Str.{all_scalars}
use Rattle.std.proofs.lemmas.Bool.{and_parts, cases_lt}
use Rattle.std.proofs.lemmas.List.{append-nil, length-append, length-drop, length-take-le}
use Rattle.encoding_text.specs.Parts.{Part, Character, IllFormed}
use Rattle.encoding_text.specs.Utf16.{Character16}
use Rattle.encoding_text.specs.Decoding.{IsReport, Suffices}
use Rattle.encoding_text.specs.declared.utf_16.ByteOrder.{ByteOrder}
use Rattle.encoding_text.specs.declared.decoder.DecoderResult.{DecoderResult}
use Rattle.encoding_text.specs.declared.decoder.DecoderResult.TheVariants.{InputEmpty, OutputFull, Malformed}
use Rattle.encoding_text.proofs.EncodingLemmas.{length_encode_utf8_le, length-encode_utf16-le}
use Rattle.encoding_definitions.proofs.Utf16Lemmas.{length-utf8_of_part16}
use Rattle.std.specs.Char.{IsScalar}
use Rattle.encoding_text.specs.Utf16Bytes.{bytes_of_scalars}
use Rattle.encoding_streams.specs.Utf16Parts.{bytes_of_utf16, IsMalformedUtf16, IsFirstPartUtf16}
use Rattle.encoding_streams.specs.Utf16Decoding.{NeedsMore, DecodeUtf16Step, DecodeUtf16StepInto, SufficesReplacingUtf16, max_utf16_length_from_utf16}
use Rattle.encoding_streams.specs.Utf16Decoding.{max_utf8_length_from_utf16}
use Rattle.encoding_streams.proofs.Utf16ByteLemmas.{length-unit_bytes, length-utf16_bytes, no_characters_pending}
use Rattle.encoding_streams.proofs.Utf16PartLemmas.{part_bytes}

-- the lengths of what was pending and read, against those of the characters, a malformed sequence and what is pending
-- then; each code unit of the characters makes at most `most` units of output
record Counts (p src : List ℕ) (room need most : ℕ) (last : Bool) (result : DecoderResult) (read written : ℕ) (q : List ℕ) : Type 0 where
  pub within : read ≤ length src
  pub units : ℕ
  pub output : written ≤ most * units
  pub split : 2 * units + length q ≤ length p + read
  pub reported : IsReport result → (2 * units + 2 + length q ≤ length p + read)
      ⊎ ((last ≡ true) × (2 * units + 1 ≤ length p + read) × (length q ≡ 0) × (read ≡ length src))
  pub full : result ≡ OutputFull → (0 < length q + (length src - read)) × (room - written < need)

-- a malformed sequence of one byte is all that is left
malformed_length : (order : ByteOrder) (x rest : List ℕ) (last : Bool) → IsMalformedUtf16 order x rest last
    → (2 ≤ length x) ⊎ ((last ≡ true) × (0 < length x) × (length rest ≡ 0))
malformed_length order x rest last (inl (u, low, e)) = inl (omega (arith, ap length e, length-unit_bytes order u))
malformed_length order x rest last (inr (inl h)) = inl (omega (arith, ap length h.bytes, length-unit_bytes order h.unit))
malformed_length order x rest last (inr (inr (some, pending, none, l))) =
    inr (l, (part_bytes order last (x ++ rest) (IllFormed x) rest (refl, inr (inr (some, pending, none, l)))).1, ap length none)

-- what needs more than the space that is left has bytes, and needs no more than any character
more_left : {A : Type 0} (order : ByteOrder) (encode : ℕ → List A) (need : ℕ) (last : Bool) (fits : (c : ℕ) → IsScalar c → length (encode c) ≤ need)
    (left : ℕ) (bs : List ℕ) (part : Part) (after : List ℕ) → IsFirstPartUtf16 order last bs part after → NeedsMore encode need left part
    → (0 < length bs) × (left < need)
more_left order encode need last fits left bs (Character c) after f l =
    let bytes = part_bytes order last bs (Character c) after f in
    (omega (arith, ap length bytes.0, length-append (bytes_of_utf16 order (Character c)) after, bytes.1), omega (arith, l, fits c f.0))
more_left order encode need last fits left bs (IllFormed x) after f l =
    let bytes = part_bytes order last bs (IllFormed x) after f in
    (omega (arith, ap length bytes.0, length-append x after, bytes.1), l)

module _ {A : Type 0} {order : ByteOrder} {encode : ℕ → List A} {need : ℕ} {p src : List ℕ} {room : ℕ} {last : Bool} {read : ℕ} {out : List A} {q : List ℕ}
    (fits : (c : ℕ) → IsScalar c → length (encode c) ≤ need) where
  -- with an unread byte and space for any character a call makes progress
  pub progress : (result : DecoderResult) → DecodeUtf16Step order encode need p src room last result read out q → 0 < length src → need ≤ room
      → (0 < read) ⊎ IsReport result
  progress InputEmpty call some l = inl (omega (arith, call.answer.0))
  progress (Malformed k second) call some l = inr (k, second, refl)
  progress OutputFull call some l = elim (cases_lt 0 read) [
    | inl h ↦ inl h
    | inr h ↦
        let (unread, within, whole, kept, part, after, first, more) = call.answer in
        let zero_read : 0 ≡ read = omega arith in
        let none = no_characters_pending order call.scalars q p call.are_scalars call.pending_before (sym (append-nil p)
        ∙ ap (λ n. p ++ take n src) zero_read ∙ whole) in
        let little = more_left order encode need last fits (room - length out) (q ++ drop read src) part after first more in
        absurd (omega (arith, little.1, ap length (call.out_is ∙ ap (flat_map encode) none)))
  ]

  -- each code unit makes at most `most` units of the output
  module _ (most : ℕ) (short : (cs : List ℕ) → all_scalars cs ≡ true → length (flat_map encode cs) ≤ most * length (flat_map encode_utf16 cs)) where
    counts : (result : DecoderResult) → DecodeUtf16Step order encode need p src room last result read out q
        → Counts p src room need most last result read (length out) q
    counts InputEmpty call =
        let (all, whole, ended) = call.answer in
        let cs = call.scalars in
        record {
          within = omega (arith, all);
          units = length (flat_map encode_utf16 cs);
          output = omega (arith, ap length call.out_is, short cs call.are_scalars);
          split = omega (
            arith,
            ap length whole,
            length-append p src,
            length-append (bytes_of_scalars order cs) q,
            length-utf16_bytes order (flat_map encode_utf16 cs),
            all,
          );
          reported = λ (k, second, f). let no : InputEmpty ≡ Malformed k second = f in cc;
          full = λ f. cc;
        }
    counts OutputFull call =
        let (unread, within, whole, kept, part, after, first, more) = call.answer in
        let cs = call.scalars in
        let little = more_left order encode need last fits (room - length out) (q ++ drop read src) part after first more in
        record {
          within = within;
          units = length (flat_map encode_utf16 cs);
          output = omega (arith, ap length call.out_is, short cs call.are_scalars);
          split = omega (
            arith,
            ap length whole,
            length-append p (take read src),
            length-take-le read src within,
            length-append (bytes_of_scalars order cs) q,
            length-utf16_bytes order (flat_map encode_utf16 cs),
          );
          reported = λ (k, second, f). let no : OutputFull ≡ Malformed k second = f in cc;
          full = λ f. (omega (arith, little.0, length-append q (drop read src), length-drop read src), little.1);
        }
    counts (Malformed k second) call =
        let (x, within, whole, size, more, stayed, malformed, enough) = call.answer in
        let cs = call.scalars in
        let total : 2 * length (flat_map encode_utf16 cs) + length x + length q ≡ length p + read =
        omega (
          arith,
          ap length whole,
          length-append p (take read src),
          length-take-le read src within,
          length-append (bytes_of_scalars order cs) (x ++ q),
          length-append x q,
          length-utf16_bytes order (flat_map encode_utf16 cs),
        ) in
        record {
          within = within;
          units = length (flat_map encode_utf16 cs);
          output = omega (arith, ap length call.out_is, short cs call.are_scalars);
          split = omega (arith, total);
          reported = λ _. elim (malformed_length order x (q ++ drop read src) last malformed) [
            | inl two ↦ inl (omega (arith, total, two))
            | inr (l, some, none) ↦
                let empty = length-append q (drop read src) in
                inr (l, omega (arith, total, some), omega (arith, none, empty), omega (arith, none, empty, length-drop read src, within))
          ];
          full = λ f. cc;
        }

length-utf16 : (cs : List ℕ) → all_scalars cs ≡ true → length (flat_map encode_utf16 cs) ≤ 1 * length (flat_map encode_utf16 cs)
length-utf16 cs h = omega arith

length-utf8 : (cs : List ℕ) → all_scalars cs ≡ true → length (flat_map encode_utf8 cs) ≤ 3 * length (flat_map encode_utf16 cs)
length-utf8 [] h = omega arith
length-utf8 (c ∷ cs) h =
    omega (
      arith,
      length-utf8 cs (and_parts _ _ h).1,
      length-append (encode_utf8 c) (flat_map encode_utf8 cs),
      length-append (encode_utf16 c) (flat_map encode_utf16 cs),
      (length-utf8_of_part16 (Character16 c)).1,
    )

-- ---- the queried length is large enough
module _ {order : ByteOrder} {p src old new : List ℕ} {last : Bool} {result : DecoderResult} {read written : ℕ} {q : List ℕ} where
  pub utf16_progress : DecodeUtf16StepInto order encode_utf16 2 p src old new last result read written q → 0 < length src → 2 ≤ length old
      → (0 < read) ⊎ IsReport result
  utf16_progress (out, w, call) = progress length-encode_utf16-le result call

  pub utf8_progress : DecodeUtf16StepInto order encode_utf8 4 p src old new last result read written q → 0 < length src → 4 ≤ length old
      → (0 < read) ⊎ IsReport result
  utf8_progress (out, w, call) = progress length_encode_utf8_le result call

  pub utf16_suffices : DecodeUtf16StepInto order encode_utf16 2 p src old new last result read written q
      → Suffices max_utf16_length_from_utf16 p src (length old) result read written q
  utf16_suffices (out, w, call) m h l =
      let b = counts length-encode_utf16-le 1 length-utf16 result call in
      let size = w.count in (
        λ e.
            let f = b.full e in
            omega (arith, f.0, f.1, b.split, b.within, b.output, size),
        omega (arith, b.split, b.within, b.output, size),
      )

  pub utf16_suffices_replacing : DecodeUtf16StepInto order encode_utf16 2 p src old new last result read written q
      → SufficesReplacingUtf16 max_utf16_length_from_utf16 1 p src (length old) last result read written q
  utf16_suffices_replacing (out, w, call) m h final l r =
      let b = counts length-encode_utf16-le 1 length-utf16 result call in
      let size = w.count in
      elim (b.reported r) [
        | inl two ↦ omega (arith, two, b.within, b.output, size)
        | inr (t, one, none, all) ↦ omega (arith, final t, one, none, all, b.output, size)
      ]

  pub utf8_suffices : DecodeUtf16StepInto order encode_utf8 4 p src old new last result read written q
      → Suffices max_utf8_length_from_utf16 p src (length old) result read written q
  utf8_suffices (out, w, call) m h l =
      let b = counts length_encode_utf8_le 3 length-utf8 result call in
      let size = w.count in (
        λ e.
            let f = b.full e in
            omega (arith, f.0, f.1, b.split, b.within, b.output, size),
        omega (arith, b.split, b.within, b.output, size),
      )

  pub utf8_suffices_replacing : DecodeUtf16StepInto order encode_utf8 4 p src old new last result read written q
      → SufficesReplacingUtf16 max_utf8_length_from_utf16 3 p src (length old) last result read written q
  utf8_suffices_replacing (out, w, call) m h final l r =
      let b = counts length_encode_utf8_le 3 length-utf8 result call in
      let size = w.count in
      elim (b.reported r) [
        | inl two ↦ omega (arith, two, b.within, b.output, size)
        | inr (t, one, none, all) ↦ omega (arith, final t, one, none, all, b.output, size)
      ]
