-- A call of the decoder of one encoding, as that of a decoder that looks for no mark.
use Rattle.std.proofs.Common.{◌≡◌, ℕ, ◌-◌, ◌<◌, ◌≤◌, inl, inr, Bool, true, List, [], ◌∷◌, ◌++◌, length, take, drop, encode_utf8, encode_utf8_all, refl, sym, ap}
use Rattle.std.proofs.Common.{subst, ◌∙◌, arith, append-nil, append_assoc, length-append}
use Rattle.std.specs.Char.{IsScalar}
use Rattle.std.proofs.lemmas.List.{take_all, length-drop}
use Rattle.encoding_definitions.specs.Parts.{Part, Character, IllFormed, Yields}
use Rattle.encoding_definitions.specs.Prefixes.{WritesPrefix}
use Rattle.encoding_definitions.specs.Sequence.{IsPending, IsIncomplete}
use Rattle.encoding_definitions.proofs.PrefixesLemmas.{written_is}
use Rattle.encoding_definitions.proofs.PartsLemmas.{no_sequence_in_incomplete}
use Rattle.encoding_definitions.proofs.EncodingLemmas.{IsSequence-encode}
use Rattle.std.proofs.lemmas.Bool.{and_parts}
use Rattle.std.proofs.lemmas.Str.{length-encode, len_utf8_bounds}
use Rattle.std.specs.Str.{all_scalars}
use Rattle.std.specs.List.{flat_map}
use Rattle.encoding_text.specs.Decoding.{AreDecoded, IsDecodeResult, DecodeStep, DecodeStepInto}
use Rattle.encoding_text.specs.declared.utf_16.ByteOrder.{ByteOrder}
use Rattle.encoding_text.specs.declared.utf_16.ByteOrder.TheVariants.{LittleEndian, BigEndian}
use Rattle.encoding_text.specs.declared.decoder.DecoderResult.{DecoderResult}
use Rattle.encoding_text.specs.declared.decoder.DecoderResult.TheVariants.{InputEmpty, OutputFull, Malformed}
use Rattle.encoding_streams.specs.declared.encoding.Encoding.TheVariants.{Utf8}
use Rattle.encoding_text.specs.Utf16Bytes.{bytes_of_scalars}
use Rattle.encoding_streams.specs.Utf16Parts.{bytes_of_utf16, IsFirstPartUtf16, IsPendingUtf16}
use Rattle.encoding_streams.specs.Utf16Decoding.{DecodeUtf16Step, DecodeUtf16StepInto, IsUtf16DecodeResult, NeedsMore, max_utf8_length_from_utf16}
use Rattle.encoding_streams.specs.Decoders.{IsReportingCall, EndsReporting, FittingBeginsIn, decoding, bytes_in, max_utf8_length_with_replacement_in}
use Rattle.encoding_streams.specs.DecoderSteps.{encoding_of}
use Rattle.encoding_streams.specs.ExactCalls.{StepIn}
use Rattle.encoding_runs.proofs.ReaderTextLemmas.{first_parts}
use Rattle.encoding_runs.proofs.RepairLemmas.{pending_length}
use Rattle.encoding_streams.proofs.DecoderYieldLemmas.{first_parts_utf16}
use Rattle.encoding_streams.proofs.Utf16ByteLemmas.{length-pending, no_characters_pending}
use Rattle.encoding_streams.proofs.Utf16ChainLemmas.{call_yields}
use Rattle.encoding_streams.proofs.Utf16PartLemmas.{same_first, part_bytes}

pub queried_utf8 : (order : ByteOrder) (n p : ℕ) → max_utf8_length_with_replacement_in (encoding_of order) n p ≡ max_utf8_length_from_utf16 n p
queried_utf8 LittleEndian n p = refl
queried_utf8 BigEndian n p = refl

module _ {A : Type 0} (encode : ℕ → List A) (need : ℕ) where
  -- ---- UTF-8
  keeps_utf8 : (p src : List ℕ) (last : Bool) (result : DecoderResult) (read : ℕ) (cs : List ℕ) (left : ℕ) (q : List ℕ)
      → IsDecodeResult encode need p src last result read cs left q
      → (before : List ℕ) × (p ++ take read src ≡ before ++ q)
  keeps_utf8 p src last InputEmpty read cs left q a =
      (encode_utf8_all cs, ap (λ n. p ++ take n src) a.0 ∙ ap (λ xs. p ++ xs) (take_all (length src) src (omega arith)) ∙ a.1)
  keeps_utf8 p src last OutputFull read cs left q a = (encode_utf8_all cs, a.1)
  keeps_utf8 p src last (Malformed k second) read cs left q (x, s, w, e, n, none, b, room) =
      (p ++ take read src, sym (append-nil (p ++ take read src)) ∙ ap (λ xs. (p ++ take read src) ++ xs) (sym none))

  ends_utf8 : (p src : List ℕ) (room : ℕ) (last : Bool) (result : DecoderResult) (read written : ℕ) (cs : List ℕ) (left : ℕ) (q : List ℕ)
      → left ≡ room - written → written ≤ room → IsDecodeResult encode need p src last result read cs left q
      → EndsReporting encode need src room last result read written (decoding Utf8 q)
  ends_utf8 p src room last InputEmpty read written cs left q e fits a = (a.0, λ marked. (refl, a.2 marked))
  ends_utf8 p src room last OutputFull read written cs left q e fits (unread, whole, little, next, kept) = record {
    little = omega (arith, little, e, fits);
    more = omega (arith, unread);
    next_too_long = λ none (c, rest, scalar, is, short). next none (c, rest, scalar, is, omega (arith, short, e));
  }
  ends_utf8 p src room last (Malformed k second) read written cs left q e fits (x, zero, within, whole, size, none, malformed, big) =
      (omega (arith, zero, ap length none), refl, λ some. omega (arith, big some, e, fits))

  pub utf8_call : (p src : List ℕ) (dst dst' : List A) (last : Bool) (result : DecoderResult) (read written : ℕ) (q : List ℕ) (out : List A)
      → WritesPrefix dst dst' written out → DecodeStep encode need p src (length dst) last result read out q
      → (parts : List Part) → AreDecoded encode result out parts → Yields p src last parts read q
      → IsReportingCall encode need (decoding Utf8 p) src dst dst' last result read written (decoding Utf8 q)
  utf8_call p src dst dst' last result read written q out writes call parts decoded yielded = record {
    out = out;
    writes = writes;
    within = yielded.within;
    parts = parts;
    decoded = decoded;
    yields = λ more none. record { same = refl; first = first_parts p src last parts read q more yielded none };
    keeps = keeps_utf8 p src last result read call.scalars (length dst - length out) q call.answer;
    at_most_three = pending_length q call.pending;
    ends = ends_utf8 p src (length dst) last result read written call.scalars (length dst - length out) q (omega (arith, writes.count)) writes.fits call.answer;
  }

  none_in_pending : (p cs y : List ℕ) → all_scalars cs ≡ true → IsPending p → p ≡ encode_utf8_all cs ++ y → cs ≡ []
  none_in_pending p [] y scalars pending e = refl
  none_in_pending p (c ∷ cs) y scalars (inl none) e =
      absurd
      (omega (
        arith,
        ap length none,
        ap length e,
        length-encode c,
        len_utf8_bounds c,
        length-append (encode_utf8_all (c ∷ cs)) y,
        length-append
            (encode_utf8 c) (encode_utf8_all cs),
      ))
  none_in_pending p (c ∷ cs) y scalars (inr begins) e =
      absurd (no_sequence_in_incomplete (encode_utf8 c) (encode_utf8_all cs ++ y)
      (subst IsIncomplete (e ∙ append_assoc (encode_utf8 c) (encode_utf8_all cs) y) begins) (IsSequence-encode c (and_parts _ _ scalars).0))

  -- with an empty source nothing is written
  none_written : (cs : List ℕ) (out : List A) → out ≡ flat_map encode cs → cs ≡ [] → length out ≡ 0
  none_written cs out e none = ap length (e ∙ ap (flat_map encode) none)

  quiet_result : (p src : List ℕ) (last : Bool) (result : DecoderResult) (read : ℕ) (cs : List ℕ) (left : ℕ) (q : List ℕ) → length src ≡ 0
      → all_scalars cs ≡ true → IsPending p → IsDecodeResult encode need p src last result read cs left q → cs ≡ []
  quiet_result p [] last InputEmpty read cs left q none scalars pending a = none_in_pending p cs q scalars pending (sym (append-nil p) ∙ a.1)
  quiet_result p [] last OutputFull read cs left q none scalars pending a = absurd (omega (arith, a.0))
  quiet_result p [] last (Malformed k second) read cs left q none scalars pending (x, zero, within, whole, size, gone, malformed, big) =
      none_in_pending p cs x scalars pending (sym (append-nil p) ∙ ap (λ n. p ++ take n []) (sym (start within)) ∙ whole)
    where
      start : read ≤ 0 → read ≡ 0
      start h = omega (arith, h)
  quiet_result p (b ∷ src) last result read cs left q none scalars pending a = absurd (omega (arith, none))

  pub quiet_utf8 : (p src : List ℕ) (dst dst' : List A) (last : Bool) (result : DecoderResult) (read written : ℕ) (q : List ℕ) (out : List A)
      → WritesPrefix dst dst' written out → DecodeStep encode need p src (length dst) last result read out q → length src ≡ 0 → written ≡ 0
  quiet_utf8 p src dst dst' last result read written q out writes call none =
      omega (
        arith,
        writes.count,
        none_written call.scalars out call.out_is
            (quiet_result p src last result read call.scalars (length dst - length out) q none call.are_scalars call.pending_before call.answer),
      )

  -- ---- UTF-16
  module _ (order : ByteOrder) (holds : (c : ℕ) → IsScalar c → length (encode c) ≤ need) where
    keeps_utf16 : (p src : List ℕ) (last : Bool) (result : DecoderResult) (read : ℕ) (cs : List ℕ) (left : ℕ) (q : List ℕ)
        → IsUtf16DecodeResult order encode need p src last result read cs left q
        → (before : List ℕ) × (p ++ take read src ≡ before ++ q)
    keeps_utf16 p src last InputEmpty read cs left q a =
        (bytes_of_scalars order cs, ap (λ n. p ++ take n src) a.0 ∙ ap (λ xs. p ++ xs) (take_all (length src) src (omega arith)) ∙ a.1)
    keeps_utf16 p src last OutputFull read cs left q (some, within, whole, kept, part, after, first, more) = (bytes_of_scalars order cs, whole)
    keeps_utf16 p src last (Malformed k second) read cs left q (x, within, whole, size, count, stayed, malformed, big) =
        (bytes_of_scalars order cs ++ x, whole ∙ sym (append_assoc (bytes_of_scalars order cs) x q))

    little_of : (last : Bool) (bytes : List ℕ) (part : Part) (after : List ℕ) (left : ℕ) → IsFirstPartUtf16 order last bytes part after
        → NeedsMore encode need left part → left < need
    little_of last bytes (Character c) after left first more = omega (arith, more, holds c first.0)
    little_of last bytes (IllFormed x) after left first more = more

    too_long : (last : Bool) (bytes : List ℕ) (part : Part) (after : List ℕ) (left : ℕ) → IsFirstPartUtf16 order last bytes part after
        → NeedsMore encode need left part → FittingBeginsIn (encoding_of order) encode bytes left → ⊥
    too_long last bytes part after left first more (c, rest, scalar, is, short) =
        let same = same_first order last last bytes part after (Character c) rest first (scalar, spelled order c rest is) in
        omega (arith, subst (NeedsMore encode need left) same.0 more, short)
      where
        spelled : (o : ByteOrder) (c : ℕ) (rest : List ℕ) → bytes ≡ bytes_in (encoding_of o) c ++ rest → bytes ≡ bytes_of_utf16 o (Character c) ++ rest
        spelled LittleEndian c rest e = e
        spelled BigEndian c rest e = e

    ends_utf16 : (p src : List ℕ) (room : ℕ) (last : Bool) (result : DecoderResult) (read written : ℕ) (cs : List ℕ) (left : ℕ) (q : List ℕ)
        → left ≡ room - written → written ≤ room → IsUtf16DecodeResult order encode need p src last result read cs left q
        → EndsReporting encode need src room last result read written (decoding (encoding_of order) q)
    ends_utf16 p src room last InputEmpty read written cs left q e fits a = (a.0, λ marked. (refl, a.2 marked))
    ends_utf16 p src room last OutputFull read written cs left q e fits (some, within, whole, kept, part, after, first, more) =
        let bytes = part_bytes order last (q ++ drop read src) part after first in
        record {
          little = omega (arith, little_of last _ part after left first more, e, fits);
          more = omega (
            arith,
            ap length bytes.0,
            bytes.1,
            length-append q (drop read src),
            length-append
                (bytes_of_utf16 order part) after,
            length-drop read src,
          );
          next_too_long = λ none fit.
              too_long last (drop read src) part after left (subst (λ xs. IsFirstPartUtf16 order last (xs ++ drop read src) part after) none first) more
              (subst (FittingBeginsIn (encoding_of order) encode (drop read src)) (sym e) fit);
        }
    ends_utf16 p src room last (Malformed k second) read written cs left q e fits (x, within, whole, size, count, stayed, malformed, big) =
        (sym count, refl, λ some. omega (arith, big some, e, fits))

    pub utf16_call : (p src : List ℕ) (dst dst' : List A) (last : Bool) (result : DecoderResult) (read written : ℕ) (q : List ℕ)
        → DecodeUtf16StepInto order encode need p src dst dst' last result read written q
        → IsReportingCall encode need (decoding (encoding_of order) p) src dst dst' last result read written (decoding (encoding_of order) q)
    utf16_call p src dst dst' last result read written q (out, writes, call) =
        let given = call_yields order encode need p src (length dst) last result read out q call in
        record {
          out = out;
          writes = writes;
          within = given.within;
          parts = given.parts;
          decoded = given.decoded;
          yields = λ more none. record { same = refl; first = first_parts_utf16 order p src last given.parts read q more given.first none };
          keeps = keeps_utf16 p src last result read call.scalars (length dst - length out) q call.answer;
          at_most_three = length-pending order q given.pending;
          ends = ends_utf16 p src (length dst) last result read written call.scalars (length dst - length out) q (omega (arith, writes.count)) writes.fits
              call.answer;
        }

    quiet_units : (p src : List ℕ) (last : Bool) (result : DecoderResult) (read : ℕ) (cs : List ℕ) (left : ℕ) (q : List ℕ) → length src ≡ 0
        → all_scalars cs ≡ true → IsPendingUtf16 order p → IsUtf16DecodeResult order encode need p src last result read cs left q → cs ≡ []
    quiet_units p [] last InputEmpty read cs left q none scalars pending a =
        no_characters_pending order cs q p scalars pending (sym (append-nil p) ∙ a.1)
    quiet_units p [] last OutputFull read cs left q none scalars pending (some, within, whole, kept, part, after, first, more) =
        absurd (omega (arith, some))
    quiet_units p [] last (Malformed k second) read cs left q none scalars pending (x, within, whole, size, count, stayed, malformed, big) =
        no_characters_pending order cs (x ++ q) p scalars pending (sym (append-nil p) ∙ ap (λ n. p ++ take n []) (sym (start within)) ∙ whole)
      where
        start : read ≤ 0 → read ≡ 0
        start h = omega (arith, h)
    quiet_units p (b ∷ src) last result read cs left q none scalars pending a = absurd (omega (arith, none))

    pub quiet_utf16 : (p src : List ℕ) (dst dst' : List A) (last : Bool) (result : DecoderResult) (read written : ℕ) (q : List ℕ)
        → DecodeUtf16StepInto order encode need p src dst dst' last result read written q → length src ≡ 0 → written ≡ 0
    quiet_utf16 p src dst dst' last result read written q (out, writes, call) none =
        omega (
          arith,
          writes.count,
          none_written call.scalars out call.out_is
              (quiet_units p src last result read call.scalars (length dst - length out) q none call.are_scalars call.pending_before call.answer),
        )

  -- ---- exactly
  pub utf8_step : (p src : List ℕ) (dst dst' : List A) (last : Bool) (result : DecoderResult) (read written : ℕ) (q : List ℕ)
      → DecodeStepInto encode need p src dst dst' last result read written q
      → StepIn encode need Utf8 p src (length dst) last result read (take written dst') q
  utf8_step p src dst dst' last result read written q (out, writes, step) =
      subst (λ xs. DecodeStep encode need p src (length dst) last result read xs q) (written_is dst dst' written out writes) step

  pub utf16_step : (order : ByteOrder) (p src : List ℕ) (dst dst' : List A) (last : Bool) (result : DecoderResult) (read written : ℕ) (q : List ℕ)
      → DecodeUtf16StepInto order encode need p src dst dst' last result read written q
      → StepIn encode need (encoding_of order) p src (length dst) last result read (take written dst') q
  utf16_step LittleEndian p src dst dst' last result read written q (out, writes, step) =
      subst (λ xs. DecodeUtf16Step LittleEndian encode need p src (length dst) last result read xs q) (written_is dst dst' written out writes) step
  utf16_step BigEndian p src dst dst' last result read written q (out, writes, step) =
      subst (λ xs. DecodeUtf16Step BigEndian encode need p src (length dst) last result read xs q) (written_is dst dst' written out writes) step
