-- What follows from one call: it makes progress, and a destination of the queried length is large enough.
use Rattle.std.proofs.Common.{◌≡◌, ℕ, ◌+◌, ◌-◌, ◌<◌, ◌≤◌, ◌⊎◌, inl, inr, Bool, true, List, ◌++◌}
use Rattle.std.proofs.Common.{length, take, encode_utf8, encode_utf8_all, refl, sym, ap, ◌∙◌, arith}
use Rattle.std.specs.Char.Escape.{encode_utf16}
use Rattle.std.specs.Str.{all_scalars}
use Rattle.std.specs.List.{flat_map}
use Rattle.std.proofs.lemmas.Bool.{cases_lt}
use Rattle.std.proofs.lemmas.List.{append-nil, length-append, length-take}
use Rattle.encoding_text.specs.Decoding.{DecodeStep, DecodeStepInto, IsReport, Suffices, SufficesReplacing}
use Rattle.encoding_text.specs.Decoding.{max_utf16_length, max_utf8_length, max_utf8_length_with_replacement}
use Rattle.encoding_text.specs.declared.decoder.DecoderResult.{DecoderResult}
use Rattle.encoding_text.specs.declared.decoder.DecoderResult.TheVariants.{InputEmpty, OutputFull, Malformed}
use Rattle.encoding_definitions.proofs.EncodingLemmas.{length-utf16, flat_map-encode_utf8}
use Rattle.encoding_text.proofs.CallLemmas.{malformed_some, FollowsOutput, call_read}
use Rattle.encoding_text.proofs.OneResultLemmas.{no_characters_pending}

-- the lengths of what was pending and read, against those of the output, a malformed sequence and what is pending then
pub record Counts (p src : List ℕ) (room need : ℕ) (result : DecoderResult) (read written : ℕ) (q : List ℕ) : Type 0 where
  pub within : read ≤ length src
  pub split : written + length q ≤ length p + read
  pub reported : IsReport result → (written + 1 ≤ length p + read) × (length q ≡ 0)
  pub full : result ≡ OutputFull → (read < length src) × (room - written < need)

after_output : (unread : List ℕ) (last : Bool) (result : DecoderResult) (q y : List ℕ) → FollowsOutput unread last result q y
    → (length q ≤ length y) × (IsReport result → (0 < length y) × (length q ≡ 0))
after_output unread last InputEmpty q y e = (omega (arith, ap length e), λ (k, second, f). let no : InputEmpty ≡ Malformed k second = f in cc)
after_output unread last OutputFull q y e = (omega (arith, ap length e), λ (k, second, f). let no : OutputFull ≡ Malformed k second = f in cc)
after_output unread last (Malformed k second) q y (zero, size, none, malformed) = (
  omega (arith, ap length none),
  λ r.
      (malformed_some y unread last malformed, ap length none),
)

module _ {A : Type 0} {encode : ℕ → List A} {need : ℕ} {p src : List ℕ} {room : ℕ} {last : Bool} {read : ℕ} {out : List A} {q : List ℕ} where
  -- with an unread byte and space for any character a call makes progress
  pub progress : (result : DecoderResult) → DecodeStep encode need p src room last result read out q → 0 < length src → need ≤ room
      → (0 < read) ⊎ IsReport result
  progress InputEmpty call some l = inl (omega (arith, call.answer.0))
  progress (Malformed k second) call some l = inr (k, second, refl)
  progress OutputFull call some l = elim (cases_lt 0 read) [
    | inl h ↦ inl h
    | inr h ↦
        let zero : 0 ≡ read = omega arith in
        let none = no_characters_pending call.scalars q p call.are_scalars call.pending_before (sym (append-nil p)
        ∙ ap (λ n. p ++ take n src) zero ∙ call.answer.1) in
        absurd (omega (arith, call.answer.2, ap length (call.out_is ∙ ap (flat_map encode) none)))
  ]

  -- a full call leaves bytes unread, and less space than any character may need
  full_left : (result : DecoderResult) → DecodeStep encode need p src room last result read out q → result ≡ OutputFull
      → (read < length src) × (room - length out < need)
  full_left InputEmpty call e = cc
  full_left OutputFull call e = (call.answer.0, call.answer.2)
  full_left (Malformed k second) call e = cc

  -- characters are no longer than their bytes
  module _ (short : (cs : List ℕ) → all_scalars cs ≡ true → length (flat_map encode cs) ≤ length (encode_utf8_all cs)) where
    pub counts : (result : DecoderResult) → DecodeStep encode need p src room last result read out q → Counts p src room need result read (length out) q
    counts result call =
        let (y, follows, e, within) = call_read encode need p src last result read call.scalars (room - length out) q call.answer in
        let total : length out + length y ≤ length p + read =
        omega (
          arith,
          short call.scalars call.are_scalars,
          ap length call.out_is,
          ap length e,
          length-append p
              (take read src),
          length-take read src,
          length-append (encode_utf8_all call.scalars) y,
        ) in
        let b = after_output _ last result q y follows in
        record { within = within; split = omega (arith, b.0); reported = λ r. let s = b.1 r in (omega (arith, s.0), s.1); full = full_left result call }

pub length-utf8 : (cs : List ℕ) → all_scalars cs ≡ true → length (flat_map encode_utf8 cs) ≤ length (encode_utf8_all cs)
length-utf8 cs h = omega (arith, ap length (flat_map-encode_utf8 cs))

-- ---- the queried length is large enough
module _ {p src old new : List ℕ} {last : Bool} {result : DecoderResult} {read written : ℕ} {q : List ℕ} where
  pub utf16_suffices : DecodeStepInto encode_utf16 2 p src old new last result read written q
      → Suffices max_utf16_length p src (length old) result read written q
  utf16_suffices (out, w, call) m h l =
      let b = counts length-utf16 result call in
      (λ e. let f = b.full e in omega (arith, f.0, f.1, b.split, b.within, w.count), omega (arith, b.split, b.within, w.count))

  pub utf16_suffices_replacing : DecodeStepInto encode_utf16 2 p src old new last result read written q
      → SufficesReplacing max_utf16_length 1 p src (length old) result read written q
  utf16_suffices_replacing (out, w, call) m h l r =
      let b = counts length-utf16 result call in
      let t = b.reported r in
      omega (arith, t.0, t.1, b.within, w.count)

  pub utf8_suffices : DecodeStepInto encode_utf8 4 p src old new last result read written q → Suffices max_utf8_length p src (length old) result read written q
  utf8_suffices (out, w, call) m h l =
      let b = counts length-utf8 result call in
      (λ e. let f = b.full e in omega (arith, f.0, f.1, b.split, b.within, w.count), omega (arith, b.split, b.within, w.count))

  pub utf8_suffices_between_reports : DecodeStepInto encode_utf8 4 p src old new last result read written q
      → Suffices max_utf8_length_with_replacement p src (length old) result read written q
  utf8_suffices_between_reports (out, w, call) m h l =
      let b = counts length-utf8 result call in
      (λ e. let f = b.full e in omega (arith, f.0, f.1, b.split, b.within, w.count), omega (arith, b.split, b.within, w.count))

  pub utf8_suffices_replacing : DecodeStepInto encode_utf8 4 p src old new last result read written q
      → SufficesReplacing max_utf8_length_with_replacement 3 p src (length old) result read written q
  utf8_suffices_replacing (out, w, call) m h l r =
      let b = counts length-utf8 result call in
      let t = b.reported r in
      omega (arith, t.0, t.1, b.within, w.count)
