-- One call of the decoder of an encoding: what is pending after it, and the lengths that it reports.
use Rattle.std.proofs.Common.{◌≡◌, ◌≢◌, ℕ, ◌+◌, ◌<◌, ◌≤◌, ◌⊎◌, inl, inr, Bool, true, false, List, [], ◌∷◌, ◌++◌, length, take, drop, encode_utf8}
use Rattle.std.proofs.Common.{encode_utf8_all, slice_index, refl, sym, ap, subst, ◌∙◌, arith, append-nil, append_assoc, length-append, take-append-drop}
use Rattle.std.specs.Char.{IsScalar}
use Rattle.std.specs.Char.Escape.{encode_utf16}
use Rattle.std.specs.List.{flat_map}
use Rattle.std.specs.Str.{all_scalars}
use Rattle.std.proofs.lemmas.Bool.{and_parts, both_ways, cases_lt}
use Rattle.std.proofs.lemmas.List.{length-drop, length-take, nil_from_length}
use Rattle.std.proofs.lemmas.Str.{length-encode, len_utf8_bounds}
use Rattle.encoding_definitions.specs.Converting.{FittingBegins}
use Rattle.encoding_definitions.specs.Parts.{Character}
use Rattle.encoding_definitions.specs.Sequence.{IsIncomplete, IsNeverLeading, IsPending, IsSequence}
use Rattle.encoding_definitions.proofs.EncodingLemmas.{IsSequence-encode}
use Rattle.encoding_definitions.proofs.PartsLemmas.{no_sequence_in_incomplete}
use Rattle.encoding_definitions.proofs.SequenceLemmas.{HasShape-IsSequence, begins_by_range, length-IsIncomplete}
use Rattle.encoding_text.specs.Decoding.{DecodeStep, IsMalformed}
use Rattle.encoding_text.specs.Utf16Bytes.{bytes_of_scalars, utf16_bytes}
use Rattle.encoding_text.specs.declared.decoder.DecoderResult.{DecoderResult}
use Rattle.encoding_text.specs.declared.decoder.DecoderResult.TheVariants.{InputEmpty, OutputFull, Malformed}
use Rattle.encoding_text.specs.declared.utf_16.ByteOrder.{ByteOrder}
use Rattle.encoding_text.specs.declared.utf_16.ByteOrder.TheVariants.{LittleEndian, BigEndian}
use Rattle.encoding_text.proofs.OneResultLemmas as utf8
use Rattle.encoding_runs.proofs.ReaderBlockLemmas.{some_length}
use Rattle.encoding_streams.specs.declared.encoding.Encoding.{Encoding}
use Rattle.encoding_streams.specs.declared.encoding.Encoding.TheVariants.{Utf8, Utf16Le, Utf16Be}
use Rattle.encoding_streams.specs.declared.encoding.BomHandling.{BomHandling}
use Rattle.encoding_streams.specs.Marks.{begins_mark, mark}
use Rattle.encoding_streams.specs.Utf16Parts.{IsMalformedUtf16, IsPendingUtf16}
use Rattle.encoding_streams.specs.Utf16Decoding.{DecodeUtf16Step}
use Rattle.encoding_streams.specs.ExactCalls.{AreReportLengths, IsPendingIn, StepIn}
use Rattle.encoding_streams.proofs.SniffLemmas.{begun, begun_parts, first}
use Rattle.encoding_streams.proofs.Utf16ByteLemmas.{character_some, length-pending, length-unit_bytes, pending_nil}
use Rattle.encoding_streams.proofs.Utf16OneResultLemmas as utf16

pub nothing_pending : (e : Encoding) → IsPendingIn e []
nothing_pending Utf8 = inl refl
nothing_pending Utf16Le = pending_nil _
nothing_pending Utf16Be = pending_nil _

-- ---- the start of a mark
-- all of the bytes are one part
abbrev IsCharacterOf : ByteOrder → List ℕ → Type 0
IsCharacterOf order p = (c : ℕ) × (all_scalars (c ∷ []) ≡ true) × (p ≡ utf16_bytes order (encode_utf16 c))

abbrev pub IsWholePart : Encoding → List ℕ → Type 0
IsWholePart Utf8 p = (b : ℕ) × (p ≡ b ∷ []) × IsNeverLeading b
IsWholePart Utf16Le p = IsCharacterOf LittleEndian p
IsWholePart Utf16Be p = IsCharacterOf BigEndian p

-- the start of a character, or one part
abbrev pub IsHeld : Encoding → List ℕ → Type 0
IsHeld e p = IsPendingIn e p ⊎ IsWholePart e p

odd_byte : (order : ByteOrder) (b : ℕ) → IsPendingUtf16 order (b ∷ [])
odd_byte order b = record { surrogate = []; is_high = tt; odd = b ∷ []; one = omega arith; whole = refl }

never_leading : (b : ℕ) → 0xF4 < b → IsNeverLeading b
never_leading b l (inl one) = omega (arith, l, one_byte b one)
  where
    one_byte : (b : ℕ) → IsSequence (b ∷ []) → b ≤ 0x7F
    one_byte b s = HasShape-IsSequence (b ∷ []) s
never_leading b l (inr several) = omega (arith, l, (begins_by_range b).0 several)

one_byte_held : (e m : Encoding) (b : ℕ) → b ≡ first m → IsHeld e (b ∷ [])
one_byte_held Utf16Le m b is = inl (odd_byte LittleEndian b)
one_byte_held Utf16Be m b is = inl (odd_byte BigEndian b)
one_byte_held Utf8 Utf8 b is = inl (inr ((begins_by_range b).1 (omega (arith, is), omega (arith, is))))
one_byte_held Utf8 Utf16Le b is = inr (b, refl, never_leading b (omega (arith, is)))
one_byte_held Utf8 Utf16Be b is = inr (b, refl, never_leading b (omega (arith, is)))

two_bytes_held : (e : Encoding) → IsHeld e (0xEF ∷ 0xBB ∷ [])
two_bytes_held Utf8 = inl (inr (omega arith, 0xBF ∷ [], omega arith, refl))
two_bytes_held Utf16Le = inr (0xBBEF, refl, refl)
two_bytes_held Utf16Be = inr (0xEFBB, refl, refl)

pub begun_held : (bom : BomHandling) (e : Encoding) (p : List ℕ) → begins_mark bom e p ≡ true → IsHeld e p
begun_held bom e p h =
    let start = begun bom e p h in
    let parts = begun_parts start.0 p start.2 in
    held start.0 p parts.0 parts.1
  where
    held : (m : Encoding) (p : List ℕ) → length p < length (mark m) → mark m ≡ p ++ drop (length p) (mark m) → IsHeld e p
    held m [] less is = inl (nothing_pending e)
    held m (b ∷ []) less is = one_byte_held e m b (sym (ap (λ bs. slice_index bs 0) is))
    held Utf8 (b ∷ c ∷ []) less is =
        let same : 0xEF ∷ 0xBB ∷ [] ≡ b ∷ c ∷ [] = ap (take 2) is in
        subst (IsHeld e) same (two_bytes_held e)
    held Utf8 (b ∷ c ∷ d ∷ p) less is = absurd (omega (arith, less))
    held Utf16Le (b ∷ c ∷ p) less is = absurd (omega (arith, less))
    held Utf16Be (b ∷ c ∷ p) less is = absurd (omega (arith, less))

-- ---- the length of a malformed sequence
pub malformed_length : (x rest : List ℕ) (last : Bool) → IsMalformed x rest last → (0 < length x) × (length x ≤ 3)
malformed_length x [] last (inl (b, is, never)) = (omega (arith, ap length is), omega (arith, ap length is))
malformed_length x [] last (inr (open_sequence, marked)) = (open_sequence.0, length-IsIncomplete x open_sequence)
malformed_length x (y ∷ ys) last (inl (b, is, never)) = (omega (arith, ap length is), omega (arith, ap length is))
malformed_length x (y ∷ ys) last (inr (open_sequence, rejected)) = (open_sequence.0, length-IsIncomplete x open_sequence)

-- the sequence has two bytes, or no more bytes come
malformed_utf16 : (order : ByteOrder) (x rest : List ℕ) (last : Bool) → IsMalformedUtf16 order x rest last
    → (0 < length x) × (length x ≤ 3) × ((length x ≡ 2) ⊎ (rest ≡ []))
malformed_utf16 order x rest last (inl (u, low, is)) =
    let two = ap length is ∙ length-unit_bytes order u in (omega (arith, two), omega (arith, two), inl two)
malformed_utf16 order x rest last (inr (inl high)) =
    let two = ap length high.bytes ∙ length-unit_bytes order high.unit in (omega (arith, two), omega (arith, two), inl two)
malformed_utf16 order x rest last (inr (inr (more, pending, none, marked))) = (some_length x more, length-pending order x pending, inr none)

module _ {A : Type 0} (encode : ℕ → List A) (need : ℕ) where
  pub step_pending : (e : Encoding) (p src : List ℕ) (room : ℕ) (last : Bool) (result : DecoderResult) (read : ℕ) (out : List A) (q : List ℕ)
      → StepIn encode need e p src room last result read out q → IsPendingIn e q
  step_pending Utf8 p src room last result read out q s = s.pending
  step_pending Utf16Le p src room last result read out q s = s.pending
  step_pending Utf16Be p src room last result read out q s = s.pending

  -- ---- the lengths of a report
  lengths_utf16 : (order : ByteOrder) (p src : List ℕ) (room : ℕ) (last : Bool) (result : DecoderResult) (read : ℕ) (out : List A) (q : List ℕ)
      → DecodeUtf16Step order encode need p src room last result read out q → AreReportLengths result
  lengths_utf16 order p src room last InputEmpty read out q s = tt
  lengths_utf16 order p src room last OutputFull read out q s = tt
  lengths_utf16 order p src room last (Malformed k second) read out q s =
      let (x, within, whole, size, count, stayed, malformed, big) = s.answer in
      let (more, few, which) = malformed_utf16 order x (q ++ drop read src) last malformed in (
        omega (arith, more, size),
        omega (arith, few, size),
        omega (arith, count, short q x whole stayed few which),
      )
    where
      short : (q x : List ℕ) → p ++ take read src ≡ bytes_of_scalars order s.scalars ++ (x ++ q) → (q ≢ [] → read ≡ 0) → length x ≤ 3
          → (length x ≡ 2) ⊎ (q ++ drop read src ≡ []) → length q ≤ 1
      short [] x whole stayed few which = omega arith
      short (b ∷ q) x whole stayed few (inr none) = absurd (omega (arith, ap length none))
      short (b ∷ q) x whole stayed few (inl two) =
          let start : read ≡ 0 = stayed (λ none. omega (arith, ap length none)) in
          let before = length-pending order p s.pending_before in
          omega (
            arith,
            before,
            two,
            ap length whole,
            length-append p (take read src),
            length-take read src,
            start,
            length-append (bytes_of_scalars order s.scalars) (x ++ b ∷ q),
            length-append x (b ∷ q),
          )

  pub step_lengths : (e : Encoding) (p src : List ℕ) (room : ℕ) (last : Bool) (result : DecoderResult) (read : ℕ) (out : List A) (q : List ℕ)
      → StepIn encode need e p src room last result read out q → AreReportLengths result
  step_lengths Utf8 p src room last InputEmpty read out q s = tt
  step_lengths Utf8 p src room last OutputFull read out q s = tt
  step_lengths Utf8 p src room last (Malformed k second) read out q s =
      let (x, zero, within, whole, size, none, malformed, big) = s.answer in
      let (more, few) = malformed_length x (drop read src) last malformed in
      (omega (arith, more, size), omega (arith, few, size), omega (arith, zero))
  step_lengths Utf16Le p src room last result read out q s = lengths_utf16 LittleEndian p src room last result read out q s
  step_lengths Utf16Be p src room last result read out q s = lengths_utf16 BigEndian p src room last result read out q s

  -- ---- bytes that are held back: all of them are read, or nothing is written, or they are a malformed sequence of one byte
  abbrev pub HeldSo : DecoderResult → List A → List ℕ → Type 0
  HeldSo InputEmpty first rest = Unit {0}
  HeldSo OutputFull first rest = first ≡ []
  HeldSo (Malformed k second) first rest = (k ≡ 1) × (rest ≡ [])

  unread : (x y : DecoderResult) (out other : List A) (rest : List ℕ) → x ≡ y → out ≡ other → HeldSo y other rest → HeldSo x out rest
  unread x y out other rest e f h = subst (λ r. HeldSo r out rest) (sym e) (subst (λ xs. HeldSo y xs rest) (sym f) h)

  no_character : (p : List ℕ) (room : ℕ) → IsPending p → 0 < length p → FittingBegins encode p room → ⊥
  no_character p room (inl none) more fit = omega (arith, more, ap length none)
  no_character p room (inr open_sequence) more (c, rest, scalar, is, short) =
      no_sequence_in_incomplete (encode_utf8 c) rest (subst IsIncomplete is open_sequence) (IsSequence-encode c scalar)

  utf8_open : (p : List ℕ) (room : ℕ) → IsPending p → (p ≢ [] → need ≤ room) → DecodeStep encode need [] p room false InputEmpty (length p) [] p
  utf8_open p room pending enough = record {
    scalars = [];
    are_scalars = refl;
    out_is = refl;
    fits = omega arith;
    pending_before = inl refl;
    pending = pending;
    answer = (refl, refl, λ marked. absurd (both_ways false refl marked), λ not read. omega (arith, enough not));
    pending_needs_room = λ not. absurd (not refl);
  }

  utf8_full : (p : List ℕ) (room : ℕ) → IsPending p → 0 < length p → room < need → DecodeStep encode need [] p room false OutputFull 0 [] []
  utf8_full p room pending more little = record {
    scalars = [];
    are_scalars = refl;
    out_is = refl;
    fits = omega arith;
    pending_before = inl refl;
    pending = inl refl;
    answer = (more, refl, omega (arith, little), λ none fit. no_character p _ pending more fit, λ not. absurd (not refl));
    pending_needs_room = λ not. absurd (not refl);
  }

  utf8_pending : (p : List ℕ) (room : ℕ) (ended : DecoderResult) (taken : ℕ) (out : List A) (q : List ℕ) → IsPending p
      → DecodeStep encode need [] p room false ended taken out q → HeldSo ended out (q ++ drop taken p)
  utf8_pending [] room ended taken out q pending s =
      let same = utf8.one_result encode need [] [] room false ended InputEmpty taken 0 out [] q [] (inl refl) s
      (utf8_open [] room pending (λ not. absurd (not refl))) in
      unread ended InputEmpty out [] _ same.0 same.2 tt
  utf8_pending (b ∷ p) room ended taken out q pending s = elim (cases_lt room need) [
    | inl little ↦
        let same = utf8.one_result encode need [] (b ∷ p) room false ended OutputFull taken 0 out [] q [] (inl refl) s
        (utf8_full (b ∷ p) room pending (omega arith) little) in
        unread ended OutputFull out [] _ same.0 same.2 refl
    | inr enough ↦
        let same = utf8.one_result encode need [] (b ∷ p) room false ended InputEmpty taken (length (b ∷ p)) out [] q (b ∷ p) (inl refl) s
        (utf8_open (b ∷ p) room pending (λ not. enough)) in
        unread ended InputEmpty out [] _ same.0 same.2 tt
  ]

  none_spelled : (cs rest bytes : List ℕ) → bytes ≡ encode_utf8_all cs ++ rest → length bytes ≡ 0 → cs ≡ []
  none_spelled [] rest bytes is none = refl
  none_spelled (c ∷ cs) rest bytes is none =
      absurd
      (omega (
        arith,
        none,
        ap length is,
        length-encode c,
        len_utf8_bounds c,
        length-append (encode_utf8_all (c ∷ cs)) rest,
        length-append (encode_utf8 c) (encode_utf8_all cs),
      ))

  utf8_whole : (b room : ℕ) (ended : DecoderResult) (taken : ℕ) (out : List A) (q : List ℕ)
      → DecodeStep encode need [] (b ∷ []) room false ended taken out q → HeldSo ended out (q ++ drop taken (b ∷ []))
  utf8_whole b room InputEmpty taken out q s = tt
  utf8_whole b room OutputFull taken out q s =
      let start : length (take taken (b ∷ [])) ≡ 0 = omega (arith, s.answer.0, length-take taken (b ∷ [])) in
      s.out_is ∙ ap (flat_map encode) (none_spelled s.scalars q (take taken (b ∷ [])) s.answer.1 start)
  utf8_whole b room (Malformed k second) taken out q s =
      let (x, zero, within, whole, size, none, malformed, big) = s.answer in
      let more = (malformed_length x (drop taken (b ∷ [])) false malformed).0 in
      let spelled : length (take taken (b ∷ [])) ≡ length (encode_utf8_all s.scalars) + length x =
      ap length whole ∙ length-append (encode_utf8_all s.scalars) x in
      let short = length-take taken (b ∷ []) in (
        omega (arith, more, size, spelled, short),
        nil_from_length (q ++ drop taken (b ∷ []))
            (omega (arith, more, spelled, short, ap length none, length-append q (drop taken (b ∷ [])), length-drop taken (b ∷ []))),
      )

  utf16_open : (order : ByteOrder) (p : List ℕ) (room : ℕ) → IsPendingUtf16 order p
      → DecodeUtf16Step order encode need [] p room false InputEmpty (length p) [] p
  utf16_open order p room pending = record {
    scalars = [];
    are_scalars = refl;
    out_is = refl;
    fits = omega arith;
    pending_before = pending_nil order;
    pending = pending;
    answer = (refl, refl, λ marked. absurd (both_ways false refl marked));
  }

  utf16_pending : (order : ByteOrder) (p : List ℕ) (room : ℕ) (ended : DecoderResult) (taken : ℕ) (out : List A) (q : List ℕ) → IsPendingUtf16 order p
      → DecodeUtf16Step order encode need [] p room false ended taken out q → HeldSo ended out (q ++ drop taken p)
  utf16_pending order p room ended taken out q pending s =
      let same = utf16.one_result order encode need [] p false ended InputEmpty taken (length p) out [] q p s (utf16_open order p room pending) in
      unread ended InputEmpty out [] _ same.0 same.2 tt

  utf16_fits : (order : ByteOrder) (c room : ℕ) (p : List ℕ) → all_scalars (c ∷ []) ≡ true → p ≡ utf16_bytes order (encode_utf16 c)
      → length (encode c) ≤ room
      → DecodeUtf16Step order encode need [] p room false InputEmpty (length p) (encode c) []
  utf16_fits order c room p scalar is short = record {
    scalars = c ∷ [];
    are_scalars = scalar;
    out_is = sym (append-nil (encode c));
    fits = short;
    pending_before = pending_nil order;
    pending = pending_nil order;
    answer = (
      refl,
      is ∙ ap (utf16_bytes order) (sym (append-nil (encode_utf16 c))) ∙ sym (append-nil (bytes_of_scalars order (c ∷ []))),
      λ marked. absurd (both_ways false refl marked),
    );
  }

  utf16_full : (order : ByteOrder) (c room : ℕ) (p : List ℕ) → IsScalar c → p ≡ utf16_bytes order (encode_utf16 c) → room < length (encode c)
      → DecodeUtf16Step order encode need [] p room false OutputFull 0 [] []
  utf16_full order c room p scalar is long = record {
    scalars = [];
    are_scalars = refl;
    out_is = refl;
    fits = omega arith;
    pending_before = pending_nil order;
    pending = pending_nil order;
    answer = (
      omega (arith, ap length is, character_some order c scalar),
      omega arith,
      refl,
      λ not. absurd (not refl),
      Character c,
      [],
      (scalar, is ∙ sym (append-nil (utf16_bytes order (encode_utf16 c)))),
      omega (arith, long),
    );
  }

  utf16_whole : (order : ByteOrder) (p : List ℕ) (room : ℕ) (ended : DecoderResult) (taken : ℕ) (out : List A) (q : List ℕ) → IsCharacterOf order p
      → DecodeUtf16Step order encode need [] p room false ended taken out q → HeldSo ended out (q ++ drop taken p)
  utf16_whole order p room ended taken out q (c, scalar, is) s = elim (cases_lt room (length (encode c))) [
    | inl long ↦
        let same = utf16.one_result order encode need [] p false ended OutputFull taken 0 out [] q [] s
        (utf16_full order c room p (and_parts _ _ scalar).0 is long) in
        unread ended OutputFull out [] _ same.0 same.2 refl
    | inr short ↦
        let same = utf16.one_result order encode need [] p false ended InputEmpty taken (length p) out (encode c) q [] s
        (utf16_fits order c room p scalar is short) in
        unread ended InputEmpty out (encode c) _ same.0 same.2 tt
  ]

  pub held_so : (e : Encoding) (p : List ℕ) (room : ℕ) (ended : DecoderResult) (taken : ℕ) (out : List A) (q : List ℕ) → IsHeld e p
      → StepIn encode need e [] p room false ended taken out q → HeldSo ended out (q ++ drop taken p)
  held_so Utf8 p room ended taken out q (inl pending) s = utf8_pending p room ended taken out q pending s
  held_so Utf8 p room ended taken out q (inr (b, is, never)) s =
      subst (λ bs. HeldSo ended out (q ++ drop taken bs)) (sym is)
      (utf8_whole b room ended taken out q (subst (λ bs. DecodeStep encode need [] bs room false ended taken out q) is s))
  held_so Utf16Le p room ended taken out q (inl pending) s = utf16_pending LittleEndian p room ended taken out q pending s
  held_so Utf16Le p room ended taken out q (inr whole) s = utf16_whole LittleEndian p room ended taken out q whole s
  held_so Utf16Be p room ended taken out q (inl pending) s = utf16_pending BigEndian p room ended taken out q pending s
  held_so Utf16Be p room ended taken out q (inr whole) s = utf16_whole BigEndian p room ended taken out q whole s

  -- ---- nothing is written
  module _ (longer : (c : ℕ) → IsScalar c → 0 < length (encode c)) where
    none_written : (cs : List ℕ) (out : List A) → all_scalars cs ≡ true → out ≡ flat_map encode cs → out ≡ [] → cs ≡ []
    none_written [] out scalars is none = refl
    none_written (c ∷ cs) out scalars is none =
        absurd
        (omega (arith, ap length (sym none ∙ is), length-append (encode c) (flat_map encode cs), longer c (and_parts _ _ scalars).0))

    -- all was read
    pub rest_all : (e : Encoding) (p src : List ℕ) (room : ℕ) (last : Bool) (read : ℕ) (out : List A) (q : List ℕ)
        → StepIn encode need e p src room last InputEmpty read out q → out ≡ [] → q ≡ p ++ src
    rest_all Utf8 p src room last read out q s none =
        sym (s.answer.1 ∙ ap (λ cs. encode_utf8_all cs ++ q) (none_written s.scalars out s.are_scalars s.out_is none))
    rest_all Utf16Le p src room last read out q s none =
        sym (s.answer.1 ∙ ap (λ cs. bytes_of_scalars LittleEndian cs ++ q) (none_written s.scalars out s.are_scalars s.out_is none))
    rest_all Utf16Be p src room last read out q s none =
        sym (s.answer.1 ∙ ap (λ cs. bytes_of_scalars BigEndian cs ++ q) (none_written s.scalars out s.are_scalars s.out_is none))

    with_unread : (p src q : List ℕ) (read : ℕ) → p ++ take read src ≡ q → q ++ drop read src ≡ p ++ src
    with_unread p src q read is =
        ap (λ bs. bs ++ drop read src) (sym is) ∙ append_assoc p (take read src) (drop read src) ∙ ap (λ bs. p ++ bs) (take-append-drop read src)

    pub rest_full : (e : Encoding) (p src : List ℕ) (room : ℕ) (last : Bool) (read : ℕ) (out : List A) (q : List ℕ)
        → StepIn encode need e p src room last OutputFull read out q → out ≡ [] → q ++ drop read src ≡ p ++ src
    rest_full Utf8 p src room last read out q s none = with_unread p src q read
        (s.answer.1 ∙ ap (λ cs. encode_utf8_all cs ++ q) (none_written s.scalars out s.are_scalars s.out_is none))
    rest_full Utf16Le p src room last read out q s none = with_unread p src q read
        (s.answer.2 ∙ ap (λ cs. bytes_of_scalars LittleEndian cs ++ q) (none_written s.scalars out s.are_scalars s.out_is none))
    rest_full Utf16Be p src room last read out q s none = with_unread p src q read
        (s.answer.2 ∙ ap (λ cs. bytes_of_scalars BigEndian cs ++ q) (none_written s.scalars out s.are_scalars s.out_is none))
