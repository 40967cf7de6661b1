-- With enough turns that each make progress, and enough space, a run reaches the end of its source. One call with
-- nothing pending reads all of a text that fits into its space.
use Rattle.std.proofs.Common.{◌≡◌, ℕ, ◌+◌, ◌-◌, ◌*◌, ◌<◌, ◌≤◌, ◌⊎◌, inl, inr, Bool, true, ◌&&◌, List, [], ◌∷◌, length, map}
use Rattle.std.proofs.Common.{take, drop, encode_utf8, encode_utf8_all, Option, Some, refl, sym, ap, arith, subst, ◌++◌, ◌∙◌}
use lib.Utf8.{scalar}
use Rattle.std.specs.Char.{IsScalar}
use Rattle.std.specs.Str.{all_scalars, chars, IsUtf8}
use Rattle.std.specs.List.{AllByRecursion, flat_map, last_or}
use Rattle.std.proofs.lemmas.Bool.{and_parts, cases_lt, le-leb}
use Rattle.std.proofs.lemmas.List.{length-append, length-drop, length-take, append-nil, take_all}
use Rattle.std.proofs.lemmas.List.Elements.{recursion_from_All}
use Rattle.encoding_text.specs.Decoding.{DecodeStep, BorrowedDecodeStep}
use Rattle.encoding_text.specs.declared.decoder.DecoderResult.{DecoderResult}
use Rattle.encoding_text.specs.declared.decoder.DecoderResult.TheVariants.{InputEmpty, OutputFull, Malformed}
use Rattle.encoding_text.proofs.RoomLemmas.{counts, progress}
use Rattle.encoding_runs.specs.declared.run.turns.Turn.{Turn}
use Rattle.encoding_runs.specs.Runs.{room_of, is_marked_last, AreOfTurns, EachMakesProgress}
use Rattle.std.specs.Prelude.{min, Any}
use Rattle.encoding_runs.specs.Calls.{CallRelation, Call, IsChain}
use Rattle.encoding_definitions.proofs.AnyLemmas.{Any-here, Any-there}
use Rattle.encoding_runs.proofs.TurnLemmas.{turn_call}
use Rattle.std.specs.Char.Escape.{encode_utf16}
use Rattle.std.proofs.lemmas.Str.{encodes-chars, scalars-chars}
use Rattle.encoding_definitions.specs.Sequence.{IsPending}
use Rattle.encoding_definitions.specs.Parts.{malformed_count}
use Rattle.encoding_definitions.proofs.EncodingLemmas.{length-utf16, flat_map-encode_utf8}
use Rattle.encoding_definitions.proofs.DecompositionLemmas.{has_parts, parts_split, malformed_count-append}
use Rattle.encoding_text.specs.declared.decoder.DecoderResult.TheVariants as result
use Rattle.encoding_text.specs.declared.decoder.Piece.{Piece}
use Rattle.encoding_text.specs.declared.decoder.Piece.TheVariants.{Text, Char, Malformed, InputEmpty}
use Rattle.encoding_text.proofs.BorrowedLemmas.{borrowed_yields}
use Rattle.encoding_text.proofs.OneResultLemmas.{no_characters_pending, one_result}
use Rattle.encoding_runs.specs.MixedCalls.{Form, ToUtf16, ToUtf8, Borrowed, CallResult, Decoded, Handed}
use Rattle.encoding_runs.specs.MixedCalls.{MixedDecodeStep, TextFits, HasQueriedLength, IsWholePiece, ReadsText}
use Rattle.encoding_runs.proofs.MalformedLemmas.{well_formed}

-- a turn makes progress
abbrev pub GoesOn : ℕ → Turn → Type 0
GoesOn need turn = (1 ≤ turn.take) × (need ≤ turn.room) × (turn.last ≡ true)

pub marked : (turn : Turn) (n : ℕ) → turn.last ≡ true → n ≤ turn.take → is_marked_last turn n ≡ true
marked turn n e l = λ i. e i && le-leb n turn.take l i

-- ---- a run of such turns
-- Each call leaves space enough and less work, or it is marked last, returns `empty` and leaves no work.
module _ {Result A : Type 0} (Does : CallRelation ℕ Result A) (empty : Result) (need : ℕ) (Fits : List ℕ → List ℕ → ℕ
    → Type 0) (work : List ℕ → List ℕ → ℕ) where
  abbrev Ends : Call ℕ Result A → Type 0
  Ends call = (call.last ≡ true) × (call.result ≡ empty)

  abbrev pub GetsOn : List ℕ → List ℕ → Turn → Result → List ℕ → List ℕ → Type 0
  GetsOn p unread turn result q rest = (work q rest < work p unread) ⊎ ((is_marked_last turn (length unread) ≡ true) × (result ≡ empty) × (work q rest ≡ 0))

  abbrev pub EachGetsOn : Type 0
  EachGetsOn =
      (p unread : List ℕ) (left : ℕ) (turn : Turn) (result : Result) (read : ℕ) (out : List A) (q : List ℕ) → GoesOn need turn → Fits p unread left
      → Does p (take turn.take unread) (room_of turn left) (is_marked_last turn (length unread)) result read out q
      → Fits q (drop read unread) (left - length out) × GetsOn p unread turn result q (drop read unread)

  pub turns_complete : (on : EachGetsOn) (turns : List Turn) (calls : List (Call ℕ Result A)) (p unread : List ℕ) (left : ℕ) (before : Option Result)
      → AllByRecursion (GoesOn need) turns → Fits p unread left → IsChain Does p unread calls → AreOfTurns (length unread) left turns calls
      → (work p unread < length turns) ⊎ ((work p unread ≡ 0) × (before ≡ Some empty))
      → (last_or before (map (λ call. call.result) calls) ≡ Some empty) × (work p unread < length turns → Any Ends calls)
  turns_complete on [] [] p unread left before each fits chain t (inl l) = absurd (omega (arith, l))
  turns_complete on [] [] p unread left before each fits chain t (inr (none, e)) = (e, λ l. absurd (omega (arith, l)))
  turns_complete on [] (call ∷ calls) p unread left before each fits chain t due = absurd t
  turns_complete on (turn ∷ turns) [] p unread left before each fits chain t due = absurd t
  turns_complete on (turn ∷ turns) (call ∷ calls) p unread left before (each, more) fits (does, whole, chain) (piece, room, last, t) due =
      let step = on p unread left turn call.result call.read call.out call.pending each fits (turn_call Does p unread left turn call does piece room last) in
      let others : AreOfTurns (length (drop call.read unread)) (left - length call.out) turns calls =
      subst (λ n. AreOfTurns n (left - length call.out) turns calls) (sym (length-drop call.read unread)) t in
      let following = turns_complete on turns calls call.pending (drop call.read unread) (left - length call.out) (Some call.result) more step.0 chain others in
      elim step.1 [
        | inl less ↦
            let fewer : work call.pending (drop call.read unread) < length turns =
            elim due [ inl d ↦ omega (arith, less, d) | inr d ↦ omega (arith, less, d.0) ] in
            let rest = following (inl fewer) in
            (rest.0, λ _. Any-there Ends call calls (rest.1 fewer))
        | inr (marks, e, none) ↦ ((following (inr (none, ap Some e))).0, λ _. Any-here Ends call calls (last ∙ marks, e))
      ]

module _ {A : Type 0} (encode : ℕ → List A) (need : ℕ) (some : 0 < need) (short : (c : ℕ) → IsScalar c → length (encode c) ≤ length (encode_utf8 c)) where
  short_output : (cs : List ℕ) → all_scalars cs ≡ true → length (flat_map encode cs) ≤ length (encode_utf8_all cs)
  short_output [] h = omega arith
  short_output (c ∷ cs) h =
      let both = and_parts (scalar c) (all_scalars cs) h in
      omega (arith, short_output cs both.1, short c both.0, length-append (encode c) (flat_map encode cs), length-append (encode_utf8 c) (encode_utf8_all cs))

  -- ---- one call
  abbrev Fits : List ℕ → List ℕ → ℕ → Type 0
  Fits p unread left = length unread + (need - 1) + length p ≤ left

  -- two calls for each byte unread, and one for pending bytes
  abbrev work : List ℕ → List ℕ → ℕ
  work p unread = 2 * length unread + min 1 (length p)

  reads_on : (p unread q : List ℕ) (read : ℕ) → 0 < read → read ≤ length unread → work q (drop read unread) < work p unread
  reads_on p unread q read some inside = omega (arith, length-drop read unread)

  gets_on : (p unread : List ℕ) (left : ℕ) (turn : Turn) (result : DecoderResult) (read : ℕ) (out : List A) (q : List ℕ) → GoesOn need turn → Fits p unread left
      → read ≤ length unread
      → DecodeStep encode need p (take turn.take unread) (room_of turn left) (is_marked_last turn (length unread)) result read out q
      → GetsOn (DecodeStep encode need) InputEmpty need Fits work p unread turn result q (drop read unread)
  gets_on p unread left turn InputEmpty read out q (one, wide, last) l inside call = elim (cases_lt 0 (length unread)) [
    | inl h ↦ inl (reads_on p unread q read (omega (arith, call.answer.0, length-take turn.take unread)) inside)
    | inr h ↦ let marks = marked turn (length unread) last (omega arith) in
        inr (marks, refl, omega (arith, ap length (call.answer.2 marks), length-drop read unread))
  ]
  gets_on p unread left turn OutputFull read out q (one, wide, last) l inside call =
      elim (progress OutputFull call (omega (arith, call.answer.0)) (omega (arith, call.answer.0, length-take turn.take unread))) [
        | inl h ↦ inl (reads_on p unread q read h inside)
        | inr (k, second, e) ↦ let no : OutputFull ≡ Malformed k second = e in cc
      ]
  gets_on p unread left turn (Malformed k second) read out q (one, wide, last) l inside call = elim (cases_lt 0 read) [
    | inl h ↦ inl (reads_on p unread q read h inside)
    | inr h ↦ let c = counts short_output (Malformed k second) call in
        inl (omega (arith, ap length call.answer.5, (c.reported (k, second, refl)).0, length-drop read unread))
  ]

  -- the space left is enough for the bytes left
  each_on : EachGetsOn (DecodeStep encode need) InputEmpty need Fits work
  each_on p unread left turn result read out q goes l call =
      let c = counts short_output result call in
      let inside : read ≤ length unread = omega (arith, c.within, length-take turn.take unread) in
      (omega (arith, l, inside, c.split, length-drop read unread), gets_on p unread left turn result read out q goes l inside call)

  pub completes : (p src : List ℕ) (room : ℕ) (turns : List Turn) (calls : List (Call ℕ DecoderResult A)) (before : Option DecoderResult)
      → 2 * length src + 2 ≤ length turns → EachMakesProgress need turns
      → length src + (need - 1) + length p ≤ room → IsChain (DecodeStep encode need) p src calls → AreOfTurns (length src) room turns calls
      → last_or before (map (λ call. call.result) calls) ≡ Some InputEmpty
  completes p src room turns calls before l each m c t =
      (turns_complete (DecodeStep encode need) InputEmpty need Fits work each_on turns calls p src room before
      (recursion_from_All (GoesOn need) turns each) m c t (inl (omega (arith, l)))).0

-- the one result of a decode call
decodes_text : {A : Type 0} (encode : ℕ → List A) (need : ℕ) (src : List ℕ) (room : ℕ) (last : Bool) (r : DecoderResult) (read : ℕ) (out : List A) (q : List ℕ)
    → IsUtf8 src → length (flat_map encode (chars src)) ≤ room → DecodeStep encode need [] src room last r read out q
    → (r ≡ result.InputEmpty) × (read ≡ length src) × (out ≡ flat_map encode (chars src)) × (q ≡ [])
decodes_text encode need src room last r read out q text fits call =
    let whole : DecodeStep encode need [] src room last result.InputEmpty (length src) (flat_map encode (chars src)) [] = record {
      scalars = chars src;
      are_scalars = scalars-chars src text;
      out_is = refl;
      fits = fits;
      pending_before = inl refl;
      pending = inl refl;
      answer = (refl, sym (encodes-chars src text) ∙ sym (append-nil (encode_utf8_all (chars src))), (λ _. refl), λ some. absurd (some refl));
      pending_needs_room = λ some. absurd (some refl);
    } in
    one_result encode need [] src room last r result.InputEmpty read (length src) out (flat_map encode (chars src)) q [] (inl refl) call whole

-- the one piece of a call without a destination
hands_text : (src : List ℕ) (last : Bool) (returned : Piece) (read : ℕ) (q : List ℕ) → IsUtf8 src → BorrowedDecodeStep [] src last returned read q
    → IsWholePiece returned src × (read ≡ length src) × (q ≡ [])
hands_text src last (Text t) read q text call =
    let longest = call.answer.4 in
    let all : length src ≤ read = longest.longest (length src) (omega arith) (subst IsUtf8 (sym (take_all (length src) src (omega arith))) text) in
    (call.answer.3 ∙ take_all read src all, omega (arith, longest.within, all), call.answer.1)
hands_text src last (Char c) read q text call = absurd (call.answer.0 refl)
hands_text src last (Malformed k) read q text call =
    let (parts, (x, is, size), yields) = borrowed_yields [] src last (Malformed k) read q call in
    let (all, are) = has_parts src in
    let (more, joined, _) = parts_split src parts (q ++ drop read src) all yields.first are in
    absurd (omega (arith, (well_formed src all are).0 text, ap malformed_count joined, malformed_count-append parts more, ap malformed_count is))
hands_text src last InputEmpty read q text call =
    let spelled : src ≡ encode_utf8_all (chars src) ++ [] = sym (encodes-chars src text) ∙ sym (append-nil (encode_utf8_all (chars src))) in
    let none = no_characters_pending (chars src) [] src (scalars-chars src text) (subst IsPending call.answer.1 call.pending) spelled in
    let empty : src ≡ [] = sym (encodes-chars src text) ∙ ap encode_utf8_all none in
    (empty, call.answer.0, call.answer.1 ∙ empty)

pub reads_text : (src : List ℕ) (form : Form) (last : Bool) (answer : CallResult) (read : ℕ) (out q : List ℕ) → IsUtf8 src → TextFits form src
    → MixedDecodeStep [] src form last answer read out q → ReadsText form src answer read out q
reads_text src (ToUtf16 room) last (Decoded r) read out q text fits call =
    let one = decodes_text encode_utf16 2 src room last r read out q text fits call in
    ((one.0, one.2), one.1, one.3)
reads_text src (ToUtf8 room) last (Decoded r) read out q text fits call =
    let same : flat_map encode_utf8 (chars src) ≡ src = flat_map-encode_utf8 (chars src) ∙ encodes-chars src text in
    let one = decodes_text encode_utf8 4 src room last r read out q text (subst (λ bs. length bs ≤ room) (sym same) fits) call in
    ((one.0, one.2 ∙ same), one.1, one.3)
reads_text src Borrowed last (Handed returned) read out q text fits call = hands_text src last returned read q text call.0
reads_text src (ToUtf16 room) last (Handed returned) read out q text fits call = absurd call
reads_text src (ToUtf8 room) last (Handed returned) read out q text fits call = absurd call
reads_text src Borrowed last (Decoded r) read out q text fits call = absurd call

-- a text fits into the queried length
pub queried_fits : (src : List ℕ) (form : Form) → IsUtf8 src → HasQueriedLength form (length src) → TextFits form src
queried_fits src (ToUtf16 room) text l = omega (arith, length-utf16 (chars src) (scalars-chars src text), ap length (encodes-chars src text), l)
queried_fits src (ToUtf8 room) text l = omega (arith, l)
queried_fits src Borrowed text l = tt
