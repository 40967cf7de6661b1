-- Calls of a decoder of any form, one after another over one stream.
use Rattle.std.proofs.Common.{◌≡◌, ℕ, ◌≤◌, inl, inr, Bool, true, List, [], ◌∷◌, ◌++◌, length, take, drop, encode_utf8, refl, sym, ap, subst, ◌∙◌, arith}
use Rattle.std.proofs.Common.{length-append, take-append-drop}
use Rattle.std.specs.Prelude.{Any}
use Rattle.std.specs.Char.Escape.{encode_utf16}
use Rattle.std.proofs.lemmas.List.{drop-append-le, nil_from_length, length-drop}
use Rattle.encoding_definitions.specs.Parts.{Part}
use Rattle.encoding_definitions.proofs.PrefixesLemmas.{written_is}
use Rattle.encoding_text.proofs.AnyLemmas.{Any-cons, Any-none}
use Rattle.encoding_text.specs.Decoding.{AreDecoded}
use Rattle.encoding_streams.specs.Decoders.{DecoderState, EndsReplacing, EndsReporting, IsAllRead, YieldParts, left}
use Rattle.encoding_streams.specs.MixedDecoderCalls.{AreMixed, AreOf, AreOfForm, AreOfMixed, DecoderAnswer, DecoderForm, EndsInput, IsCallOf, IsFormOf, Mixed}
use Rattle.encoding_streams.specs.MixedDecoderCalls.{Replaced, Reports, ToUtf16, ToUtf8, YieldTheStream, after_mixed, unread_by_mixed}
use Rattle.encoding_streams.proofs.DecoderYieldLemmas.{YieldParts-append, count_in}
use Rattle.encoding_streams.proofs.SniffCallLemmas.{nothing_yielded}
use Rattle.encoding_streams.proofs.SniffLemmas.{left_off}

-- ---- one call
record Yielded {A : Type 0} (are : List A → List Part → Type 0) (old : DecoderState) (src : List ℕ) (last : Bool) (ends : Type 0) (read : ℕ)
    (out : List A) (new : DecoderState) : Type 0 where
  pub within : read ≤ length src
  pub yields : (more : List ℕ) → (last ≡ true → more ≡ []) → (parts : List Part) × are out parts
      × YieldParts (left old (src ++ more)) (left new (drop read src ++ more)) parts
  pub ended : ends → IsAllRead src last read new

by_call : {A : Type 0} (encode : ℕ → List A) (need : ℕ) (old : DecoderState) (src : List ℕ) (dst dst' : List A) (last : Bool) (answer : DecoderAnswer)
    (read : ℕ) (out : List A) (new : DecoderState) → out ≡ take (length out) dst'
    → IsCallOf encode need old src dst dst' last answer read (length out) new → Yielded (AreOf encode answer) old src last (EndsInput answer) read out new
by_call encode need old src dst dst' last (Reports r) read out new is call = record {
  within = call.within;
  yields = λ more none. (
    call.parts,
    subst (λ xs. AreDecoded encode r xs call.parts) (written_is dst dst' (length out) call.out call.writes ∙ sym is)
        call.decoded,
    call.yields more none,
  );
  ended = λ e. subst (λ x. EndsReporting encode need src (length dst) last x read (length out) new) e call.ends;
}
by_call encode need old src dst dst' last (Replaced r count) read out new is call = record {
  within = call.replaces.within;
  yields = λ more none.
      let text = call.replaces.yields more none in
      (text.parts, (is ∙ sym (written_is dst dst' (length out) call.replaces.out call.replaces.writes) ∙ text.text, text.malformed), text.yields);
  ended = λ e. subst (λ x. EndsReplacing encode need src (length dst) last x read (length out) new) e call.ends;
}

by_form : (form : DecoderForm) (old : DecoderState) (src dst dst' : List ℕ) (last : Bool) (answer : DecoderAnswer) (read : ℕ) (out : List ℕ)
    (new : DecoderState) → out ≡ take (length out) dst' → IsFormOf form old src dst dst' last answer read (length out) new
    → Yielded (AreOfForm form answer) old src last (EndsInput answer) read out new
by_form ToUtf16 old src dst dst' last answer read out new is call = by_call encode_utf16 2 old src dst dst' last answer read out new is call
by_form ToUtf8 old src dst dst' last answer read out new is call = by_call encode_utf8 4 old src dst dst' last answer read out new is call

-- ---- all of them
record Given (state : DecoderState) (unread : List ℕ) (calls : List Mixed) : Type 0 where
  pub parts : List Part
  pub in_sequence : AreOfMixed calls parts
  pub yields : YieldParts (left state unread) (left (after_mixed state calls) (unread_by_mixed unread calls)) parts

give : (state : DecoderState) (unread : List ℕ) (calls : List Mixed) → AreMixed state unread calls → Given state unread calls
give state unread [] made = record { parts = []; in_sequence = refl; yields = nothing_yielded (left state unread) (left state unread) refl }
give state unread (call ∷ calls) ((dst, dst', out, does), last, made) =
    let prefix = take call.piece unread in
    let back = drop call.piece unread in
    let one = by_form call.form state prefix dst dst' call.last call.answer call.read call.out call.after out does in
    let whole : prefix ++ back ≡ unread = take-append-drop call.piece unread in
    let rest : drop call.read prefix ++ back ≡ drop call.read unread = sym (drop-append-le call.read prefix back one.within) ∙ ap (drop call.read) whole in
    let (parts, are, yields) = one.yields back last in
    let first : YieldParts (left state unread) (left call.after (drop call.read unread)) parts =
    subst (λ bs. YieldParts (left state bs) (left call.after (drop call.read unread)) parts) whole
    (subst (λ bs. YieldParts (left state (prefix ++ back)) (left call.after bs) parts) rest yields) in
    let more = give call.after (drop call.read unread) calls made in
    record {
      parts = parts ++ more.parts;
      in_sequence = (parts, more.parts, refl, are, more.in_sequence);
      yields = YieldParts-append (left state unread) (left call.after (drop call.read unread))
          (left (after_mixed call.after calls) (unread_by_mixed (drop call.read unread) calls)) parts more.parts first more.yields;
    }

no_longer : (state : DecoderState) (unread : List ℕ) (calls : List Mixed) → AreMixed state unread calls
    → length (left (after_mixed state calls) (unread_by_mixed unread calls)).1 ≤ length (left state unread).1
no_longer state unread calls made =
    let given = give state unread calls made in
    omega (arith, count_in (left state unread).0 (left state unread).1 given.parts _ given.yields.first)

abbrev Ends : Mixed → Type 0
Ends call = (call.last ≡ true) × EndsInput call.answer

ended : (state : DecoderState) (unread : List ℕ) (calls : List Mixed) → AreMixed state unread calls → Any Ends calls
    → length (left (after_mixed state calls) (unread_by_mixed unread calls)).1 ≡ 0
ended state unread [] made some = absurd (Any-none Ends some)
ended state unread (call ∷ calls) ((dst, dst', out, does), last, made) some = elim (Any-cons Ends call calls some) [
  | inl (marked, empty) ↦
      let one = by_form call.form state (take call.piece unread) dst dst' call.last call.answer call.read call.out call.after out does in
      let (all, end) = one.ended empty in
      let (off, none) = end marked in
      omega (
        arith,
        no_longer call.after (drop call.read unread) calls made,
        left_off call.after (drop call.read unread) off,
        ap length none,
        length-drop call.read unread,
        all,
        ap length (take-append-drop call.piece unread),
        length-append (take call.piece unread) (drop call.piece unread),
        ap length (last marked),
      )
  | inr more ↦ ended call.after (drop call.read unread) calls made more
]

pub yield_the_stream : (state : DecoderState) (stream : List ℕ) (calls : List Mixed) → AreMixed state stream calls → YieldTheStream state stream calls
yield_the_stream state stream calls made =
    let given = give state stream calls made in
    record {
      parts = given.parts;
      in_sequence = given.in_sequence;
      yields = given.yields;
      all = λ some. nil_from_length _ (ended state stream calls made some);
    }
