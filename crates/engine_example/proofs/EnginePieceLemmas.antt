-- Pieces of bytes in sequence, and what is written for them and for a whole text.
use Rattle.std.proofs.Common.{◌≡◌, ℕ, ◌+◌, ◌<◌, ◌≤◌, Bool, false, List, [], ◌++◌, length, take, drop, get_or, refl, sym, ap, subst, ◌∙◌, arith, append_assoc}
use Rattle.std.specs.List.{flat_map}
use Rattle.std.specs.Char.Escape.{encode_utf16}
use Rattle.std.specs.Str.{chars, IsUtf8}
use Rattle.std.proofs.lemmas.List.{take_at, take_more, drop-drop, flat_map_more, length-drop}
use Rattle.encoding_text.specs.Parts.{Part, StartsWith, lossy_utf16, Yields}
use Rattle.encoding_text.proofs.DecompositionLemmas.{StartsWith-append}
use Rattle.encoding_text.proofs.RepairingLemmas.{lossy-append}
use Rattle.encoding_text.specs.Decoding.{BorrowedDecodeStep, DecodeStepInto, max_utf16_length, AreBorrowed}
use Rattle.encoding_text.specs.declared.decoder.DecoderResult.{DecoderResult}
use Rattle.encoding_text.specs.declared.decoder.Piece.{Piece}
use Rattle.encoding_runs.specs.Calls.{YieldsFirstParts}
use Rattle.encoding_runs.specs.MixedCalls.{Form, CallResult, Borrowed, ToUtf16, Handed, Decoded, MixedDecodeStep, AreYielded, IsInputEmpty, TextFits, HasQueriedLength, ReadsText}
use Rattle.engine_example.specs.CutBlocks.{WritesPiece}

-- ---- the calls over one piece
-- the parts that the calls so far yield, and their text
pub record AreYieldedUpTo (p b : List ℕ) (last : Bool) (out : List ℕ) (read : ℕ) (q : List ℕ) : Type 0 where
  pub parts : List Part
  pub written : out ≡ lossy_utf16 parts
  pub yields : Yields p b last parts read q

-- one more call
pub yielded_on : ((p src : List ℕ) (form : Form) (last : Bool) (answer : CallResult) (read : ℕ) (out q : List ℕ)
    → MixedDecodeStep p src form last answer read out q
    → YieldsFirstParts AreYielded IsInputEmpty p src form last answer read out q)
    → (p b : List ℕ) (last : Bool) (out : List ℕ) (read : ℕ) (q : List ℕ) (returned : Piece) (more : ℕ) (r new : List ℕ) → AreYieldedUpTo p b last out read q
    → BorrowedDecodeStep q (drop read b) last returned more r → ((parts : List Part) → AreBorrowed returned parts → new ≡ out ++ lossy_utf16 parts)
    → AreYieldedUpTo p b last new (read + more) r
yielded_on one_call p b last out read q returned more r new g call text =
    let yielded = one_call q (drop read b) Borrowed last (Handed returned) more [] r (call, refl) in
    let written = text yielded.parts yielded.yielded in
    let following : drop more (drop read b) ≡ drop (read + more) b = drop-drop more read b in
    record {
      parts = g.parts ++ yielded.parts;
      written = cc (lossy-append encode_utf16 g.parts yielded.parts);
      yields = record {
        within = omega (arith, g.yields.within, yielded.prefix.within, length-drop read b);
        first = subst (λ xs. StartsWith (p ++ b) (g.parts ++ yielded.parts) (r ++ xs)) following
            (StartsWith-append _ g.parts _ yielded.parts _ g.yields.first yielded.prefix.first);
        pending = yielded.prefix.pending;
        stable = λ f after. subst (λ xs. StartsWith (p ++ b ++ after) (g.parts ++ yielded.parts) (r ++ xs ++ after)) following
            (StartsWith-append _ g.parts _ yielded.parts _ (g.yields.stable f after) (yielded.prefix.stable f after));
      };
    }

-- ---- all pieces
-- one more of those taken
pub flat_map-take : {X : Type 0} (f : X → List ℕ) (xs : List X) (i : ℕ) (d : X) → i < length xs
    → flat_map f (take i xs) ++ f (get_or xs i d) ≡ flat_map f (take (i + 1) xs)
flat_map-take f xs i d h = flat_map_more f [] (take i xs) (get_or xs i d) ∙ sym (ap (flat_map f) (take_more xs i d h))

-- what is written for the pieces before, and then for one more
pub taken_on : (bytes out q piece block r : List ℕ) (last : Bool) → WritesPiece [] bytes false out q → WritesPiece q piece last block r
    → WritesPiece [] (bytes ++ piece) last (out ++ block) r
taken_on bytes out q piece block r last t w = record {
  parts = t.parts ++ w.parts;
  written = cc (lossy-append encode_utf16 t.parts w.parts);
  all = λ e. StartsWith-append _ t.parts _ w.parts [] (t.stable refl piece) (w.all e);
  stable = λ e more. subst (λ xs. StartsWith xs (t.parts ++ w.parts) (r ++ more)) (sym (append_assoc bytes piece more))
      (StartsWith-append _ t.parts _ w.parts _ (subst (StartsWith (bytes ++ (piece ++ more)) t.parts) (sym (append_assoc q piece more))
      (t.stable refl (piece ++ more)))
      (w.stable e more));
}

-- ---- one call on a whole text, into a destination of the queried length
pub text_written : ((src : List ℕ) (form : Form) (last : Bool) (answer : CallResult) (read : ℕ) (out q : List ℕ) → IsUtf8 src → TextFits form src
    → MixedDecodeStep [] src form last answer read out q → ReadsText form src answer read out q)
    → ((src : List ℕ) (form : Form) → IsUtf8 src → HasQueriedLength form (length src) → TextFits form src)
    → (src old new : List ℕ) (last : Bool) (result : DecoderResult) (read written : ℕ) (q : List ℕ) → IsUtf8 src
    → max_utf16_length (length src) 0 ≤ length old → DecodeStepInto encode_utf16 2 [] src old new last result read written q
    → take written new ≡ flat_map encode_utf16 (chars src)
text_written text queried src old new last result read written q is_text room (out, writes, call) =
    let form = ToUtf16 (length old) in
    let whole = text src form last (Decoded result) read out q is_text (queried src form is_text room) call in
    ap (take written) writes.placed ∙ take_at out (drop written old) written (sym writes.count) ∙ whole.0.1
