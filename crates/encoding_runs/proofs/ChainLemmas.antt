-- A chain of a decoder's calls yields what one call yields: the first parts of the pending bytes and the source.
use Rattle.std.proofs.Common.{◌≡◌, ℕ, ◌≤◌, inl, inr, Bool, true, false, List, [], ◌∷◌, ◌++◌, length, take, drop, refl, sym, ap, ◌∙◌, arith, subst}
use Rattle.std.specs.Prelude.{Any}
use Rattle.std.specs.List.{flat_map}
use Rattle.std.proofs.lemmas.Bool.{or_parts}
use Rattle.std.proofs.lemmas.List.{append_assoc, append_cancel_right, length-append, length-drop}
use Rattle.std.proofs.lemmas.List.{length-take, take-append-drop, take_all, drop-append-le, nil_from_length}
use Rattle.encoding_definitions.specs.Sequence.{IsPending}
use Rattle.encoding_definitions.specs.Parts.{Part, bytes_of, StartsWith, Yields}
use Rattle.encoding_text.specs.Decoding.{DecodeStep}
use Rattle.encoding_text.specs.declared.decoder.DecoderResult.{DecoderResult}
use Rattle.encoding_text.specs.declared.decoder.DecoderResult.TheVariants.{InputEmpty}
use Rattle.encoding_definitions.proofs.DecompositionLemmas.{StartsWith-bytes}
use Rattle.encoding_text.proofs.RepairingLemmas.{yields_then}
use Rattle.encoding_runs.specs.Calls.{CallRelation, Call, IsChain, read_in_all, pending_after, some_last, AreYieldedInSequence, YieldTheParts}
use Rattle.encoding_definitions.proofs.AnyLemmas.{Any-cons, Any-none}

-- ---- one call, among all unread bytes
-- a piece and the bytes after it are all bytes
piece_bytes : (p b : List ℕ) (n : ℕ) → p ++ take n b ++ drop n b ≡ p ++ b
piece_bytes p b n = append_assoc p (take n b) (drop n b) ∙ ap (λ xs. p ++ xs) (take-append-drop n b)

pub unread_bytes : (q b : List ℕ) (n r : ℕ) → r ≤ length (take n b) → q ++ drop r (take n b) ++ drop n b ≡ q ++ drop r b
unread_bytes q b n r h = append_assoc q (drop r (take n b)) (drop n b)
    ∙ ap (λ xs. q ++ xs) (sym (drop-append-le r (take n b) (drop n b) h) ∙ ap (drop r) (take-append-drop n b))

first_of_all : (p b : List ℕ) (n : ℕ) (last : Bool) (parts : List Part) (read : ℕ) (q : List ℕ) → Yields p (take n b) last parts read q
    → (last ≡ true → length b ≤ n)
    → StartsWith (p ++ b) parts (q ++ drop read b)
first_of_all p b n true parts read q g whole = subst (λ xs. StartsWith (p ++ xs) parts (q ++ drop read xs)) (take_all n b (whole refl)) g.first
first_of_all p b n false parts read q g whole = rw (piece_bytes p b n, unread_bytes q b n read g.within) at (g.stable refl (drop n b))

first_stable : (p b : List ℕ) (n : ℕ) (last : Bool) (parts : List Part) (read : ℕ) (q : List ℕ) → Yields p (take n b) last parts read q → last ≡ false
    → (more : List ℕ) → StartsWith (p ++ b ++ more) parts (q ++ drop read b ++ more)
first_stable p b n last parts read q g e more =
    let prefix = p ++ take n b in
    let back = q ++ drop read (take n b) in
    subst (λ xs. StartsWith xs parts (q ++ drop read b ++ more)) (sym (append_assoc prefix (drop n b) more) ∙ ap (λ xs. xs ++ more) (piece_bytes p b n))
    (subst (λ xs. StartsWith (prefix ++ (drop n b ++ more)) parts xs) (sym (append_assoc back (drop n b) more)
    ∙ ap (λ xs. xs ++ more) (unread_bytes q b n read g.within))
    (g.stable e (drop n b ++ more)))

pub of_piece : (p b : List ℕ) (n : ℕ) (last : Bool) (parts : List Part) (read : ℕ) (q : List ℕ) → Yields p (take n b) last parts read q
    → (last ≡ true → length b ≤ n) → Yields p b last parts read q
of_piece p b n last parts read q g whole = record {
  within = omega (arith, g.within, length-take n b);
  first = first_of_all p b n last parts read q g whole;
  pending = g.pending;
  stable = first_stable p b n last parts read q g;
}

-- the bytes of the parts, then the pending ones, are the bytes pending before and the bytes read
pub yielded_bytes : (p src : List ℕ) (parts : List Part) (read : ℕ) (q : List ℕ) → StartsWith (p ++ src) parts (q ++ drop read src)
    → flat_map bytes_of parts ++ q ≡ p ++ take read src
yielded_bytes p src parts read q s =
    sym (append_cancel_right (p ++ take read src) (flat_map bytes_of parts ++ q) (drop read src)
    (piece_bytes p src read ∙ StartsWith-bytes (p ++ src) parts (q ++ drop read src) s ∙ sym (append_assoc (flat_map bytes_of parts) q (drop read src))))

-- a decode call marked last that returns `InputEmpty` reads all and leaves nothing pending
pub decoded_empty : {A : Type 0} (encode : ℕ → List A) (need : ℕ) (p src : List ℕ) (room : ℕ) (last : Bool) (result : DecoderResult) (read : ℕ)
    (out : List A) (q : List ℕ)
    → DecodeStep encode need p src room last result read out q → last ≡ true → result ≡ InputEmpty → (read ≡ length src) × (q ≡ [])
decoded_empty encode need p src room last result read out q call marked e =
    let empty = subst (λ x. DecodeStep encode need p src room last x read out q) e call in
    (empty.answer.0, empty.answer.2 marked)

-- ---- the chain, of calls that each yield first parts
module _ {Form Result A : Type 0} (Does : CallRelation Form Result A) (AreYielded : Form → Result → List A → List Part → Type 0)
    (yields : (p src : List ℕ) (form : Form) (last : Bool) (result : Result) (read : ℕ) (out : List A) (q : List ℕ) → Does p src form last result read out q
    → (parts : List Part) × AreYielded form result out parts × Yields p src last parts read q) where
  record Given (p b : List ℕ) (calls : List (Call Form Result A)) : Type 0 where
    pub parts : List Part
    pub in_sequence : AreYieldedInSequence AreYielded calls parts
    pub prefix : Yields p b (some_last calls) parts (read_in_all calls) (pending_after p calls)

  chain_yielded : (p b : List ℕ) (calls : List (Call Form Result A)) → IsPending p → IsChain Does p b calls → Given p b calls
  chain_yielded p b [] h c = record {
    parts = [];
    in_sequence = refl;
    prefix =
        record { within = omega arith; first = refl; pending = h; stable = λ e more. refl };
  }
  chain_yielded p b (call ∷ calls) h (does, whole, c) =
      let (first, are, g) = yields p (take call.piece b) call.form call.last call.result call.read call.out call.pending does in
      let rest = chain_yielded call.pending (drop call.read b) calls g.pending c in
      record {
        parts = first ++ rest.parts;
        in_sequence = (first, rest.parts, are, rest.in_sequence, refl);
        prefix = yields_then p b call.last (some_last calls) _ first rest.parts call.read (read_in_all calls) call.pending _
            (or_parts call.last (some_last calls))
            (of_piece p b call.piece call.last first call.read call.pending g whole) rest.prefix;
      }

  -- with nothing pending and nothing unread, calls yield nothing
  nothing_left : (p b : List ℕ) (calls : List (Call Form Result A)) → p ≡ [] → length b ≡ 0 → IsChain Does p b calls
      → (read_in_all calls ≡ 0) × (pending_after p calls ≡ [])
  nothing_left p b calls e n c =
      let yielded = chain_yielded p b calls (inl e) c in
      let bytes = yielded_bytes p b yielded.parts (read_in_all calls) (pending_after p calls) yielded.prefix.first in (
        omega (arith, yielded.prefix.within),
        nil_from_length _
            (omega (
              arith,
              ap length bytes,
              ap length e,
              length-append p (take (read_in_all calls) b),
              length-append (flat_map bytes_of yielded.parts)
                  (pending_after p calls),
              length-take (read_in_all calls) b,
            )),
      )

  -- ---- to the end of the bytes, by a call marked last that reads all and leaves nothing pending
  module _ (IsInputEmpty : Result → Type 0)
      (ends : (p src : List ℕ) (form : Form) (last : Bool) (result : Result) (read : ℕ) (out : List A) (q : List ℕ) → Does p src form last result read out q
      → last ≡ true → IsInputEmpty result → (read ≡ length src) × (q ≡ [])) where
    abbrev Ends : Call Form Result A → Type 0
    Ends call = (call.last ≡ true) × IsInputEmpty call.result

    pub chain_ends : (p b : List ℕ) (calls : List (Call Form Result A)) → IsChain Does p b calls → Any Ends calls
        → (read_in_all calls ≡ length b) × (pending_after p calls ≡ [])
    chain_ends p b [] c some = absurd (Any-none Ends some)
    chain_ends p b (call ∷ calls) (does, whole, c) some =
        let (first, are, g) = yields p (take call.piece b) call.form call.last call.result call.read call.out call.pending does in
        elim (Any-cons Ends call calls some) [
          | inl (last, empty) ↦
              let all = ends p (take call.piece b) call.form call.last call.result call.read call.out call.pending does last empty in
              let rest =
              nothing_left call.pending (drop call.read b) calls all.1
              (omega (arith, all.0, whole last, length-take call.piece b, length-drop call.read b)) c in
              (omega (arith, rest.0, all.0, whole last, length-take call.piece b), rest.1)
          | inr more ↦
              let rest = chain_ends call.pending (drop call.read b) calls c more in
              (omega (arith, rest.0, g.within, length-take call.piece b, length-drop call.read b), rest.1)
        ]

    pub chain_yields : (p b : List ℕ) (calls : List (Call Form Result A)) → IsPending p → IsChain Does p b calls
        → YieldTheParts AreYielded IsInputEmpty p b calls
    chain_yields p b calls h c =
        let yielded = chain_yielded p b calls h c in
        let q = pending_after p calls in
        record {
          parts = yielded.parts;
          in_sequence = yielded.in_sequence;
          prefix = yielded.prefix;
          bytes = yielded_bytes p b yielded.parts (read_in_all calls) q yielded.prefix.first;
          all = λ some.
              let end = chain_ends p b calls c some in
              let none : q ++ drop (read_in_all calls) b ≡ [] =
              nil_from_length _ (omega (arith, length-append q (drop (read_in_all calls) b), ap length end.1, end.0, length-drop (read_in_all calls) b)) in
              subst (λ xs. StartsWith (p ++ b) yielded.parts xs) none yielded.prefix.first;
        }
