-- What one call of the UTF-16 decoder yields, and a chain of them: the first parts of the pending bytes and the source.
use Rattle.std.proofs.Common.{◌≡◌, ℕ, ◌+◌, ◌≤◌, inl, inr, Bool, true, false, ◌||◌, List, [], ◌∷◌, ◌++◌, length, take, drop, map, refl, sym, ap, ◌∙◌, arith}
use Rattle.std.proofs.Common.{subst, append_assoc}
use Rattle.std.specs.Prelude.{Any}
use Rattle.std.specs.List.{flat_map}
use Rattle.std.proofs.lemmas.List.{append_cancel_right, length-append, length-drop, length-take, take-append-drop, take_all, drop-append-le, drop-drop}
use Rattle.std.proofs.lemmas.List.{nil_from_length}
use Rattle.encoding_text.specs.Parts.{Part, Character, IllFormed}
use Rattle.encoding_text.specs.Decoding.{AreDecoded}
use Rattle.encoding_text.specs.declared.utf_16.ByteOrder.{ByteOrder}
use Rattle.encoding_text.specs.declared.decoder.DecoderResult.{DecoderResult}
use Rattle.encoding_text.specs.declared.decoder.DecoderResult.TheVariants.{InputEmpty, OutputFull, Malformed}
use Rattle.encoding_text.proofs.AnyLemmas.{Any-cons, Any-none}
use Rattle.encoding_runs.specs.Calls.{Call, IsChain, read_in_all, pending_after, some_last, AreYieldedInSequence}
use Rattle.encoding_text.specs.Utf16Bytes.{bytes_of_scalars}
use Rattle.encoding_streams.specs.Utf16Parts.{bytes_of_utf16, IsPendingUtf16, StartsWithUtf16}
use Rattle.encoding_streams.specs.Utf16Decoding.{DecodeUtf16Step}
use Rattle.encoding_streams.specs.Utf16Calls.{YieldUtf16Parts}
use Rattle.encoding_streams.proofs.Utf16ByteLemmas.{length-pending}
use Rattle.encoding_streams.proofs.Utf16PartLemmas.{starts_append, starts_bytes, starts_stay, starts_weaker, starts_characters}

-- ---- one call
-- what it yields of the bytes that it was passed
pub record Yields {A : Type 0} (order : ByteOrder) (encode : ℕ → List A) (p src : List ℕ) (last : Bool) (result : DecoderResult) (read : ℕ) (out : List A)
    (q : List ℕ) : Type 0 where
  pub parts : List Part
  pub decoded : AreDecoded encode result out parts
  pub within : read ≤ length src
  pub first : StartsWithUtf16 order last (p ++ src) parts (q ++ drop read src)
  pub pending : IsPendingUtf16 order q

pub call_bytes : (order : ByteOrder) (p src cs y : List ℕ) (read : ℕ) → p ++ take read src ≡ bytes_of_scalars order cs ++ y
    → p ++ src ≡ bytes_of_scalars order cs ++ (y ++ drop read src)
call_bytes order p src cs y read e =
    ap (λ xs. p ++ xs) (sym (take-append-drop read src)) ∙ sym (append_assoc p (take read src) (drop read src)) ∙ ap (λ xs. xs ++ drop read src) e
    ∙ append_assoc (bytes_of_scalars order cs) y (drop read src)

module _ {A : Type 0} (order : ByteOrder) (encode : ℕ → List A) (need : ℕ) where
  pub call_yields : (p src : List ℕ) (room : ℕ) (last : Bool) (result : DecoderResult) (read : ℕ) (out : List A) (q : List ℕ)
      → DecodeUtf16Step order encode need p src room last result read out q → Yields order encode p src last result read out q
  call_yields p src room last InputEmpty read out q call =
      let (all, whole, ended) = call.answer in
      let bytes = call_bytes order p src call.scalars q read (ap (λ xs. p ++ xs) (take_all read src (omega (arith, all))) ∙ whole) in
      record {
        parts = map Character call.scalars ++ [];
        decoded = (call.scalars, [], call.are_scalars, call.out_is, refl, refl);
        within = omega (arith, all);
        first = subst (λ xs. StartsWithUtf16 order last xs (map Character call.scalars ++ []) (q ++ drop read src)) (sym bytes)
            (starts_append order last _ (map Character call.scalars) (q ++ drop read src) [] (q ++ drop read src)
            (starts_characters order last call.scalars (q ++ drop read src) call.are_scalars) refl);
        pending = call.pending;
      }
  call_yields p src room last OutputFull read out q call =
      let (unread, within, whole, kept, part, after, next, more) = call.answer in
      let bytes = call_bytes order p src call.scalars q read whole in
      record {
        parts = map Character call.scalars ++ [];
        decoded = (call.scalars, [], call.are_scalars, call.out_is, refl, refl);
        within = within;
        first = subst (λ xs. StartsWithUtf16 order last xs (map Character call.scalars ++ []) (q ++ drop read src)) (sym bytes)
            (starts_append order last _ (map Character call.scalars) (q ++ drop read src) [] (q ++ drop read src)
            (starts_characters order last call.scalars (q ++ drop read src) call.are_scalars) refl);
        pending = call.pending;
      }
  call_yields p src room last (Malformed k second) read out q call =
      let (x, within, whole, size, more, stayed, malformed, enough) = call.answer in
      let bytes = call_bytes order p src call.scalars (x ++ q) read whole
      ∙ ap (λ xs. bytes_of_scalars order call.scalars ++ xs) (append_assoc x q (drop read src)) in
      record {
        parts = map Character call.scalars ++ IllFormed x ∷ [];
        decoded = (call.scalars, IllFormed x ∷ [], call.are_scalars, call.out_is, (x, refl, size), refl);
        within = within;
        first = subst (λ xs. StartsWithUtf16 order last xs (map Character call.scalars ++ IllFormed x ∷ []) (q ++ drop read src)) (sym bytes)
            (starts_append order last _ (map Character call.scalars) (x ++ (q ++ drop read src)) (IllFormed x ∷ []) (q ++ drop read src)
            (starts_characters order last call.scalars (x ++ (q ++ drop read src)) call.are_scalars)
            (q ++ drop read src, (refl, malformed), refl));
        pending = call.pending;
      }

  -- ---- one call, among all unread bytes
  of_piece : (p b : List ℕ) (n : ℕ) (last : Bool) (parts : List Part) (read : ℕ) (q : List ℕ) → read ≤ length (take n b)
      → StartsWithUtf16 order last (p ++ take n b) parts (q ++ drop read (take n b)) → (last ≡ true → length b ≤ n)
      → StartsWithUtf16 order last (p ++ b) parts (q ++ drop read b)
  of_piece p b n true parts read q within s whole =
      subst (λ xs. StartsWithUtf16 order true (p ++ xs) parts (q ++ drop read xs)) (take_all n b (whole refl)) s
  of_piece p b n false parts read q within s whole =
      let before : (p ++ take n b) ++ drop n b ≡ p ++ b = append_assoc p (take n b) (drop n b) ∙ ap (λ xs. p ++ xs) (take-append-drop n b) in
      let after : (q ++ drop read (take n b)) ++ drop n b ≡ q ++ drop read b =
      append_assoc q (drop read (take n b)) (drop n b)
      ∙ ap (λ xs. q ++ xs) (sym (drop-append-le read (take n b) (drop n b) within) ∙ ap (drop read) (take-append-drop n b)) in
      subst (λ xs. StartsWithUtf16 order false xs parts (q ++ drop read b)) before
      (subst (λ xs. StartsWithUtf16 order false ((p ++ take n b) ++ drop n b) parts xs) after
      (starts_stay order (p ++ take n b) parts (q ++ drop read (take n b)) (drop n b) false s))

  -- the bytes of the parts, then the pending ones, are the bytes pending before and the bytes read
  yielded_bytes : (p src : List ℕ) (last : Bool) (parts : List Part) (read : ℕ) (q : List ℕ) → StartsWithUtf16 order last (p ++ src) parts (q ++ drop read src)
      → flat_map (bytes_of_utf16 order) parts ++ q ≡ p ++ take read src
  yielded_bytes p src last parts read q s =
      let bytes = flat_map (bytes_of_utf16 order) parts in
      sym
      (append_cancel_right (p ++ take read src) (bytes ++ q) (drop read src)
      (append_assoc p (take read src) (drop read src) ∙ ap (λ xs. p ++ xs) (take-append-drop read src)
      ∙ starts_bytes order last (p ++ src) parts (q ++ drop read src) s
      ∙ sym (append_assoc bytes q (drop read src))))

  -- ---- the chain
  record Given (p b : List ℕ) (calls : List (Call ℕ DecoderResult A)) : Type 0 where
    pub parts : List Part
    pub in_sequence : AreYieldedInSequence (λ room. AreDecoded encode) calls parts
    pub within : read_in_all calls ≤ length b
    pub first : StartsWithUtf16 order (some_last calls) (p ++ b) parts (pending_after p calls ++ drop (read_in_all calls) b)
    pub pending : IsPendingUtf16 order (pending_after p calls)

  left_or : (a b : Bool) → a ≡ true → (a || b) ≡ true
  left_or a b e = rw e refl

  right_or : (a b : Bool) → b ≡ true → (a || b) ≡ true
  right_or true b e = refl
  right_or false b e = e

  given : (p b : List ℕ) (calls : List (Call ℕ DecoderResult A)) → IsPendingUtf16 order p
      → IsChain (DecodeUtf16Step order encode need) p b calls → Given p b calls
  given p b [] h c = record { parts = []; in_sequence = refl; within = omega arith; first = refl; pending = h }
  given p b (call ∷ calls) h (does, whole, c) =
      let one = call_yields p (take call.piece b) call.form call.last call.result call.read call.out call.pending does in
      let rest = given call.pending (drop call.read b) calls one.pending c in
      let here = of_piece p b call.piece call.last one.parts call.read call.pending one.within one.first whole in
      let q = pending_after call.pending calls in
      let unread : drop (read_in_all calls) (drop call.read b) ≡ drop (call.read + read_in_all calls) b = drop-drop (read_in_all calls) call.read b in
      record {
        parts = one.parts ++ rest.parts;
        in_sequence = (one.parts, rest.parts, one.decoded, rest.in_sequence, refl);
        within = omega (arith, one.within, rest.within, length-take call.piece b, length-drop call.read b);
        first = subst (λ xs. StartsWithUtf16 order (call.last || some_last calls) (p ++ b) (one.parts ++ rest.parts) (q ++ xs)) unread
            (starts_append order (call.last || some_last calls) (p ++ b) one.parts (call.pending ++ drop call.read b) rest.parts _
            (starts_weaker order call.last (call.last || some_last calls) _ _ _ (left_or call.last (some_last calls)) here)
            (starts_weaker order (some_last calls) (call.last || some_last calls) _ _ _ (right_or call.last (some_last calls)) rest.first));
        pending = rest.pending;
      }

  -- with nothing pending and nothing unread, calls yield nothing
  nothing_left : (p b : List ℕ) (calls : List (Call ℕ DecoderResult A)) → IsPendingUtf16 order p → p ≡ [] → length b ≡ 0
      → IsChain (DecodeUtf16Step order encode need) p b calls → (read_in_all calls ≡ 0) × (pending_after p calls ≡ [])
  nothing_left p b calls h e n c =
      let all = given p b calls h c in
      let q = pending_after p calls in
      let bytes = yielded_bytes p b (some_last calls) all.parts (read_in_all calls) q all.first in (
        omega (arith, all.within),
        nil_from_length q
            (omega (
              arith,
              ap length bytes,
              ap length e,
              length-append p (take (read_in_all calls) b),
              length-append (flat_map (bytes_of_utf16 order) all.parts) q,
              length-take (read_in_all calls) b,
            )),
      )

  -- a call marked last that returns `InputEmpty` reads all and leaves nothing pending
  call_ends : (p src : List ℕ) (room : ℕ) (last : Bool) (result : DecoderResult) (read : ℕ) (out : List A) (q : List ℕ)
      → DecodeUtf16Step order encode need p src room last result read out q → last ≡ true → result ≡ InputEmpty → (read ≡ length src) × (q ≡ [])
  call_ends p src room last result read out q call marked e =
      let empty = subst (λ x. DecodeUtf16Step order encode need p src room last x read out q) e call in
      (empty.answer.0, empty.answer.2 marked)

  abbrev Ends : Call ℕ DecoderResult A → Type 0
  Ends call = (call.last ≡ true) × (call.result ≡ InputEmpty)

  chain_ends : (p b : List ℕ) (calls : List (Call ℕ DecoderResult A)) → IsPendingUtf16 order p
      → IsChain (DecodeUtf16Step order encode need) p b calls → Any Ends calls
      → (read_in_all calls ≡ length b) × (pending_after p calls ≡ [])
  chain_ends p b [] h c some = absurd (Any-none Ends some)
  chain_ends p b (call ∷ calls) h (does, whole, c) some =
      let one = call_yields p (take call.piece b) call.form call.last call.result call.read call.out call.pending does in
      elim (Any-cons Ends call calls some) [
        | inl (last, empty) ↦
            let all = call_ends p (take call.piece b) call.form call.last call.result call.read call.out call.pending does last empty in
            let rest =
            nothing_left call.pending (drop call.read b) calls one.pending all.1
            (omega (arith, all.0, whole last, length-take call.piece b, length-drop call.read b)) c in
            (omega (arith, rest.0, all.0, whole last, length-take call.piece b), rest.1)
        | inr more ↦
            let rest = chain_ends call.pending (drop call.read b) calls one.pending c more in
            (omega (arith, rest.0, one.within, length-take call.piece b, length-drop call.read b), rest.1)
      ]

  pub chain_yields : (p b : List ℕ) (calls : List (Call ℕ DecoderResult A)) → IsPendingUtf16 order p → IsChain (DecodeUtf16Step order encode need) p b calls
      → YieldUtf16Parts order encode p b calls
  chain_yields p b calls h c =
      let all = given p b calls h c in
      let q = pending_after p calls in
      record {
        parts = all.parts;
        in_sequence = all.in_sequence;
        within = all.within;
        first = all.first;
        pending = all.pending;
        at_most_three = length-pending order q all.pending;
        bytes = yielded_bytes p b (some_last calls) all.parts (read_in_all calls) q all.first;
        all = λ some.
            let end = chain_ends p b calls h c some in
            let none : q ++ drop (read_in_all calls) b ≡ [] =
            nil_from_length _ (omega (arith, length-append q (drop (read_in_all calls) b), ap length end.1, end.0, length-drop (read_in_all calls) b)) in
            subst (λ xs. StartsWithUtf16 order true (p ++ b) all.parts xs) none
            (starts_weaker order (some_last calls) true _ _ _ (λ _. refl) all.first);
      }
