-- The search for malformed sequences: the kind of one for any bytes that follow, and what calls find in sequence.
use Rattle.std.proofs.Common.{◌≡◌, ℕ, ◌+◌, ◌<◌, ◌≤◌, ◌↔◌, inl, inr, Bool, true, false, List, [], ◌∷◌, ◌++◌, length}
use Rattle.std.proofs.Common.{map, take, drop, slice_index, set, encode_utf8, refl, sym, ap, ◌∙◌, arith, subst}
use Rattle.std.specs.List.{flat_map}
use Rattle.std.specs.Str.{chars}
use Rattle.std.proofs.lemmas.List.{append-nil, append_assoc, drop-drop, length-append, length-take}
use Rattle.std.proofs.lemmas.Grind.{flat_map-append}
use Rattle.encoding_definitions.specs.Parts.{Part, Character, IllFormed, bytes_of, Yields}
use Rattle.encoding_definitions.specs.Prefixes.{WritesPrefix}
use Rattle.encoding_definitions.specs.Sequence.{IsIncomplete, IsPending}
use Rattle.encoding_definitions.proofs.DecompositionLemmas.{StartsWith-bytes}
use Rattle.encoding_definitions.proofs.PrefixesLemmas.{WritesPrefix_push}
use Rattle.encoding_text.specs.Decoding.{IsMalformed, BorrowedDecodeStep}
use Rattle.encoding_text.specs.declared.decoder.Piece.TheVariants as piece
use Rattle.encoding_text.proofs.BorrowedLemmas.{borrowed_yields}
use Rattle.encoding_text.proofs.RepairingLemmas.{yields_then}
use Rattle.encoding_runs.specs.declared.malformed.Malformation.{Malformation}
use Rattle.encoding_runs.specs.declared.malformed.Malformation.TheVariants.{UnexpectedContinuation, DisallowedByte, Overlong}
use Rattle.encoding_runs.specs.declared.malformed.Malformation.TheVariants.{Surrogate, TooLarge, Truncated, IncompleteAtEnd}
use Rattle.encoding_runs.specs.Malformations.{IsMalformation}
use Rattle.encoding_runs.specs.declared.search.StreamMalformation.{StreamMalformation}
use Rattle.encoding_runs.specs.declared.search.SearchPiece.{SearchPiece}
use Rattle.encoding_runs.specs.declared.search.SearchPiece.TheVariants.{Text, Char, Malformed, InputEmpty}
use Rattle.encoding_runs.specs.Searches.{AreMalformed, SearchStep, IsBlockSearch}
use Rattle.encoding_text.proofs.CallLemmas.{malformed_some, malformed_first}
use Rattle.encoding_runs.proofs.MalformedLemmas.{first_size}
use Rattle.encoding_runs.proofs.ChainLemmas.{yielded_bytes}

-- ---- the kind of a malformed sequence
-- bytes that follow change no kind, if they come only after a source that isn't the last
pub kind_stays : (x rest : List ℕ) (last : Bool) (kind : Malformation) → IsMalformed x rest last → IsMalformation x rest kind
    → (more : List ℕ) → (last ≡ true → more ≡ []) → IsMalformation x (rest ++ more) kind
kind_stays x rest last UnexpectedContinuation m k more e = k
kind_stays x rest last DisallowedByte m k more e = k
kind_stays x rest last Overlong m (a, b, after, one, next, row) more e = (a, b, after ++ more, one, ap (λ xs. xs ++ more) next, row)
kind_stays x rest last Surrogate m (a, b, after, one, next, row) more e = (a, b, after ++ more, one, ap (λ xs. xs ++ more) next, row)
kind_stays x rest last TooLarge m (a, b, after, one, next, row) more e = (a, b, after ++ more, one, ap (λ xs. xs ++ more) next, row)
kind_stays x rest last Truncated m (o, b, after, next, none) more e = (o, b, after ++ more, ap (λ xs. xs ++ more) next, none)
kind_stays x rest last IncompleteAtEnd m (o, none) more e = (o, ap (λ xs. xs ++ more) none ∙ nothing x rest last m o none e)
  where
    nothing : (x rest : List ℕ) (last : Bool) → IsMalformed x rest last → IsIncomplete x → rest ≡ [] → (last ≡ true → more ≡ []) → more ≡ []
    nothing x [] last (inl (b, same, never)) o n e = absurd (never (inr (subst IsIncomplete same o)))
    nothing x [] last (inr (_, marked)) o n e = e marked
    nothing x (y ∷ ys) last m o n e = absurd (omega (arith, ap length n))

-- the kind that the first byte tells, of these bytes in an array
pub array_kind : (x bytes rest : List ℕ) (last : Bool) (kind : Malformation) → IsMalformed x rest last → 0 < length x → take (length x) bytes ≡ x
    → ((more : List ℕ) (last : Bool) → IsMalformed (slice_index bytes 0 ∷ more) rest last → IsMalformation (slice_index bytes 0 ∷ more) rest kind)
    → (more : List ℕ) → (last ≡ true → more ≡ []) → IsMalformation x (rest ++ more) kind
array_kind [] bytes rest last kind m some same tells = absurd (omega (arith, some))
array_kind (a ∷ tail) [] rest last kind m some same tells = absurd (omega (arith, ap length same))
array_kind (a ∷ tail) (b ∷ bs) rest last kind m some same tells =
    let first : b ≡ a = cc in
    kind_stays (a ∷ tail) rest last kind m
    (subst (λ y. IsMalformation (y ∷ tail) rest kind) first (tells tail last (subst (λ y. IsMalformed (y ∷ tail) rest last) (sym first) m)))

-- ---- malformed sequences among parts
pub AreMalformed-append : (at : ℕ) (ps qs : List Part) (rest : List ℕ) (found others : List StreamMalformation)
    → AreMalformed at ps (flat_map bytes_of qs ++ rest) found → AreMalformed (at + length (flat_map bytes_of ps)) qs rest others
    → AreMalformed at (ps ++ qs) rest (found ++ others)
AreMalformed-append at [] qs rest found others a b =
    subst (λ xs. AreMalformed at qs rest (xs ++ others)) (sym a) (subst (λ n. AreMalformed n qs rest others) (omega arith) b)
AreMalformed-append at (Character c ∷ ps) qs rest found others a b =
    AreMalformed-append (at + length (encode_utf8 c)) ps qs rest found others a
    (subst (λ n. AreMalformed n qs rest others) (omega (arith, length-append (encode_utf8 c) (flat_map bytes_of ps))) b)
AreMalformed-append at (IllFormed x ∷ ps) qs rest found others (kind, more, is, same, a) b = (
  kind,
  more ++ others,
  subst (λ xs. IsMalformation x xs kind)
      (sym (append_assoc (flat_map bytes_of ps) (flat_map bytes_of qs) rest) ∙ ap (λ xs. xs ++ rest) (sym (flat_map-append bytes_of ps qs))) is,
  ap (λ xs. xs ++ others) same,
  AreMalformed-append (at + length x) ps qs rest more others a
      (subst (λ n. AreMalformed n qs rest others) (omega (arith, length-append x (flat_map bytes_of ps))) b),
)

-- characters are none
pub characters_are_none : (at : ℕ) (cs rest : List ℕ) → AreMalformed at (map Character cs) rest []
characters_are_none at [] rest = refl
characters_are_none at (c ∷ cs) rest = characters_are_none (at + length (encode_utf8 c)) cs rest

-- the bytes of the parts that were yielded, before what is left
pub yields_bytes : (p src : List ℕ) (last : Bool) (parts : List Part) (read : ℕ) (q more : List ℕ) → Yields p src last parts read q
    → p ++ src ++ more ≡ flat_map bytes_of parts ++ (q ++ drop read src ++ more)
yields_bytes p src last parts read q more y =
    ap (λ xs. xs ++ more) (StartsWith-bytes (p ++ src) parts (q ++ drop read src) y.first) ∙ append_assoc (flat_map bytes_of parts) (q ++ drop read src) more

-- ---- one more call
-- what a step yields, and the malformed sequences among it
pub record StepFinds (p : List ℕ) (start : ℕ) (src : List ℕ) (last : Bool) (out : List StreamMalformation) (read : ℕ) (q : List ℕ) : Type 0 where
  pub parts : List Part
  pub yielded : Yields p src last parts read q
  pub malformed : (more : List ℕ) → (last ≡ true → more ≡ []) → AreMalformed start parts (q ++ drop read src ++ more) out

-- the malformed sequence that a call returns, or none
abbrev pub found_in : SearchPiece → List StreamMalformation
found_in (Text t) = []
found_in (Char c) = []
found_in (Malformed found bytes) = found ∷ []
found_in InputEmpty = []

pub none_found : (returned : SearchPiece) → ((malformed : StreamMalformation) (bytes : List ℕ) → returned ≡ Malformed malformed bytes → ⊥)
    → found_in returned ≡ []
none_found (Text t) none = refl
none_found (Char c) none = refl
none_found (Malformed malformed bytes) none = absurd (none malformed bytes refl)
none_found InputEmpty none = refl

pub step_finds : (p : List ℕ) (start : ℕ) (src : List ℕ) (last : Bool) (returned : SearchPiece) (read : ℕ) (q : List ℕ)
    → SearchStep p start src last returned read q
    → StepFinds p start src last (found_in returned) read q
step_finds p start src last (Text t) read q s =
    let (parts, are, y) =
    borrowed_yields p src last (piece.Text t) read q (record { pending_before = s.pending_before; pending = s.pending; answer = s.answer }) in
    record {
      parts = parts;
      yielded = y;
      malformed = λ more e. subst (λ ps. AreMalformed start ps (q ++ drop read src ++ more) []) (sym are) (characters_are_none start (chars t.now) _);
    }
step_finds p start src last (Char c) read q s =
    let (parts, are, y) =
    borrowed_yields p src last (piece.Char c) read q (record { pending_before = s.pending_before; pending = s.pending; answer = s.answer }) in
    record { parts = parts; yielded = y; malformed = λ more e. subst (λ ps. AreMalformed start ps (q ++ drop read src ++ more) []) (sym are) refl }
step_finds p start src last (Malformed found bytes) read q s =
    let (result, offset, held, kind) = s.answer in
    let x = p ++ take read src in
    let (parts, (z, are, long), y) =
    borrowed_yields p src last (piece.Malformed found.length) read q (record { pending_before = s.pending_before; pending = s.pending; answer = result }) in
    let whole : flat_map bytes_of parts ++ q ≡ x = yielded_bytes p src parts read q y.first in
    let none : q ≡ [] = result.2 in
    let same : z ≡ x =
    sym (append-nil z) ∙ sym (ap (flat_map bytes_of) are) ∙ sym (append-nil (flat_map bytes_of parts))
    ∙ ap (λ xs. flat_map bytes_of parts ++ xs) (sym none) ∙ whole in
    record {
      parts = IllFormed x ∷ [];
      yielded = subst (λ ps. Yields p src last ps read q) (are ∙ ap (λ xs. IllFormed xs ∷ []) same) y;
      malformed = λ more e. (
        found.kind,
        [],
        subst (λ xs. IsMalformation x (xs ++ drop read src ++ more) found.kind) (sym none) (kind more e),
        ap (λ (m : ℕ × ℕ). record { offset = m.0; length = m.1; kind = found.kind } ∷ []) (λ i. (offset i, sym (ap length (sym same) ∙ long) i)),
        refl,
      );
    }
step_finds p start src last InputEmpty read q s =
    let (parts, are, y) =
    borrowed_yields p src last piece.InputEmpty read q (record { pending_before = s.pending_before; pending = s.pending; answer = s.answer }) in
    record { parts = parts; yielded = y; malformed = λ more e. subst (λ ps. AreMalformed start ps (q ++ drop read src ++ more) []) (sym are) refl }

-- what was found so far, and what one more step finds
pub finds_more : (p : List ℕ) (start : ℕ) (src : List ℕ) (last next both : Bool) (found others : List StreamMalformation) (read more : ℕ)
    (q t : List ℕ) (at : ℕ)
    → (both ≡ false → (last ≡ false) × (next ≡ false)) → ((xs : List ℕ) → (both ≡ true → xs ≡ []) → (last ≡ true → xs ≡ []) × (next ≡ true → xs ≡ []))
    → StepFinds p start src last found read q → at + length q ≡ start + length p + read
    → StepFinds q at (drop read src) next others more t → StepFinds p start src both (found ++ others) (read + more) t
finds_more p start src last next both found others read more q t at none marks a offset b = record {
  parts = a.parts ++ b.parts;
  yielded = yields_then p src last next both a.parts b.parts read more q t none a.yielded b.yielded;
  malformed = λ xs e. subst (λ ys. AreMalformed start (a.parts ++ b.parts) (t ++ ys ++ xs) (found ++ others)) (drop-drop more read src)
      (AreMalformed-append start a.parts b.parts (t ++ drop more (drop read src) ++ xs) found others
      (subst (λ ys. AreMalformed start a.parts ys found) (yields_bytes q (drop read src) next b.parts more t xs b.yielded) (a.malformed xs (marks xs e).0))
      (subst (λ n. AreMalformed n b.parts (t ++ drop more (drop read src) ++ xs) others) place (b.malformed xs (marks xs e).1)));
}
  where
    place : at ≡ start + length (flat_map bytes_of a.parts)
    place = omega (
      arith,
      offset,
      ap length (yielded_bytes p src a.parts read q a.yielded.first),
      length-append (flat_map bytes_of a.parts) q,
      length-append p (take read src),
      length-take read src,
      a.yielded.within,
    )

-- nothing was read
pub finds_nothing : (p : List ℕ) (start : ℕ) (src : List ℕ) (last : Bool) → IsPending p → StepFinds p start src last [] 0 p
finds_nothing p start src last h = record {
  parts = [];
  yielded = record { within = omega arith; first = refl; pending = h; stable = λ e more. refl };
  malformed = λ more e. refl;
}

-- a decoder's malformed sequence, with its bytes in an array and its kind
pub malformed_step : (p src bytes : List ℕ) (start read k : ℕ) (last : Bool) (kind : Malformation) (d q : List ℕ)
    → BorrowedDecodeStep p src last (piece.Malformed k) read d → take (length (p ++ take read src)) bytes ≡ p ++ take read src
    → ((more : List ℕ) (last : Bool) → IsMalformed (slice_index bytes 0 ∷ more) (drop read src) last
    → IsMalformation (slice_index bytes 0 ∷ more) (drop read src) kind)
    → q ≡ [] → SearchStep p start src last (Malformed (record { offset = start; length = k; kind = kind }) bytes) read q
malformed_step p src bytes start read k last kind d q s held tells none =
    let (within, long, nothing, malformed) = s.answer in
    let x = p ++ take read src in
    record {
      pending_before = s.pending_before;
      pending = inl none;
      answer = (
        (within, long, none, malformed),
        refl,
        subst (λ n. take n bytes ≡ x) long held,
        array_kind x bytes (drop read src) last kind malformed (malformed_some x (drop read src) last malformed) held tells,
      );
    }

-- it has at most three bytes
pub malformed_few : (x rest : List ℕ) (last : Bool) → IsMalformed x rest last → length x ≤ 3
malformed_few x rest last m = (first_size (x ++ rest) x rest (malformed_first x rest last m)).1

-- ---- a block
-- what was found is stored
abbrev pub SearchDone : List ℕ → ℕ → List ℕ → Bool → List StreamMalformation → List StreamMalformation → ℕ → ℕ → List ℕ → Type 0
SearchDone p start src last old new read found q = (out : List StreamMalformation) × WritesPrefix old new found out × StepFinds p start src last out read q

module _ (p : List ℕ) (start : ℕ) (src : List ℕ) (last : Bool) (old new : List StreamMalformation) (read found : ℕ) (q : List ℕ) (at : ℕ)
    (done : SearchDone p start src last old new read found q) (offset : at + length q ≡ start + length p + read) where
  both : (others : List StreamMalformation) (r : ℕ) (t : List ℕ) → StepFinds q at (drop read src) last others r t
      → StepFinds p start src last (done.0 ++ others) (read + r) t
  both others r t b = finds_more p start src last last last done.0 others read r q t at (λ e. (e, e)) (λ xs e. (e, e)) done.2 offset b

  -- text or a character
  pub done_passed : (returned : SearchPiece) (r : ℕ) (t : List ℕ) → SearchStep q at (drop read src) last returned r t → found_in returned ≡ []
      → SearchDone p start src last old new (read + r) found t
  done_passed returned r t s none = (
    done.0,
    done.1,
    subst (λ xs. StepFinds p start src last xs (read + r) t) (ap (λ xs. done.0 ++ xs) none ∙ append-nil done.0)
        (both (found_in returned) r t (step_finds q at (drop read src) last returned r t s)),
  )

  -- a malformed sequence
  pub done_stored : (malformed : StreamMalformation) (bytes : List ℕ) (r : ℕ) (t : List ℕ)
      → SearchStep q at (drop read src) last (Malformed malformed bytes) r t
      → found < length new
      → SearchDone p start src last old (set new found malformed) (read + r) (found + 1) t
  done_stored malformed bytes r t s room = (
    done.0 ++ malformed ∷ [],
    WritesPrefix_push old new found done.0 malformed done.1 room,
    both (malformed ∷ []) r t (step_finds q at (drop read src) last (Malformed malformed bytes) r t s),
  )

  -- the end of a call
  pub search_ended : (finished : Bool) → IsPending p → (finished ≡ true) ↔ ((read ≡ length src) × (last ≡ true → q ≡ []))
      → (finished ≡ false → found ≡ length old)
      → (out : List StreamMalformation) × WritesPrefix old new found out
      × IsBlockSearch p src (start, length old) last (record { read = read; found = found; finished = finished }) read out q
  search_ended finished h is_end is_full = (
    done.0,
    done.1,
    record {
      parts = done.2.parts;
      was_pending = h;
      yielded = done.2.yielded;
      malformed = done.2.malformed;
      fits = omega (arith, done.1.count, done.1.fits);
      finished = is_end;
      full = λ e. sym done.1.count ∙ is_full e;
    },
  )
