-- A search between two calls, and one that stores what it finds one by one.
use Rattle.std.proofs.Common.{◌≡◌, ℕ, ◌+◌, ◌<◌, ◌≤◌, ◌↔◌, Bool, true, false, List, [], ◌∷◌, ◌++◌, length, drop, get_or, set, refl, sym, ap, ◌∙◌, arith, subst}
use Rattle.std.specs.Prelude.{map}
use Rattle.std.proofs.lemmas.List.{append-nil, nil_from_length}
use Rattle.encoding_definitions.specs.Prefixes.{WritesPrefix}
use Rattle.encoding_definitions.specs.Sequence.{IsPending}
use Rattle.encoding_definitions.proofs.PrefixesLemmas.{WritesPrefix_push}
use Rattle.encoding_text.specs.declared.decoder.Piece.TheVariants as piece
use Rattle.encoding_runs.specs.declared.search.StreamMalformation.{StreamMalformation}
use Rattle.encoding_runs.specs.declared.search.SearchedBlock.{SearchedBlock}
use Rattle.encoding_runs.specs.declared.search.SearchPiece.{SearchPiece}
use Rattle.encoding_runs.specs.declared.search.SearchPiece.TheVariants.{Text, Char, Malformed, InputEmpty}
use Rattle.encoding_runs.specs.Searches.{SearchStep, IsBlockSearch}
use Rattle.encoding_runs.proofs.SearchLemmas.{StepFinds, finds_more}
use Rattle.encoding_c.specs.declared.search.EncodingStreamMalformation.{EncodingStreamMalformation}
use Rattle.encoding_c.specs.Searches.{numbered_malformation}
use Rattle.encoding_c.proofs.StateLemmas.{pending_again}

-- pending bytes that a new search reads are pending in it
pub search_again : (start : ℕ) (src : List ℕ) → IsPending src → (returned : SearchPiece) (read : ℕ) (q : List ℕ)
    → SearchStep [] start src false returned read q → returned ≡ InputEmpty
search_again start src pending (Text t) read q s =
    let e = pending_again src pending (piece.Text t) read q
    (record { pending_before = s.pending_before; pending = s.pending; answer = s.answer }) in
    absurd (cc (e))
search_again start src pending (Char c) read q s =
    let e = pending_again src pending (piece.Char c) read q
    (record { pending_before = s.pending_before; pending = s.pending; answer = s.answer }) in
    absurd (cc (e))
search_again start src pending (Malformed found bytes) read q s =
    let e = pending_again src pending (piece.Malformed found.length) read q
    (record { pending_before = s.pending_before; pending = s.pending; answer = s.answer.0 }) in
    absurd (cc (e))
search_again start src pending InputEmpty read q s = refl

-- ---- calls with an array of one element
-- what was found so far is stored with the numbers of the kinds
abbrev pub StoredSo : List ℕ → ℕ → List ℕ → Bool → List EncodingStreamMalformation → List EncodingStreamMalformation → ℕ → ℕ → List ℕ → Type 0
StoredSo p start src last old new read found q = (out : List StreamMalformation) × WritesPrefix old new found (map numbered_malformation out)
    × StepFinds p start src last out read q

pub map_more : (out others : List StreamMalformation)
    → map numbered_malformation (out ++ others) ≡ map numbered_malformation out ++ map numbered_malformation others
map_more [] others = refl
map_more (o ∷ out) others = ap (λ xs. numbered_malformation o ∷ xs) (map_more out others)

-- what was stored before, and then `some`
abbrev pub Stores : List EncodingStreamMalformation → ℕ → List EncodingStreamMalformation → ℕ → List StreamMalformation → Type 0
Stores before found after count some = (old : List EncodingStreamMalformation) (out : List StreamMalformation)
    → WritesPrefix old before found (map numbered_malformation out) → WritesPrefix old after count (map numbered_malformation (out ++ some))

-- one more is stored
pub stores_first : (old new : List EncodingStreamMalformation) (count : ℕ) (out some : List StreamMalformation) (d : StreamMalformation)
    (stored : EncodingStreamMalformation) → stored ≡ numbered_malformation (get_or some 0 d) → length some ≤ 1 → 0 < length some → count < length new
    → WritesPrefix old new count (map numbered_malformation out)
    → WritesPrefix old (set new count stored) (count + 1) (map numbered_malformation (out ++ some))
stores_first old new count out [] d stored e one more free w = absurd (omega arith)
stores_first old new count out (m ∷ []) d stored e one more free w =
    subst (λ x. WritesPrefix old (set new count x) (count + 1) (map numbered_malformation (out ++ m ∷ []))) (sym e)
    (subst (WritesPrefix old (set new count (numbered_malformation m)) (count + 1)) (sym (map_more out (m ∷ [])))
    (WritesPrefix_push old new count (map numbered_malformation out) (numbered_malformation m) w free))
stores_first old new count out (m ∷ n ∷ more_found) d stored e one more free w = absurd (omega arith)

module _ (p : List ℕ) (start : ℕ) (src : List ℕ) (last : Bool) (old new : List EncodingStreamMalformation) (read found : ℕ) (q : List ℕ) (at : ℕ)
    (done : StoredSo p start src last old new read found q) (offset : at + length q ≡ start + length p + read) where
  step_of : (room : ℕ) (block : SearchedBlock) (others : List StreamMalformation) (r : ℕ) (t : List ℕ)
      → IsBlockSearch q (drop read src) (at, room) last block r others t
      → StepFinds p start src last (done.0 ++ others) (read + r) t
  step_of room block others r t b =
      finds_more p start src last last last done.0 others read r q t at (λ e. (e, e)) (λ xs e. (e, e)) done.2 offset
      (record { parts = b.parts; yielded = b.yielded; malformed = b.malformed })

  -- what was found is stored too
  pub stored_more : (next : List EncodingStreamMalformation) (count room : ℕ) (block : SearchedBlock) (others : List StreamMalformation) (r : ℕ) (t : List ℕ)
      → IsBlockSearch q (drop read src) (at, room) last block r others t
      → ((old : List EncodingStreamMalformation) (out : List StreamMalformation) → WritesPrefix old new found (map numbered_malformation out)
      → WritesPrefix old next count (map numbered_malformation (out ++ others)))
      → StoredSo p start src last old next (read + r) count t
  stored_more next count room block others r t b stores = (done.0 ++ others, stores old done.0 done.1, step_of room block others r t b)

  -- nothing was found
  pub stored_none : (room : ℕ) (block : SearchedBlock) (others : List StreamMalformation) (r : ℕ) (t : List ℕ)
      → IsBlockSearch q (drop read src) (at, room) last block r others t → length others ≡ 0
      → StoredSo p start src last old new (read + r) found t
  stored_none room block others r t b none = (
    done.0,
    done.1,
    subst (λ xs. StepFinds p start src last xs (read + r) t)
        (ap (λ xs. done.0 ++ xs) (nil_from_length others none) ∙ append-nil done.0) (step_of room block others r t b),
  )

  -- the end of a call
  pub stored_ended : (finished : Bool) → IsPending p → (finished ≡ true) ↔ ((read ≡ length src) × (last ≡ true → q ≡ []))
      → (finished ≡ false → found ≡ length old)
      → (out : List StreamMalformation) × (block : SearchedBlock) × WritesPrefix old new found (map numbered_malformation out)
      × IsBlockSearch p src (start, length old) last block read out q × (block.finished ≡ finished)
  stored_ended finished h is_end is_full = (
    done.0,
    record { read = read; found = found; finished = finished },
    done.1,
    record {
      parts = done.2.parts;
      was_pending = h;
      yielded = done.2.yielded;
      malformed = done.2.malformed;
      fits = omega (arith, done.1.count, done.1.fits, length_mapped done.0);
      finished = is_end;
      full = λ e. sym (length_mapped done.0) ∙ sym done.1.count ∙ is_full e;
    },
    refl,
  )
    where
      length_mapped : (out : List StreamMalformation) → length (map numbered_malformation out) ≡ length out
      length_mapped [] = refl
      length_mapped (o ∷ out) = omega (arith, length_mapped out)
