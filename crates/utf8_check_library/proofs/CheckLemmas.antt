-- What a check writes for parts, and for more of them.
use Rattle.std.proofs.Common.{◌≡◌, ℕ, ◌+◌, ◌<◌, ◌≤◌, inl, inr, Bool, true, false, List, [], ◌∷◌, ◌++◌, length, map, take, drop, encode_utf8, refl, sym, ap, ◌∙◌}
use Rattle.std.proofs.Common.{arith, subst, true≢false}
use Rattle.std.specs.List.{flat_map}
use Rattle.std.specs.Str.{chars}
use Rattle.std.specs.Prelude.{Option, min}
use Rattle.std.proofs.KnownBytes.{Appends-nil, Appends-trans, Appends-kept, Consumes-kept, Consumes-trans}
use Rattle.std.specs.Io.KnownBytes.{Appends, Consumes, IsAtEnd, Keeps}
use Rattle.std.proofs.lemmas.List.{append-nil, append_assoc, drop-drop, length-append, length-drop, length-take, drop_all, take_all}
use Rattle.std.proofs.lemmas.Bool.{both_ways, cases_lt}
use Rattle.std.proofs.lemmas.Grind.{flat_map-append}
use Rattle.encoding_runs.specs.Parts.{Part, Character, IllFormed, bytes_of, StartsWith, malformed_count, Yields}
use Rattle.encoding_runs.specs.Sequence.{IsPending}
use Rattle.encoding_definitions.proofs.DecompositionLemmas.{StartsWith-append, StartsWith-bytes, malformed_count-append, malformed_count-bytes}
use Rattle.encoding_definitions.proofs.DecompositionLemmas.{malformed_count-characters}
use Rattle.encoding_text.specs.declared.decoder.Piece.TheVariants as piece
use Rattle.encoding_text.proofs.BorrowedLemmas.{borrowed_yields}
use Rattle.encoding_runs.specs.Malformations.{IsMalformation}
use Rattle.encoding_runs.specs.declared.search.StreamMalformation.{StreamMalformation}
use Rattle.encoding_runs.specs.declared.search.SearchPiece.{SearchPiece}
use Rattle.encoding_runs.specs.declared.search.SearchPiece.TheVariants.{Text, Char, Malformed, InputEmpty}
use Rattle.encoding_runs.specs.Searches.{SearchStep}
use Rattle.encoding_runs.proofs.ChainLemmas.{yielded_bytes}
use Rattle.utf8_check_library.specs.declared.input.Mode.{Mode}
use Rattle.utf8_check_library.specs.declared.input.Mode.TheVariants as mode
use Rattle.utf8_check_library.specs.Lines.{Form, next_place, place_after, line_of, AreLines}
use Rattle.utf8_check_library.specs.Checks.{IsWritten, ChecksBlock, Checks, StopsByWrite, StopsChecking, Reports, WritesPrefixOf, length_of}
use Rattle.utf8_check_library.proofs.LineLemmas.{prefix_after, prefix_all}
use Rattle.utf8_check_library.proofs.PlaceLemmas.{place_after-append, place_bound}

-- ---- lines of parts, and of more parts
AreLines-append : (form : Form) (place : ℕ × ℕ) (offset : ℕ) (ps qs : List Part) (rest text more : List ℕ)
    → AreLines form place offset ps (flat_map bytes_of qs ++ rest) text
    → AreLines form (place_after form.1 place ps) (offset + length (flat_map bytes_of ps)) qs rest more
    → AreLines form place offset (ps ++ qs) rest (text ++ more)
AreLines-append form place offset [] qs rest text more a b =
    subst (λ xs. AreLines form place offset qs rest (xs ++ more)) (sym a) (subst (λ n. AreLines form place n qs rest more) (omega arith) b)
AreLines-append form place offset (Character c ∷ ps) qs rest text more a b =
    AreLines-append form (next_place form.1 place (Character c)) (offset + length (encode_utf8 c)) ps qs rest text more a
    (subst (λ n. AreLines form (place_after form.1 (next_place form.1 place (Character c)) ps) n qs rest more)
    (omega (arith, length-append (encode_utf8 c) (flat_map bytes_of ps))) b)
AreLines-append form place offset (IllFormed x ∷ ps) qs rest text more (kind, others, is, same, a) b = (
  kind,
  others ++ more,
  subst (λ xs. IsMalformation x xs kind)
      (sym (append_assoc (flat_map bytes_of ps) (flat_map bytes_of qs) rest) ∙ ap (λ xs. xs ++ rest) (sym (flat_map-append bytes_of ps qs))) is,
  ap (λ xs. xs ++ more) same ∙ append_assoc (line_of form.0 place.0 place.1 offset x kind) others more,
  AreLines-append form (next_place form.1 place (IllFormed x)) (offset + length x) ps qs rest others more a
      (subst (λ n. AreLines form (place_after form.1 (next_place form.1 place (IllFormed x)) ps) n qs rest more)
      (omega (arith, length-append x (flat_map bytes_of ps))) b),
)

IsWritten-append : (form : Form) (m : Mode) (place next : ℕ × ℕ) (offset : ℕ) (ps qs : List Part) (rest text more : List ℕ)
    → (m ≡ mode.List → next ≡ place_after form.1 place ps) → IsWritten form m place offset ps (flat_map bytes_of qs ++ rest) text
    → IsWritten form m next (offset + length (flat_map bytes_of ps)) qs rest more → IsWritten form m place offset (ps ++ qs) rest (text ++ more)
IsWritten-append form mode.List place next offset ps qs rest text more e a b =
    AreLines-append form place offset ps qs rest text more a
    (subst (λ p. AreLines form p (offset + length (flat_map bytes_of ps)) qs rest more) (e refl) b)
IsWritten-append form mode.Count place next offset ps qs rest text more e a b = (λ i. a i ++ b i)
IsWritten-append form mode.Quiet place next offset ps qs rest text more e a b = (λ i. a i ++ b i)

-- nothing is written for characters
written_none : (form : Form) (m : Mode) (place : ℕ × ℕ) (offset : ℕ) (cs rest : List ℕ) → IsWritten form m place offset (map Character cs) rest []
written_none form mode.List place offset [] rest = refl
written_none form mode.List place offset (c ∷ cs) rest =
    written_none form mode.List (next_place form.1 place (Character c)) (offset + length (encode_utf8 c)) cs rest
written_none form mode.Count place offset cs rest = refl
written_none form mode.Quiet place offset cs rest = refl

-- ---- a check, and a check of what it left and of more bytes
pub checks_nothing : (form : Form) (m : Mode) (place : ℕ × ℕ) (offset : ℕ) (bs : List ℕ) (last : Bool)
    → ChecksBlock form m place offset bs last [] 0 bs place offset
checks_nothing form m place offset bs last = record {
  parts = [];
  starts = λ more e. refl;
  written = λ more e. written_none form m place offset [] (bs ++ more);
  counted = refl;
  place_is = λ _. refl;
  offset_is = omega arith;
}

pub checks_then : (form : Form) (m : Mode) (place : ℕ × ℕ) (offset : ℕ) (bs : List ℕ) (last : Bool) (text : List ℕ) (count : ℕ) (rest : List ℕ)
    (next : ℕ × ℕ) (end : ℕ)
    (src : List ℕ) (last' : Bool) (text' : List ℕ) (count' : ℕ) (rest' : List ℕ) (next' : ℕ × ℕ) (end' : ℕ)
    → ((more : List ℕ) → (last' ≡ true → more ≡ []) → last ≡ true → src ++ more ≡ [])
    → ChecksBlock form m place offset bs last text count rest next end → ChecksBlock form m next end (rest ++ src) last' text' count' rest' next' end'
    → ChecksBlock form m place offset (bs ++ src) last' (text ++ text') (count + count') rest' next' end'
checks_then form m place offset bs last text count rest next end src last' text' count' rest' next' end' none a b = record {
  parts = a.parts ++ b.parts;
  starts = λ more e.
      StartsWith-append (bs ++ src ++ more) a.parts (rest ++ src ++ more) b.parts (rest' ++ more)
      (subst (λ xs. StartsWith xs a.parts (rest ++ src ++ more)) (sym (append_assoc bs src more))
      (subst (λ xs. StartsWith (bs ++ (src ++ more)) a.parts xs) (sym (append_assoc rest src more)) (a.starts (src ++ more) (none more e))))
      (b.starts more e);
  written = λ more e.
      IsWritten-append form m place next offset a.parts b.parts (rest' ++ more) text text' a.place_is
      (subst (λ xs. IsWritten form m place offset a.parts xs text)
      (sym (append_assoc rest src more) ∙ StartsWith-bytes (rest ++ src ++ more) b.parts (rest' ++ more) (b.starts more e))
      (a.written (src ++ more) (none more e)))
      (subst (λ n. IsWritten form m next n b.parts (rest' ++ more) text') a.offset_is (b.written more e));
  counted = omega (arith, a.counted, b.counted, malformed_count-append a.parts b.parts);
  place_is = λ e. b.place_is e ∙ ap (λ p. place_after form.1 p b.parts) (a.place_is e) ∙ sym (place_after-append form.1 place a.parts b.parts);
  offset_is = omega (
    arith,
    a.offset_is,
    b.offset_is,
    ap length (flat_map-append bytes_of a.parts b.parts),
    length-append (flat_map bytes_of a.parts) (flat_map bytes_of b.parts),
  );
}

-- the same, without more bytes
checks_more : (form : Form) (m : Mode) (place : ℕ × ℕ) (offset : ℕ) (bs : List ℕ) (last : Bool) (text : List ℕ) (count : ℕ) (rest : List ℕ)
    (next : ℕ × ℕ) (end : ℕ)
    (text' : List ℕ) (count' : ℕ) (rest' : List ℕ) (next' : ℕ × ℕ) (end' : ℕ)
    → ChecksBlock form m place offset bs last text count rest next end → ChecksBlock form m next end rest last text' count' rest' next' end'
    → ChecksBlock form m place offset bs last (text ++ text') (count + count') rest' next' end'
checks_more form m place offset bs last text count rest next end text' count' rest' next' end' a b =
    subst (λ xs. ChecksBlock form m place offset xs last (text ++ text') (count + count') rest' next' end') (append-nil bs)
    (checks_then form m place offset bs last text count rest next end [] last text' count' rest' next' end' (λ more e f. e f) a
    (subst (λ xs. ChecksBlock form m next end xs last text' count' rest' next' end') (sym (append-nil rest)) b))

-- what was written for a part of a block
abbrev pub BlockSoFar : Form → Mode → ℕ × ℕ → ℕ → List ℕ → Bool → Option (List ℕ) → List ℕ → Option (List ℕ) → ℕ → ℕ → List ℕ → ℕ × ℕ → ℕ → Type 0
BlockSoFar form m place offset bs last old src new at count q next end = (text : List ℕ) × Appends old new text
    × ChecksBlock form m place offset bs last text count (q ++ drop at src) next end

module _ (form : Form) (m : Mode) (place : ℕ × ℕ) (offset : ℕ) (bs : List ℕ) (last : Bool) (old : Option (List ℕ)) (src : List ℕ) (new : Option (List ℕ))
    (at count : ℕ) (q : List ℕ) (next : ℕ × ℕ) (end : ℕ) (so_far : BlockSoFar form m place offset bs last old src new at count q next end) where
  pub block_more : (text : List ℕ) (more r : ℕ) (after : Option (List ℕ)) (t : List ℕ) (next' : ℕ × ℕ) (end' : ℕ) → Appends new after text
      → ChecksBlock form m next end (q ++ drop at src) last text more (t ++ drop r (drop at src)) next' end'
      → BlockSoFar form m place offset bs last old src after (at + r) (count + more) t next' end'
  block_more text more r after t next' end' appended b =
      let (before, appended_before, a) = so_far in (
        before ++ text,
        Appends-trans old new after before text appended_before appended,
        subst (λ xs. ChecksBlock form m place offset bs last (before ++ text) (count + more) (t ++ xs) next' end') (drop-drop r at src)
            (checks_more form m place offset bs last before count (q ++ drop at src) next end text more _ next' end' a b),
      )

  -- with nothing written
  pub block_passed : (r : ℕ) (t : List ℕ) (next' : ℕ × ℕ) (end' : ℕ)
      → ChecksBlock form m next end (q ++ drop at src) last [] 0 (t ++ drop r (drop at src)) next' end'
      → BlockSoFar form m place offset bs last old src new (at + r) count t next' end'
  block_passed r t next' end' b =
      subst (λ n. BlockSoFar form m place offset bs last old src new (at + r) n t next' end') (omega arith)
      (block_more [] 0 r new t next' end' (Appends-nil new) b)

-- ---- one step of a search
yields_any : (p src : List ℕ) (last : Bool) (parts : List Part) (read : ℕ) (q : List ℕ) → Yields p src last parts read q
    → (more : List ℕ) → (last ≡ true → more ≡ []) → StartsWith (p ++ src ++ more) parts (q ++ drop read src ++ more)
yields_any p src true parts read q y more e =
    subst (λ xs. StartsWith (p ++ src ++ xs) parts (q ++ drop read src ++ xs)) (sym (e refl))
    (subst (λ xs. StartsWith xs parts (q ++ drop read src ++ [])) (sym (append-nil (p ++ src)))
    (subst (λ xs. StartsWith (p ++ src) parts xs) (sym (append-nil (q ++ drop read src))) y.first))
yields_any p src false parts read q y more e = y.stable refl more

yields_end : (p src : List ℕ) (start end : ℕ) (last : Bool) (parts : List Part) (read : ℕ) (q : List ℕ) → Yields p src last parts read q
    → end + length q ≡ start + length p + read → end ≡ start + length (flat_map bytes_of parts)
yields_end p src start end last parts read q y offset = omega (
  arith,
  offset,
  ap length (yielded_bytes p src parts read q y.first),
  length-append (flat_map bytes_of parts) q,
  length-append p (take read src),
  length-take read src,
  y.within,
)

module _ (form : Form) (m : Mode) (place next : ℕ × ℕ) (start end : ℕ) (p src : List ℕ) (last : Bool) (read : ℕ) (q : List ℕ)
    (offset : end + length q ≡ start + length p + read) where
  -- characters were passed
  passed : (cs : List ℕ) (parts : List Part) → parts ≡ map Character cs → Yields p src last parts read q
      → (m ≡ mode.List → next ≡ place_after form.1 place (map Character cs))
      → ChecksBlock form m place start (p ++ src) last [] 0 (q ++ drop read src) next end
  passed cs parts are y place_is = record {
    parts = parts;
    starts = yields_any p src last parts read q y;
    written = λ more e. subst (λ ps. IsWritten form m place start ps (q ++ drop read src ++ more) []) (sym are) (written_none form m place start cs _);
    counted = sym (ap malformed_count are ∙ malformed_count-characters cs);
    place_is = λ e. place_is e ∙ ap (place_after form.1 place) (sym are);
    offset_is = yields_end p src start end last parts read q y offset;
  }

  pub checks_text : (t : _) → SearchStep p start src last (Text t) read q → (m ≡ mode.List → next ≡ place_after form.1 place (map Character (chars t.now)))
      → ChecksBlock form m place start (p ++ src) last [] 0 (q ++ drop read src) next end
  checks_text t s place_is =
      let (parts, are, y) =
      borrowed_yields p src last (piece.Text t) read q (record { pending_before = s.pending_before; pending = s.pending; answer = s.answer }) in
      passed (chars t.now) parts are y place_is

  -- a character that was pending is no line feed: its first byte isn't ASCII
  pub checks_character : (c : ℕ) → SearchStep p start src last (Char c) read q → (m ≡ mode.List → next ≡ place_after form.1 place (Character c ∷ []))
      → ChecksBlock form m place start (p ++ src) last [] 0 (q ++ drop read src) next end
  checks_character c s place_is =
      let (parts, are, y) =
      borrowed_yields p src last (piece.Char c) read q (record { pending_before = s.pending_before; pending = s.pending; answer = s.answer }) in
      passed (c ∷ []) parts are y place_is

  pub checks_end : SearchStep p start src last InputEmpty read q → (m ≡ mode.List → next ≡ place)
      → ChecksBlock form m place start (p ++ src) last [] 0 (q ++ drop read src) next end
  checks_end s place_is =
      let (parts, are, y) =
      borrowed_yields p src last piece.InputEmpty read q (record { pending_before = s.pending_before; pending = s.pending; answer = s.answer }) in
      passed [] parts are y place_is

  pub checks_malformed : (found : StreamMalformation) (bytes text : List ℕ) → SearchStep p start src last (Malformed found bytes) read q
      → (m ≡ mode.List → next ≡ next_place form.1 place (IllFormed (take found.length bytes)))
      → (m ≡ mode.List → text ≡ line_of form.0 place.0 place.1 found.offset (take found.length bytes) found.kind)
      → ((m ≡ mode.List → ⊥) → text ≡ [])
      → ChecksBlock form m place start (p ++ src) last text 1 (q ++ drop read src) next end
  checks_malformed found bytes text s place_is line none = record {
    parts = IllFormed x ∷ [];
    starts = yields_any p src last (IllFormed x ∷ []) read q y;
    written = λ more e. written m refl more e;
    counted = refl;
    place_is = λ e. place_is e ∙ ap (λ xs. next_place form.1 place (IllFormed xs)) s.answer.2;
    offset_is = yields_end p src start end last (IllFormed x ∷ []) read q y offset;
  }
    where
      x : List ℕ
      x = p ++ take read src

      given : (parts : List Part) × (parts ≡ IllFormed x ∷ []) × Yields p src last parts read q
      given =
          let (parts, (z, are, long), y) =
          borrowed_yields p src last (piece.Malformed found.length) read q (record {
            pending_before = s.pending_before;
            pending = s.pending;
            answer = s.answer.0;
          }) in
          let whole : flat_map bytes_of parts ++ q ≡ x = yielded_bytes p src parts read q y.first in
          let same : z ≡ x =
          sym (append-nil z) ∙ sym (ap (flat_map bytes_of) are) ∙ sym (append-nil (flat_map bytes_of parts))
          ∙ ap (λ xs. flat_map bytes_of parts ++ xs) (sym s.answer.0.2) ∙ whole in
          (parts, are ∙ ap (λ xs. IllFormed xs ∷ []) same, y)

      y : Yields p src last (IllFormed x ∷ []) read q
      y = subst (λ ps. Yields p src last ps read q) given.1 given.2

      written : (n : Mode) → m ≡ n → (more : List ℕ) → (last ≡ true → more ≡ [])
          → IsWritten form n place start (IllFormed x ∷ []) (q ++ drop read src ++ more) text
      written mode.List is more e = (
        found.kind,
        [],
        subst (λ xs. IsMalformation x (xs ++ drop read src ++ more) found.kind) (sym s.answer.0.2) (s.answer.3 more e),
        line is
            ∙ (λ i. line_of form.0 place.0 place.1 (s.answer.1 i) (s.answer.2 i) found.kind)
            ∙ sym (append-nil (line_of form.0 place.0 place.1 start x found.kind)),
        refl,
      )
      written mode.Count is more e = none (λ l. let clash : mode.List ≡ mode.Count = sym l ∙ is in cc)
      written mode.Quiet is more e = none (λ l. let clash : mode.List ≡ mode.Quiet = sym l ∙ is in cc)

-- what a step and its report do
pub checks_step : (form : Form) (m : Mode) (place next : ℕ × ℕ) (start end : ℕ) (p src : List ℕ) (last : Bool) (read : ℕ) (q : List ℕ)
    (returned : SearchPiece)
    (text : List ℕ) (count : ℕ) → end + length q ≡ start + length p + read → SearchStep p start src last returned read q
    → Reports form m place returned text count next
    → ChecksBlock form m place start (p ++ src) last text count (q ++ drop read src) next end
checks_step form m place next start end p src last read q (Text t) text count offset s (none, zero, is) =
    subst (λ xs. ChecksBlock form m place start (p ++ src) last xs count (q ++ drop read src) next end) (sym none)
    (subst (λ n. ChecksBlock form m place start (p ++ src) last [] n (q ++ drop read src) next end) (sym zero)
    (checks_text form m place next start end p src last read q offset t s is))
checks_step form m place next start end p src last read q (Char c) text count offset s (none, zero, is) =
    subst (λ xs. ChecksBlock form m place start (p ++ src) last xs count (q ++ drop read src) next end) (sym none)
    (subst (λ n. ChecksBlock form m place start (p ++ src) last [] n (q ++ drop read src) next end) (sym zero)
    (checks_character form m place next start end p src last read q offset c s is))
checks_step form m place next start end p src last read q (Malformed found bytes) text count offset s (one, lines, none) =
    subst (λ n. ChecksBlock form m place start (p ++ src) last text n (q ++ drop read src) next end) (sym one)
    (checks_malformed form m place next start end p src last read q offset found bytes text s (λ e. (lines e).1) (λ e. (lines e).0) none)
checks_step form m place next start end p src last read q InputEmpty text count offset s (none, zero, is) =
    subst (λ xs. ChecksBlock form m place start (p ++ src) last xs count (q ++ drop read src) next end) (sym none)
    (subst (λ n. ChecksBlock form m place start (p ++ src) last [] n (q ++ drop read src) next end) (sym zero)
    (checks_end form m place next start end p src last read q offset s is))

-- ---- a block
module _ (form : Form) (m : Mode) (place : ℕ × ℕ) (offset : ℕ) (bs : List ℕ) (last : Bool) (old : Option (List ℕ)) (src : List ℕ) (new : Option (List ℕ))
    (at count : ℕ) (q : List ℕ) (next : ℕ × ℕ) (end : ℕ) (so_far : BlockSoFar form m place offset bs last old src new at count q next end) where
  -- one more piece, and its report
  pub block_step : (returned : SearchPiece) (text : List ℕ) (more r : ℕ) (after : Option (List ℕ)) (t : List ℕ) (next' : ℕ × ℕ) (end' : ℕ)
      → end' + length t ≡ end + length q + r → SearchStep q end (drop at src) last returned r t → Appends new after text
      → Reports form m next returned text more next'
      → BlockSoFar form m place offset bs last old src after (at + r) (count + more) t next' end'
  block_step returned text more r after t next' end' moved s appended reports =
      block_more form m place offset bs last old src new at count q next end so_far text more r after t next' end' appended
      (checks_step form m next next' end end' q (drop at src) last r t returned text more moved s reports)

  -- all was read
  pub block_ended : (r : ℕ) (t : List ℕ) (end' : ℕ) → end' + length t ≡ end + length q + r
      → SearchStep q end (drop at src) last InputEmpty r t → at ≤ length src
      → (text : List ℕ) × (rest : List ℕ) × Appends old new text × ChecksBlock form m place offset bs last text count rest next end'
      × ((m ≡ mode.Quiet → count ≡ 0) → (rest ≡ t) × (last ≡ true → rest ≡ []))
  block_ended r t end' moved s within =
      let (text, appended, block) =
      block_passed form m place offset bs last old src new at count q next end so_far r t next end'
      (checks_end form m next next end end' q (drop at src) last r t moved s (λ _. refl)) in
      let none : t ++ drop (at + r) src ≡ t =
      ap (λ xs. t ++ xs) (drop_all (at + r) src (omega (arith, s.answer.0, length-drop at src, within))) ∙ append-nil t in
      (text, t ++ drop (at + r) src, appended, block, λ _. (none, λ l. none ∙ s.answer.2 l))

  -- the last malformed sequence that is wanted was read
  pub block_enough : (m ≡ mode.Quiet) × (0 < count)
      → (text : List ℕ) × (rest : List ℕ) × Appends old new text × ChecksBlock form m place offset bs last text count rest next end
      × ((m ≡ mode.Quiet → count ≡ 0) → (rest ≡ q) × (last ≡ true → rest ≡ []))
  block_enough (quiet, some) =
      let (text, appended, block) = so_far in (text, q ++ drop at src, appended, block, λ none. absurd (omega (arith, none quiet, some)))

  -- the report of one more piece failed
  pub block_failed : (returned : SearchPiece) (text : List ℕ) (more r : ℕ) (after : Option (List ℕ)) (t : List ℕ) (next' : ℕ × ℕ) (end' : ℕ)
      → end' + length t ≡ end + length q + r → SearchStep q end (drop at src) last returned r t → WritesPrefixOf text new after
      → Reports form m next returned text more next'
      → (all : List ℕ) × (total : ℕ) × (rest : List ℕ) × (last_place : ℕ × ℕ) × (last_end : ℕ) × WritesPrefixOf all old after
      × ChecksBlock form m place offset bs last all total rest last_place last_end
  block_failed returned text more r after t next' end' moved s prefix reports =
      let (before, appended, a) = so_far in (
        before ++ text,
        count + more,
        t ++ drop r (drop at src),
        next',
        end',
        prefix_after before text old new after appended prefix,
        checks_more form m place offset bs last before count (q ++ drop at src) next end text more _ next' end' a
            (checks_step form m next next' end end' q (drop at src) last r t returned text more moved s reports),
      )

-- a piece is at most one malformed sequence
pub reports_few : (form : Form) (m : Mode) (place : ℕ × ℕ) (returned : SearchPiece) (text : List ℕ) (count : ℕ) (next : ℕ × ℕ)
    → Reports form m place returned text count next → count ≤ 1
reports_few form m place (Text t) text count next (none, zero, is) = omega (arith, zero)
reports_few form m place (Char c) text count next (none, zero, is) = omega (arith, zero)
reports_few form m place (Malformed found bytes) text count next (one, lines, none) = omega (arith, one)
reports_few form m place InputEmpty text count next (none, zero, is) = omega (arith, zero)

-- a piece has at most the pending bytes and those that were read
pub piece_fits : (p : List ℕ) (start : ℕ) (src : List ℕ) (last : Bool) (returned : SearchPiece) (read : ℕ) (q : List ℕ)
    → SearchStep p start src last returned read q → length_of returned ≤ length p + read
piece_fits p start src last (Text t) read q s = omega (arith, ap length s.answer.3, length-take read src)
piece_fits p start src last (Char c) read q s = omega (arith, ap length s.answer.4, length-append p (take read src), length-take read src)
piece_fits p start src last (Malformed found bytes) read q s = omega (arith, s.answer.0.1, length-append p (take read src), length-take read src)
piece_fits p start src last InputEmpty read q s = omega arith

-- the report of a malformed sequence, by its bytes
pub report_malformed : (form : Form) (place next : ℕ × ℕ) (returned : SearchPiece) (found : StreamMalformation) (bytes shown : List ℕ)
    → returned ≡ Malformed found bytes → shown ≡ take found.length bytes → next ≡ next_place form.1 place (IllFormed shown)
    → Reports form mode.List place returned (line_of form.0 place.0 place.1 found.offset shown found.kind) 1 next
report_malformed form place next returned found bytes shown is same moved =
    subst (λ piece. Reports form mode.List place piece (line_of form.0 place.0 place.1 found.offset shown found.kind) 1 next) (sym is) (
      refl,
      (λ _. (ap (λ xs. line_of form.0 place.0 place.1 found.offset xs found.kind) same, moved ∙ ap (λ xs. next_place form.1 place (IllFormed xs)) same)),
      (λ no. absurd (no refl)),
    )

-- a prefix of three bytes, for a length that may be greater
pub take_three : (k : ℕ) (bytes : List ℕ) → length bytes ≡ 3 → take (min k 3) bytes ≡ take k bytes
take_three k bytes three = elim (cases_lt k 4) [
  | inl l ↦ ap (λ n. take n bytes) (omega arith)
  | inr g ↦ take_all (min k 3) bytes (omega (arith, three)) ∙ sym (take_all k bytes (omega (arith, three)))
]

-- ---- a whole check
-- no more malformed sequences than bytes
pub count_fits : (form : Form) (m : Mode) (place : ℕ × ℕ) (offset : ℕ) (bs : List ℕ) (last : Bool) (text : List ℕ) (count : ℕ) (rest : List ℕ)
    (next : ℕ × ℕ) (end : ℕ)
    → ChecksBlock form m place offset bs last text count rest next end → (count + length rest ≤ length bs) × (offset + length bs ≡ end + length rest)
count_fits form m place offset bs last text count rest next end c =
    let starts = c.starts [] (λ _. refl) in (
      omega (arith, c.counted, malformed_count-bytes (bs ++ []) c.parts (rest ++ []) starts, ap length (append-nil bs), ap length (append-nil rest)),
      omega (
        arith,
        c.offset_is,
        ap length (StartsWith-bytes (bs ++ []) c.parts (rest ++ []) starts),
        length-append (flat_map bytes_of c.parts) (rest ++ []),
        ap length (append-nil bs),
        ap length (append-nil rest),
      ),
    )

-- line and column grow no faster than the offset
pub block_place : (form : Form) (m : Mode) (place : ℕ × ℕ) (offset : ℕ) (bs : List ℕ) (last : Bool) (text : List ℕ) (count : ℕ) (rest : List ℕ)
    (next : ℕ × ℕ) (end : ℕ)
    → ChecksBlock form m place offset bs last text count rest next end → m ≡ mode.List
    → (next.0 + offset ≤ place.0 + end) × (next.1 + offset ≤ place.1 + end)
block_place form m place offset bs last text count rest next end c list =
    let starts = c.starts [] (λ _. refl) in
    let bound = place_bound form.1 place (bs ++ []) c.parts (rest ++ []) starts in
    let fits = count_fits form m place offset bs last text count rest next end c in
    let is = c.place_is list in (
      omega (arith, bound.0, ap (λ p. p.0) is, fits.1, ap length (append-nil bs), ap length (append-nil rest)),
      omega (arith, bound.1, ap (λ p. p.1) is, fits.1, ap length (append-nil bs), ap length (append-nil rest)),
    )

-- what was written for all bytes so far
abbrev pub InputSoFar : Form → Mode → Option (List ℕ) → Option (List ℕ) → Option (List ℕ) → Option (List ℕ) → ℕ → List ℕ → ℕ × ℕ → ℕ → Type 0
InputSoFar form m unread left old new total q place start = (bs : List ℕ) × (text : List ℕ) × Consumes unread left bs × Appends old new text
    × ChecksBlock form m (1, 1) 0 bs false text total q place start

-- what a check of a block does, by its source with the pending bytes before it
abbrev pub BlockDone : Form → Mode → ℕ × ℕ → ℕ → List ℕ → Bool → Option (List ℕ) → Option (List ℕ) → ℕ → List ℕ → ℕ × ℕ → ℕ → Type 0
BlockDone form m place start bs last old new count q next end = (text : List ℕ) × (rest : List ℕ) × Appends old new text
    × ChecksBlock form m place start bs last text count rest next end × ((m ≡ mode.Quiet → count ≡ 0) → (rest ≡ q) × (last ≡ true → rest ≡ []))

module _ (form : Form) (m : Mode) (unread left old new : Option (List ℕ)) (total : ℕ) (q : List ℕ) (place : ℕ × ℕ) (start : ℕ)
    (so_far : InputSoFar form m unread left old new total q place start) (block : List ℕ) (last : Bool) (count : ℕ) (left' new' : Option (List ℕ))
    (q' : List ℕ) (place' : ℕ × ℕ) (start' : ℕ) (consumed : Consumes left left' block)
    (done : BlockDone form m place start (q ++ block) last new new' count q' place' start') where
  abbrev bytes : List ℕ
  bytes = so_far.0 ++ block

  all_consumed : Consumes unread left' bytes
  all_consumed = Consumes-trans unread left left' so_far.0 block so_far.2 consumed

  all_written : Appends old new' (so_far.1 ++ done.0)
  all_written = Appends-trans old new new' so_far.1 done.0 so_far.3 done.2

  whole : ChecksBlock form m (1, 1) 0 bytes last (so_far.1 ++ done.0) (total + count) done.1 place' start'
  whole =
      checks_then form m (1, 1) 0 so_far.0 false so_far.1 total q place start block last done.0 count done.1 place' start'
      (λ more e f. absurd (true≢false (sym f)))
      so_far.4 done.3

  pub input_ended : last ≡ true → IsAtEnd left' → (m ≡ mode.Quiet → total ≡ 0) → (m ≡ mode.Quiet → count ≤ 1)
      → Checks form m unread left' old new' (total + count)
  input_ended is_last at_end none few = (
    bytes,
    last,
    so_far.1 ++ done.0,
    done.1,
    (place', start', all_consumed, (λ _. at_end), whole),
    all_written,
    (λ no. (is_last, (done.4 (λ quiet. omega (arith, no quiet))).1 is_last)),
    (λ quiet. omega (arith, none quiet, few quiet)),
  )

  pub input_enough : last ≡ false → (m ≡ mode.Quiet) × (0 < count) → (m ≡ mode.Quiet → total ≡ 0) → (m ≡ mode.Quiet → count ≤ 1)
      → Checks form m unread left' old new' (total + count)
  input_enough more (quiet, some) none few = (
    bytes,
    last,
    so_far.1 ++ done.0,
    done.1,
    (place', start', all_consumed, (λ is_last. absurd (both_ways last more is_last)), whole),
    all_written,
    (λ no. absurd (omega (arith, no quiet, some))),
    (λ quiet. omega (arith, none quiet, few quiet)),
  )

  -- all was written, and then a flush failed
  pub flush_failed : (new'' : Option (List ℕ)) → last ≡ false → Keeps new' new'' → StopsByWrite form m unread left' old new''
  flush_failed new'' more kept = (
    bytes,
    last,
    so_far.1 ++ done.0,
    total + count,
    done.1,
    (place', start', all_consumed, (λ is_last. absurd (both_ways last more is_last)), whole),
    prefix_all _ old new'' (Appends-kept old new' new'' (so_far.1 ++ done.0) all_written kept),
  )

  pub input_next : (new'' : Option (List ℕ)) → last ≡ false → (m ≡ mode.Quiet → count ≡ 0) → Keeps new' new''
      → InputSoFar form m unread left' old new'' (total + count) q' place' start'
  input_next new'' more none kept = (
    bytes,
    so_far.1 ++ done.0,
    all_consumed,
    Appends-kept old new' new'' (so_far.1 ++ done.0) all_written kept,
    subst (λ xs. ChecksBlock form m (1, 1) 0 bytes false (so_far.1 ++ done.0) (total + count) xs place' start') (done.4 none).0
        (subst (λ b. ChecksBlock form m (1, 1) 0 bytes b (so_far.1 ++ done.0) (total + count) done.1 place' start') more whole),
  )

  -- the offset grows by the block
  pub input_grows : (m ≡ mode.Quiet → count ≡ 0) → start' + length q' ≡ start + length q + length block
  input_grows none = omega (
    arith,
    (count_fits form m place start (q ++ block) last done.0 count done.1 place' start' done.3).1,
    ap length (done.4 none).0,
    length-append q block,
  )

  -- as many malformed sequences as bytes, at most
  pub input_count : total + count ≤ start + length q + length block
  input_count = omega (
    arith,
    (count_fits form m (1, 1) 0 bytes last (so_far.1 ++ done.0) (total + count) done.1 place' start' whole).0,
    (count_fits form m (1, 1) 0 so_far.0 false so_far.1 total q place start so_far.4).1,
    length-append so_far.0 block,
  )

module _ (form : Form) (m : Mode) (unread left old new : Option (List ℕ)) (total : ℕ) (q : List ℕ) (place : ℕ × ℕ) (start : ℕ)
    (so_far : InputSoFar form m unread left old new total q place start) where
  -- the bytes so far
  pub input_length : length so_far.0 ≡ start + length q
  input_length = omega (arith, (count_fits form m (1, 1) 0 so_far.0 false so_far.1 total q place start so_far.4).1)

  pub input_place : m ≡ mode.List → (place.0 ≤ start + 1) × (place.1 ≤ start + 1)
  input_place list =
      let bound = block_place form m (1, 1) 0 so_far.0 false so_far.1 total q place start so_far.4 list in
      (omega (arith, bound.0), omega (arith, bound.1))

  -- a read failed, or no more is read
  pub input_stopped : (left' : Option (List ℕ)) → Keeps left left' → IsPending q → (m ≡ mode.Quiet → total ≡ 0)
      → StopsChecking form m unread left' old new so_far.0
  input_stopped left' kept pending none = (
    so_far.1,
    total,
    q,
    (place, start, Consumes-kept unread left left' so_far.0 so_far.2 kept, (λ e. absurd (true≢false (sym e))), so_far.4),
    so_far.3,
    pending,
    none,
  )

  -- a write failed
  pub write_failed : (block : List ℕ) (last : Bool) (left' new' : Option (List ℕ)) (text : List ℕ) (count : ℕ) (rest : List ℕ) (next : ℕ × ℕ) (end : ℕ)
      → Consumes left left' block → (last ≡ true → IsAtEnd left') → WritesPrefixOf text new new'
      → ChecksBlock form m place start (q ++ block) last text count rest next end → StopsByWrite form m unread left' old new'
  write_failed block last left' new' text count rest next end consumed at_end prefix done = (
    so_far.0 ++ block,
    last,
    so_far.1 ++ text,
    total + count,
    rest,
    (
      next,
      end,
      Consumes-trans unread left left' so_far.0 block so_far.2 consumed,
      at_end,
      checks_then form m (1, 1) 0 so_far.0 false so_far.1 total q place start block last text count rest next end
          (λ more e f. absurd (true≢false (sym f)))
          so_far.4 done,
    ),
    prefix_after so_far.1 text old new new' so_far.3 prefix,
  )

pub not_ended : (m : Mode) (count : ℕ) (ends : Bool) → ((m ≡ mode.Quiet) × (0 < count) → ends ≡ true) → ends ≡ false → m ≡ mode.Quiet → count ≡ 0
not_ended m count ends tells not quiet = elim (cases_lt 0 count) [
  | inl some ↦ absurd (both_ways ends not (tells (quiet, some)))
  | inr none ↦ omega (arith, none)
]
