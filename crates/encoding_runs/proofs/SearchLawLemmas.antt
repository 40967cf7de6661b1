-- Calls of a search in sequence find the malformed sequences among the parts of all bytes, and these have one list of
-- offsets, lengths and kinds.
use Rattle.std.proofs.Common.{◌≡◌, ℕ, ◌+◌, ◌≤◌, ◌||◌, inl, Bool, true, false, List, [], ◌∷◌, ◌++◌}
use Rattle.std.proofs.Common.{length, map, take, drop, encode_utf8, refl, sym, ap, ◌∙◌, arith, subst}
use Rattle.std.specs.List.{flat_map}
use Rattle.std.proofs.lemmas.Bool.{or_parts}
use Rattle.std.proofs.lemmas.List.{append-nil, append_assoc, drop_all, length-append, length-drop, length-take, nil_from_length}
use Rattle.encoding_definitions.specs.Parts.{Part, Character, IllFormed, bytes_of, StartsWith, IsFirstPart}
use Rattle.encoding_definitions.specs.Sequence.{IsPending}
use Rattle.encoding_definitions.proofs.DecompositionLemmas.{StartsWith-bytes, same_parts}
use Rattle.encoding_runs.specs.declared.search.StreamMalformation.{StreamMalformation}
use Rattle.encoding_runs.specs.declared.search.SearchedBlock.{SearchedBlock}
use Rattle.encoding_runs.specs.Calls.{Call, IsChain, read_in_all, output_of, pending_after, some_last}
use Rattle.encoding_runs.specs.MalformedSequences.{malformed_indices}
use Rattle.encoding_runs.specs.Searches.{AreMalformed, IsBlockSearch, StartInTurn, FindTheMalformed, IsFinished, AreAllMalformed}
use Rattle.encoding_runs.proofs.ChainLemmas.{unread_bytes, of_piece, yielded_bytes, chain_ends}
use Rattle.encoding_runs.proofs.MalformationLemmas.{one_kind}
use Rattle.encoding_runs.proofs.SearchLemmas.{StepFinds, finds_more, finds_nothing}

abbrev SearchCall : Type 0
SearchCall = Call (ℕ × ℕ) SearchedBlock StreamMalformation

-- ---- one call, among all unread bytes
of_block : (p : List ℕ) (start : ℕ) (b : List ℕ) (call : SearchCall) → call.form.0 ≡ start
    → IsBlockSearch p (take call.piece b) call.form call.last call.result call.read call.out call.pending → (call.last ≡ true → length b ≤ call.piece)
    → StepFinds p start b call.last call.out call.read call.pending
of_block p start b call at does whole = record {
  parts = does.parts;
  yielded = of_piece p b call.piece call.last does.parts call.read call.pending does.yielded whole;
  malformed = λ more e.
      subst (λ n. AreMalformed n does.parts (call.pending ++ drop call.read b ++ more) call.out) at
      (subst (λ xs. AreMalformed call.form.0 does.parts xs call.out) (bytes more) (does.malformed (drop call.piece b ++ more) (λ marked.
      (λ i. drop_all call.piece b (whole marked) i ++ e marked i))));
}
  where
    bytes : (more : List ℕ)
        → call.pending ++ drop call.read (take call.piece b) ++ (drop call.piece b ++ more) ≡ call.pending ++ drop call.read b ++ more
    bytes more =
        sym (append_assoc (call.pending ++ drop call.read (take call.piece b)) (drop call.piece b) more)
        ∙ ap (λ xs. xs ++ more) (unread_bytes call.pending b call.piece call.read does.yielded.within)

-- ---- calls in sequence
or_left : (a b : Bool) → a ≡ true → (a || b) ≡ true
or_left a b e = ap (λ x. x || b) e

or_right : (a b : Bool) → b ≡ true → (a || b) ≡ true
or_right true b e = refl
or_right false b e = e

chain_finds : (p : List ℕ) (start : ℕ) (b : List ℕ) (calls : List SearchCall) → (calls ≡ [] → IsPending p) → StartInTurn p start calls
    → IsChain IsBlockSearch p b calls → StepFinds p start b (some_last calls) (output_of calls) (read_in_all calls) (pending_after p calls)
chain_finds p start b [] h at c = finds_nothing p start b false (h refl)
chain_finds p start b (call ∷ calls) h (at, turns) (does, whole, c) =
    let first = of_block p start b call at does whole in
    let next : ℕ = start + length (flat_map bytes_of first.parts) in
    let offset : next + length call.pending ≡ start + length p + call.read =
    omega (
      arith,
      ap length (yielded_bytes p b first.parts call.read call.pending first.yielded.first),
      length-append (flat_map bytes_of first.parts) call.pending,
      length-append p (take call.read b),
      length-take call.read b,
      first.yielded.within,
    ) in
    let rest = chain_finds call.pending next (drop call.read b) calls (λ _. first.yielded.pending) (turns next offset) c in
    finds_more p start b call.last (some_last calls) (some_last (call ∷ calls)) call.out (output_of calls) call.read (read_in_all calls) call.pending _ next
    (or_parts call.last (some_last calls))
    (λ xs e. ((λ m. e (or_left call.last (some_last calls) m)), λ m. e (or_right call.last (some_last calls) m))) first offset rest

pub search_prefix : (p : List ℕ) (start : ℕ) (b : List ℕ) (calls : List SearchCall) → (calls ≡ [] → IsPending p) → StartInTurn p start calls
    → IsChain IsBlockSearch p b calls → FindTheMalformed p start b calls
search_prefix p start b calls h at c =
    let finds = chain_finds p start b calls h at c in
    record { parts = finds.parts; prefix = finds.yielded; malformed = finds.malformed }

pub search_whole : (b : List ℕ) (calls : List SearchCall) → StartInTurn [] 0 calls → IsChain IsBlockSearch [] b calls → IsFinished calls
    → AreAllMalformed b (output_of calls)
search_whole b calls at c some = (
  finds.parts,
  subst (λ xs. StartsWith b finds.parts xs) none finds.yielded.first,
  subst (λ xs. AreMalformed 0 finds.parts xs (output_of calls)) (append-nil (pending_after [] calls ++ drop (read_in_all calls) b)
      ∙ none) (finds.malformed [] (λ _. refl)),
)
  where
    finds : StepFinds [] 0 b (some_last calls) (output_of calls) (read_in_all calls) (pending_after [] calls)
    finds = chain_finds [] 0 b calls (λ _. inl refl) at c

    end : (read_in_all calls ≡ length b) × (pending_after [] calls ≡ [])
    end = chain_ends IsBlockSearch (λ _ _ _ _. Unit {0}) (λ p src form last block read out q call. (call.parts, tt {0}, call.yielded))
        (λ block. block.finished ≡ true)
        (λ p src form last block read out q call marked e. ((call.finished.0 e).0, (call.finished.0 e).1 marked)) [] b calls c some

    none : pending_after [] calls ++ drop (read_in_all calls) b ≡ []
    none = nil_from_length _ (omega (
      arith,
      length-append (pending_after [] calls) (drop (read_in_all calls) b),
      ap length end.1,
      end.0,
      length-drop (read_in_all calls) b,
    ))

-- ---- one list
found_same : (at : ℕ) (bs : List ℕ) (parts : List Part) (rest : List ℕ) (found others : List StreamMalformation) → StartsWith bs parts rest
    → AreMalformed at parts rest found → AreMalformed at parts rest others → found ≡ others
found_same at bs [] rest found others s a b = a ∙ sym b
found_same at bs (Character c ∷ parts) rest found others (after, first, s) a b =
    found_same (at + length (encode_utf8 c)) after parts rest found others s a b
found_same at bs (IllFormed x ∷ parts) rest found others (after, first, s) (kind, more, is, same, a) (kind', more', is', same', b) =
    let (one, is_one, only) =
    one_kind bs x (flat_map bytes_of parts ++ rest) (subst (λ xs. IsFirstPart bs (IllFormed x) xs) (StartsWith-bytes after parts rest s) first) in
    let kinds : kind ≡ kind' = only kind is ∙ sym (only kind' is') in
    let tails : more ≡ more' = found_same (at + length x) after parts rest more more' s a b in
    same ∙ (λ i. record { offset = at; length = length x; kind = kinds i } ∷ tails i) ∙ sym same'

pub search_one : (bs : List ℕ) (found others : List StreamMalformation) → AreAllMalformed bs found → AreAllMalformed bs others → found ≡ others
search_one bs found others (parts, are, a) (parts', are', b) =
    found_same 0 bs parts [] found others are a (subst (λ ps. AreMalformed 0 ps [] others) (same_parts bs parts' parts are' are) b)

-- without the kinds
indices_are : (at : ℕ) (parts : List Part) (rest : List ℕ) (found : List StreamMalformation) → AreMalformed at parts rest found
    → map (λ one. (one.offset, one.length)) found ≡ malformed_indices at parts
indices_are at [] rest found a = ap (map (λ one. (one.offset, one.length))) a
indices_are at (Character c ∷ parts) rest found a = indices_are (at + length (encode_utf8 c)) parts rest found a
indices_are at (IllFormed x ∷ parts) rest found (kind, others, is, same, a) =
    ap (map (λ one. (one.offset, one.length))) same ∙ ap (λ xs. (at, length x) ∷ xs) (indices_are (at + length x) parts rest others a)

pub search_indices : (bs : List ℕ) (found : List StreamMalformation) → AreAllMalformed bs found
    → (parts : List Part) × StartsWith bs parts [] × (map (λ one. (one.offset, one.length)) found ≡ malformed_indices 0 parts)
search_indices bs found (parts, are, a) = (parts, are, indices_are 0 parts [] found a)
