-- Blocks of a stream with no malformed sequence so far.
use Rattle.std.proofs.Common.{◌≡◌, ℕ, ◌<◌, ◌≤◌, true, false, Bool, List, [], ◌∷◌, ◌++◌, length, drop, Option, refl, sym, ap, subst, ◌∙◌, arith, length-append, ◌↔◌, encode_utf8, inl, None, Some, IfSome, IsTrue}
use Rattle.std.proofs.lemmas.List.{take_at, drop_at}
use Rattle.std.specs.Str.{IsUtf8}
use Rattle.std.specs.Io.KnownBytes.{Consumes, IsAtEnd}
use Rattle.encoding_text.specs.Parts.{Part, ArePartsOf, lossy_utf8, Character, IllFormed, bytes_of, malformed_count}
use Rattle.encoding_runs.specs.Blocks.{IsBlockRepair, RepairTheParts, replaced_in_all}
use Rattle.encoding_runs.specs.declared.repair.blocks.RepairedBlock.{RepairedBlock}
use Rattle.encoding_runs.proofs.RepairLemmas.{pending_length}
use Rattle.std.specs.Prelude.{Any}
use Rattle.std.specs.List.{flat_map}
use Rattle.std.proofs.lemmas.Bool.{both_ways}
use Rattle.encoding_text.specs.Sequence.{IsPending}
use Rattle.encoding_text.proofs.AnyLemmas.{Any-here, Any-there}
use Rattle.encoding_text.proofs.DecompositionLemmas.{StartsWith-append, StartsWith-bytes, malformed_count-append}
use Rattle.encoding_runs.specs.Calls.{Call, IsChain, output_of}
use Rattle.encoding_runs.specs.Repairs.{IsLossyDecodeWith}

abbrev Ends : Call ℕ RepairedBlock ℕ → Type 0
Ends call = (call.last ≡ true) × (call.result.finished ≡ true)

-- Calls on what is unread, after the calls made so far, are calls over the whole stream, with no more parts replaced.
abbrev GoesOn : List ℕ → List ℕ → List ℕ → Type 0
GoesOn bytes p unread = IsPending p × ((others : List (Call ℕ RepairedBlock ℕ)) → IsChain IsBlockRepair p unread others
    → (all : List (Call ℕ RepairedBlock ℕ)) × IsChain IsBlockRepair [] bytes all × (replaced_in_all all ≡ replaced_in_all others)
    × (Any Ends others → Any Ends all))

-- the same of the known bytes of a reader, from its start and from here
abbrev pub NoneMalformed : Option (List ℕ) → List ℕ → Option (List ℕ) → Type 0
NoneMalformed None p now = Unit {0}
NoneMalformed (Some bytes) p None = ⊥
NoneMalformed (Some bytes) p (Some unread) = GoesOn bytes p unread

pub none_yet : (known : Option (List ℕ)) → NoneMalformed known [] known
none_yet None = tt
none_yet (Some bytes) = (inl refl, λ others chain. (others, chain, refl, λ some. some))

-- ---- parts with no malformed sequence
no_malformed_text : (parts : List Part) → malformed_count parts ≡ 0 → lossy_utf8 parts ≡ flat_map bytes_of parts
no_malformed_text [] none = refl
no_malformed_text (Character c ∷ parts) none = ap (λ bs. encode_utf8 c ++ bs) (no_malformed_text parts none)
no_malformed_text (IllFormed bytes ∷ parts) none = absurd (omega (arith, none))

-- ---- the next block
module _ (p block : List ℕ) (room : ℕ) (last : Bool) (result : RepairedBlock) (read : ℕ) (out q : List ℕ)
    (repair : IsBlockRepair p block room last result read out q) where
  abbrev call : Call ℕ RepairedBlock ℕ
  call = record { form = room; piece = length block; last = last; result = result; read = read; out = out; pending = q }

  -- a call on it, and then others
  then_others : (bytes rest : List ℕ) → GoesOn bytes p (block ++ rest) → (last ≡ true → rest ≡ []) → (others : List (Call ℕ RepairedBlock ℕ))
      → IsChain IsBlockRepair q (drop read (block ++ rest)) others
      → (all : List (Call ℕ RepairedBlock ℕ)) × IsChain IsBlockRepair [] bytes all × (replaced_in_all all ≡ replaced_in_all (call ∷ others))
      × (Any Ends (call ∷ others) → Any Ends all)
  then_others bytes rest (pending, on) end others chain = on (call ∷ others) (
    subst (λ bs. IsBlockRepair p bs room last result read out q) (sym (take_at block rest (length block) refl)) repair,
    λ marked. omega (arith, length-append block rest, ap length (end marked)),
    chain,
  )

  -- with this length it is finished
  is_finished : IsPending p → result.replaced ≤ 0 → length block ≤ 1024 → 1034 ≤ room → result.finished ≡ true
  is_finished pending none short enough = go result.finished refl
    where
      go : (b : Bool) → result.finished ≡ b → b ≡ true
      go true e = refl
      go false e =
          let bytes = StartsWith-bytes _ repair.parts _ repair.yielded.first in
          absurd (omega (
            arith,
            (repair.full e).few,
            enough,
            short,
            pending_length p pending,
            ap length (repair.text ∙ no_malformed_text repair.parts (omega (arith, none, repair.replaced))),
            ap length bytes,
            length-append p block,
            length-append (flat_map bytes_of repair.parts) (q ++ drop read block),
          ))

  pub next : (known before after : Option (List ℕ)) → NoneMalformed known p before → Consumes before after block → last ≡ false → result.replaced ≤ 0
      → length block ≤ 1024 → 1034 ≤ room → NoneMalformed known q after
  next None before after on read_here unmarked none short enough = tt
  next (Some bytes) None after on read_here unmarked none short enough = absurd on
  next (Some bytes) (Some unread) None on read_here unmarked none short enough = absurd read_here
  next (Some bytes) (Some unread) (Some rest) on read_here unmarked none short enough =
      let here : GoesOn bytes p (block ++ rest) = subst (GoesOn bytes p) read_here on in
      let all = (repair.finished.0 (is_finished on.0 none short enough)).0 in
      let left : drop read (block ++ rest) ≡ rest = drop_at block rest read (sym all) in (
        repair.yielded.pending,
        λ others chain.
            let (calls, are, count, ends) =
            then_others bytes rest here (λ marked. absurd (both_ways _ unmarked marked)) others
            (subst (λ bs. IsChain IsBlockRepair q bs others) (sym left) chain) in
            (calls, are, omega (arith, count, none), λ some. ends (Any-there Ends call others some)),
      )

  -- a malformed sequence is in all the bytes
  pub some_malformed : ((p b : List ℕ) (calls : List (Call ℕ RepairedBlock ℕ)) → (calls ≡ [] → IsPending p) → IsChain IsBlockRepair p b calls
      → RepairTheParts p b calls)
      → ((bs : List ℕ) → (parts : List Part) × ArePartsOf bs parts)
      → ((bs : List ℕ) (parts : List Part) → ArePartsOf bs parts → IsUtf8 bs ↔ (malformed_count parts ≡ 0))
      → (known before after : Option (List ℕ)) → NoneMalformed known p before → Consumes before after block → (last ≡ true → IsAtEnd after)
      → 0 < result.replaced → IfSome known (λ bytes. IsTrue false ↔ IsUtf8 bytes)
  some_malformed prefix exist no_malformed None before after on read_here end some = tt
  some_malformed prefix exist no_malformed (Some bytes) None after on read_here end some = absurd on
  some_malformed prefix exist no_malformed (Some bytes) (Some unread) None on read_here end some = absurd read_here
  some_malformed prefix exist no_malformed (Some bytes) (Some unread) (Some rest) on read_here end some =
      let (calls, chain, count, ends) = then_others bytes rest (subst (GoesOn bytes p) read_here on) end [] tt in
      let first = prefix [] bytes calls (λ _. inl refl) chain in
      let (others, are) = exist _ in
      let whole : ArePartsOf bytes (first.parts ++ others) = StartsWith-append bytes first.parts _ others [] first.prefix.first are in (
        (λ e. absurd (both_ways _ refl e)),
        λ well. absurd
            (omega (arith, some, count, first.replaced, malformed_count-append first.parts others, (no_malformed bytes (first.parts ++ others) whole).0 well)),
      )

  -- and none is if all is read
  pub all_whole : ((b : List ℕ) (calls : List (Call ℕ RepairedBlock ℕ)) → IsChain IsBlockRepair [] b calls → Any Ends calls
      → IsLossyDecodeWith b (output_of calls) (replaced_in_all calls))
      → ((bs : List ℕ) (parts : List Part) → ArePartsOf bs parts → IsUtf8 bs ↔ (malformed_count parts ≡ 0))
      → (known before after : Option (List ℕ)) → NoneMalformed known p before → Consumes before after block → last ≡ true → IsAtEnd after → result.replaced ≤ 0
      → length block ≤ 1024 → 1034 ≤ room → IfSome known (λ bytes. IsTrue true ↔ IsUtf8 bytes)
  all_whole whole no_malformed None before after on read_here marked end none short enough = tt
  all_whole whole no_malformed (Some bytes) None after on read_here marked end none short enough = absurd on
  all_whole whole no_malformed (Some bytes) (Some unread) None on read_here marked end none short enough = absurd read_here
  all_whole whole no_malformed (Some bytes) (Some unread) (Some rest) on read_here marked end none short enough =
      let (calls, chain, count, ends) = then_others bytes rest (subst (GoesOn bytes p) read_here on) (λ _. end) [] tt in
      let (parts, are, text, malformed) = whole bytes calls chain (ends (Any-here Ends call [] (marked, is_finished on.0 none short enough))) in
      ((λ _. (no_malformed bytes parts are).1 (omega (arith, malformed, count, none))), λ _. refl)
