-- A block of a stream whose prefix was repaired by a call, and what the call wrote.
use Rattle.std.proofs.Common.{◌≡◌, ◌≢◌, ℕ, ◌<◌, ◌≤◌, true, false, Bool, List, [], ◌∷◌, ◌++◌, length}
use Rattle.std.proofs.Common.{take, drop, Option, refl, sym, ap, subst, ◌∙◌, arith, length-append}
use Rattle.std.proofs.lemmas.List.{take_all, take_at, drop_all, nil_from_length, length-drop}
use Rattle.std.specs.Str.{IsUtf8}
use Rattle.std.specs.Str.Lossy.{utf8_lossy}
use Rattle.std.specs.Io.KnownBytes.{Consumes, IsAtEnd}
use Rattle.encoding_definitions.specs.Prefixes.{WritesPrefix}
use Rattle.encoding_definitions.specs.Parts.{Part, ArePartsOf, StartsWith, lossy_utf8, Yields}
use Rattle.encoding_runs.specs.Blocks.{IsBlockRepair}
use Rattle.encoding_runs.specs.declared.repair.blocks.RepairedBlock.{RepairedBlock}
use Rattle.encoding_runs.proofs.RepairLemmas.{pending_length}
use Rattle.encoding_runs.specs.Reading.{text_from}
use Rattle.encoding_runs.proofs.ReaderTextLemmas.{Consumes-yielded, no_text_left, no_text}

pub some_length : (bs : List ℕ) → bs ≢ [] → 0 < length bs
some_length [] some = absurd (some refl)
some_length (b ∷ bs) some = omega arith

-- what was written is a prefix
pub written_prefix : (dst dst' : List ℕ) (written : ℕ) (out : List ℕ) → WritesPrefix dst dst' written out → take written dst' ≡ out
written_prefix dst dst' written out writes = ap (take written) writes.placed ∙ take_at out _ written (sym writes.count)

module _ (p block : List ℕ) (room : ℕ) (last : Bool) (result : RepairedBlock) (read : ℕ) (out q : List ℕ)
    (repair : IsBlockRepair p block room last result read out q) where
  pub whole_characters : ((bs rest : List ℕ) (parts : List Part) → StartsWith bs parts rest → IsUtf8 (lossy_utf8 parts)) → IsUtf8 out
  whole_characters repaired_utf8 = subst IsUtf8 (sym repair.text) (repaired_utf8 _ _ repair.parts repair.yielded.first)

  finished : (b : Bool) → result.finished ≡ b → 7 ≤ room → length out ≡ 0 → (read ≡ length block) × (last ≡ true → q ≡ [])
  finished true e enough none = repair.finished.0 e
  finished false e enough none = absurd (omega (arith, (repair.full e).few, enough, none))

  -- a call that writes nothing and isn't the last leaves more pending
  pub grows : 7 ≤ room → length out ≡ 0 → 0 < length block → (length p < length q) × (length q ≤ 3)
  grows enough none some =
      let (all, empty) = finished result.finished refl enough none in
      let parts : repair.parts ≡ [] = no_text repair.parts (sym repair.text ∙ nil_from_length out none) in
      let same : p ++ block ≡ q ++ drop read block = subst (λ ps. StartsWith (p ++ block) ps (q ++ drop read block)) parts repair.yielded.first in
      let short = pending_length q repair.yielded.pending in
      (omega (arith, ap length same, length-append p block, length-append q (drop read block), length-drop read block, all, some), short)

  module _ (exist : (bs : List ℕ) → (parts : List Part) × ArePartsOf bs parts) (lossy : (bs : List ℕ) (parts : List Part) → ArePartsOf bs parts
      → lossy_utf8 parts ≡ utf8_lossy bs)
      (known : Option (List ℕ)) (held rest : List ℕ) (nothing : held ≡ []) (left : rest ≡ drop read block) (end : last ≡ true
      → (block ≡ []) × IsAtEnd known) where
    pub repaired : Consumes (text_from held p block known) (text_from held q rest known) out
    repaired =
        let whole = take_all (length block) block (omega arith) in
        let yielded : Yields p (take (length block) block) last repair.parts read q =
        subst (λ bs. Yields p bs last repair.parts read q) (sym whole) repair.yielded in
        rw (nothing, left) (Consumes-yielded exist lossy known p block (length block) last repair.parts read q out yielded
        (λ marked. (drop_all (length block) block (omega arith), (end marked).1)) repair.text)

    -- the last one writes nothing only if no text is left
    pub repaired_all : last ≡ true → 7 ≤ room → length out ≡ 0 → IsAtEnd (text_from held q rest known)
    repaired_all marked enough none =
        let (all, empty) = finished result.finished refl enough none in
        let (no_block, no_more) = end marked in
        let no_rest : rest ≡ [] = left ∙ drop_all read block (omega (arith, all)) in
        rw (nothing, no_rest, empty marked) (no_text_left exist lossy known no_more)
