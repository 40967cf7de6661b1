-- First parts for any continuation, one after the other, and the final parts. Bytes cut where the final parts of the
-- first piece leave no rest.
use Rattle.std.proofs.Common.{◌≡◌, ℕ, Bool, false, List, [], ◌∷◌, ◌++◌, refl, sym, ap, ◌∙◌, subst, ◌+◌, ◌<◌, ◌≤◌, inl, inr, length, arith}
use Rattle.std.proofs.lemmas.List.{append-nil, append_assoc, length-append}
use Rattle.encoding_definitions.specs.Sequence.{IsIncomplete, IsPending}
use Rattle.encoding_definitions.specs.Parts.{Part, IllFormed, BeginsWithNoCharacter, StartsWith, AreFinal, bytes_of, ArePartsOf, lossy_utf8, malformed_count}
use Rattle.encoding_definitions.proofs.PartsLemmas.{part_bytes, prefixes_nest}
use Rattle.encoding_definitions.proofs.DecompositionLemmas.{StartsWith-append, final_stay, has_final, StartsWith-bytes}
use Rattle.encoding_definitions.proofs.DecompositionLemmas.{same_parts, final_prefix, lossy_utf8-append, malformed_count-append}
use Rattle.encoding_runs.specs.Steps.{AreFirst}
use Rattle.std.specs.List.{flat_map}
use Rattle.std.specs.Str.Lossy.{second_byte_min}
use Rattle.std.proofs.lemmas.Bool.Decides.{nat_tests}
use Rattle.encoding_definitions.proofs.SequenceLemmas.{HasOpenShape, HasOpenShape-IsIncomplete, second_more}

-- parts after parts
pub AreFirst-trans : (last : Bool) (bs : List ℕ) (ps : List Part) (mid : List ℕ) (qs : List Part) (rest : List ℕ) → AreFirst last bs ps mid
    → AreFirst last mid qs rest
    → AreFirst last bs (ps ++ qs) rest
AreFirst-trans last bs ps mid qs rest f g = record {
  starts = StartsWith-append bs ps mid qs rest f.starts g.starts;
  stable = λ e more. StartsWith-append (bs ++ more) ps (mid ++ more) qs (rest ++ more) (f.stable e more) (g.stable e more);
}

-- after first parts for any continuation, more bytes with their parts
pub AreFirst-more : (last : Bool) (bs : List ℕ) (ps : List Part) (mid more : List ℕ) (qs : List Part) (rest : List ℕ) → AreFirst false bs ps mid
    → AreFirst last (mid ++ more) qs rest → AreFirst last (bs ++ more) (ps ++ qs) rest
AreFirst-more last bs ps mid more qs rest f g = record {
  starts = StartsWith-append (bs ++ more) ps (mid ++ more) qs rest (f.stable refl more) g.starts;
  stable = λ e others.
      let there : StartsWith ((bs ++ more) ++ others) ps ((mid ++ more) ++ others) =
      rw (append_assoc bs more others, append_assoc mid more others) (f.stable refl (more ++ others)) in
      StartsWith-append ((bs ++ more) ++ others) ps ((mid ++ more) ++ others) qs (rest ++ others) there (g.stable e others);
}

-- ---- the final parts
-- no character begins the bytes of a last malformed sequence with what follows
last_part : (bs more : List ℕ) (prefix : List Part) (x : List ℕ) → StartsWith bs (prefix ++ IllFormed x ∷ []) more
    → (mid : List ℕ) × (mid ≡ x ++ more) × BeginsWithNoCharacter mid
last_part bs more [] x (after, f, e) = (bs, (part_bytes bs (IllFormed x) after f).0 ∙ ap (λ xs. x ++ xs) e, f.0)
last_part bs more (p ∷ prefix) x (after, f, s) = last_part after more prefix x s

-- first parts for any continuation are final: a last incomplete sequence would not be a part before the bytes that
-- complete it
pub final_first : (bs : List ℕ) (ps : List Part) (rest : List ℕ) → AreFirst false bs ps rest → IsPending rest → AreFinal bs ps rest
final_first bs ps rest f p = record { starts = f.starts; still_open = p; closed = closed }
  where
    closed : rest ≡ [] → (prefix : List Part) (x : List ℕ) → ps ≡ prefix ++ IllFormed x ∷ [] → IsIncomplete x → ⊥
    closed none prefix x same begins =
        let more : List ℕ = begins.1 in
        let there : StartsWith (bs ++ more) (prefix ++ IllFormed x ∷ []) more =
        subst (λ qs. StartsWith (bs ++ more) qs more) same (subst (λ xs. StartsWith (bs ++ more) ps (xs ++ more)) none (f.stable refl more)) in
        let l = last_part (bs ++ more) more prefix x there in
        l.2 (x ++ more) [] (l.1 ∙ sym (append-nil (x ++ more))) begins.3

pub first_final : (bs : List ℕ) (ps : List Part) (rest : List ℕ) → AreFinal bs ps rest → AreFirst false bs ps rest
first_final bs ps rest s = record { starts = s.starts; stable = λ _ more. final_stay bs ps rest more s.starts s.closed }

-- first parts for any continuation are a prefix of the final parts
pub final_after : (bs : List ℕ) (ps : List Part) (mid : List ℕ) → AreFirst false bs ps mid
    → (qs : List Part) × (rest : List ℕ) × AreFinal bs (ps ++ qs) rest
final_after bs ps mid f =
    let more = has_final mid in (
      more.0,
      more.1,
      final_first bs (ps ++ more.0) more.1
          (AreFirst-trans false bs ps mid more.0 more.1 f (first_final mid more.0 more.1 more.2)) more.2.still_open,
    )

-- the text of the final parts is a prefix of the repaired text of any continuation
pub final_text : (bs rest more : List ℕ) (parts all : List Part) → AreFinal bs parts rest → ArePartsOf (bs ++ more) all
    → (text : List ℕ) × (lossy_utf8 all ≡ lossy_utf8 parts ++ text)
final_text bs rest more parts all s h =
    let (others, e) = final_prefix bs parts rest more all s h in
    (lossy_utf8 others, ap lossy_utf8 e ∙ lossy_utf8-append parts others)

-- ---- the parts of both pieces
pub cut_parts : (bs more : List ℕ) (parts others all : List Part) → AreFinal bs parts [] → ArePartsOf more others → ArePartsOf (bs ++ more) all
    → all ≡ parts ++ others
cut_parts bs more parts others all s h a =
    same_parts (bs ++ more) all (parts ++ others) a (StartsWith-append (bs ++ more) parts more others [] (final_stay bs parts [] more s.starts s.closed) h)

pub cut_texts : (bs more : List ℕ) (parts others all : List Part) → AreFinal bs parts [] → ArePartsOf more others → ArePartsOf (bs ++ more) all
    → lossy_utf8 all ≡ lossy_utf8 parts ++ lossy_utf8 others
cut_texts bs more parts others all s h a = ap lossy_utf8 (cut_parts bs more parts others all s h a) ∙ lossy_utf8-append parts others

pub cut_counts : (bs more : List ℕ) (parts others all : List Part) → AreFinal bs parts [] → ArePartsOf more others → ArePartsOf (bs ++ more) all
    → malformed_count all ≡ malformed_count parts + malformed_count others
cut_counts bs more parts others all s h a = ap malformed_count (cut_parts bs more parts others all s h a) ∙ malformed_count-append parts others

-- ---- after an ASCII byte
open_above : (prefix : List ℕ) (b : ℕ) → HasOpenShape (prefix ++ b ∷ []) → 128 ≤ b
open_above [] b h = omega (arith, h.0)
open_above (a ∷ []) b h = let s = second_more a b h.0 h.1 h.2 in omega (arith, above a b s.2)
  where
    above : (a b : ℕ) → second_byte_min a ≤ b → 128 ≤ b
    above a b l = grind (arith, nat_tests)
open_above (a ∷ c ∷ []) b h = h.3.0
open_above (a ∷ c ∷ d ∷ []) b h = absurd h
open_above (a ∷ c ∷ d ∷ e ∷ more) b h = absurd h

-- no incomplete sequence ends with it
no_incomplete : (bs xs rest : List ℕ) (b : ℕ) → b < 128 → bs ++ b ∷ [] ≡ xs ++ rest → IsIncomplete rest → ⊥
no_incomplete bs xs rest b low e o = elim (prefixes_nest bs (b ∷ []) xs rest e) [
  | inl (t, f, g) ↦ last t g
  | inr (t, f, g) ↦ omega (arith, low, open_above t b (HasOpenShape-IsIncomplete (t ++ b ∷ []) (subst IsIncomplete g o)))
]
  where
    last : (t : List ℕ) → b ∷ [] ≡ t ++ rest → ⊥
    last [] g = omega (arith, low, open_above [] b (HasOpenShape-IsIncomplete (b ∷ []) (subst IsIncomplete (sym g) o)))
    last (y ∷ ys) g = omega (arith, ap length g, length-append ys rest, o.0)

pub ascii_settles : (bs rest : List ℕ) (b : ℕ) (parts : List Part) → b < 128 → AreFinal (bs ++ b ∷ []) parts rest → rest ≡ []
ascii_settles bs rest b parts low s = either s.still_open
  where
    either : IsPending rest → rest ≡ []
    either (inl none) = none
    either (inr o) = absurd (no_incomplete bs (flat_map bytes_of parts) rest b low (StartsWith-bytes (bs ++ b ∷ []) parts rest s.starts) o)
