-- The rounds of the engine, one after the other, up to the end or a failure.
use Rattle.std.proofs.Common.{◌≡◌, ℕ, ◌+◌, ◌<◌, ◌≤◌, Bool, true, false, List, [], ◌++◌, length, Option, refl, sym, ap, ◌∙◌, arith, subst}
use Rattle.std.specs.Io.KnownBytes.{Keeps, IsAtEnd}
use Rattle.std.proofs.KnownBytes.{Appends-trans, Consumes-trans, Consumes-kept}
use Rattle.std.proofs.lemmas.List.{length-append, take_at}
use Rattle.encoding_definitions.specs.Sequence.{IsPending}
use Rattle.encoding_definitions.specs.Parts.{Part, lossy_utf8}
use Rattle.encoding_definitions.proofs.DecompositionLemmas.{StartsWith-append, has_parts, lossy_utf8-append}
use Rattle.encoding_runs.specs.Repairs.{IsFinalText, IsPendingOutput, IsProperPrefix, RepairsAll, RepairsFinal, RepairsProperPrefix}
use Rattle.encoding_runs.specs.Steps.{AreFirst, WritesParts, StopsInParts, ReadsRound, Reaches}
use Rattle.encoding_runs.proofs.FinalLemmas.{final_first, final_after, AreFirst-more}
use Rattle.encoding_runs.proofs.RepairLemmas.{wrote_all, wrote_after, prefix_after, longer_prefix}

-- ---- before a read, or if it fails
is_final : (bs p : List ℕ) (old new : Option (List ℕ)) (n : ℕ) → (w : WritesParts false bs p old new n) → IsPending p → IsFinalText bs (lossy_utf8 w.parts)
is_final bs p old new n w still = (w.parts, p, final_first bs w.parts p w.first still, refl)

pub stopped_reading : (unread mid left old new : Option (List ℕ)) (read n : ℕ) (p : List ℕ) → Reaches unread mid old new read n p → Keeps mid left
    → (bytes : List ℕ) × (length bytes ≡ read) × RepairsFinal bytes unread left old new
stopped_reading unread mid left old new read n p r k =
    (r.input, sym r.count, (Consumes-kept _ _ _ _ r.consumed k, (lossy_utf8 r.wrote.parts, is_final _ _ _ _ _ r.wrote r.still_open, r.wrote.bytes)))

-- ---- if a write fails
-- the text due for the bytes is that of these first parts and more
due : (last : Bool) (bs : List ℕ) (ps : List Part) (rest : List ℕ) → AreFirst last bs ps rest
    → (qs : List Part) × IsPendingOutput bs last (lossy_utf8 (ps ++ qs))
due true bs ps rest f =
    let others = has_parts rest in
    (others.0, (λ _. (ps ++ others.0, StartsWith-append bs ps rest others.0 [] f.starts others.1, refl), λ e. absurd (let no : true ≡ false = e in cc)))
due false bs ps rest f =
    let others = final_after bs ps rest f in
    (others.0, (λ e. absurd (let no : false ≡ true = e in cc), λ _. (ps ++ others.0, others.1, others.2, refl)))

pub stopped_writing : (unread mid left old new now : Option (List ℕ)) (read n : ℕ) (p : List ℕ) (room : ℕ) (bytes : List ℕ) (last before after : Bool)
    → Reaches unread mid old new read n p → ReadsRound room bytes last mid left before after → StopsInParts last (p ++ bytes) new now
    → room ≤ 1024 → before ≡ false
    → (all : List ℕ) × (length all ≤ read + room) × RepairsProperPrefix all after unread left old now
stopped_writing unread mid left old new now read n p room bytes last before after r b s short going = (
  all,
  omega (arith, r.count, length-append r.input bytes, b.within),
  (
    Consumes-trans _ _ _ _ _ r.consumed b.consumed,
    λ e. none_left last refl e,
    (
      lossy_utf8 (ps ++ others.0),
      out,
      subst (λ e. IsPendingOutput all e (lossy_utf8 (ps ++ others.0))) (sym (seen last refl)) others.1,
      subst (IsProperPrefix out) (sym (lossy_utf8-append ps others.0))
          (longer_prefix out (lossy_utf8 ps) (lossy_utf8 others.0) (prefix_after r.wrote.parts s.parts s.out s.less)),
      Appends-trans _ _ _ _ _ r.wrote.bytes s.bytes,
      record {
        before = length r.input;
        within = omega (arith, length-append r.input bytes);
        one_round = omega (arith, length-append r.input bytes, b.within, short);
        final_text = lossy_utf8 r.wrote.parts;
        was_final = subst (λ xs. IsFinalText xs (lossy_utf8 r.wrote.parts)) (sym (take_at r.input bytes (length r.input) refl))
            (is_final _ _ _ _ _ r.wrote r.still_open);
        whole_rounds = (s.out, refl);
      },
      λ e. at_end last refl e,
    ),
  ),
)
  where
    all : List ℕ
    all = r.input ++ bytes

    ps : List Part
    ps = r.wrote.parts ++ s.parts

    out : List ℕ
    out = lossy_utf8 r.wrote.parts ++ s.out

    others : (qs : List Part) × IsPendingOutput all last (lossy_utf8 (ps ++ qs))
    others = due last all ps s.rest (AreFirst-more last r.input r.wrote.parts p bytes s.parts s.rest r.wrote.first s.first)

    seen : (b' : Bool) → last ≡ b' → after ≡ last
    seen true e = (b.at_end e).1 ∙ sym e
    seen false e = (b.going_on e).1 ∙ going ∙ sym e

    none_left : (b' : Bool) → last ≡ b' → after ≡ true → IsAtEnd left
    none_left true e t = (b.at_end e).2
    none_left false e t = absurd (let no : false ≡ true = sym going ∙ sym (b.going_on e).1 ∙ t in cc)

    at_end : (b' : Bool) → last ≡ b' → after ≡ true → length r.input ≡ length all
    at_end true e t = omega (arith, length-append r.input bytes, ap length (b.at_end e).0)
    at_end false e t = absurd (let no : false ≡ true = sym going ∙ sym (b.going_on e).1 ∙ t in cc)

-- ---- a round that read bytes, and one that read none
pub reaches_next : (unread mid left old new now : Option (List ℕ)) (read n : ℕ) (p : List ℕ) (room : ℕ) (bytes : List ℕ) (last before after : Bool)
    (m : ℕ) (q : List ℕ)
    → Reaches unread mid old new read n p → ReadsRound room bytes last mid left before after → WritesParts last (p ++ bytes) q new now m
    → IsPending q → 0 < length bytes
    → Reaches unread left old now (read + length bytes) (n + m) q × (after ≡ before)
reaches_next unread mid left old new now read n p room bytes true before after m q r b w still some = absurd (omega (arith, ap length (b.at_end refl).0, some))
reaches_next unread mid left old new now read n p room bytes false before after m q r b w still some = (
  record {
    input = r.input ++ bytes;
    consumed = Consumes-trans _ _ _ _ _ r.consumed b.consumed;
    count = omega (arith, r.count, length-append r.input bytes);
    wrote = wrote_after false r.input p bytes q old new now n m r.wrote w;
    still_open = still;
  },
  (b.going_on refl).1,
)

pub reaches_end : (unread mid left old new now : Option (List ℕ)) (read n : ℕ) (p : List ℕ) (room : ℕ) (bytes : List ℕ) (last before after : Bool)
    (m : ℕ) (q : List ℕ)
    → Reaches unread mid old new read n p → ReadsRound room bytes last mid left before after → WritesParts last (p ++ bytes) q new now m
    → (last ≡ true → q ≡ []) → length bytes ≡ 0
    → (all : List ℕ) × (read + length bytes ≡ length all) × RepairsAll all unread left old now (n + m) × (after ≡ true)
reaches_end unread mid left old new now read n p room bytes false before after m q r b w none empty = absurd (omega (arith, (b.going_on refl).0, empty))
reaches_end unread mid left old new now read n p room bytes true before after m q r b w none empty =
    let all = wrote_after true r.input p bytes q old new now n m r.wrote w in (
      r.input ++ bytes,
      omega (arith, r.count, length-append r.input bytes),
      (
        Consumes-trans _ _ _ _ _ r.consumed b.consumed,
        (b.at_end refl).2,
        wrote_all true _ _ _ _
            (subst (λ xs. WritesParts true (r.input ++ bytes) xs old now (n + m)) (none refl) all),
      ),
      (b.at_end refl).1,
    )
