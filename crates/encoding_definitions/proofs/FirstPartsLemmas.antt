-- First parts of UTF-16 code units, and units that follow them.
use Rattle.std.proofs.Common.{◌≡◌, ℕ, zero, suc, ◌+◌, ◌<◌, ◌≤◌, List, [], ◌∷◌, ◌++◌, length, take, drop, refl, sym, ap, ◌∙◌, arith, subst}
use Rattle.std.specs.List.{flat_map}
use Rattle.std.specs.Char.Escape.{encode_utf16}
use Rattle.std.proofs.lemmas.List.{append_assoc, append_cancel_right, append-nil, length-append, take-append-drop}
use Rattle.std.proofs.lemmas.List.Concat.{flat_map-append}
use Rattle.encoding_definitions.specs.Prefixes.{IsLongestFittingPrefix}
use Rattle.encoding_definitions.specs.Utf16.{Part16, Character16, Unpaired, units_of_part16, utf8_of_part16}
use Rattle.encoding_definitions.specs.Utf16.{ArePaired, ArePartsOf16, StartsWith16, IsHighSurrogate}
use Rattle.encoding_definitions.specs.FirstScalar.{BeginsLow, IsFirstPart16}
use Rattle.encoding_definitions.proofs.Utf16Lemmas.{ArePartsOf16-cons, first_of_parts, tail_paired, parts_unique}
use Rattle.encoding_definitions.proofs.Utf16Lemmas.{rest_parts, length-units_of_part16, length-utf8_of_part16, none_left}

-- ---- units after parts
-- the last part is no high surrogate with its low surrogate there
abbrev pub NoPairAcross : List Part16 → List ℕ → Type 0
NoPairAcross parts rest = (prefix : List Part16) (u : ℕ) → parts ≡ prefix ++ Unpaired u ∷ [] → IsHighSurrogate u → BeginsLow rest → ⊥

begins_low_prefix : (xs ys : List ℕ) → 0 < length xs → BeginsLow (xs ++ ys) → BeginsLow xs
begins_low_prefix [] ys s b = absurd (omega arith)
begins_low_prefix (x ∷ xs) ys s b = b

-- the part is also the first of more units
first_of_more : (us : List ℕ) (p : Part16) (rest more : List ℕ) → IsFirstPart16 us p rest
    → ((u : ℕ) → p ≡ Unpaired u → IsHighSurrogate u → BeginsLow (rest ++ more) → ⊥)
    → IsFirstPart16 (us ++ more) p (rest ++ more)
first_of_more us (Character16 c) rest more (s, e) n = (s, ap (λ xs. xs ++ more) e ∙ append_assoc (encode_utf16 c) rest more)
first_of_more us (Unpaired u) rest more (s, e, m) n = (s, ap (λ xs. xs ++ more) e, n u refl)

apart_here : (p : Part16) (ps : List Part16) (more : List ℕ) → ArePaired (p ∷ ps) → NoPairAcross (p ∷ ps) more
    → (u : ℕ) → p ≡ Unpaired u → IsHighSurrogate u → BeginsLow (flat_map units_of_part16 ps ++ more) → ⊥
apart_here p [] more a n u e h b = n [] u (ap (λ q. q ∷ []) e) h b
apart_here p (q ∷ ps) more a n u e h b =
    let first : IsFirstPart16 (flat_map units_of_part16 (Unpaired u ∷ q ∷ ps)) (Unpaired u) (flat_map units_of_part16 (q ∷ ps)) =
    first_of_parts (Unpaired u) (q ∷ ps) (subst (λ x. ArePaired (x ∷ q ∷ ps)) e a) in
    first.2 h
    (begins_low_prefix (flat_map units_of_part16 (q ∷ ps)) more
    (omega (arith, length-units_of_part16 q, length-append (units_of_part16 q) (flat_map units_of_part16 ps))) b)

-- parts, followed by the parts of further units
pub parts_after : (ps : List Part16) (more : List ℕ) (others : List Part16) → ArePaired ps → NoPairAcross ps more → ArePartsOf16 more others
    → ArePartsOf16 (flat_map units_of_part16 ps ++ more) (ps ++ others)
parts_after [] more others a n m = m
parts_after (p ∷ ps) more others a n m =
    ArePartsOf16-cons (flat_map units_of_part16 (p ∷ ps) ++ more) p (flat_map units_of_part16 ps ++ more) (ps ++ others)
    (first_of_more (flat_map units_of_part16 (p ∷ ps)) p (flat_map units_of_part16 ps) more (first_of_parts p ps a) (apart_here p ps more a n))
    (parts_after ps more others (tail_paired p ps a) (λ prefix u e. n (p ∷ prefix) u (ap (λ qs. p ∷ qs) e)) m)

-- ---- first parts
-- the first n parts are first parts
pub StartsWith16-take : (us : List ℕ) (ps : List Part16) (n : ℕ) → ArePartsOf16 us ps
    → StartsWith16 us (take n ps) (drop (length (flat_map units_of_part16 (take n ps))) us)
StartsWith16-take us ps n a = record {
  others = drop n ps;
  whole = subst (ArePartsOf16 us) (sym (take-append-drop n ps)) a;
  following = rest_parts us ps n a;
}

pub StartsWith16-nil : (us : List ℕ) (all : List Part16) → ArePartsOf16 us all → StartsWith16 us [] us
StartsWith16-nil us all a = record { others = all; whole = a; following = a }

-- first parts, followed by the first parts of the rest
pub StartsWith16-append : (us : List ℕ) (ps : List Part16) (mid : List ℕ) (qs : List Part16) (rest : List ℕ) → StartsWith16 us ps mid → StartsWith16 mid qs rest
    → StartsWith16 us (ps ++ qs) rest
StartsWith16-append us ps mid qs rest s t = record {
  others = t.others;
  whole = subst (ArePartsOf16 us) (ap (λ xs. ps ++ xs) (parts_unique mid s.others (qs ++ t.others) s.following t.whole)
      ∙ sym (append_assoc ps qs t.others)) s.whole;
  following = t.following;
}

-- their units, and the rest, are all
pub StartsWith16-units : (us : List ℕ) (ps : List Part16) (rest : List ℕ) → StartsWith16 us ps rest → flat_map units_of_part16 ps ++ rest ≡ us
StartsWith16-units us ps rest s = ap (λ xs. flat_map units_of_part16 ps ++ xs) (sym s.following.1)
    ∙ sym (flat_map-append units_of_part16 ps s.others) ∙ s.whole.1

-- if nothing is left, they are all the parts
pub StartsWith16-all : (us : List ℕ) (ps : List Part16) (rest : List ℕ) → rest ≡ [] → StartsWith16 us ps rest → ArePartsOf16 us ps
StartsWith16-all us ps rest e s =
    subst (ArePartsOf16 us) (ap (λ xs. ps ++ xs) (none_left s.others (ap length (s.following.1 ∙ e))) ∙ append-nil ps) s.whole

-- what was pending and what is read are the units of the parts and what is pending afterwards
pub StartsWith16-read : (surrogate src : List ℕ) (ps : List Part16) (after : List ℕ) (read : ℕ) → StartsWith16 (surrogate ++ src) ps (after ++ drop read src)
    → flat_map units_of_part16 ps ++ after ≡ surrogate ++ take read src
StartsWith16-read surrogate src ps after read s =
    append_cancel_right (flat_map units_of_part16 ps ++ after) (surrogate ++ take read src) (drop read src)
    (append_assoc (flat_map units_of_part16 ps) after (drop read src) ∙ StartsWith16-units (surrogate ++ src) ps (after ++ drop read src) s
    ∙ ap (λ xs. surrogate ++ xs) (sym (take-append-drop read src)) ∙ sym (append_assoc surrogate (take read src) (drop read src)))

-- ---- with four bytes of space the first part fits
pub first_fits : (parts : List Part16) (room read : ℕ) (out : List ℕ) → 0 < length (flat_map units_of_part16 parts) → 4 ≤ room
    → IsLongestFittingPrefix units_of_part16 utf8_of_part16 parts room read out → 0 < read
first_fits [] room read out s l f = absurd (omega arith)
first_fits (p ∷ parts) room read out s l f = by_count f.count refl
  where
    by_count : (n : ℕ) → f.count ≡ n → 0 < read
    by_count zero e =
        let one : room < length (flat_map utf8_of_part16 (take 1 (p ∷ parts))) =
        subst (λ n. room < length (flat_map utf8_of_part16 (take n (p ∷ parts)))) {x = f.count + 1} {y = 1} (omega (arith, e))
        (f.longest (omega (arith, e))) in
        absurd (omega (arith, one, length-append (utf8_of_part16 p) [], (length-utf8_of_part16 p).2))
    by_count (suc n) e =
        omega (
          arith,
          f.taken ∙ ap (λ k. length (flat_map units_of_part16 (take k (p ∷ parts)))) e,
          length-append (units_of_part16 p)
              (flat_map units_of_part16 (take n parts)),
          length-units_of_part16 p,
        )
