-- The UTF-8 of a prefix of the parts of units: well-formed, walked part by part, and joined from two prefixes.
use Rattle.std.proofs.Common.{ℕ, zero, suc, List, [], ◌∷◌, length, take, sym, ap, ◌∙◌, arith, subst, IsUtf8, ◌≡◌, ◌+◌}
use Rattle.std.proofs.Common.{◌-◌, ◌*◌, ◌<◌, ◌≤◌, inl, inr, get_or, ◌++◌, drop, encode_utf8, refl, append_assoc}
use Rattle.std.specs.List.{flat_map}
use Rattle.std.proofs.lemmas.List.{take_all, append-nil, length-append, length-drop, take_at, take_rest}
use Rattle.std.proofs.lemmas.List.{drop_all, drop_more, drop-drop, get_or-drop, get_or_past, take-append-drop}
use Rattle.std.proofs.lemmas.Str.{IsUtf8-nil, IsUtf8-append, IsUtf8-encode, length-encode}
use Rattle.encoding_definitions.specs.Utf16.{Part16, Character16, Unpaired, utf8_of_part16, ArePaired, IsUtf8OfLongestPrefix, IsUtf8OfUnits}
use Rattle.encoding_definitions.specs.Utf16.{AreCodeUnits, scalar_of_part16, units_of_part16, ArePartsOf16, IsUtf8OfPrefix}
use Rattle.encoding_definitions.proofs.EncodingLemmas.{high_scalar}
use Rattle.encoding_definitions.proofs.Utf16Lemmas.{first_of_parts, tail_paired, parts_of, parts_of-nil, parts_of-first, parts_exist, rest_parts}
use Rattle.encoding_definitions.proofs.Utf16Lemmas.{none_left, parts_unique, length-utf8_of_all, length-units_of_part16, first_pair, first_single}
use Rattle.std.specs.Char.{len_utf8}
use Rattle.std.specs.Char.Escape.{encode_utf16}
use Rattle.std.specs.Char.Utf16.{surrogate_pair_char}
use Rattle.std.proofs.str.Utf16.{two_units, IsPair}
use Rattle.std.proofs.lemmas.Bool.{cases_lt}
use Rattle.encoding_definitions.specs.Prefixes.{IsLongestFittingPrefix, WritesPrefix}
use Rattle.encoding_definitions.specs.FirstScalar.{IsFirstPart16, IsFirstScalar}
use Rattle.encoding_definitions.proofs.PrefixesLemmas.{IsLongestFittingPrefix-all, IsLongestFittingPrefix-stop, WritesPrefix_after, WritesPrefix-length}
use Rattle.encoding_definitions.proofs.PrefixesLemmas.{IsLongestFittingPrefix-after, flat_map_push, length-prefix, written_is, written_prefix}
use borrow.Rule.Slice.PartMut.{put_mid}

IsUtf8-part : (p : Part16) (ps : List Part16) → ArePaired (p ∷ ps) → IsUtf8 (utf8_of_part16 p)
IsUtf8-part (Character16 c) ps a = IsUtf8-encode c (first_of_parts (Character16 c) ps a).0
IsUtf8-part (Unpaired u) ps a = IsUtf8-encode 0xFFFD (high_scalar 0xFFFD (omega arith) (omega arith))

-- that of the first n parts
IsUtf8-parts : (n : ℕ) (ps : List Part16) → ArePaired ps → IsUtf8 (flat_map utf8_of_part16 (take n ps))
IsUtf8-parts zero ps a = IsUtf8-nil
IsUtf8-parts (suc n) [] a = IsUtf8-nil
IsUtf8-parts (suc n) (p ∷ ps) a = IsUtf8-append (utf8_of_part16 p) (flat_map utf8_of_part16 (take n ps)) (IsUtf8-part p ps a)
    (IsUtf8-parts n ps (tail_paired p ps a))

pub IsUtf8-longest : (us : List ℕ) (room read : ℕ) (out : List ℕ) → IsUtf8OfLongestPrefix us room read out → IsUtf8 out
IsUtf8-longest us room read out f = subst IsUtf8 (sym f.longest.written) (IsUtf8-parts f.longest.count f.parts f.are_parts.0)

pub IsUtf8-units : (us out : List ℕ) → IsUtf8OfUnits us out → IsUtf8 out
IsUtf8-units us out f =
    subst IsUtf8 (ap (flat_map utf8_of_part16) (take_all (length f.parts) f.parts (omega arith)) ∙ sym f.written)
    (IsUtf8-parts (length f.parts) f.parts f.are_parts.0)

-- ---- walking
-- the parts done take the first `read` units, and the rest of the units has the others
pub record Walked (us : List ℕ) (read : ℕ) (done : List Part16) : Type 0 where
  pub whole : parts_of us ≡ done ++ parts_of (drop read us)
  pub taken : length (flat_map units_of_part16 done) ≡ read

pub Walked_push : (us : List ℕ) (read : ℕ) (done : List Part16) (p : Part16) (n : ℕ) → Walked us read done → n ≡ length (units_of_part16 p)
    → IsFirstPart16 (drop read us) p (drop (read + n) us) → Walked us (read + n) (done ++ p ∷ [])
Walked_push us read done p n w e f = record {
  whole = w.whole ∙ ap (λ ps. done ++ ps) (parts_of-first (drop read us) p (drop (read + n) us) f)
      ∙ sym (append_assoc done (p ∷ []) (parts_of (drop (read + n) us)));
  taken = ap length (flat_map_push units_of_part16 done p) ∙ length-append (flat_map units_of_part16 done) (units_of_part16 p) ∙ omega (arith, w.taken);
}

prefix_of : (us : List ℕ) (read : ℕ) (done : List Part16) → Walked us read done → take (length done) (parts_of us) ≡ done
prefix_of us read done w = ap (take (length done)) w.whole ∙ take_at done (parts_of (drop read us)) (length done) refl

-- what was walked is a prefix
pub walked_prefix : (us : List ℕ) (read : ℕ) (done : List Part16) → AreCodeUnits us → Walked us read done
    → IsUtf8OfPrefix us read (flat_map utf8_of_part16 done)
walked_prefix us read done a w = record {
  parts = parts_of us;
  are_parts = parts_exist us a;
  count = length done;
  within = omega (arith, ap length w.whole, length-append done (parts_of (drop read us)));
  taken = sym w.taken ∙ ap (λ ps. length (flat_map units_of_part16 ps)) (sym (prefix_of us read done w));
  written = ap (flat_map utf8_of_part16) (sym (prefix_of us read done w));
}

-- all was walked
pub walked_all : (us : List ℕ) (room read : ℕ) (done : List Part16) → AreCodeUnits us → Walked us read done → length us ≤ read
    → length (flat_map utf8_of_part16 done) ≤ room
    → IsUtf8OfLongestPrefix us room read (flat_map utf8_of_part16 done)
walked_all us room read done a w l h =
    let whole : parts_of us ≡ done = w.whole ∙ ap (λ xs. done ++ parts_of xs) (drop_all read us l) ∙ ap (λ ps. done ++ ps) parts_of-nil ∙ append-nil done in
    record {
      parts = parts_of us;
      are_parts = parts_exist us a;
      longest = subst (λ ps. IsLongestFittingPrefix units_of_part16 utf8_of_part16 ps room read (flat_map utf8_of_part16 done)) (sym whole)
          (subst (λ n. IsLongestFittingPrefix units_of_part16 utf8_of_part16 done room n (flat_map utf8_of_part16 done)) w.taken
          (IsLongestFittingPrefix-all units_of_part16 utf8_of_part16 done room h));
    }

-- the next part doesn't fit
pub walked_stop : (us : List ℕ) (room read : ℕ) (done : List Part16) (p : Part16) (rest : List ℕ) → AreCodeUnits us → Walked us read done
    → IsFirstPart16 (drop read us) p rest
    → length (flat_map utf8_of_part16 done) ≤ room → room < length (flat_map utf8_of_part16 done) + length (utf8_of_part16 p)
    → IsUtf8OfLongestPrefix us room read (flat_map utf8_of_part16 done)
walked_stop us room read done p rest a w f h l =
    let whole : parts_of us ≡ done ++ p ∷ parts_of rest = w.whole ∙ ap (λ ps. done ++ ps) (parts_of-first (drop read us) p rest f) in
    record {
      parts = parts_of us;
      are_parts = parts_exist us a;
      longest = subst (λ ps. IsLongestFittingPrefix units_of_part16 utf8_of_part16 ps room read (flat_map utf8_of_part16 done)) (sym whole)
          (subst (λ n. IsLongestFittingPrefix units_of_part16 utf8_of_part16 (done ++ p ∷ parts_of rest) room n (flat_map utf8_of_part16 done)) w.taken
          (IsLongestFittingPrefix-stop units_of_part16 utf8_of_part16 done p (parts_of rest) room h l));
    }

-- ---- joining
-- the parts after a prefix of the parts
after_prefix : (us : List ℕ) (read : ℕ) (out : List ℕ) (f : IsUtf8OfPrefix us read out) → ArePartsOf16 (drop read us) (drop f.count f.parts)
after_prefix us read out f = subst (λ n. ArePartsOf16 (drop n us) (drop f.count f.parts)) (sym f.taken) (rest_parts us f.parts f.count f.are_parts)

-- a prefix that is all
pub prefix_all : (us : List ℕ) (room read : ℕ) (out : List ℕ) → IsUtf8OfPrefix us read out → read ≡ length us → length out ≤ room
    → IsUtf8OfLongestPrefix us room read out
prefix_all us room read out f e h =
    let rest = after_prefix us read out f in
    let none : drop f.count f.parts ≡ [] = none_left (drop f.count f.parts) (ap length (rest.1 ∙ drop_all read us (omega arith))) in
    let whole : take f.count f.parts ≡ f.parts = sym (append-nil (take f.count f.parts)) ∙ ap (λ ps. take f.count f.parts ++ ps) (sym none)
    ∙ take-append-drop f.count f.parts in
    let taken : length (flat_map units_of_part16 f.parts) ≡ read = ap (λ ps. length (flat_map units_of_part16 ps)) (sym whole) ∙ sym f.taken in
    let written : flat_map utf8_of_part16 f.parts ≡ out = ap (flat_map utf8_of_part16) (sym whole) ∙ sym f.written in
    record {
      parts = f.parts;
      are_parts = f.are_parts;
      longest = subst (λ n. IsLongestFittingPrefix units_of_part16 utf8_of_part16 f.parts room n out) taken
          (subst (λ xs. IsLongestFittingPrefix units_of_part16 utf8_of_part16 f.parts room (length (flat_map units_of_part16 f.parts)) xs) written
          (IsLongestFittingPrefix-all units_of_part16 utf8_of_part16 f.parts room (subst (λ xs. length xs ≤ room) (sym written) h)));
    }

-- a prefix, and the longest fitting prefix of the rest
pub prefix_then : (us : List ℕ) (room read more : ℕ) (out extra : List ℕ) → IsUtf8OfPrefix us read out → length out ≤ room
    → IsUtf8OfLongestPrefix (drop read us) (room - length out) more extra → IsUtf8OfLongestPrefix us room (read + more) (out ++ extra)
prefix_then us room read more out extra f h t =
    let same : t.parts ≡ drop f.count f.parts = parts_unique (drop read us) t.parts (drop f.count f.parts) t.are_parts (after_prefix us read out f) in
    let done : List Part16 = take f.count f.parts in
    let fits : length (flat_map utf8_of_part16 done) ≤ room = subst (λ xs. length xs ≤ room) f.written h in
    let rest : IsLongestFittingPrefix units_of_part16 utf8_of_part16 (drop f.count f.parts) (room - length (flat_map utf8_of_part16 done)) more extra =
    subst (λ xs. IsLongestFittingPrefix units_of_part16 utf8_of_part16 (drop f.count f.parts) (room - length xs) more extra) f.written
    (subst (λ ps. IsLongestFittingPrefix units_of_part16 utf8_of_part16 ps (room - length out) more extra) same t.longest) in
    let joined : IsLongestFittingPrefix units_of_part16 utf8_of_part16 (done ++ drop f.count f.parts) room (length (flat_map units_of_part16 done) + more)
    (flat_map utf8_of_part16 done ++ extra) =
    IsLongestFittingPrefix-after units_of_part16 utf8_of_part16 done (drop f.count f.parts) room more extra fits rest in
    record {
      parts = f.parts;
      are_parts = f.are_parts;
      longest = subst (λ ps. IsLongestFittingPrefix units_of_part16 utf8_of_part16 ps room (read + more) (out ++ extra)) (take-append-drop f.count f.parts)
          (subst (λ n. IsLongestFittingPrefix units_of_part16 utf8_of_part16 (done ++ drop f.count f.parts) room (n + more) (out ++ extra)) (sym f.taken)
          (subst (λ xs. IsLongestFittingPrefix units_of_part16 utf8_of_part16 (done ++ drop f.count f.parts) room
          (length (flat_map units_of_part16 done) + more) (xs ++ extra)) (sym f.written) joined));
    }

-- ---- space for all
-- with three bytes of space for each unit all parts fit
pub all_fit : (ps : List Part16) (room read : ℕ) (out : List ℕ) → 3 * length (flat_map units_of_part16 ps) ≤ room
    → IsLongestFittingPrefix units_of_part16 utf8_of_part16 ps room read out
    → (read ≡ length (flat_map units_of_part16 ps)) × (out ≡ flat_map utf8_of_part16 ps)
all_fit ps room read out h f = elim (cases_lt f.count (length ps)) [
  | inl l ↦ absurd (omega (arith, f.longest l, length-utf8_of_all (take (f.count + 1) ps), length-prefix units_of_part16 ps (f.count + 1)))
  | inr l ↦ let whole : take f.count ps ≡ ps = take_all f.count ps l in
      (f.taken ∙ ap (λ qs. length (flat_map units_of_part16 qs)) whole, f.written ∙ ap (flat_map utf8_of_part16) whole)
]

pub room_for_all : (us : List ℕ) (room read : ℕ) (out : List ℕ) → 3 * length us ≤ room → IsUtf8OfLongestPrefix us room read out
    → (read ≡ length us) × IsUtf8OfUnits us out
room_for_all us room read out h f =
    let long : length (flat_map units_of_part16 f.parts) ≡ length us = ap length f.are_parts.1 in
    let all = all_fit f.parts room read out (omega (arith, h, long)) f.longest in
    (all.0 ∙ long, record { parts = f.parts; are_parts = f.are_parts; written = all.1 })

-- ---- the scalar value of the first part of the units from an index on
module _ (us : List ℕ) (at : ℕ) where
  scalar_here : (p : Part16) (scalar n : ℕ) → scalar_of_part16 p ≡ scalar → length (encode_utf16 scalar) ≡ n → IsFirstPart16 (drop at us) p (drop (at + n) us)
      → IsFirstScalar (drop at us) scalar
  scalar_here p scalar n e l f = record {
    part = p;
    counts = e;
    first = subst (IsFirstPart16 (drop at us) p) (sym (ap (λ k. drop k (drop at us)) l ∙ drop-drop n at us)) f;
  }

  -- a pair
  pub scalar_of_two : at + 1 < length us → IsPair (get_or us at 0) (get_or us (at + 1) 0)
      → IsFirstScalar (drop at us) (surrogate_pair_char (get_or us at 0) (get_or us (at + 1) 0))
  scalar_of_two h p =
      let c : ℕ = surrogate_pair_char (get_or us at 0) (get_or us (at + 1) 0) in
      let whole : drop at us ≡ get_or us at 0 ∷ get_or us (at + 1) 0 ∷ drop (at + 2) us =
      drop_more us at 0 (omega arith)
      ∙ ap (λ xs. get_or us at 0 ∷ xs) (drop_more us (at + 1) 0 h
      ∙ ap (λ n. get_or us (at + 1) 0 ∷ drop n us) {x = at + 1 + 1} {y = at + 2} (omega arith)) in
      scalar_here (Character16 c) c 2 refl (ap length (two_units c (omega arith)))
      (subst (λ xs. IsFirstPart16 xs (Character16 c) (drop (at + 2) us)) (sym whole) (first_pair _ _ _ p))

  -- an unpaired surrogate
  pub scalar_of_unpaired : at < length us → 0xD800 ≤ get_or us at 0 → get_or us at 0 ≤ 0xDFFF
      → (at + 1 < length us → IsPair (get_or us at 0) (get_or us (at + 1) 0) → ⊥) → IsFirstScalar (drop at us) 0xFFFD
  scalar_of_unpaired h l k n =
      let apart : IsPair (get_or us at 0) (get_or (drop (at + 1) us) 0 0) → ⊥ = λ p.
      let next : get_or (drop (at + 1) us) 0 0 ≡ get_or us (at + 1) 0 = get_or-drop (at + 1) us 0 0
      ∙ ap (λ n. get_or us n 0) {x = at + 1 + 0} {y = at + 1} (omega arith) in
      elim (cases_lt (at + 1) (length us)) [
        | inl i ↦ n i (subst (IsPair (get_or us at 0)) next p)
        | inr i ↦ omega (arith, p.2, next, get_or_past us (at + 1) 0 i)
      ] in
      scalar_here (Unpaired (get_or us at 0)) 0xFFFD 1 refl refl
      (subst (λ xs. IsFirstPart16 xs (Unpaired (get_or us at 0)) (drop (at + 1) us)) (sym (drop_more us at 0 h)) (first_single _ _ l k apart))

-- ---- one step of a walk
pub units_counted : (us : List ℕ) (scalar : ℕ) (f : IsFirstScalar us scalar) → length (encode_utf16 scalar) ≡ length (units_of_part16 f.part)
units_counted us scalar f = counted f.part f.counts f.first
  where
    counted : (p : Part16) → scalar_of_part16 p ≡ scalar → IsFirstPart16 us p (drop (length (encode_utf16 scalar)) us)
        → length (encode_utf16 scalar) ≡ length (units_of_part16 p)
    counted (Character16 c) e h = ap (λ n. length (encode_utf16 n)) (sym e)
    counted (Unpaired u) e h = ap (λ n. length (encode_utf16 n)) (sym e)

length_first : (us : List ℕ) (p : Part16) (rest : List ℕ) → IsFirstPart16 us p rest → length us ≡ length (units_of_part16 p) + length rest
length_first us (Character16 c) rest h = ap length h.1 ∙ length-append (encode_utf16 c) rest
length_first us (Unpaired u) rest h = ap length h.1 ∙ omega arith

module _ (us : List ℕ) (read : ℕ) (done : List Part16) (scalar n : ℕ) (w : Walked us read done) (f : IsFirstScalar (drop read us) scalar) where
  pub step_walked : n ≡ length (encode_utf16 scalar) → Walked us (read + n) (done ++ f.part ∷ [])
  step_walked e =
      let rest : drop (length (encode_utf16 scalar)) (drop read us) ≡ drop (read + n) us = ap (λ k. drop k (drop read us)) (sym e) ∙ drop-drop n read us in
      Walked_push us read done f.part n w (e ∙ units_counted (drop read us) scalar f) (subst (IsFirstPart16 (drop read us) f.part) rest f.first)

  pub step_written : flat_map utf8_of_part16 (done ++ f.part ∷ []) ≡ flat_map utf8_of_part16 done ++ encode_utf8 scalar
  step_written = flat_map_push utf8_of_part16 done f.part ∙ ap (λ c. flat_map utf8_of_part16 done ++ encode_utf8 c) f.counts

  pub step_within : n ≡ length (encode_utf16 scalar) → read ≤ length us → read + n ≤ length us
  step_within e h =
      let here = length_first (drop read us) f.part (drop (length (encode_utf16 scalar)) (drop read us)) f.first in
      omega (arith, here, length-units_of_part16 f.part, units_counted (drop read us) scalar f, length-drop read us)

  -- the next character doesn't fit
  pub step_stops : (room : ℕ) → AreCodeUnits us → length (flat_map utf8_of_part16 done) ≤ room → room < length (flat_map utf8_of_part16 done) + len_utf8 scalar
      → IsUtf8OfLongestPrefix us room read (flat_map utf8_of_part16 done)
  step_stops room a h l =
      walked_stop us room read done f.part _ a w f.first h (omega (arith, l, length-encode scalar, ap (λ c. length (encode_utf8 c)) f.counts))

-- a prefix was converted, and then the longest fitting prefix of the rest into the rest of the destination
module _ (us old mid sub : List ℕ) (read written more extra : ℕ)
    (f : IsUtf8OfPrefix us read (take written mid)) (w : WritesPrefix old mid written (take written mid))
    (t : IsUtf8OfLongestPrefix (take (length us - read) (drop read us)) (length (take (length mid - written) (drop written mid))) more (take extra sub))
    (v : WritesPrefix (take (length mid - written) (drop written mid)) sub extra (take extra sub)) where
  both_written : WritesPrefix old (put_mid written (length mid - written) mid sub) (written + extra) (take written mid ++ take extra sub)
  both_written = WritesPrefix_after old mid written (take written mid) sub extra (take extra sub) w v

  pub join_rest : WritesPrefix old (put_mid written (length mid - written) mid sub) (written + extra)
      (take (written + extra) (put_mid written (length mid - written) mid sub))
  join_rest = written_prefix _ _ _ _ both_written

  pub join_longest : IsUtf8OfLongestPrefix us (length old) (read + more) (take (written + extra) (put_mid written (length mid - written) mid sub))
  join_longest =
      let room : length (take (length mid - written) (drop written mid)) ≡ length old - length (take written mid) =
      ap length (take_rest mid written) ∙ length-drop written mid ∙ omega (arith, WritesPrefix-length old mid written _ w, w.count) in
      let rest : IsUtf8OfLongestPrefix (drop read us) (length old - length (take written mid)) more (take extra sub) =
      subst (λ xs. IsUtf8OfLongestPrefix xs (length old - length (take written mid)) more (take extra sub)) (take_rest us read)
      (subst (λ n. IsUtf8OfLongestPrefix (take (length us - read) (drop read us)) n more (take extra sub)) room t) in
      subst (IsUtf8OfLongestPrefix us (length old) (read + more)) (written_is _ _ _ _ both_written)
      (prefix_then us (length old) read more (take written mid) (take extra sub) f (omega (arith, w.count, w.fits)) rest)
