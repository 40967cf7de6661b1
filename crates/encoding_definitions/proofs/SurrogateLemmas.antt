-- Unpaired surrogates: the longest prefix without one, valid code units, in which std finds none, and the units that
-- are left once each is replaced: valid, of the same scalar values, and changed only at the indices of these.
use Rattle.std.proofs.Common.{◌≡◌, ℕ, suc, ◌+◌, ◌-◌, ◌<◌, ◌≤◌, ◌⊎◌, inl, inr, List, [], ◌∷◌, ◌++◌, length, take, drop, get_or, set}
use Rattle.std.proofs.Common.{refl, sym, ap, ◌∙◌, arith, subst, append_assoc, take-add, true, ◌↔◌, false, zero, slice_index}
use Rattle.std.specs.Prelude.{map, IsTrue, is_some, not}
use Rattle.std.specs.Char.{IsScalar}
use Rattle.std.specs.Char.Escape.{encode_utf16}
use Rattle.std.specs.Char.Utf16.{surrogate_pair_char, has_unpaired_surrogate, utf16_lossy_chars}
use Rattle.std.specs.List.{flat_map, list_any}
use Rattle.std.specs.Str.{all_scalars}
use Rattle.std.proofs.lemmas.Bool.{cases_lt, and_from}
use Rattle.std.proofs.lemmas.List.{append-nil, length-append, length-drop, length-take-le, length-set, take_all, take_at, drop_all}
use Rattle.std.proofs.lemmas.List.{drop_more, drop-drop, drop_at, get_or-drop, get_or-take, get_or_past, take-append-drop, set_at}
use Rattle.std.proofs.lemmas.List.Concat.{flat_map-append}
use Rattle.std.proofs.str.Laws.{both}
use Rattle.std.proofs.str.Utf16.{one_unit, two_units, IsPair}
use lib.Utf8.{scalar}
use Rattle.encoding_definitions.specs.Prefixes.{IsLongestPrefix}
use Rattle.encoding_definitions.specs.Surrogates.{IsValidUtf16, AreRepairedUnits, repaired_units, IsUnpairedAt, ReplacesUnpaired}
use Rattle.encoding_definitions.specs.FirstScalar.{IsFirstPart16}
use Rattle.encoding_definitions.specs.Utf16.{AreCodeUnits, Part16, Character16, Unpaired, units_of_part16, ArePaired, ArePartsOf16, scalar_of_part16}
use Rattle.encoding_definitions.proofs.Utf16PrefixLemmas.{Walked, Walked_push}
use Rattle.encoding_definitions.proofs.Utf16LawLemmas.{parts-encode, character_of, characters_are, scalars-encode, scalars_lossy, characters_units}
use Rattle.encoding_definitions.proofs.Utf16Lemmas.{parts_of, parts_of-nil, parts_of-first, parts_are, parts_exist, first_pair}
use Rattle.encoding_definitions.proofs.Utf16Lemmas.{first_unit, first_single, head_part, tail_paired, parts_unique}

-- ---- valid units are the UTF-16 of scalar values
valid_scalars : (cs : List ℕ) → ArePaired (map Character16 cs) → all_scalars cs ≡ true
valid_scalars [] a = refl
valid_scalars (c ∷ cs) a = and_from (scalar c) (all_scalars cs) (head_part (Character16 c) (map Character16 cs) a)
    (valid_scalars cs (tail_paired (Character16 c) (map Character16 cs) a))

pub scalars_of_valid : (us : List ℕ) (v : IsValidUtf16 us) → (all_scalars v.0 ≡ true) × (flat_map encode_utf16 v.0 ≡ us)
scalars_of_valid us (cs, a) = (valid_scalars cs a.0, sym (characters_units cs) ∙ a.1)

pub valid-encode : (cs us : List ℕ) → all_scalars cs ≡ true → flat_map encode_utf16 cs ≡ us → IsValidUtf16 us
valid-encode cs us s e = (cs, subst (λ xs. ArePartsOf16 xs (map Character16 cs)) e (parts-encode cs s))

scalars_push : (cs : List ℕ) (c : ℕ) → all_scalars cs ≡ true → IsScalar c → all_scalars (cs ++ c ∷ []) ≡ true
scalars_push [] c s h = and_from (scalar c) true h refl
scalars_push (d ∷ cs) c s h = let parts = both (scalar d) (all_scalars cs) s in
    and_from (scalar d) (all_scalars (cs ++ c ∷ [])) parts.0 (scalars_push cs c parts.1 h)

-- one more character
valid_push : (us : List ℕ) (c : ℕ) → IsValidUtf16 us → IsScalar c → IsValidUtf16 (us ++ encode_utf16 c)
valid_push us c v s =
    let had = scalars_of_valid us v in
    valid-encode (v.0 ++ c ∷ []) (us ++ encode_utf16 c) (scalars_push v.0 c had.0 s)
    (flat_map-append encode_utf16 v.0 (c ∷ []) ∙ ap (λ xs. xs ++ (encode_utf16 c ++ [])) had.1 ∙ ap (λ xs. us ++ xs) (append-nil (encode_utf16 c)))

valid_character : (us : List ℕ) (at n c : ℕ) (rest : List ℕ) → IsValidUtf16 (take at us) → length (encode_utf16 c) ≡ n
    → IsFirstPart16 (drop at us) (Character16 c) rest → IsValidUtf16 (take (at + n) us)
valid_character us at n c rest v e f =
    let prefix : take n (drop at us) ≡ encode_utf16 c = ap (take n) f.1 ∙ take_at (encode_utf16 c) rest n e in
    subst IsValidUtf16 (ap (λ xs. take at us ++ xs) (sym prefix) ∙ sym (take-add at n us)) (valid_push (take at us) c v f.0)

-- ---- what the units from an index on start with
module _ (us : List ℕ) (at : ℕ) where
  here : at < length us → drop at us ≡ get_or us at 0 ∷ drop (at + 1) us
  here l = drop_more us at 0 l

  unit_here : at < length us → get_or us at 0 < 0x10000 → (get_or us at 0 < 0xD800) ⊎ (0xDFFF < get_or us at 0)
      → IsFirstPart16 (drop at us) (Character16 (get_or us at 0)) (drop (at + 1) us)
  unit_here l w n = subst (λ xs. IsFirstPart16 xs (Character16 (get_or us at 0)) (drop (at + 1) us)) (sym (here l)) (first_unit _ _ w n)

  pair_here : at + 1 < length us → IsPair (get_or us at 0) (get_or us (at + 1) 0)
      → IsFirstPart16 (drop at us) (Character16 (surrogate_pair_char (get_or us at 0) (get_or us (at + 1) 0))) (drop (at + 2) us)
  pair_here l p =
      let c = surrogate_pair_char (get_or us at 0) (get_or us (at + 1) 0) in
      let whole : drop at us ≡ get_or us at 0 ∷ get_or us (at + 1) 0 ∷ drop (at + 2) us =
      here (omega arith)
      ∙ ap (λ xs. get_or us at 0 ∷ xs) (drop_more us (at + 1) 0 l
      ∙ ap (λ n. get_or us (at + 1) 0 ∷ drop n us) {x = at + 1 + 1} {y = at + 2} (omega arith)) in
      subst (λ xs. IsFirstPart16 xs (Character16 c) (drop (at + 2) us)) (sym whole) (first_pair _ _ _ p)

  -- a unit that is in no pair
  next_apart : (at + 1 < length us → IsPair (get_or us at 0) (get_or us (at + 1) 0) → ⊥) → IsPair (get_or us at 0) (get_or (drop (at + 1) us) 0 0) → ⊥
  next_apart n p =
      let next : get_or (drop (at + 1) us) 0 0 ≡ get_or us (at + 1) 0 = get_or-drop (at + 1) us 0 0
      ∙ ap (λ k. get_or us k 0) {x = at + 1 + 0} {y = at + 1} (omega arith) in
      elim (cases_lt (at + 1) (length us)) [
        | inl i ↦ n i (subst (IsPair (get_or us at 0)) next p)
        | inr i ↦ omega (arith, p.2, next, get_or_past us (at + 1) 0 i)
      ]

  pub unpaired_here : at < length us → 0xD800 ≤ get_or us at 0 → get_or us at 0 ≤ 0xDFFF
      → (at + 1 < length us → IsPair (get_or us at 0) (get_or us (at + 1) 0) → ⊥)
      → IsFirstPart16 (drop at us) (Unpaired (get_or us at 0)) (drop (at + 1) us)
  unpaired_here l a b n = subst (λ xs. IsFirstPart16 xs (Unpaired (get_or us at 0)) (drop (at + 1) us)) (sym (here l)) (first_single _ _ a b (next_apart n))

-- ---- a loop over the units
pub valid_more_one : (us : List ℕ) (at : ℕ) → at < length us → get_or us at 0 < 0x10000 → IsValidUtf16 (take at us)
    → (0xD800 ≤ get_or us at 0 → get_or us at 0 ≤ 0xDFFF → ⊥) → IsValidUtf16 (take (at + 1) us)
valid_more_one us at l w v n = valid_character us at 1 (get_or us at 0) _ v (ap length (one_unit _ w))
    (unit_here us at l w (elim (cases_lt (get_or us at 0) 0xD800) [
      | inl a ↦ inl a
      | inr a ↦ elim (cases_lt 0xDFFF (get_or us at 0)) [ inl b ↦ inr b | inr b ↦ absurd (n a b) ]
    ]))

pub valid_more_two : (us : List ℕ) (at : ℕ) → at + 1 < length us → IsValidUtf16 (take at us) → IsPair (get_or us at 0) (get_or us (at + 1) 0)
    → IsValidUtf16 (take (at + 2) us)
valid_more_two us at l v p =
    let c = surrogate_pair_char (get_or us at 0) (get_or us (at + 1) 0) in
    valid_character us at 2 c _ v (ap length (two_units c (omega arith))) (pair_here us at l p)

-- ---- the parts of a prefix and the rest
pub parts_of-characters : (cs rest : List ℕ) → all_scalars cs ≡ true → parts_of (flat_map encode_utf16 cs ++ rest) ≡ map Character16 cs ++ parts_of rest
parts_of-characters [] rest s = refl
parts_of-characters (c ∷ cs) rest s =
    let parts = both (scalar c) (all_scalars cs) s in
    parts_of-first _ (Character16 c) (flat_map encode_utf16 cs ++ rest) (parts.0, append_assoc (encode_utf16 c) (flat_map encode_utf16 cs) rest)
    ∙ ap (λ ps. Character16 c ∷ ps) (parts_of-characters cs rest parts.1)

no_unpaired : (cs ds : List ℕ) (u : ℕ) (more : List Part16) → map Character16 cs ≡ map Character16 ds ++ Unpaired u ∷ more → ⊥
no_unpaired [] [] u more e = cc
no_unpaired (c ∷ cs) [] u more e = cc
no_unpaired [] (d ∷ ds) u more e = cc
no_unpaired (c ∷ cs) (d ∷ ds) u more e = no_unpaired cs ds u more (cc)

-- an unpaired surrogate ends each valid prefix
valid_ends : (xs : List ℕ) (u : ℕ) (rest more : List ℕ) → IsValidUtf16 xs → IsFirstPart16 rest (Unpaired u) more → IsValidUtf16 (xs ++ rest) → ⊥
valid_ends xs u rest more v f w =
    let had = scalars_of_valid xs v in
    let whole : map Character16 w.0 ≡ map Character16 v.0 ++ parts_of rest =
    parts_are (xs ++ rest) (map Character16 w.0) w.1 ∙ ap (λ ys. parts_of (ys ++ rest)) (sym had.1) ∙ parts_of-characters v.0 rest had.0 in
    no_unpaired w.0 v.0 u (parts_of more) (whole ∙ ap (λ ps. map Character16 v.0 ++ ps) (parts_of-first rest (Unpaired u) more f))

pub valid_stop : (us : List ℕ) (at : ℕ) → at ≤ length us → IsValidUtf16 (take at us)
    → (at < length us → (0xD800 ≤ get_or us at 0) × (get_or us at 0 ≤ 0xDFFF) × (at + 1 < length us → IsPair (get_or us at 0) (get_or us (at + 1) 0) → ⊥))
    → IsLongestPrefix IsValidUtf16 us at
valid_stop us at l v stop = record {
  within = l;
  kind = v;
  longest = λ m b w. elim (cases_lt at m) [
    | inl p ↦ absurd (beyond m b w p)
    | inr p ↦ p
  ];
}
  where
    beyond : (m : ℕ) → m ≤ length us → IsValidUtf16 (take m us) → at < m → ⊥
    beyond m b w p =
        let unpaired = stop (omega arith) in
        let n = m - (at + 1) in
        let more : take (m - at) (drop at us) ≡ get_or us at 0 ∷ take n (drop (at + 1) us) =
        ap (take (m - at)) (drop_more us at 0 (omega arith)) ∙ ap (λ k. take k (get_or us at 0 ∷ drop (at + 1) us)) {x = m - at} {y = suc n} (omega arith) in
        let whole : take m us ≡ take at us ++ (get_or us at 0 ∷ take n (drop (at + 1) us)) =
        ap (λ k. take k us) {x = m} {y = at + (m - at)} (omega arith) ∙ take-add at (m - at) us ∙ ap (λ xs. take at us ++ xs) more in
        valid_ends (take at us) (get_or us at 0) _ (take n (drop (at + 1) us)) v (first_single _ _ unpaired.0 unpaired.1 (apart n unpaired.2))
        (subst IsValidUtf16 whole w)
      where
        apart : (n : ℕ) → (at + 1 < length us → IsPair (get_or us at 0) (get_or us (at + 1) 0) → ⊥)
            → IsPair (get_or us at 0) (get_or (take n (drop (at + 1) us)) 0 0) → ⊥
        apart n none p = elim (cases_lt 0 n) [
          | inl h ↦ next_apart us at none (subst (IsPair (get_or us at 0)) (get_or-take n (drop (at + 1) us) 0 0 h) p)
          | inr h ↦ let zero_long : n ≡ 0 = omega arith in
              let past : get_or (take n (drop (at + 1) us)) 0 0 ≡ 0 = ap (λ k. get_or (take k (drop (at + 1) us)) 0 0) zero_long in
              omega (arith, p.2, past)
        ]

-- if a longest valid prefix ends before the units do, an unpaired surrogate follows it
pub unpaired_after : (us : List ℕ) (at : ℕ) → AreCodeUnits us → IsLongestPrefix IsValidUtf16 us at → at < length us
    → IsFirstPart16 (drop at us) (Unpaired (get_or us at 0)) (drop (at + 1) us)
unpaired_after us at a f l = elim (cases_lt (get_or us at 0) 0xD800) [
  | inl p ↦ absurd (one (λ q _. omega arith))
  | inr p ↦ elim (cases_lt 0xDFFF (get_or us at 0)) [
    | inl q ↦ absurd (one (λ _ r. omega arith))
    | inr q ↦ unpaired_here us at l p q (λ i r. omega (arith, f.longest (at + 2) (omega arith) (valid_more_two us at i f.kind r)))
  ]
]
  where
    one : (0xD800 ≤ get_or us at 0 → get_or us at 0 ≤ 0xDFFF → ⊥) → ⊥
    one n = omega (arith, f.longest (at + 1) (omega arith) (valid_more_one us at l (a at) f.kind n))

-- ---- the repair up to an index
-- the parts before the index are repaired, and the rest is unchanged and starts with an unpaired surrogate
pub record Repaired (us buffer : List ℕ) (at : ℕ) (done : List Part16) : Type 0 where
  pub within : at ≤ length us
  pub same_length : length buffer ≡ length us
  pub walked : Walked us at done
  pub prefix : take at buffer ≡ flat_map repaired_units done
  pub rest : drop at buffer ≡ drop at us
  pub stops : at < length us → IsFirstPart16 (drop at us) (Unpaired (get_or us at 0)) (drop (at + 1) us)

pub repaired_characters : (cs : List ℕ) → flat_map repaired_units (map Character16 cs) ≡ flat_map encode_utf16 cs
repaired_characters [] = refl
repaired_characters (c ∷ cs) = ap (λ us. encode_utf16 c ++ us) (repaired_characters cs)

-- the valid prefix after what was repaired
module _ (us buffer : List ℕ) (at n : ℕ) (done : List Part16) (a : AreCodeUnits us) (l : at ≤ length us) (same : length buffer ≡ length us)
    (w : Walked us at done) (prefix : take at buffer ≡ flat_map repaired_units done) (rest : drop at buffer ≡ drop at us)
    (f : IsLongestPrefix IsValidUtf16 (drop at us) n) where
  pub walk_on : Repaired us buffer (at + n) (done ++ map Character16 f.kind.0)
  walk_on =
      let cs = f.kind.0 in
      let had = scalars_of_valid (take n (drop at us)) f.kind in
      let whole : drop at us ≡ flat_map encode_utf16 cs ++ drop (at + n) us =
      sym (take-append-drop n (drop at us)) ∙ ap (λ xs. xs ++ drop n (drop at us)) (sym had.1)
      ∙ ap (λ xs. flat_map encode_utf16 cs ++ xs) (drop-drop n at us) in
      let long : length (flat_map units_of_part16 (map Character16 cs)) ≡ n =
      ap length (characters_units cs ∙ had.1) ∙ length-take-le n (drop at us) f.within in
      record {
        within = omega (arith, f.within, length-drop at us);
        same_length = same;
        walked = record {
          whole = w.whole ∙ ap (λ ps. done ++ ps) (ap parts_of whole ∙ parts_of-characters cs (drop (at + n) us) had.0)
              ∙ sym (append_assoc done (map Character16 cs) (parts_of (drop (at + n) us)));
          taken = ap length (flat_map-append units_of_part16 done (map Character16 cs))
              ∙ length-append (flat_map units_of_part16 done) (flat_map units_of_part16 (map Character16 cs)) ∙ omega (arith, w.taken, long);
        };
        prefix = take-add at n buffer ∙ ap (λ xs. take at buffer ++ take n xs) rest ∙ ap (λ xs. xs ++ take n (drop at us)) prefix
            ∙ ap (λ xs. flat_map repaired_units done ++ xs) (sym had.1 ∙ sym (repaired_characters cs))
            ∙ sym (flat_map-append repaired_units done (map Character16 cs));
        rest = sym (drop-drop n at buffer) ∙ ap (drop n) rest ∙ drop-drop n at us;
        stops = λ i.
            let there = unpaired_after (drop at us) n (λ k. subst (λ u. u < 0x10000) (sym (get_or-drop at us k 0)) (a (at + k))) f
            (omega (arith, i, length-drop at us)) in
            let unit : get_or (drop at us) n 0 ≡ get_or us (at + n) 0 = get_or-drop at us n 0 in
            let following : drop (n + 1) (drop at us) ≡ drop (at + n + 1) us = drop-drop (n + 1) at us
            ∙ ap (λ k. drop k us) {x = at + (n + 1)} {y = at + n + 1} (omega arith) in
            subst (λ xs. IsFirstPart16 (drop (at + n) us) (Unpaired (get_or us (at + n) 0)) xs) following
            (subst (λ u. IsFirstPart16 (drop (at + n) us) (Unpaired u) (drop (n + 1) (drop at us))) unit
            (subst (λ xs. IsFirstPart16 xs (Unpaired (get_or (drop at us) n 0)) (drop (n + 1) (drop at us))) (drop-drop n at us) there));
      }

pub repair_starts : (us : List ℕ) (at : ℕ) → AreCodeUnits us → IsLongestPrefix IsValidUtf16 (drop 0 us) (at - 0) → (done : List Part16) × Repaired us us at done
repair_starts us at a f = (
  _,
  subst (λ k. Repaired us us k (map Character16 f.kind.0)) {x = 0 + (at - 0)} {y = at} (omega arith)
      (walk_on us us 0 (at - 0) [] a (omega arith) refl (record { whole = refl; taken = refl }) refl refl f),
)

-- one unpaired surrogate is replaced, and a valid prefix follows
pub repair_goes_on : (us buffer : List ℕ) (at next : ℕ) (done : List Part16) → AreCodeUnits us → Repaired us buffer at done → at < length us → at + 1 ≤ next
    → IsLongestPrefix IsValidUtf16 (drop (at + 1) (set buffer at 0xFFFD)) (next - (at + 1))
    → (all : List Part16) × Repaired us (set buffer at 0xFFFD) next all
repair_goes_on us buffer at next done a r l h f =
    let n = next - (at + 1) in
    let u = get_or us at 0 in
    let new = set buffer at 0xFFFD in
    let unpaired = r.stops l in
    let split : buffer ≡ take at buffer ++ (u ∷ drop (at + 1) us) = sym (take-append-drop at buffer)
    ∙ ap (λ xs. take at buffer ++ xs) (r.rest ∙ drop_more us at 0 l) in
    let long : length (take at buffer) ≡ at = length-take-le at buffer (omega (arith, r.same_length)) in
    let written : new ≡ take at buffer ++ (0xFFFD ∷ drop (at + 1) us) = ap (λ xs. set xs at 0xFFFD) split
    ∙ set_at (take at buffer) u (drop (at + 1) us) 0xFFFD at long in
    let apart : new ≡ (take at buffer ++ 0xFFFD ∷ []) ++ drop (at + 1) us = written ∙ sym (append_assoc (take at buffer) (0xFFFD ∷ []) (drop (at + 1) us)) in
    let longer : length (take at buffer ++ 0xFFFD ∷ []) ≡ at + 1 = omega (arith, long, length-append (take at buffer) (0xFFFD ∷ [])) in
    let following : drop (at + 1) new ≡ drop (at + 1) us = ap (drop (at + 1)) apart
    ∙ drop_at (take at buffer ++ 0xFFFD ∷ []) (drop (at + 1) us) (at + 1) longer in
    let before : take (at + 1) new ≡ flat_map repaired_units (done ++ Unpaired u ∷ []) =
    ap (take (at + 1)) apart ∙ take_at (take at buffer ++ 0xFFFD ∷ []) (drop (at + 1) us) (at + 1) longer
    ∙ ap (λ xs. xs ++ 0xFFFD ∷ []) r.prefix ∙ sym (flat_map-append repaired_units done (Unpaired u ∷ [])) in
    let walked : Walked us (at + 1) (done ++ Unpaired u ∷ []) = Walked_push us at done (Unpaired u) 1 r.walked refl unpaired in
    let g : IsLongestPrefix IsValidUtf16 (drop (at + 1) us) n = subst (λ xs. IsLongestPrefix IsValidUtf16 xs n) following f in (
      _,
      subst (λ k. Repaired us new k ((done ++ Unpaired u ∷ []) ++ map Character16 g.kind.0)) {x = at + 1 + n} {y = next} (omega arith)
          (walk_on us new (at + 1) n (done ++ Unpaired u ∷ []) a (omega arith) (length-set buffer at 0xFFFD ∙ r.same_length) walked before following g),
    )

pub repair_ends : (us buffer : List ℕ) (at : ℕ) (done : List Part16) → AreCodeUnits us → Repaired us buffer at done → length us ≤ at
    → AreRepairedUnits us buffer
repair_ends us buffer at done a r l =
    let all : parts_of us ≡ done = r.walked.whole ∙ ap (λ xs. done ++ parts_of xs) (drop_all at us l) ∙ ap (λ ps. done ++ ps) parts_of-nil ∙ append-nil done in
    record {
      parts = parts_of us;
      are_parts = parts_exist us a;
      placed = sym (take_all at buffer (omega (arith, r.same_length))) ∙ r.prefix ∙ ap (flat_map repaired_units) (sym all);
    }

pub valid_spelled : (us : List ℕ) → IsValidUtf16 us ↔ ((cs : List ℕ) × IsTrue (all_scalars cs) × (us ≡ flat_map encode_utf16 cs))
valid_spelled us = (
  (λ v. let (scalars, units) = scalars_of_valid us v in (v.0, scalars, sym units)),
  (λ (cs, scalars, units). valid-encode cs us scalars (sym units)),
)

all_characters : (parts : List Part16) → list_any (λ o. not (is_some o)) (map character_of parts) ≡ false → (cs : List ℕ) × (parts ≡ map Character16 cs)
all_characters [] e = ([], refl)
all_characters (Character16 c ∷ parts) e = let (cs, are) = all_characters parts e in (c ∷ cs, ap (λ ps. Character16 c ∷ ps) are)
all_characters (Unpaired u ∷ parts) e = let clash : true ≡ false = e in absurd (cc (clash))

none_unpaired : (cs : List ℕ) → list_any (λ o. not (is_some o)) (map character_of (map Character16 cs)) ≡ false
none_unpaired [] = refl
none_unpaired (c ∷ cs) = none_unpaired cs

pub valid_paired : (us : List ℕ) → AreCodeUnits us → IsValidUtf16 us ↔ (has_unpaired_surrogate us ≡ false)
valid_paired us a = (
  (λ v. ap (list_any (λ o. not (is_some o))) (sym (characters_are us (map Character16 v.0) v.1)) ∙ none_unpaired v.0),
  (λ e.
      let are = parts_exist us a in
      let (cs, same) = all_characters (parts_of us) (ap (list_any (λ o. not (is_some o))) (characters_are us (parts_of us) are) ∙ e) in
      (cs, subst (ArePartsOf16 us) same are)),
)

-- ---- the scalar values
repaired-encode : (ps : List Part16) → flat_map repaired_units ps ≡ flat_map encode_utf16 (map scalar_of_part16 ps)
repaired-encode [] = refl
repaired-encode (Character16 c ∷ ps) = ap (λ us. encode_utf16 c ++ us) (repaired-encode ps)
repaired-encode (Unpaired u ∷ ps) = ap (λ us. 0xFFFD ∷ us) (repaired-encode ps)

scalars_paired : (ps : List Part16) → ArePaired ps → all_scalars (map scalar_of_part16 ps) ≡ true
scalars_paired [] a = refl
scalars_paired (Character16 c ∷ ps) a = and_from (scalar c) (all_scalars (map scalar_of_part16 ps)) (head_part (Character16 c) ps a)
    (scalars_paired ps (tail_paired (Character16 c) ps a))
scalars_paired (Unpaired u ∷ ps) a = and_from (scalar 0xFFFD) (all_scalars (map scalar_of_part16 ps)) refl (scalars_paired ps (tail_paired (Unpaired u) ps a))

-- they are the UTF-16 of the scalar values that are written for the parts
pub repaired_is : (old new : List ℕ) (r : AreRepairedUnits old new)
    → (all_scalars (map scalar_of_part16 r.parts) ≡ true) × (flat_map encode_utf16 (map scalar_of_part16 r.parts) ≡ new)
repaired_is old new r = (scalars_paired r.parts r.are_parts.0, sym (repaired-encode r.parts) ∙ sym r.placed)

pub repaired_valid : (old new : List ℕ) → AreRepairedUnits old new → IsValidUtf16 new
repaired_valid old new r = let all = repaired_is old new r in valid-encode (map scalar_of_part16 r.parts) new all.0 all.1

-- valid units are unchanged
pub valid_stays : (old new : List ℕ) → IsValidUtf16 old → AreRepairedUnits old new → new ≡ old
valid_stays old new v r =
    let same : r.parts ≡ map Character16 v.0 = parts_unique old r.parts (map Character16 v.0) r.are_parts v.1 in
    r.placed ∙ ap (flat_map repaired_units) same ∙ repaired_characters v.0 ∙ (scalars_of_valid old v).1

-- the scalar values of the repaired units are those written for the old ones
pub repaired_counts : (old new : List ℕ) (parts others : List Part16) → AreRepairedUnits old new → ArePartsOf16 old parts → ArePartsOf16 new others
    → map scalar_of_part16 others ≡ map scalar_of_part16 parts
repaired_counts old new parts others r a b =
    let all = repaired_is old new r in
    let same : r.parts ≡ parts = parts_unique old r.parts parts r.are_parts a in
    scalars-encode (map scalar_of_part16 r.parts) others all.0 (subst (λ xs. ArePartsOf16 xs others) (sym all.1) b) ∙ ap (map scalar_of_part16) same

pub repaired_lossy : (old new : List ℕ) (parts : List Part16) → AreRepairedUnits old new → ArePartsOf16 new parts
    → map scalar_of_part16 parts ≡ utf16_lossy_chars old
repaired_lossy old new parts r b = repaired_counts old new r.parts parts r r.are_parts b ∙ scalars_lossy old r.parts r.are_parts

pub repaired_one : (old new other : List ℕ) → AreRepairedUnits old new → AreRepairedUnits old other → new ≡ other
repaired_one old new other r s = r.placed ∙ ap (flat_map repaired_units) (parts_unique old r.parts s.parts r.are_parts s.are_parts) ∙ sym s.placed

pub repaired_exist : (us : List ℕ) → AreCodeUnits us → (new : List ℕ) × AreRepairedUnits us new
repaired_exist us a = (flat_map repaired_units (parts_of us), record { parts = parts_of us; are_parts = parts_exist us a; placed = refl })

pub repaired_twice : (old new again : List ℕ) → AreRepairedUnits old new → AreRepairedUnits new again → again ≡ new
repaired_twice old new again r s = valid_stays new again (repaired_valid old new r) s

-- ---- the indices
length-repaired : (ps : List Part16) → length (flat_map repaired_units ps) ≡ length (flat_map units_of_part16 ps)
length-repaired [] = refl
length-repaired (Character16 c ∷ ps) =
    omega (arith, length-append (encode_utf16 c) (flat_map repaired_units ps), length-append (encode_utf16 c) (flat_map units_of_part16 ps), length-repaired ps)
length-repaired (Unpaired u ∷ ps) = omega (arith, length-repaired ps)

at_end : (xs : List ℕ) (x : ℕ) (ys : List ℕ) (k : ℕ) → length xs ≡ k → slice_index (xs ++ x ∷ ys) k ≡ x
at_end [] x ys zero e = refl
at_end [] x ys (suc k) e = absurd (omega arith)
at_end (y ∷ xs) x ys zero e = absurd (omega arith)
at_end (y ∷ xs) x ys (suc k) e = at_end xs x ys k (omega arith)

after_same : (xs ys zs : List ℕ) (k : ℕ) → ((j : ℕ) → k ≡ length xs + j → slice_index ys j ≡ slice_index zs j)
    → slice_index (xs ++ ys) k ≡ slice_index (xs ++ zs) k
after_same [] ys zs k h = h k (omega arith)
after_same (x ∷ xs) ys zs zero h = refl
after_same (x ∷ xs) ys zs (suc k) h = after_same xs ys zs k (λ j e. h j (omega arith))

others_same : (ps : List Part16) (k : ℕ) → ((before following : List Part16) (u : ℕ) → ps ≡ before ++ Unpaired u ∷ following
    → length (flat_map units_of_part16 before) ≡ k → ⊥)
    → slice_index (flat_map repaired_units ps) k ≡ slice_index (flat_map units_of_part16 ps) k
others_same [] k none = refl
others_same (Unpaired u ∷ ps) zero none = absurd (none [] ps u refl refl)
others_same (Unpaired u ∷ ps) (suc k) none =
    others_same ps k (λ before following v e f. none (Unpaired u ∷ before) following v (ap (λ qs. Unpaired u ∷ qs) e) (omega (arith, f)))
others_same (Character16 c ∷ ps) k none =
    after_same (encode_utf16 c) (flat_map repaired_units ps) (flat_map units_of_part16 ps) k (λ j e. others_same ps j (λ before following v f g.
    none (Character16 c ∷ before) following v (ap (λ qs. Character16 c ∷ qs) f)
    (omega (arith, e, g, length-append (encode_utf16 c) (flat_map units_of_part16 before)))))

unpaired_changed : (old new : List ℕ) (k : ℕ) → AreRepairedUnits old new → IsUnpairedAt old k → slice_index new k ≡ 0xFFFD
unpaired_changed old new k r s =
    let same : r.parts ≡ s.before ++ Unpaired s.unit ∷ s.following =
    parts_unique old r.parts (s.before ++ Unpaired s.unit ∷ s.following) r.are_parts s.are_parts in
    let whole : new ≡ flat_map repaired_units s.before ++ 0xFFFD ∷ flat_map repaired_units s.following =
    r.placed ∙ ap (flat_map repaired_units) same ∙ flat_map-append repaired_units s.before (Unpaired s.unit ∷ s.following) in
    ap (λ xs. slice_index xs k) whole
    ∙ at_end (flat_map repaired_units s.before) 0xFFFD (flat_map repaired_units s.following) k (length-repaired s.before ∙ s.place_is)

other_stays : (old new : List ℕ) (k : ℕ) → AreRepairedUnits old new → (IsUnpairedAt old k → ⊥) → slice_index new k ≡ slice_index old k
other_stays old new k r none =
    ap (λ xs. slice_index xs k) r.placed ∙ others_same r.parts k (λ before following u e f. none (record {
      before = before;
      unit = u;
      following = following;
      are_parts = subst (ArePartsOf16 old) e r.are_parts;
      place_is = f;
    })) ∙ ap (λ xs. slice_index xs k) r.are_parts.1

pub repaired_places : (old new : List ℕ) → AreRepairedUnits old new → ReplacesUnpaired old new
repaired_places old new r = record {
  same_length = ap length r.placed ∙ length-repaired r.parts ∙ ap length r.are_parts.1;
  unpaired = λ k. unpaired_changed old new k r;
  others = λ k. other_stays old new k r;
}
