-- What is written of valid code units: the characters that fit, in UTF-8 or in UTF-16.
use Rattle.std.proofs.Common.{◌≡◌, ℕ, zero, suc, ◌+◌, ◌-◌, ◌*◌, ◌<◌, ◌≤◌, inl, inr, true, min, List, [], ◌∷◌, ◌++◌, length, take, drop, map, get_or}
use Rattle.std.proofs.Common.{encode_utf8, refl, sym, ap, ◌∙◌, arith, subst, append_assoc}
use Rattle.std.specs.Char.{IsScalar}
use Rattle.std.specs.Char.Escape.{encode_utf16}
use Rattle.std.specs.List.{flat_map}
use Rattle.std.specs.Str.{all_scalars}
use Rattle.std.proofs.lemmas.Bool.{and_parts, cases_lt}
use Rattle.std.proofs.lemmas.List.{append-nil, length-append, length-take, length-take-le, take_at, drop_at, length-drop, length-map, take-append-drop}
use Rattle.std.proofs.lemmas.List.{take-take, get_or-drop, get_or-take, get_or_past}
use Rattle.std.proofs.lemmas.List.Concat.{flat_map-append}
use Rattle.std.proofs.str.Utf16.{one_unit, IsPair}
use Rattle.encoding_text.specs.Prefixes.{WritesPrefix, IsLongestPrefix}
use Rattle.encoding_text.specs.Surrogates.{IsValidUtf16}
use Rattle.encoding_text.specs.Utf16.{AreCodeUnits, Part16, Character16, units_of_part16, utf8_of_part16, IsUtf8OfLongestPrefix}
use Rattle.encoding_text.proofs.SurrogateLemmas.{scalars_of_valid, valid-encode, valid_stop}
use Rattle.encoding_definitions.proofs.Utf16Lemmas.{parts_unique, halves}
use Rattle.encoding_text.specs.Utf16Bytes.{utf16_bytes}
use Rattle.encoding_text.specs.declared.utf_16.ByteOrder.{ByteOrder}
use Rattle.encoding_text.proofs.PrefixesLemmas.{written_is}
use Rattle.encoding_streams.specs.Utf16Steps.{Advances, AreValidUnitsOf, WritesUnits}
use Rattle.encoding_streams.proofs.Utf16ByteLemmas.{same_units}
use Rattle.encoding_streams.proofs.Utf16StepLemmas.{scalars_split, block_advances}

-- ---- in UTF-8
-- of parts that are characters
parts_of_scalars : {B : Type 0} (f : Part16 → List B) (n : ℕ) (cs : List ℕ)
    → flat_map f (take n (map Character16 cs)) ≡ flat_map (λ c. f (Character16 c)) (take n cs)
parts_of_scalars f zero cs = refl
parts_of_scalars f (suc n) [] = refl
parts_of_scalars f (suc n) (c ∷ cs) = ap (λ xs. f (Character16 c) ++ xs) (parts_of_scalars f n cs)

next_of : (cs rest : List ℕ) (c n : ℕ) → drop n cs ≡ c ∷ rest → n ≤ length cs → take (n + 1) cs ≡ take n cs ++ c ∷ []
next_of cs rest c n e l =
    ap (take (n + 1)) (sym (take-append-drop n cs) ∙ ap (λ xs. take n cs ++ xs) e ∙ sym (append_assoc (take n cs) (c ∷ []) rest))
    ∙ take_at (take n cs ++ c ∷ []) rest (n + 1) (omega (arith, length-append (take n cs) (c ∷ []), length-take-le n cs l))

pub writes_utf8 : (units old new : List ℕ) (taken written : ℕ) → IsValidUtf16 units → IsUtf8OfLongestPrefix units (length old) taken (take written new)
    → WritesPrefix old new written (take written new) → WritesUnits encode_utf8 units old new taken written
writes_utf8 units old new taken written (cs, parts) f w =
    let had = scalars_of_valid units (cs, parts) in
    let same : f.parts ≡ map Character16 cs = parts_unique units f.parts (map Character16 cs) f.are_parts parts in
    let n = f.longest.count in
    let within : n ≤ length cs = omega (arith, f.longest.within, ap length same, length-map cs Character16) in
    let out : take written new ≡ flat_map encode_utf8 (take n cs) =
    f.longest.written ∙ ap (λ ps. flat_map utf8_of_part16 (take n ps)) same ∙ parts_of_scalars utf8_of_part16 n cs in
    let count : taken ≡ length (flat_map encode_utf16 (take n cs)) =
    f.longest.taken ∙ ap (λ ps. length (flat_map units_of_part16 (take n ps))) same ∙ ap length (parts_of_scalars units_of_part16 n cs) in
    record {
      done = take n cs;
      more = drop n cs;
      are_scalars = ap all_scalars (take-append-drop n cs) ∙ had.0;
      units_are = sym had.1 ∙ ap (flat_map encode_utf16) (sym (take-append-drop n cs));
      taken_is = count;
      writes = subst (λ xs. WritesPrefix old new written xs) out w;
      stops = λ c rest e.
          let more : n < length f.parts = omega (arith, ap length same, length-map cs Character16, ap length e, length-drop n cs) in
          let less : length old < length (flat_map utf8_of_part16 (take (n + 1) f.parts)) = f.longest.longest more in
          let next : length (flat_map utf8_of_part16 (take (n + 1) f.parts)) ≡ length (flat_map encode_utf8 (take n cs)) + length (encode_utf8 c) =
          ap (λ ps. length (flat_map utf8_of_part16 (take (n + 1) ps))) same ∙ ap length (parts_of_scalars utf8_of_part16 (n + 1) cs)
          ∙ ap (λ xs. length (flat_map encode_utf8 xs)) (next_of cs rest c n e within)
          ∙ ap length (flat_map-append encode_utf8 (take n cs) (c ∷ []) ∙ ap (λ xs. flat_map encode_utf8 (take n cs) ++ xs) (append-nil (encode_utf8 c)))
          ∙ length-append (flat_map encode_utf8 (take n cs)) (encode_utf8 c) in
          omega (arith, less, next, w.count, ap length out);
    }

-- ---- in UTF-16
-- the first characters of at most n code units
record Fits (cs : List ℕ) (n : ℕ) : Type 0 where
  pub done : List ℕ
  pub more : List ℕ
  pub whole : done ++ more ≡ cs
  pub within : length (flat_map encode_utf16 done) ≤ n
  pub stops : (c : ℕ) (rest : List ℕ) → more ≡ c ∷ rest → n < length (flat_map encode_utf16 done) + length (encode_utf16 c)

fitting : (cs : List ℕ) (n : ℕ) → Fits cs n
fitting [] n = record { done = []; more = []; whole = refl; within = omega arith; stops = λ c rest e. cc }
fitting (d ∷ cs) n = elim (cases_lt n (length (encode_utf16 d))) [
  | inl h ↦ record {
    done = [];
    more = d ∷ cs;
    whole = refl;
    within = omega arith;
    stops = λ c rest e. let same : d ≡ c = cc in omega (arith, h, ap (λ x. length (encode_utf16 x)) same);
  }
  | inr h ↦
      let f = fitting cs (n - length (encode_utf16 d)) in
      let long = length-append (encode_utf16 d) (flat_map encode_utf16 f.done) in
      record {
        done = d ∷ f.done;
        more = f.more;
        whole = ap (λ xs. d ∷ xs) f.whole;
        within = omega (arith, f.within, long, h);
        stops = λ c rest e. omega (arith, f.stops c rest e, long, h);
      }
]

pub writes_utf16 : (units old new : List ℕ) (room count : ℕ) → IsValidUtf16 units → room ≡ min (length units) (length old)
    → IsLongestPrefix IsValidUtf16 (take room units) count
    → WritesPrefix old new count (take count units) → WritesUnits encode_utf16 units old new count count
writes_utf16 units old new room count valid e f w =
    let had = scalars_of_valid units valid in
    let fit = fitting valid.0 room in
    let at = length (flat_map encode_utf16 fit.done) in
    let split : flat_map encode_utf16 fit.done ++ flat_map encode_utf16 fit.more ≡ units =
    sym (flat_map-append encode_utf16 fit.done fit.more) ∙ ap (flat_map encode_utf16) fit.whole ∙ had.1 in
    let prefix : take at units ≡ flat_map encode_utf16 fit.done =
    ap (take at) (sym split) ∙ take_at (flat_map encode_utf16 fit.done) (flat_map encode_utf16 fit.more) at refl in
    let scalars = scalars_split fit.done fit.more (ap all_scalars fit.whole ∙ had.0) in
    let size : length (take room units) ≡ room = length-take-le room units (omega (arith, e)) in
    let here : take at (take room units) ≡ flat_map encode_utf16 fit.done = take-take at room units fit.within ∙ prefix in
    let longest : IsLongestPrefix IsValidUtf16 (take room units) at =
    valid_stop (take room units) at (omega (arith, fit.within, size))
    (subst IsValidUtf16 (sym here) (valid-encode fit.done (flat_map encode_utf16 fit.done) scalars.0 refl))
    (λ l. stop fit.done fit.more fit.more refl scalars.1 fit.stops fit.within split e size l) in
    let same : count ≡ at =
    omega
    (arith, f.longest at longest.within longest.kind, longest.longest count f.within f.kind) in
    record {
      done = fit.done;
      more = fit.more;
      are_scalars = ap all_scalars fit.whole ∙ had.0;
      units_are = sym had.1 ∙ ap (flat_map encode_utf16) (sym fit.whole);
      taken_is = same;
      writes = subst (λ xs. WritesPrefix old new count xs) (ap (λ n. take n units) same ∙ prefix) w;
      stops = λ c rest g.
          let more : length units ≡ at + length (flat_map encode_utf16 fit.more) = sym (ap length split)
          ∙ length-append (flat_map encode_utf16 fit.done) (flat_map encode_utf16 fit.more) in
          let long = ap (λ xs. length (flat_map encode_utf16 xs)) g in
          omega (arith, fit.stops c rest g, same, e, more, long, length-append (encode_utf16 c) (flat_map encode_utf16 rest));
    }
  where
    -- a pair that the units cut: its high surrogate comes last
    stop : (done x more : List ℕ) → x ≡ more → all_scalars x ≡ true
        → ((c : ℕ) (rest : List ℕ) → x ≡ c ∷ rest → room < length (flat_map encode_utf16 done) + length (encode_utf16 c))
        → length (flat_map encode_utf16 done) ≤ room → flat_map encode_utf16 done ++ flat_map encode_utf16 x ≡ units → room ≡ min (length units) (length old)
        → length (take room units) ≡ room → length (flat_map encode_utf16 done) < length (take room units)
        → (0xD800 ≤ get_or (take room units) (length (flat_map encode_utf16 done)) 0)
        × (get_or (take room units) (length (flat_map encode_utf16 done)) 0 ≤ 0xDFFF)
        × (length (flat_map encode_utf16 done) + 1 < length (take room units)
        → IsPair (get_or (take room units) (length (flat_map encode_utf16 done)) 0) (get_or (take room units) (length (flat_map encode_utf16 done) + 1) 0) → ⊥)
    stop done x [] f s stops within split e size l =
        absurd
        (omega (
          arith,
          l,
          size,
          e,
          ap length split,
          length-append (flat_map encode_utf16 done) (flat_map encode_utf16 x),
          ap
              (λ xs. length (flat_map encode_utf16 xs)) f,
        ))
    stop done x (c ∷ rest) f s stops within split e size l =
        let at = length (flat_map encode_utf16 done) in
        let is_scalar : IsScalar c = (and_parts _ _ (subst (λ xs. all_scalars xs ≡ true) f s)).0 in
        elim (cases_lt c 0x10000) [
          | inl small ↦ absurd (omega (arith, stops c rest f, ap length (one_unit c small), l, size))
          | inr large ↦
              let two = halves c large is_scalar in
              let following : drop at units ≡ two.0 ∷ two.1 ∷ flat_map encode_utf16 rest =
              ap (drop at) (sym split) ∙ drop_at (flat_map encode_utf16 done) (flat_map encode_utf16 x) at refl ∙ ap (flat_map encode_utf16) f
              ∙ ap (λ xs. xs ++ flat_map encode_utf16 rest) two.3 in
              let unit : get_or (take room units) at 0 ≡ two.0 =
              get_or-take room units at 0 (omega (arith, l, size)) ∙ ap (λ k. get_or units k 0) {x = at} {y = at + 0} (omega arith)
              ∙ sym (get_or-drop at units 0 0)
              ∙ ap (λ xs. get_or xs 0 0) following in
              (omega (arith, unit, two.2.0), omega (arith, unit, two.2.1), λ k _. omega (arith, k, size, stops c rest f, ap length two.3))
        ]

-- all of them fit
pub writes_all : (units old new : List ℕ) → IsValidUtf16 units → WritesPrefix old new (length units) units
    → WritesUnits encode_utf16 units old new (length units) (length units)
writes_all units old new valid w =
    let had = scalars_of_valid units valid in
    record {
      done = valid.0;
      more = [];
      are_scalars = ap all_scalars (append-nil valid.0) ∙ had.0;
      units_are = sym had.1 ∙ ap (flat_map encode_utf16) (sym (append-nil valid.0));
      taken_is = ap length (sym had.1);
      writes = subst (λ xs. WritesPrefix old new (length units) xs) (sym had.1) w;
      stops = λ c rest e. cc;
    }

-- ---- a piece that was tested first
-- the first of them are code units too
pub taken_fit : (us : List ℕ) (n : ℕ) → AreCodeUnits us → AreCodeUnits (take n us)
taken_fit us n fit k = elim (cases_lt k n) [
  | inl l ↦ omega (arith, get_or-take n us k 0 l, fit k)
  | inr l ↦ omega (arith, get_or_past (take n us) k 0 (omega (arith, l, length-take n us)))
]

-- code units without an unpaired surrogate are read and written
pub valid_advance : (order : ByteOrder) (src us vs old new : List ℕ) (read count : ℕ) → read ≡ 2 * count → AreValidUnitsOf order (take read src) us
    → utf16_bytes order vs ≡ take read src → AreCodeUnits new → WritesPrefix old new count vs
    → Advances order encode_utf16 [] src old new read count []
valid_advance order src us vs old new read count twice is spelled fit w =
    let placed : take count new ≡ vs = sym (written_is old new count vs w) in
    let units : AreCodeUnits vs = subst AreCodeUnits placed (taken_fit new count fit) in
    let same : vs ≡ us = same_units order vs us units is.fit (spelled ∙ sym is.spelled) in
    let long : count ≡ length us = w.count ∙ ap length same in
    let written = writes_all us old new is.valid (subst (λ n. WritesPrefix old new n us) long (subst (λ xs. WritesPrefix old new count xs) same w)) in
    let bytes : read ≡ 2 * length us = twice ∙ ap (λ n. 2 * n) long in
    let block = block_advances order encode_utf16 src us old new (length us) (length us) written (is.spelled ∙ ap (λ n. take n src) bytes) in
    subst (λ n. Advances order encode_utf16 [] src old new n count []) (sym bytes)
    (subst (λ n. Advances order encode_utf16 [] src old new (2 * length us) n []) (sym long) block)
