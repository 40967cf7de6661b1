-- A conversion of a prefix of code units, step by step: surrogate pairs, whose UTF-8 is joined from the bytes of their
-- units, and sixteen units without a surrogate.
use Rattle.std.proofs.Common.{◌≡◌, ℕ, zero, suc, ◌+◌, ◌-◌, ◌<◌, ◌≤◌, ◌⊎◌, inl, inr, List, [], ◌∷◌, ◌++◌, length, take, drop, take-append-drop}
use Rattle.std.proofs.Common.{drop-drop, get_or, encode_utf8, sym, ap, ◌∙◌, arith, subst, append_assoc, length-take, get_or-drop, refl}
use Rattle.std.proofs.Common.{map, map-id, length-append, length-drop, replicate, get_or-take, encode_utf8_all, Fits, w8}
use Rattle.std.specs.List.{flat_map}
use Rattle.std.specs.Char.Utf16.{surrogate_pair_char}
use Rattle.std.proofs.lemmas.Bool.{cases_lt}
use Rattle.std.proofs.lemmas.Bool.Decides.{nat_tests}
use Rattle.std.proofs.lemmas.List.{append-nil, length-append, get_or-drop, take_rest, get_or_past, take-take, take_at}
use Rattle.std.proofs.lemmas.List.Concat.{flat_map-append}
use Rattle.std.proofs.str.Laws.{four}
use Rattle.std.proofs.str.Utf16.{one_unit, two_units, IsPair}
use Rattle.encoding_definitions.specs.Utf16.{AreCodeUnits, IsHighSurrogate, IsLowSurrogate, Part16, units_of_part16}
use Rattle.encoding_definitions.specs.Utf16.{utf8_of_part16, ArePartsOf16, IsUtf8OfPrefix, Character16}
use Rattle.encoding_kernels.specs.SurrogatePairs.{IsTwoByteOrHalf, AreTwoByteOrPaired, half_bytes, concatenated, halves_from}
use Rattle.encoding_definitions.proofs.Utf16Lemmas.{parts_of, parts_exist, parts_unique, rest_parts}
use Rattle.encoding_definitions.proofs.Utf16PrefixLemmas.{Walked, walked_prefix}
use borrow.Rule.Slice.PartMut.{put_mid}
use Rattle.encoding_definitions.specs.Prefixes.{WritesPrefix}
use Rattle.encoding_definitions.proofs.PrefixesLemmas.{WritesPrefix-nil, WritesPrefix-same, WritesPrefix_after, flat_map_push, written_is, written_prefix}
use Rattle.encoding_kernels.specs.Utf8Output.{ConvertsPrefix, SpillsBmp, WritesBmp, WritesScalars, AreBmpScalars, Spills, StoresBlock}
use Rattle.encoding_kernels.proofs.OverwriteLemmas.{due_none, due_paid, plain_walked, plain_written, plain_prefix}
use Rattle.encoding_kernels.proofs.OverwriteLemmas.{plain_then, utf8_plain, exact_spills, written_left}
use Rattle.std.proofs.lemmas.Simd.{Each1-from_get_or}
use Rattle.std.proofs.lemmas.Str.{encodes-IsAscii}
use Rattle.std.specs.Simd.Lanes.{put_chunk, Each1}
use Rattle.encoding_kernels.proofs.ScalarsLemmas.{Taken, pair_begins, scalars_walked, taken_push, unit_begins}
use Rattle.encoding_kernels.proofs.ScanLemmas.{Each-take}
use Rattle.encoding_kernels.proofs.MixedLemmas.{zeros_spelled}
use Rattle.encoding_kernels.proofs.VectorLemmas.{put_is}

-- ---- the bytes of a character
short_bytes : (p u : ℕ) → u < 0x800 → encode_utf8 u ≡ half_bytes p u
short_bytes p u l = grind (arith, nat_tests)

pair_bytes : (p u v : ℕ) → IsPair u v → encode_utf8 (surrogate_pair_char u v) ≡ half_bytes p u ++ half_bytes u v
pair_bytes p u v (a, b, d, e) =
    let c = surrogate_pair_char u v in
    grind (arith, nat_tests, four c)

-- ---- character by character
module _ (us : List ℕ) (units : AreCodeUnits us) where
  abbrev half_at : ℕ → List ℕ
  half_at k = half_bytes (get_or us (k - 1) 0) (get_or us k 0)

  -- n more units are whole characters
  pub record Goes (at n : ℕ) (done : List ℕ) : Type 0 where
    pub all : List ℕ
    pub taken : Taken us (at + n) all
    pub written : flat_map encode_utf8 all ≡ flat_map encode_utf8 done ++ halves_from us at n

  goes_none : (at : ℕ) (done : List ℕ) → Taken us at done → Goes at 0 done
  unfolding concatenated
  goes_none at done w = record {
    all = done;
    taken = let place : at ≡ at + 0 = omega arith in subst (λ k. Taken us k done) place w;
    written = sym (append-nil (flat_map encode_utf8 done));
  }

  goes_one : (at n : ℕ) (done mid : List ℕ) → flat_map encode_utf8 mid ≡ flat_map encode_utf8 done ++ half_at at → Goes (at + 1) n mid
      → Goes at (suc n) done
  unfolding concatenated
  goes_one at n done mid e g = record {
    all = g.all;
    taken = let place : at + 1 + n ≡ at + suc n = omega arith in subst (λ k. Taken us k g.all) place g.taken;
    written = g.written ∙ ap (λ xs. xs ++ halves_from us (at + 1) n) e ∙ append_assoc (flat_map encode_utf8 done) (half_at at) (halves_from us (at + 1) n);
  }

  goes_two : (at n : ℕ) (done mid : List ℕ) → flat_map encode_utf8 mid ≡ flat_map encode_utf8 done ++ (half_at at ++ half_at (at + 1))
      → Goes (at + 1 + 1) n mid → Goes at (suc (suc n)) done
  unfolding concatenated
  goes_two at n done mid e g = record {
    all = g.all;
    taken = let place : at + 1 + 1 + n ≡ at + suc (suc n) = omega arith in subst (λ k. Taken us k g.all) place g.taken;
    written = g.written ∙ ap (λ xs. xs ++ halves_from us (at + 1 + 1) n) (e ∙ sym (append_assoc (flat_map encode_utf8 done) (half_at at) (half_at (at + 1))))
        ∙ append_assoc (flat_map encode_utf8 done ++ half_at at) (half_at (at + 1)) (halves_from us (at + 1 + 1) n)
        ∙ append_assoc (flat_map encode_utf8 done) (half_at at) (half_at (at + 1) ++ halves_from us (at + 1 + 1) n);
  }

  kind : (u : ℕ) → IsTwoByteOrHalf u → (u < 0x800) ⊎ (IsHighSurrogate u ⊎ IsLowSurrogate u)
  kind u (inl l) = inl l
  kind u (inr (l, h)) = elim (cases_lt u 0xDC00) [ inl m ↦ inr (inl (l, omega arith)) | inr m ↦ inr (inr (m, h)) ]

  abbrev Ends : ℕ → ℕ → Type 0
  Ends at n = 0 < n → IsHighSurrogate (get_or us (at + n - 1) 0) → ⊥

  -- one unit less
  less : (at n : ℕ) → AreTwoByteOrPaired us at (suc n) → (IsHighSurrogate (get_or us at 0) → ⊥) → AreTwoByteOrPaired us (at + 1) n
  less at n p none = record {
    each = λ k from to. p.each k (omega arith) (omega arith);
    whole = λ l low. none ((p.paired at (omega arith) (omega arith)).1 low);
    paired = λ k from to. p.paired k (omega arith) (omega arith);
  }

  ends_less : (at n m : ℕ) → Ends at (m + n) → Ends (at + m) n
  ends_less at n m e l = let place : at + m + n - 1 ≡ at + (m + n) - 1 = omega arith in
      λ h. e (omega arith) (subst (λ k. IsHighSurrogate (get_or us k 0)) place h)

  after_short : (n at : ℕ) (done : List ℕ) → Taken us at done → at < length us → get_or us at 0 < 0x800
      → ((mid : List ℕ) → Taken us (at + 1) mid → Goes (at + 1) n mid) → Goes at (suc n) done
  after_short n at done w room l more =
      let u = get_or us at 0 in
      let first = unit_begins us at room (units at) (λ a b. absurd (omega arith)) in
      let mid = taken_push us done at u 1 w first (sym (ap length (one_unit u (units at)))) in
      let written = flat_map_push encode_utf8 done u ∙ ap (λ xs. flat_map encode_utf8 done ++ xs) (short_bytes (get_or us (at - 1) 0) u l) in
      goes_one at n done _ written (more _ mid)

  after_pair : (n at : ℕ) (done : List ℕ) → Taken us at done → at + 1 < length us → IsPair (get_or us at 0) (get_or us (at + 1) 0)
      → ((mid : List ℕ) → Taken us (at + 1 + 1) mid → Goes (at + 1 + 1) n mid) → Goes at (suc (suc n)) done
  after_pair n at done w room pair more =
      let u = get_or us at 0 in
      let v = get_or us (at + 1) 0 in
      let c = surrogate_pair_char u v in
      let first = pair_begins us at room pair in
      let mid = taken_push us done at c 2 w first (sym (ap length (two_units c (omega arith)))) in
      let before : at ≡ at + 1 - 1 = omega arith in
      let place : at + 2 ≡ at + 1 + 1 = omega arith in
      let written = flat_map_push encode_utf8 done c ∙ ap (λ xs. flat_map encode_utf8 done ++ xs)
      (pair_bytes (get_or us (at - 1) 0) u v pair ∙ ap (λ k. half_bytes (get_or us (at - 1) 0) u ++ half_bytes (get_or us k 0) v) before) in
      goes_two at n done _ written (more _ (subst (λ k. Taken us k (done ++ c ∷ [])) place mid))

  pub goes : (n at : ℕ) (done : List ℕ) → Taken us at done → at + n ≤ length us → AreTwoByteOrPaired us at n → Ends at n → Goes at n done
  goes zero at done w room p e = goes_none at done w
  goes (suc zero) at done w room p e = elim (kind (get_or us at 0) (p.each at (omega arith) (omega arith))) [
    | inl l ↦ after_short zero at done w (omega arith) l (λ mid m. goes_none (at + 1) mid m)
    | inr (inl h) ↦ let place : at ≡ at + suc zero - 1 = omega arith in absurd (e (omega arith) (subst (λ k. IsHighSurrogate (get_or us k 0)) place h))
    | inr (inr h) ↦ absurd (p.whole (omega arith) h)
  ]
  goes (suc (suc n)) at done w room p e =
      let one : suc (suc n) ≡ 1 + suc n = omega arith in
      let two : suc (suc n) ≡ 1 + 1 + n = omega arith in
      let also : at + (1 + 1) ≡ at + 1 + 1 = omega arith in
      elim (kind (get_or us at 0) (p.each at (omega arith) (omega arith))) [
        | inl l ↦
            let rest = less at (suc n) p (λ h. omega (arith, h.0)) in
            after_short (suc n) at done w (omega arith) l
            (λ mid m. goes (suc n) (at + 1) mid m (omega arith) rest (ends_less at (suc n) 1 (subst (Ends at) one e)))
        | inr (inl h) ↦
            let low : IsLowSurrogate (get_or us (at + 1) 0) = (p.paired at (omega arith) (omega arith)).0 h in
            let rest : AreTwoByteOrPaired us (at + 1 + 1) n = record {
              each = λ k from to. p.each k (omega arith) (omega arith);
              whole = λ l next. omega (arith, ((p.paired (at + 1) (omega arith) (omega arith)).1 next).1, low.0);
              paired = λ k from to. p.paired k (omega arith) (omega arith);
            } in
            after_pair n at done w (omega arith) (h.0, omega (arith, h.1), low.0, omega (arith, low.1))
            (λ mid m. goes n (at + 1 + 1) mid m (omega arith) rest (subst (λ k. Ends k n) also (ends_less at n (1 + 1) (subst (Ends at) two e))))
        | inr (inr h) ↦ absurd (p.whole (omega arith) h)
      ]

  -- all of sixteen, or all but one that is cut
  pub goes_block : (n at : ℕ) (done : List ℕ) → Taken us at done → at + 16 ≤ length us → AreTwoByteOrPaired us at 16
      → ((n ≡ 15) × IsHighSurrogate (get_or us (at + 15) 0)) ⊎ ((n ≡ 16) × (IsHighSurrogate (get_or us (at + 15) 0) → ⊥)) → Goes at n done
  goes_block n at done w room p (inl (e, h)) =
      let prefix : AreTwoByteOrPaired us at 15 = record {
        each = λ k from to. p.each k from (omega arith);
        whole = λ l. p.whole (omega arith);
        paired = λ k from to. p.paired k from (omega arith);
      } in
      let ends : Ends at 15 = λ l last.
      let place : at + 15 - 1 + 1 ≡ at + 15 = omega arith in
      let low = (p.paired (at + 15 - 1) (omega arith) (omega arith)).0 last in
      omega (arith, h.1, (subst (λ k. IsLowSurrogate (get_or us k 0)) place low).0) in
      subst (λ k. Goes at k done) (sym e) (goes 15 at done w (omega arith) prefix ends)
  goes_block n at done w room p (inr (e, h)) =
      let place : at + 16 - 1 ≡ at + 15 = omega arith in
      subst (λ k. Goes at k done) (sym e) (goes 16 at done w room p (λ l last. h (subst (λ k. IsHighSurrogate (get_or us k 0)) place last)))

  -- ---- a prefix of what is left
  pub record GoesOn (read n : ℕ) (done : List Part16) (out : List ℕ) : Type 0 where
    pub all : List Part16
    pub walked : Walked us (read + n) all
    pub written : flat_map utf8_of_part16 done ++ out ≡ flat_map utf8_of_part16 all

  fit_rest : (n : ℕ) → AreCodeUnits (drop n us)
  fit_rest n k = let same = get_or-drop n us k 0 in omega (arith, same, units (n + k))

  pub goes_on : (read n : ℕ) (done : List Part16) (out : List ℕ) → Walked us read done → IsUtf8OfPrefix (take (length us - read) (drop read us)) n out
      → GoesOn read n done out
  goes_on read n done out w yielded =
      let f : IsUtf8OfPrefix (drop read us) n out = subst (λ xs. IsUtf8OfPrefix xs n out) (take_rest us read) yielded in
      let more = take f.count f.parts in
      let same : f.parts ≡ parts_of (drop read us) =
      parts_unique (drop read us) f.parts (parts_of (drop read us)) f.are_parts (parts_exist (drop read us) (fit_rest read)) in
      let following : ArePartsOf16 (drop (read + n) us) (drop f.count f.parts) =
      subst (λ xs. ArePartsOf16 xs (drop f.count f.parts)) (ap (λ k. drop k (drop read us)) (sym f.taken) ∙ drop-drop n read us)
      (rest_parts (drop read us) f.parts f.count f.are_parts) in
      let rest : drop f.count f.parts ≡ parts_of (drop (read + n) us) =
      parts_unique (drop (read + n) us) _ _ following (parts_exist (drop (read + n) us) (fit_rest (read + n))) in
      record {
        all = done ++ more;
        walked = record {
          whole = w.whole ∙ ap (λ ps. done ++ ps) (sym same ∙ sym (take-append-drop f.count f.parts) ∙ ap (λ ps. more ++ ps) rest)
              ∙ sym (append_assoc done more (parts_of (drop (read + n) us)));
          taken = ap length (flat_map-append units_of_part16 done more) ∙ length-append (flat_map units_of_part16 done) (flat_map units_of_part16 more)
              ∙ omega (arith, w.taken, f.taken);
        };
        written = ap (λ xs. flat_map utf8_of_part16 done ++ xs) f.written ∙ sym (flat_map-append utf8_of_part16 done more);
      }

-- the first `read` code units are whole parts, and their UTF-8 is written at the start
pub record Converts (us old new : List ℕ) (read written : ℕ) : Type 0 where
  pub within : read ≤ length us
  pub done : List Part16
  pub walked : Walked us read done
  pub placed : WritesPrefix old new written (flat_map utf8_of_part16 done)

pub converts_none : (us old : List ℕ) → Converts us old old 0 0
converts_none us old = record { within = omega arith; done = []; walked = record { whole = refl; taken = refl }; placed = WritesPrefix-nil old }

module _ (us : List ℕ) (units : AreCodeUnits us) where
  pub converts_prefix : {old new : List ℕ} {read written : ℕ} → Converts us old new read written → IsUtf8OfPrefix us read (take written new)
  converts_prefix {old} {new} {read} {written} w = subst (IsUtf8OfPrefix us read) (written_is _ _ _ _ w.placed) (walked_prefix us read w.done units w.walked)

  pub converts_unchanged : {old new : List ℕ} {read written : ℕ} → Converts us old new read written → WritesPrefix old new written (take written new)
  converts_unchanged w = written_prefix _ _ _ _ w.placed

  pub converts_whole : {old new : List ℕ} {read written : ℕ} → Converts us old new read written → ConvertsPrefix us old new read written
  converts_whole w = record { prefix = converts_prefix w; unchanged_after = converts_unchanged w; within = w.within }

  pub converts_bmp : {old new : List ℕ} {read written : ℕ} → WritesBmp us old new read written → Converts us old new read written
  converts_bmp {old} {new} {read} {written} w =
      record { within = w.within; done = map Character16 (take read us); walked = plain_walked us read units w.within w.plain; placed = plain_written w }

  pub converts_scalars : {old new : List ℕ} {read written : ℕ} → WritesScalars us old new read written → Converts us old new read written
  converts_scalars w =
      let (walked, placed) = scalars_walked w in
      record { within = w.within; done = map Character16 w.scalars; walked = walked; placed = placed }

  -- n more units
  pub converts_more : {old new sub : List ℕ} {read written n m : ℕ} → Converts us old new read written
      → IsUtf8OfPrefix (take (length us - read) (drop read us)) n (take m sub)
      → WritesPrefix (take (length new - written) (drop written new)) sub m (take m sub)
      → n ≤ length (take (length us - read) (drop read us)) → Converts us old (put_mid written (length new - written) new sub) (read + n) (written + m)
  converts_more {old} {new} {sub} {read} {written} {n} {m} w yielded unchanged few =
      let more = goes_on us units read n w.done (take m sub) w.walked yielded in
      record {
        within = let inside : read ≤ length us = w.within in omega (arith, few, length-take (length us - read) (drop read us));
        done = more.all;
        walked = more.walked;
        placed = WritesPrefix-same _ _ _ _ _ _ (WritesPrefix_after _ _ _ _ _ _ _ w.placed unchanged) refl more.written;
      }

  -- n more, none of them a surrogate
  pub converts_more_bmp : {old new sub : List ℕ} {read written n m : ℕ} → Converts us old new read written
      → WritesBmp (take (length us - read) (drop read us)) (take (length new - written) (drop written new)) sub n m
      → Converts us old (put_mid written (length new - written) new sub) (read + n) (written + m)
  converts_more_bmp {old} {new} {sub} {read} {written} {n} {m} w v =
      let rest : AreCodeUnits (drop read us) = λ k. let same = get_or-drop read us k 0 in omega (arith, same, units (read + k)) in
      converts_more w (plain_prefix (subst AreCodeUnits (sym (take_rest us read)) rest) v) (written_prefix _ _ _ _ (plain_written v)) v.within

  -- the same of units that are what is left
  pub converts_more_from : {rest old new sub : List ℕ} {read written n m : ℕ} → rest ≡ take (length us - read) (drop read us)
      → Converts us old new read written → ConvertsPrefix rest (take (length new - written) (drop written new)) sub n m
      → Converts us old (put_mid written (length new - written) new sub) (read + n) (written + m)
  converts_more_from {rest} {old} {new} {sub} {read} {written} {n} {m} e w v =
      let whole = subst (λ xs. ConvertsPrefix xs (take (length new - written) (drop written new)) sub n m) e v in
      converts_more w whole.prefix whole.unchanged_after whole.within

  pub converts_more_bmp_from : {rest old new sub : List ℕ} {read written n m : ℕ} → rest ≡ take (length us - read) (drop read us)
      → Converts us old new read written → WritesBmp rest (take (length new - written) (drop written new)) sub n m
      → Converts us old (put_mid written (length new - written) new sub) (read + n) (written + m)
  converts_more_bmp_from {rest} {old} {new} {sub} {read} {written} {n} {m} e w v =
      converts_more_bmp w (subst (λ xs. WritesBmp xs (take (length new - written) (drop written new)) sub n m) e v)

  -- nothing is spilled
  pub converts_due : {old new : List ℕ} {read written : ℕ} → SpillsBmp us old new read written 0 → Converts us old new read written
  converts_due {old} {new} {read} {written} p = converts_bmp (record { within = p.within; plain = p.plain; written = due_none us old new read written p })

  -- what was spilled is overwritten
  pub converts_paid : {old new sub : List ℕ} {read written s n m : ℕ} → SpillsBmp us old new read written s → s ≤ m
      → IsUtf8OfPrefix (take (length us - read) (drop read us)) n (take m sub)
      → WritesPrefix (take (length new - written) (drop written new)) sub m (take m sub)
      → n ≤ length (take (length us - read) (drop read us)) → Converts us old (put_mid written (length new - written) new sub) (read + n) (written + m)
  converts_paid {old} {new} {sub} {read} {written} {s} {n} {m} p due yielded unchanged few =
      let more = goes_on us units read n (map Character16 (take read us)) (take m sub) (plain_walked us read units p.within p.plain) yielded in
      record {
        within = let inside : read ≤ length us = p.within in omega (arith, few, length-take (length us - read) (drop read us));
        done = more.all;
        walked = more.walked;
        placed = WritesPrefix-same _ _ _ _ _ _ (due_paid us old new sub (take m sub) read written s m p due unchanged) refl
            (ap (λ xs. xs ++ take m sub) (sym (utf8_plain (take read us))) ∙ more.written);
      }

module _ (us : List ℕ) (units : AreCodeUnits us) where
  -- n more units, without an unpaired surrogate
  pub converts_more_scalars : {old new sub : List ℕ} {read written n m : ℕ} → Converts us old new read written
      → WritesScalars (take (length us - read) (drop read us)) (take (length new - written) (drop written new)) sub n m
      → Converts us old (put_mid written (length new - written) new sub) (read + n) (written + m)
  converts_more_scalars {old} {new} {sub} {read} {written} {n} {m} w v =
      let rest : AreCodeUnits (drop read us) = λ k. let same = get_or-drop read us k 0 in omega (arith, same, units (read + k)) in
      let left : AreCodeUnits (take (length us - read) (drop read us)) = subst AreCodeUnits (sym (take_rest us read)) rest in
      let whole = converts_whole _ left (converts_scalars _ left v) in
      converts_more us units w whole.prefix whole.unchanged_after whole.within

  -- the same of units that are what is left
  pub converts_paid_from : {rest old new sub : List ℕ} {read written s n m : ℕ} → rest ≡ take (length us - read) (drop read us)
      → SpillsBmp us old new read written s → s ≤ m → ConvertsPrefix rest (take (length new - written) (drop written new)) sub n m
      → Converts us old (put_mid written (length new - written) new sub) (read + n) (written + m)
  converts_paid_from {rest} {old} {new} {sub} {read} {written} {s} {n} {m} e p due v =
      let whole = subst (λ xs. ConvertsPrefix xs (take (length new - written) (drop written new)) sub n m) e v in
      converts_paid us units p due whole.prefix whole.unchanged_after whole.within

module _ (us old : List ℕ) (at : ℕ) (long : length us ≡ 16) where
  plain_all : ((k : ℕ) → k < 16 → (0xD800 ≤ get_or us k 0) × (get_or us k 0 ≤ 0xDFFF) → ⊥) → AreBmpScalars us
  plain_all h k r = elim (cases_lt k 16) [ inl l ↦ h k l r | inr l ↦ omega (arith, r.0, get_or_past us k 0 (omega (arith, long))) ]

  pub mixed_block : {new : List ℕ} {n s : ℕ} → ((k : ℕ) → k < 16 → (0xD800 ≤ get_or us k 0) × (get_or us k 0 ≤ 0xDFFF) → ⊥) → (16 ≤ n) × (n ≤ 48) → s ≤ 16
      → Spills old new at n s (encode_utf8_all us) → StoresBlock us old new at n s
  mixed_block h bounds few stored = record { plain = plain_all h; bounds = bounds; few = few; stored = stored }

  pub ascii_fits : ((k : ℕ) → k < 16 → get_or us k 0 < 0x80) → Each1 (Fits w8) us
  ascii_fits h = Each1-from_get_or (Fits w8) us 0 (λ k l. record { fits = omega (arith, h k (omega (arith, long))) })

  pub ascii_block : ((k : ℕ) → k < 16 → get_or us k 0 < 0x80) → at + 16 ≤ length old → StoresBlock us old (put_chunk at old (map (λ x. x) us)) at 16 0
  ascii_block h room =
      let ascii = encodes-IsAscii us (λ k. elim (cases_lt k 16) [ inl l ↦ h k l | inr l ↦ omega (arith, get_or_past us k 0 (omega (arith, long))) ]) in
      let put : put_chunk at old (map (λ x. x) us) ≡ take at old ++ (encode_utf8_all us ++ drop (at + 16) old) = ap (put_chunk at old) (map-id us)
      ∙ put_is at 16 old us long room ∙ ap (λ xs. take at old ++ (xs ++ drop (at + 16) old)) (sym ascii) in
      mixed_block (λ k l r. omega (arith, h k l, r.0)) (omega arith, omega arith) (omega arith)
      (exact_spills old _ (encode_utf8_all us) at 16 (ap length ascii ∙ long) room put)

-- nothing is spilled, and none is a surrogate
pub bmp_of_due : {us old new : List ℕ} {read written : ℕ} → SpillsBmp us old new read written 0 → WritesBmp us old new read written
bmp_of_due {us} {old} {new} {read} {written} p = record { within = p.within; plain = p.plain; written = due_none us old new read written p }

-- n more units, none of them a surrogate
pub bmp_more : {us rest old new sub : List ℕ} {read written n m : ℕ} → rest ≡ take (length us - read) (drop read us) → WritesBmp us old new read written
    → WritesBmp rest (take (length new - written) (drop written new)) sub n m
    → WritesBmp us old (put_mid written (length new - written) new sub) (read + n) (written + m)
bmp_more {us} {rest} {old} {new} {sub} {read} {written} {n} {m} e w v =
    let next = subst (λ xs. WritesBmp xs (take (length new - written) (drop written new)) sub n m) e v in
    record {
      within = omega (arith, w.within, next.within, length-take (length us - read) (drop read us));
      plain = plain_then us read n w.plain (subst (λ xs. AreBmpScalars (take n xs)) (take_rest us read) next.plain);
      written = written_left us read n w.written next.written;
    }

-- nothing is converted
pub writes_none : (us old : List ℕ) → WritesBmp us old old 0 0
writes_none us old = record { within = omega arith; plain = λ k r. omega (arith, r.0); written = WritesPrefix-nil old }

-- the first of sixteen units, stored with zeros after them
module _ (us units lanes : List ℕ) (first : ℕ) (few : first ≤ 16) (within : first ≤ length us) (start : take (length (take 16 us)) units ≡ take 16 us)
    (are : lanes ≡ take first units ++ drop first (replicate 16 0)) where
  same_first : take first units ≡ take first us
  same_first =
      sym (take-take first (length (take 16 us)) units (omega (arith, length-take 16 us))) ∙ ap (take first) start ∙ take-take first 16 us few

  pub first_units_plain : ((k : ℕ) → k < first → (0xD800 ≤ get_or units k 0) × (get_or units k 0 ≤ 0xDFFF) → ⊥) → AreBmpScalars (take first us)
  first_units_plain h = Each-take (λ u. (0xD800 ≤ u) × (u ≤ 0xDFFF) → ⊥) (λ r. omega (arith, r.0)) us first (λ k l r.
      let same : get_or us k 0 ≡ get_or units k 0 = sym (get_or-take first us k 0 l) ∙ ap (λ xs. get_or xs k 0) (sym same_first)
      ∙ get_or-take first units k 0 l in
      h k l (omega (arith, same, r.0), omega (arith, same, r.1)))

  whole : encode_utf8_all lanes ≡ encode_utf8_all (take first us) ++ drop first (replicate 16 0)
  whole = ap encode_utf8_all are ∙ zeros_spelled first units ∙ ap (λ xs. encode_utf8_all xs ++ drop first (replicate 16 0)) same_first

  -- the UTF-8 of the zeros left out
  pub first_units_written : (count : ℕ) → count + (16 - first) ≡ length (encode_utf8_all lanes)
      → (count ≡ length (encode_utf8_all (take first us))) × (take count (encode_utf8_all lanes) ≡ encode_utf8_all (take first us))
  first_units_written count is =
      let zeros : length (drop first (replicate 16 0)) ≡ 16 - first = length-drop {A = ℕ} first (replicate 16 0) in
      let long : length (encode_utf8_all (take first us)) ≡ count =
      omega (arith, is, zeros, ap length whole, length-append (encode_utf8_all (take first us)) (drop first (replicate 16 0))) in
      (sym long, ap (take count) whole ∙ take_at (encode_utf8_all (take first us)) (drop first (replicate 16 0)) count long)

  -- the same of bytes that begin with the UTF-8 of all
  pub first_units_bytes : (old bytes : List ℕ) (stored : ℕ) → Spills old bytes 0 stored 16 (encode_utf8_all lanes) → 16 ≤ stored
      → (stored - (16 - first) ≡ length (encode_utf8_all (take first us))) × (take (stored - (16 - first)) bytes ≡ encode_utf8_all (take first us))
  first_units_bytes old bytes stored spills bound =
      let n = stored - (16 - first) in
      let none : 0 + stored ≡ stored = omega arith in
      let part = first_units_written n (omega (arith, spills.counted)) in
      (part.0, sym (take-take n stored bytes (omega arith)) ∙ ap (λ k. take n (take k bytes)) (sym none) ∙ ap (take n) spills.prefix ∙ part.1)
