-- The number of unpaired surrogates that a call of the encoder replaced: in the pending surrogate and the units that it
-- read.
use Rattle.std.proofs.Common.{◌≡◌, ℕ, zero, suc, ◌+◌, ◌-◌, ◌<◌, ◌≤◌, inl, Bool, List, [], ◌∷◌, ◌++◌}
use Rattle.std.proofs.Common.{length, take, drop, slice_index, refl, sym, ap, ◌∙◌, arith, subst}
use Rattle.std.specs.Char.Utf16.{surrogate_pair_char}
use Rattle.std.proofs.lemmas.List.{append_assoc, append_cancel_right, length-append, length-drop, length-take-le, drop-append-le, take-append-drop}
use Rattle.encoding_definitions.specs.Surrogates.{HasUnpaired}
use Rattle.encoding_definitions.specs.Utf16.{Character16, Unpaired, IsHighSurrogate, IsLowSurrogate}
use Rattle.encoding_definitions.proofs.Utf16Lemmas.{first_pair, first_single}
use Rattle.encoding_definitions.proofs.UnpairedCountLemmas.{HasUnpaired-cons}
use Rattle.encoding_text.specs.Counted.{ReplacesIn}
use Rattle.encoding_text.specs.Encoding.{EncodeStep}
use Rattle.encoding_text.specs.declared.utf_8.encoder.EncoderResult.{EncoderResult}
use Rattle.encoding_text.proofs.EncoderCallLemmas.{read_within, rest_is, taken_within}

-- ---- the pending surrogate and the units after it, without the last `kept` of all
module _ (surrogate units : List ℕ) (kept high : ℕ) (e : surrogate ≡ high ∷ []) (h : IsHighSurrogate high) where
  abbrev pub Counts : ℕ → Type 0
  Counts n = HasUnpaired (take (length (surrogate ++ units) - kept) (surrogate ++ units)) n

  counts : (n : ℕ) → HasUnpaired (take (length (high ∷ units) - kept) (high ∷ units)) n → Counts n
  counts n = subst (λ xs. HasUnpaired (take (length (xs ++ units) - kept) (xs ++ units)) n) (sym e)

  -- no unit follows
  pub counts_pending : length units ≡ 0 → kept ≤ 1 → Counts (1 - kept)
  counts_pending none few = counts (1 - kept) (by_kept kept units none few)
    where
      by_kept : (kept : ℕ) (units : List ℕ) → length units ≡ 0 → kept ≤ 1 → HasUnpaired (take (length (high ∷ units) - kept) (high ∷ units)) (1 - kept)
      by_kept zero [] none few = (Unpaired high ∷ [], (inl h, refl), refl)
      by_kept (suc zero) [] none few = ([], (tt, refl), refl)
      by_kept (suc (suc k)) [] none few = absurd (omega arith)
      by_kept kept (u ∷ us) none few = absurd (omega arith)

  counts_due : (n : ℕ) → kept ≤ length units → HasUnpaired (high ∷ take (length units - kept) units) n → Counts n
  counts_due n within has = counts n (subst (λ xs. HasUnpaired xs n)
      (ap (λ m. take m (high ∷ units)) {x = suc (length units - kept)} {y = length (high ∷ units) - kept} (omega arith)) has)

  -- a low surrogate follows
  pub counts_pair : (n : ℕ) → kept ≤ length units → 0 < length (take (length units - kept) units)
      → IsLowSurrogate (slice_index (take (length units - kept) units) 0)
      → HasUnpaired (drop 1 (take (length units - kept) units)) n → Counts n
  counts_pair n within some low has = counts_due n within (by_due (take (length units - kept) units) some low has)
    where
      by_due : (due : List ℕ) → 0 < length due → IsLowSurrogate (slice_index due 0) → HasUnpaired (drop 1 due) n → HasUnpaired (high ∷ due) n
      by_due [] some low has = absurd (omega arith)
      by_due (v ∷ due) some low has =
          subst (HasUnpaired (high ∷ v ∷ due)) {x = 0 + n} {y = n} (omega arith)
          (HasUnpaired-cons (high ∷ v ∷ due) (Character16 (surrogate_pair_char high v)) due n
          (first_pair high v due (h.0, omega (arith, h.1), low.0, omega (arith, low.1))) has)

  -- none does
  pub counts_unpaired : (n : ℕ) → kept ≤ length units
      → (0 < length (take (length units - kept) units) → IsLowSurrogate (slice_index (take (length units - kept) units) 0) → ⊥)
      → HasUnpaired (take (length units - kept) units) n → Counts (1 + n)
  counts_unpaired n within apart has = counts_due (1 + n) within (by_due (take (length units - kept) units) apart has)
    where
      by_due : (due : List ℕ) → (0 < length due → IsLowSurrogate (slice_index due 0) → ⊥) → HasUnpaired due n → HasUnpaired (high ∷ due) (1 + n)
      by_due [] apart has = HasUnpaired-cons (high ∷ []) (Unpaired high) [] n (first_single high [] h.0 (omega (arith, h.1)) (λ p. omega (arith, p.2))) has
      by_due (v ∷ due) apart has =
          HasUnpaired-cons (high ∷ v ∷ due) (Unpaired high) (v ∷ due) n
          (first_single high (v ∷ due) h.0 (omega (arith, h.1)) (λ p. apart (omega arith) (p.2, omega (arith, p.3)))) has

-- ---- one call
module _ (surrogate src : List ℕ) (room : ℕ) (last : Bool) (r : EncoderResult) (read : ℕ) (out after : List ℕ)
    (c : EncodeStep surrogate src room last r read out after) where
  -- the units that the call was passed
  abbrev passed : List ℕ
  passed = surrogate ++ take read src

  all_units : surrogate ++ src ≡ passed ++ drop read src
  all_units = ap (λ xs. surrogate ++ xs) (sym (take-append-drop read src)) ∙ sym (append_assoc surrogate (take read src) (drop read src))

  pub passed_length : length passed ≡ c.taken + length after
  passed_length =
      let within : read ≤ length src = read_within surrogate src room last r read out after c in
      let left = ap length (rest_is surrogate src room last r read out after c) ∙ length-append after (drop read src) in
      let all = ap length c.are_encodable.whole ∙ length-append c.are_encodable.prefix c.left_open in
      omega (
        arith,
        within,
        left,
        all,
        taken_within surrogate src room last r read out after c,
        length-drop c.taken (surrogate ++ src),
        length-drop read src,
        length-append surrogate src,
        length-append surrogate (take read src),
        length-take-le read src within,
      )

  pub replaces : (n : ℕ) → HasUnpaired (take (length passed - length after) passed) n → ReplacesIn surrogate src read after n
  replaces n h =
      let k = length passed - length after in
      let taken : k ≡ c.taken = omega (arith, passed_length) in
      let rest : drop k passed ++ drop read src ≡ after ++ drop read src =
      sym (drop-append-le k passed (drop read src) (omega arith)) ∙ ap (drop k) (sym all_units) ∙ ap (λ j. drop j (surrogate ++ src)) taken
      ∙ rest_is surrogate src room last r read out after c in
      let same : drop k passed ≡ after = append_cancel_right (drop k passed) after (drop read src) rest in
      record {
        units = take k passed;
        written = sym (take-append-drop k passed) ∙ ap (λ xs. take k passed ++ xs) same;
        unpaired = h;
      }
