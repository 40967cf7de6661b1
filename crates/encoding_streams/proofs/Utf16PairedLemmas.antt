-- How far code units are paired, by one more of them or by a block.
use Rattle.std.proofs.Common.{◌≡◌, ℕ, zero, suc, ◌+◌, ◌-◌, ◌*◌, ◌/◌, ◌<◌, ◌≤◌, ◌↔◌, Bool, true, false, not, List, ◌∷◌, length, take, drop, slice_index, refl}
use Rattle.std.proofs.Common.{ap, sym, ◌∙◌, subst, arith}
use Rattle.std.specs.Bool.{beq}
use Rattle.std.proofs.lemmas.Bool.{false≢true}
use Rattle.std.specs.Simd.{first_chunks}
use Rattle.encoding_definitions.specs.Surrogates.{IsValidUtf16}
use Rattle.encoding_definitions.specs.Utf16.{AreCodeUnits, IsHighSurrogate, IsLowSurrogate}
use Rattle.encoding_kernels.specs.Neighbors.{HaveNoSurrogate, PairUp}
use Rattle.encoding_kernels.specs.UnitBytes.{bytes_in, units_of}
use Rattle.encoding_kernels.proofs.UnitBytesLemmas.{length-units_of, units_of-chunks, units_of-fit}
use Rattle.encoding_text.specs.Utf16Bytes.{utf16_bytes}
use Rattle.encoding_text.specs.declared.utf_16.ByteOrder.{ByteOrder}
use Rattle.encoding_text.proofs.Utf16BytesLemmas.{is_big, spelled_units}
use Rattle.encoding_streams.specs.Utf16Steps.{AreValidUnitsOf}
use Rattle.encoding_streams.proofs.Utf16WriteLemmas.{taken_fit}
use Rattle.encoding_kernels.proofs.PairsLemmas.{paired_clear, paired_joined, valid_cut, valid_start, valid_whole}

-- the code unit before an index
pub before_is : (us : List ℕ) (n : ℕ) → 0 < n → slice_index (0 ∷ us) n ≡ slice_index us (n - 1)
before_is us zero l = absurd (omega (arith, l))
before_is us (suc n) l = ap (slice_index us) {x = n} {y = suc n - 1} (omega arith)

pub next_is : (us : List ℕ) (n : ℕ) → slice_index us n ≡ slice_index (0 ∷ us) (n + 1)
next_is us n = ap (slice_index (0 ∷ us)) {x = suc n} {y = n + 1} (omega arith)

-- two tests with one result
pub same_test : (a b : Bool) (P Q : Type 0) → (a ≡ true) ↔ P → (b ≡ true) ↔ Q → not (beq a b) ≡ false → P ↔ Q
same_test true true P Q p q e = (λ x. q.0 refl, λ y. p.0 refl)
same_test false false P Q p q e = (λ x. absurd (false≢true (p.1 x)), λ y. absurd (false≢true (q.1 y)))
same_test true false P Q p q e = absurd (false≢true (sym e))
same_test false true P Q p q e = absurd (false≢true (sym e))

pub paired_unit : (us : List ℕ) (at : ℕ) → PairUp us 0 at → IsLowSurrogate (slice_index us at) ↔ IsHighSurrogate (slice_index (0 ∷ us) at)
    → PairUp us 0 (at + 1)
paired_unit us at p here = paired_joined us 0 at at (at + 1) p
    (record {
      each = λ k from to.
          let e : at ≡ k = omega (arith, from, to) in
          subst (λ j. IsLowSurrogate (slice_index us j) ↔ IsHighSurrogate (slice_index (0 ∷ us) j)) e here;
    }) (omega arith)

pub paired_block : (us : List ℕ) (at : ℕ) → 0 < at → PairUp us 0 at → (IsHighSurrogate (slice_index us (at - 1)) → ⊥)
    → HaveNoSurrogate (take 64 (drop at us)) → PairUp us 0 (at + 64)
paired_block us at some p before none =
    paired_joined us 0 at at (at + 64) p (paired_clear us _ at 64 refl none (λ h. before (subst IsHighSurrogate (before_is us at some) h))) (omega arith)

-- up to the first that isn't, or to a high surrogate at the end
pub valid_to : (us : List ℕ) (n : ℕ) → n ≤ length us → AreCodeUnits us → PairUp us 0 n → (0 < n → IsHighSurrogate (slice_index us (n - 1)) → ⊥)
    → IsValidUtf16 (take n us)
valid_to us zero within units p last = valid_start us zero refl
valid_to us (suc n) within units p last = valid_whole us (suc n) within (omega arith) units p (last (omega arith))

pub valid_before : (us : List ℕ) (n : ℕ) → n ≤ length us → AreCodeUnits us → PairUp us 0 n → 0 < n → IsHighSurrogate (slice_index us (n - 1))
    → IsValidUtf16 (take (n - 1) us)
valid_before us n within units p some last = valid_cut us n within some units p last

-- ---- of bytes
-- a prefix of the code units of pairs of bytes
pub valid_units_of : (order : ByteOrder) (big : Bool) → is_big order ≡ big → (src : List ℕ) (pairs : List (List ℕ))
    → pairs ≡ first_chunks 2 (length src / 2) src → ((k : ℕ) → slice_index src k < 256)
    → (n : ℕ) → n ≤ length (units_of big (bytes_in pairs)) → IsValidUtf16 (take n (units_of big (bytes_in pairs)))
    → (2 * n ≤ length src) × AreValidUnitsOf order (take (2 * n) src) (take n (units_of big src))
valid_units_of order big is src pairs e fit n within valid =
    let us = units_of big src in
    let same : units_of big (bytes_in pairs) ≡ us = ap (λ ps. units_of big (bytes_in ps)) e ∙ units_of-chunks big src in
    let long : 2 * n ≤ length src = omega (arith, within, ap length same, length-units_of big src) in (
      long,
      record {
        valid = subst (λ xs. IsValidUtf16 (take n xs)) same valid;
        fit = taken_fit us n (units_of-fit big src fit);
        spelled = ap (λ b. utf16_bytes order (take n (units_of b src))) (sym is) ∙ spelled_units order src n long fit;
      },
    )
