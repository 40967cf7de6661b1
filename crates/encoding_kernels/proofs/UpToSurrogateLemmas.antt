-- Code units of bytes that are converted up to a surrogate: an ASCII prefix.
use Rattle.std.proofs.Common.{ℕ, ◌≤◌, List, ◌++◌, length, take, drop, inl, inr, sym, ap, ◌∙◌, arith, append_assoc}
use Rattle.std.proofs.lemmas.List.{length-take, get_or-take, drop-append-le, take-append-drop}
use Rattle.std.proofs.lemmas.Bool.{cases_lt}
use Rattle.std.proofs.lemmas.List.{get_or_past}
use Rattle.encoding_definitions.specs.Prefixes.{WritesPrefix}
use Rattle.encoding_kernels.specs.Scans.{BelowUpTo}
use Rattle.encoding_kernels.specs.Utf8Output.{WritesBmp}
use Rattle.encoding_kernels.proofs.OverwriteLemmas.{ascii_plain}

-- if a prefix is written to the first `end` items, it is written
pub written_within : {A : Type 0} (old sub : List A) (end n : ℕ) (out : List A) → WritesPrefix (take end old) sub n out
    → WritesPrefix old (sub ++ drop end old) n out
written_within old sub end n out w = record {
  count = w.count;
  fits = omega (arith, w.fits, length-take end old);
  placed = ap (λ xs. xs ++ drop end old) w.placed ∙ append_assoc out (drop n (take end old)) (drop end old)
      ∙ ap (λ xs. out ++ xs) (sym (drop-append-le n (take end old) (drop end old) w.fits) ∙ ap (drop n) (take-append-drop end old));
}

-- an ASCII prefix was copied to the first `n` bytes
pub ascii_first : (us old sub : List ℕ) (n r : ℕ) → r ≤ length us → BelowUpTo 0x80 us r → WritesPrefix (take n old) sub r (take r us)
    → WritesBmp us old (sub ++ drop n old) r r
ascii_first us old sub n r l below w = ascii_plain l (λ i. elim (cases_lt i r) [
  | inl p ↦ omega (arith, get_or-take r us i 0 p, below i p)
  | inr p ↦ omega (arith, get_or_past (take r us) i 0 (omega (arith, length-take r us)))
]) (written_within old sub n _ _ w)
