use Rattle.std.proofs.Common.{◌≡◌, ℕ, suc, ◌+◌, ◌-◌, ◌<◌, inl, inr, List, [], ◌∷◌, ◌++◌, length, map, slice_index, if◌then◌else◌, nat_lt, nat_eq, encode_utf8, encode_utf8_all, refl, sym, ap, subst, ◌∙◌, arith}
use Rattle.std.specs.List.{range_with_len}
use Rattle.std.proofs.lemmas.Bool.{cases_lt}
use Rattle.std.proofs.lemmas.Bool.Decides.{nat_tests}
use Rattle.std.proofs.lemmas.List.{append-nil, get_or-map, length-append}
use Rattle.std.proofs.lemmas.List.FromFn.{get_or-map-range_with_len}
use Rattle.std.proofs.lemmas.Str.{length-encode, len_utf8_bounds}
use lib.Utf8.{low_scalar}
use Rattle.encoding_text.specs.Sequence.{IsSequence}
use Rattle.encoding_text.proofs.PartsLemmas.{prefixes_nest}
use Rattle.legacy_example.specs.Windows1252.{index, scalar_of, AreBytes}
use Rattle.legacy_example.proofs.IndexLemmas.{high, scalar_low, scalar_below}
use Rattle.legacy_example.proofs.law_nothing_is_lost.Goals as goal

-- the first index of a number
place : List ℕ → ℕ → ℕ
place [] c = 0
place (x ∷ xs) c = if nat_eq x c then 0 else suc (place xs c)

-- the byte of a scalar value
byte_of : ℕ → ℕ
byte_of c = if nat_lt c 0x80 then c else 0x80 + place index c

entries : map byte_of index ≡ map (λ b. b) (range_with_len 0x80 128)
unfolding byte_of place
entries = refl

byte_low : (b : ℕ) → b < 0x80 → byte_of b ≡ b
unfolding byte_of
byte_low b h = grind (arith, nat_tests)

byte_back : (b : ℕ) → b < 0x100 → byte_of (scalar_of b) ≡ b
byte_back b h = elim (cases_lt b 0x80) [
  | inl l ↦ ap byte_of (scalar_low b l) ∙ byte_low b l
  | inr g ↦
      ap byte_of (high index b g) ∙ sym (get_or-map byte_of index (b - 0x80) 0 0 (omega arith)) ∙ ap (λ xs. slice_index xs (b - 0x80)) entries
      ∙ get_or-map-range_with_len (λ c. c) 0x80 128 (b - 0x80) b 0 (omega arith) (omega arith)
]

-- where the UTF-8 of one scalar value ends
same_end : ((bs rest : List ℕ) → IsSequence bs → IsSequence (bs ++ rest) → rest ≡ [])
    → (x xs y ys : List ℕ) → IsSequence x → IsSequence y → x ++ xs ≡ y ++ ys → (x ≡ y) × (xs ≡ ys)
same_end none x xs y ys s t e = elim (prefixes_nest x xs y ys e) [
  | inl (more, f, g) ↦ let nothing = none x more s (subst IsSequence f t) in let whole = append-nil x in (cc, cc)
  | inr (more, f, g) ↦ let nothing = none y more t (subst IsSequence f s) in let whole = append-nil y in (cc, cc)
]

some : (c : ℕ) (xs : List ℕ) → encode_utf8 c ++ xs ≡ [] → ⊥
some c xs e = omega (arith, ap length e, length-append (encode_utf8 c) xs, length-encode c, len_utf8_bounds c)

-- the same UTF-8 is that of the same bytes, one after another
same : ((a b : ℕ) (xs ys : List ℕ) → a < 0x100 → b < 0x100 → encode_utf8 (scalar_of a) ++ xs ≡ encode_utf8 (scalar_of b) ++ ys → (a ≡ b) × (xs ≡ ys))
    → (bytes others : List ℕ) → AreBytes bytes → AreBytes others
    → encode_utf8_all (map scalar_of bytes) ≡ encode_utf8_all (map scalar_of others) → bytes ≡ others
same law [] [] h k e = refl
same law [] (b ∷ others) h k e = absurd (some (scalar_of b) _ (sym e))
same law (a ∷ bytes) [] h k e = absurd (some (scalar_of a) _ e)
same law (a ∷ bytes) (b ∷ others) h k e =
    let (byte, more) = law a b _ _ (h 0) (k 0) e in
    let left = same law bytes others (λ i. h (suc i)) (λ i. k (suc i)) more in
    cc

pub returns : goal.returns
returns c = same (λ a b xs ys h k e.
    let s = low_scalar (scalar_of a) (scalar_below a h) in
    let t = low_scalar (scalar_of b) (scalar_below b k) in
    let (sequence, more) = same_end c.law_sequences.ensures.none_begins_another _ xs _ ys (c.law_sequences.ensures.each (scalar_of a) s)
    (c.law_sequences.ensures.each (scalar_of b) t) e in
    (sym (byte_back a h) ∙ ap byte_of (c.law_sequences.ensures.one (scalar_of a) (scalar_of b) s t sequence) ∙ byte_back b k, more))
