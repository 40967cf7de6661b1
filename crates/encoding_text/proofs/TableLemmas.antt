-- The entries of the table by ranges of the index, and what the two formulas are by these.
use Rattle.std.proofs.Common.{◌≡◌, ◌≢◌, ℕ, ◌+◌, ◌-◌, ◌*◌, ◌/◌, ◌%◌, ◌^◌, ◌<◌, ◌≤◌, ◌↔◌, ◌⊎◌, inl, inr, [], ◌∷◌}
use Rattle.std.proofs.Common.{map, refl, sym, ap, ◌∙◌, arith, bit_and, bit_or, slice_index, if◌then◌else◌, nat_lt}
use Rattle.std.specs.Prelude.{IsTrue}
use Rattle.std.specs.List.{range_with_len}
use Rattle.std.proofs.lemmas.Nat.{le_or_l, or_comm, or_shifted, or_lt, and_le_l}
use Rattle.std.proofs.lemmas.Nat.Bits.{and_high}
use Rattle.std.proofs.lemmas.Bool.Decides.{nat_tests}
use Rattle.std.proofs.lemmas.List.FromFn.{get_or-map-range_with_len}
use Rattle.encoding_text.specs.declared.utf_8.table.TheConstants.{UTF8_DATA}
use Rattle.encoding_definitions.specs.Sequence.{IsSequence, IsContinuation, three_byte_formula, four_byte_formula}
use Rattle.encoding_definitions.proofs.SequenceLemmas.{is_second, HasShape-IsSequence, IsSequence-HasShape}

-- the entry for a second byte, and for a first byte from 0x80 on
abbrev second_entry : ℕ → ℕ
second_entry b = if nat_lt b 0x80 then 252 else (if nat_lt b 0x90 then 84 else (if nat_lt b 0xA0 then 148 else (if nat_lt b 0xC0 then 164 else 252)))

abbrev lead_entry : ℕ → ℕ
lead_entry a = if nat_lt a 0xC2 then 4 else (if nat_lt a 0xE0 then 8 else (if nat_lt a 0xE1 then 16 else (if nat_lt a 0xED then 8
    else (if nat_lt a 0xEE then 32 else (if nat_lt a 0xF0 then 8 else (if nat_lt a 0xF1 then 64 else (if nat_lt a 0xF4 then 8
    else (if nat_lt a 0xF5 then 128 else 4))))))))

abbrev entry_at : ℕ → ℕ
entry_at i = if nat_lt i 0x100 then second_entry i else lead_entry (i - 0x80)

-- all 384 entries, each computed
entries_are : UTF8_DATA.table ≡ map entry_at (range_with_len 0 384)
entries_are = refl

entry_is : (i : ℕ) → i < 384 → slice_index UTF8_DATA.table i ≡ entry_at i
entry_is i h = ap (λ entries. slice_index entries i) entries_are ∙ get_or-map-range_with_len entry_at 0 384 i i 0 (omega arith) (omega arith)

-- the bits that the entries for these two bytes have in common
abbrev common : ℕ → ℕ → ℕ
common a b = bit_and (second_entry b) (lead_entry a)

common_is : (a b : ℕ) → 0x80 ≤ a → a < 256 → b < 256 → bit_and (slice_index UTF8_DATA.table b) (slice_index UTF8_DATA.table (a + 0x80)) ≡ common a b
common_is a b l h s =
    let e : entry_at b ≡ second_entry b = grind (arith, nat_tests) in
    let back : (a + 0x80) - 0x80 ≡ a = omega arith in
    let f : entry_at (a + 0x80) ≡ lead_entry ((a + 0x80) - 0x80) = grind (arith, nat_tests) in
    rw (entry_is b (omega arith), entry_is (a + 0x80) (omega arith), e, f, back) refl

-- none if b may follow a, and otherwise one above the two lowest
abbrev IsTriState : ℕ → ℕ → Type 0
IsTriState a b = ((common a b ≡ 0) × IsTrue (is_second a b)) ⊎ ((4 ≤ common a b) × (IsTrue (is_second a b) → ⊥))

tells_three : (a b : ℕ) → 0xE0 ≤ a → a ≤ 0xEF → b < 256 → IsTriState a b
tells_three a b l h s = grind (arith, nat_tests)

tells_four : (a b : ℕ) → 0xF0 ≤ a → a ≤ 0xF4 → b < 256 → IsTriState a b
tells_four a b l h s = grind (arith, nat_tests)

some_low : (a b : ℕ) → a ≤ 0xC1 → b < 256 → 4 ≤ common a b
some_low a b h s = grind (arith, nat_tests)

some_high : (a b : ℕ) → 0xF5 ≤ a → b < 256 → 4 ≤ common a b
some_high a b l s = grind (arith, nat_tests)

-- ---- the formula for three bytes
or_two : (m q : ℕ) → 4 ≤ m → bit_or m q ≢ 2
or_two m q l e = omega (arith, le_or_l m q)

two_is : (a b c : ℕ) → IsTriState a b → c < 256 → (bit_or (common a b) (c / 2 ^ 6) ≡ 2) ↔ (IsTrue (is_second a b) × IsContinuation c)
two_is a b c (inl p) t = (
  λ e. let q : c / 64 ≡ 2 = sym (rw p.0 refl) ∙ e in
      (p.1, (omega arith, omega arith)),
  λ q. rw p.0 (let e : c / 64 ≡ 2 = omega arith in e),
)
two_is a b c (inr p) t = (λ e. absurd (or_two (common a b) (c / 64) p.0 e), λ q. absurd (p.1 q.0))

module _ (a b c : ℕ) (s : b < 256) (t : c < 256) where
  pub three_is : 0xE0 ≤ a → a ≤ 0xEF → (three_byte_formula UTF8_DATA.table a b c ≡ 2) ↔ IsSequence (a ∷ b ∷ c ∷ [])
  three_is l h =
      let is = two_is a b c (tells_three a b l h s) t in
      rw (common_is a b (omega arith) (omega arith) s) (
        λ e. let p = is.0 e in IsSequence-HasShape (a ∷ b ∷ c ∷ []) (l, h, p.0, p.1),
        λ q. let p = HasShape-IsSequence (a ∷ b ∷ c ∷ []) q in is.1 (p.2, p.3),
      )

  pub three_never : 0x80 ≤ a → a ≤ 0xC1 → three_byte_formula UTF8_DATA.table a b c ≢ 2
  three_never l h = rw (common_is a b l (omega arith) s) (or_two (common a b) (c / 64) (some_low a b h s))

-- ---- the formula for four bytes: the two high bits of the fourth are above the others
high_bits : (m d : ℕ) → m < 256 → d < 256 → bit_or m (bit_and d 0xC0 * 2 ^ 2) ≡ d / 64 * 256 + m
high_bits m d l h =
    let high : bit_and d 0xC0 ≡ (d / 64) % 4 * 64 = and_high d 2 6 in
    let few : (d / 64) % 4 ≡ d / 64 = omega arith in
    let shifted : bit_and d 0xC0 * 4 ≡ (d / 64) * 256 = omega (arith, high, few) in
    rw shifted (or_comm m ((d / 64) * 256) ∙ or_shifted (d / 64) 8 m l)

entry_below : (b : ℕ) → second_entry b ≤ 252
entry_below b = grind (arith, nat_tests)

low_bits : (a b c : ℕ) → c < 256 → bit_or (common a b) (c / 2 ^ 6) < 256
low_bits a b c t = or_lt 8 (common a b) (c / 64) (omega (arith, and_le_l (second_entry b) (lead_entry a), entry_below b)) (omega arith)

halves : (m d : ℕ) → m < 256 → d < 256 → (d / 64 * 256 + m ≡ 0x202) ↔ ((m ≡ 2) × IsContinuation d)
halves m d l h = (λ e. (omega arith, (omega arith, omega arith)), λ p. omega arith)

module _ (a b c d : ℕ) (h : a < 256) (s : b < 256) (t : c < 256) (u : d < 256) where
  four_by_halves : 0x80 ≤ a → (four_byte_formula UTF8_DATA.table a b c d ≡ 0x202) ↔ ((bit_or (common a b) (c / 2 ^ 6) ≡ 2) × IsContinuation d)
  four_by_halves l =
      let m = bit_or (common a b) (c / 2 ^ 6) in
      rw (common_is a b l h s, high_bits m d (low_bits a b c t) u) (halves m d (low_bits a b c t) u)

  pub four_is : 0xF0 ≤ a → a ≤ 0xF4 → (four_byte_formula UTF8_DATA.table a b c d ≡ 0x202) ↔ IsSequence (a ∷ b ∷ c ∷ d ∷ [])
  four_is l most =
      let is = two_is a b c (tells_four a b l most s) t in
      let by = four_by_halves (omega arith) in (
        λ e. let q = by.0 e in let p = is.0 q.0 in IsSequence-HasShape (a ∷ b ∷ c ∷ d ∷ []) (l, most, p.0, p.1, q.1),
        λ q. let p = HasShape-IsSequence (a ∷ b ∷ c ∷ d ∷ []) q in by.1 (is.1 (p.2, p.3), p.4),
      )

  pub four_never : 0xF5 ≤ a → four_byte_formula UTF8_DATA.table a b c d ≢ 0x202
  four_never l e = or_two (common a b) (c / 64) (some_high a b l s) ((four_by_halves (omega arith)).0 e).0

-- what both formulas say
pub ruleset formulas = (three_is, three_never, four_is, four_never)
