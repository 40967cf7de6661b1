-- Bytes that follow each other are well-formed up to an index at which no character is cut.
use Rattle.std.proofs.Common.{◌≡◌, ℕ, zero, suc, ◌+◌, ◌-◌, ◌<◌, ◌≤◌, inl, inr, List, [], ◌∷◌, length, take, drop, get_or, refl, sym, ap, ◌∙◌, arith, subst}
use Rattle.std.specs.Str.{IsUtf8}
use Rattle.std.proofs.lemmas.Bool.{cases_lt}
use Rattle.std.proofs.lemmas.Bool.Decides.{nat_tests}
use Rattle.std.proofs.lemmas.Str.{IsUtf8-nil}
use Rattle.std.proofs.Math.Seq.{drop-cons}
use Rattle.std.proofs.lemmas.List.{get_or-append_right, get_or-take}
use Rattle.std.proofs.lemmas.Simd.{get_or-chunk}
use lib.Lanes.{chunk}
use Rattle.encoding_definitions.specs.Sequence.{IsSequence, IsContinuation, IsSecond}
use Rattle.encoding_definitions.proofs.SequenceLemmas.{IsSequence-HasShape, second_from, second_two_from}
use Rattle.encoding_definitions.proofs.Utf8Lemmas.{IsUtf8_more}
use Rattle.encoding_kernels.specs.Scans.{HasLanes}
use Rattle.encoding_kernels.specs.Following.{IsValidAfter, IsValidAt, ValidUpTo, IsClosedAt, AsciiBetween}

second_most : (a b : ℕ) → IsSecond a b → b ≤ 0xBF
second_most a b s = grind (arith, nat_tests)

-- the bytes from an index on
module _ (bs : List ℕ) (at : ℕ) where
  take_one : at < length bs → take 1 (drop at bs) ≡ get_or bs at 0 ∷ []
  take_one h = ap (take 1) (drop-cons bs at 0 h)

  take_two : suc at < length bs → take 2 (drop at bs) ≡ get_or bs at 0 ∷ get_or bs (suc at) 0 ∷ []
  take_two h = ap (take 2) (drop-cons bs at 0 (omega arith)) ∙ ap (λ r. get_or bs at 0 ∷ take 1 r) (drop-cons bs (suc at) 0 h)

  take_three : suc (suc at) < length bs → take 3 (drop at bs) ≡ get_or bs at 0 ∷ get_or bs (suc at) 0 ∷ get_or bs (suc (suc at)) 0 ∷ []
  take_three h = ap (take 3) (drop-cons bs at 0 (omega arith)) ∙ ap (λ r. get_or bs at 0 ∷ take 2 r) (drop-cons bs (suc at) 0 (omega arith))
      ∙ ap (λ r. get_or bs at 0 ∷ get_or bs (suc at) 0 ∷ take 1 r) (drop-cons bs (suc (suc at)) 0 h)

  take_four : suc (suc (suc at)) < length bs
      → take 4 (drop at bs) ≡ get_or bs at 0 ∷ get_or bs (suc at) 0 ∷ get_or bs (suc (suc at)) 0 ∷ get_or bs (suc (suc (suc at))) 0 ∷ []
  take_four h = ap (take 4) (drop-cons bs at 0 (omega arith)) ∙ ap (λ r. get_or bs at 0 ∷ take 3 r) (drop-cons bs (suc at) 0 (omega arith))
      ∙ ap (λ r. get_or bs at 0 ∷ get_or bs (suc at) 0 ∷ take 2 r) (drop-cons bs (suc (suc at)) 0 (omega arith))
      ∙ ap (λ r. get_or bs at 0 ∷ get_or bs (suc at) 0 ∷ get_or bs (suc (suc at)) 0 ∷ take 1 r) (drop-cons bs (suc (suc (suc at))) 0 h)

-- one character more, after which none is cut
abbrev IsStep : List ℕ → ℕ → ℕ → Type 0
IsStep bs n at = (k : ℕ) × (0 < k) × (at + k ≤ n) × IsClosedAt bs (at + k) × IsSequence (take k (drop at bs))

module _ (bs : List ℕ) (n at : ℕ) (within : n ≤ length bs) (end : IsClosedAt bs n) (follows : (i : ℕ) → at ≤ i → i < n → IsValidAt bs i)
    (closed : IsClosedAt bs at) where
  -- no character is cut before n, so the next byte is before n too
  next : (i : ℕ) → i ≤ n → (IsClosedAt bs i → ⊥) → i < n
  next i le cut = elim (cases_lt i n) [ inl l ↦ l | inr g ↦ (let e : n ≡ i = omega arith in absurd (cut (subst (IsClosedAt bs) e end))) ]

  to : (k m : ℕ) → m ≡ at + k → 0 < k → m ≤ n → IsClosedAt bs m → IsSequence (take k (drop at bs)) → IsStep bs n at
  to k m e pos le c s = (k, pos, omega arith, subst (IsClosedAt bs) e c, s)

  fourth_byte : 0xF0 ≤ get_or bs at 0 → IsSecond (get_or bs at 0) (get_or bs (suc at) 0) → IsContinuation (get_or bs (suc (suc at)) 0)
      → suc (suc at) < n → IsStep bs n at
  fourth_byte h s c l =
      let l3 = next (suc (suc (suc at))) (omega arith) (λ q. omega arith) in
      let f = follows (suc (suc (suc at))) (omega arith) l3 in
      let d = f.fourth h in
      let most = second_most _ _ s in
      to 4 (suc (suc (suc (suc at)))) (omega arith) (omega arith) (omega arith) (omega arith, omega arith, omega arith)
      (subst IsSequence (sym (take_four bs at (omega arith)))
      (IsSequence-HasShape (get_or bs at 0 ∷ get_or bs (suc at) 0 ∷ get_or bs (suc (suc at)) 0 ∷ get_or bs (suc (suc (suc at))) 0 ∷ [])
      (h, s.1, second_from _ _ s, c, d)))

  third_byte : 0xE0 ≤ get_or bs at 0 → IsSecond (get_or bs at 0) (get_or bs (suc at) 0) → suc at < n → IsStep bs n at
  third_byte h s l =
      let l2 = next (suc (suc at)) (omega arith) (λ q. omega arith) in
      let f = follows (suc (suc at)) (omega arith) l2 in
      let c = f.third h in
      let most = second_most _ _ s in
      elim (cases_lt (get_or bs at 0) 0xF0) [
        | inl short ↦ to 3 (suc (suc (suc at))) (omega arith) (omega arith) (omega arith) (omega arith, omega arith, omega arith)
            (subst IsSequence (sym (take_three bs at (omega arith)))
            (IsSequence-HasShape (get_or bs at 0 ∷ get_or bs (suc at) 0 ∷ get_or bs (suc (suc at)) 0 ∷ []) (h, omega arith, second_from _ _ s, c)))
        | inr long ↦ fourth_byte long s c l2
      ]

  second_byte : 0xC0 ≤ get_or bs at 0 → at < n → IsStep bs n at
  second_byte h l =
      let l1 = next (suc at) (omega arith) (λ q. omega arith) in
      let f = follows (suc at) (omega arith) l1 in
      let s = f.second h in
      let most = second_most _ _ s in
      elim (cases_lt (get_or bs at 0) 0xE0) [
        | inl short ↦ to 2 (suc (suc at)) (omega arith) (omega arith) (omega arith) (omega arith, omega arith, omega arith)
            (subst IsSequence (sym (take_two bs at (omega arith)))
            (IsSequence-HasShape (get_or bs at 0 ∷ get_or bs (suc at) 0 ∷ []) (s.0, omega arith, second_two_from _ _ s short)))
        | inr long ↦ third_byte long s l1
      ]

  step : at < n → IsStep bs n at
  step l =
      let f = follows at (omega arith) l in
      elim (f.first closed.0 closed.1 closed.2) [
        | inl ascii ↦ to 1 (suc at) (omega arith) (omega arith) (omega arith) (omega arith, omega arith, omega arith)
            (subst IsSequence (sym (take_one bs at (omega arith))) (IsSequence-HasShape (get_or bs at 0 ∷ []) (omega arith)))
        | inr lead ↦ second_byte lead l
      ]

-- from a well-formed prefix on: the bytes after it follow each other, and no character is cut at either end
pub IsUtf8_following : (bs : List ℕ) (n : ℕ) → n ≤ length bs → IsClosedAt bs n → (fuel at : ℕ) → n ≤ at + fuel → at ≤ n
    → ((i : ℕ) → at ≤ i → i < n → IsValidAt bs i) → IsClosedAt bs at → IsUtf8 (take at bs) → IsUtf8 (take n bs)
IsUtf8_following bs n within end zero at room le follows closed prefix = let e : at ≡ n = omega arith in subst (λ k. IsUtf8 (take k bs)) e prefix
IsUtf8_following bs n within end (suc fuel) at room le follows closed prefix = elim (cases_lt at n) [
  | inl l ↦
      let s = step bs n at within end follows closed l in
      IsUtf8_following bs n within end fuel (at + s.0) (omega arith) s.2 (λ i h k. follows i (omega arith) k) s.3 (IsUtf8_more bs at s.0 prefix s.4)
  | inr g ↦ let e : at ≡ n = omega arith in subst (λ k. IsUtf8 (take k bs)) e prefix
]

-- ---- the bytes before, by their indices
pub one_before : (bs : List ℕ) (n : ℕ) → 1 ≤ n → get_or (0 ∷ bs) n 0 ≡ get_or bs (n - 1) 0
one_before bs n h = get_or-append_right (0 ∷ []) bs 1 n 0 refl h

two_before : (bs : List ℕ) (n : ℕ) → 2 ≤ n → get_or (0 ∷ 0 ∷ bs) n 0 ≡ get_or bs (n - 2) 0
two_before bs n h = get_or-append_right (0 ∷ 0 ∷ []) bs 2 n 0 refl h

three_before : (bs : List ℕ) (n : ℕ) → 3 ≤ n → get_or (0 ∷ 0 ∷ 0 ∷ bs) n 0 ≡ get_or bs (n - 3) 0
three_before bs n h = get_or-append_right (0 ∷ 0 ∷ 0 ∷ []) bs 3 n 0 refl h

moved : {x y a b x2 y2 a2 b2 : ℕ} → x ≡ x2 → y ≡ y2 → a ≡ a2 → b ≡ b2 → IsValidAfter x y a b → IsValidAfter x2 y2 a2 b2
moved {x} {y} {a} {b} {x2} {y2} {a2} {b2} p q r s f =
    subst (λ k. IsValidAfter k y2 a2 b2) p (subst (λ k. IsValidAfter x k a2 b2) q (subst (λ k. IsValidAfter x y k b2) r (subst (IsValidAfter x y a) s f)))

-- lanes of a load, and of those before it
pub IsValidAt-lanes : (n : ℕ) (bs : List ℕ) (at : ℕ) {three two one : List ℕ} → HasLanes n three (λ k. get_or (0 ∷ 0 ∷ 0 ∷ bs) (at + k) 0)
    → HasLanes n two (λ k. get_or (0 ∷ 0 ∷ bs) (at + k) 0) → HasLanes n one (λ k. get_or (0 ∷ bs) (at + k) 0) → (i : ℕ) → i < n
    → IsValidAfter (get_or three i 0) (get_or two i 0) (get_or one i 0) (get_or (chunk at n bs) i 0) → IsValidAt bs (at + i)
IsValidAt-lanes n bs at x y a i l f = moved (x.each i l) (y.each i l) (a.each i l) (get_or-chunk at n bs i 0 l) f

-- the first bytes of a text
module _ (n : ℕ) (bs : List ℕ) (long : n ≤ length bs) where
  -- bytes after zeros, in a prefix and in the whole
  prefix_one : (i : ℕ) → i < n → get_or (0 ∷ take n bs) i 0 ≡ get_or (0 ∷ bs) i 0
  prefix_one zero l = refl
  prefix_one (suc i) l = get_or-take n bs i 0 (omega arith)

  prefix_two : (i : ℕ) → i < n → get_or (0 ∷ 0 ∷ take n bs) i 0 ≡ get_or (0 ∷ 0 ∷ bs) i 0
  prefix_two zero l = refl
  prefix_two (suc i) l = prefix_one i (omega arith)

  prefix_three : (i : ℕ) → i < n → get_or (0 ∷ 0 ∷ 0 ∷ take n bs) i 0 ≡ get_or (0 ∷ 0 ∷ 0 ∷ bs) i 0
  prefix_three zero l = refl
  prefix_three (suc i) l = prefix_two i (omega arith)

  pub IsValidAt-take : (i : ℕ) → i < n → IsValidAt bs i → IsValidAt (take n bs) i
  IsValidAt-take i l f = moved (sym (prefix_three i l)) (sym (prefix_two i l)) (sym (prefix_one i l)) (sym (get_or-take n bs i 0 l)) f

-- ---- more bytes
pub ValidUpTo-more : (bs : List ℕ) (at n : ℕ) → ValidUpTo bs at → ((i : ℕ) → i < n → IsValidAt bs (at + i)) → ValidUpTo bs (at + n)
ValidUpTo-more bs at n prefix more = record {
  each = λ i l. elim (cases_lt i at) [
    | inl k ↦ prefix.each i k
    | inr g ↦ (let e : at + (i - at) ≡ i = omega arith in subst (IsValidAt bs) e (more (i - at) (omega arith)))
  ];
}

pub ValidUpTo_over : (bs : List ℕ) (at from n : ℕ) → from ≤ at → ValidUpTo bs at → ((i : ℕ) → i < n → IsValidAt bs (from + i)) → ValidUpTo bs (from + n)
ValidUpTo_over bs at from n h prefix more = ValidUpTo-more bs from n (record { each = λ i l. prefix.each i (omega arith) }) more

pub ValidUpTo-none : (bs : List ℕ) → ValidUpTo bs 0
ValidUpTo-none bs = record { each = λ i l. absurd (omega arith) }

pub ValidUpTo-first : (bs : List ℕ) (n : ℕ) → ((i : ℕ) → i < n → IsValidAt bs (0 + i)) → ValidUpTo bs n
ValidUpTo-first bs n first = record { each = λ i l. (let e : 0 + i ≡ i = omega arith in subst (IsValidAt bs) e (first i l)) }

pub ValidUpTo_less : (bs : List ℕ) (n m : ℕ) → m ≤ n → ValidUpTo bs n → ValidUpTo bs m
ValidUpTo_less bs n m h f = record { each = λ i l. f.each i (omega arith) }

-- ---- ASCII
closed_follows : (bs : List ℕ) (i : ℕ) → IsClosedAt bs i → get_or bs i 0 < 0x80 → IsValidAt bs i
closed_follows bs i c l = record {
  second = λ h. absurd (omega arith);
  third = λ h. absurd (omega arith);
  fourth = λ h. absurd (omega arith);
  first = λ _ _ _. inl l;
}

-- a byte that ends a character, or is one
closed_next : (bs : List ℕ) (i : ℕ) → IsClosedAt bs i → get_or bs i 0 < 0x80 → IsClosedAt bs (suc i)
closed_next bs i c l = (omega arith, omega arith, omega arith)

closed_along : (bs : List ℕ) (d at : ℕ) → IsClosedAt bs at → ((i : ℕ) → i < d → get_or bs (at + i) 0 < 0x80) → IsClosedAt bs (at + d)
closed_along bs zero at c ascii = let e : at ≡ at + 0 = omega arith in subst (IsClosedAt bs) e c
closed_along bs (suc d) at c ascii =
    let before = closed_along bs d at c (λ i l. ascii i (omega arith)) in
    let e : suc (at + d) ≡ at + suc d = omega arith in
    subst (IsClosedAt bs) e (closed_next bs (at + d) before (ascii d (omega arith)))

pub IsClosedAt-start : (bs : List ℕ) → IsClosedAt bs 0
IsClosedAt-start bs = (omega arith, omega arith, omega arith)

pub IsClosedAt-ascii : (bs : List ℕ) (at to : ℕ) → at ≤ to → IsClosedAt bs at → AsciiBetween bs at to → IsClosedAt bs to
IsClosedAt-ascii bs at to h c ascii =
    let e : at + (to - at) ≡ to = omega arith in
    subst (IsClosedAt bs) e (closed_along bs (to - at) at c (λ i l. ascii.each (at + i) (omega arith) (omega arith)))

pub ValidUpTo-ascii : (bs : List ℕ) (at to : ℕ) → ValidUpTo bs at → IsClosedAt bs at → AsciiBetween bs at to → ValidUpTo bs to
ValidUpTo-ascii bs at to prefix c ascii = record {
  each = λ i l. elim (cases_lt i at) [
    | inl k ↦ prefix.each i k
    | inr g ↦ closed_follows bs i (IsClosedAt-ascii bs at i g c (record { each = λ j p q. ascii.each j p (omega arith) })) (ascii.each i g l)
  ];
}

-- a prefix of the whole
pub ValidUpTo_ascii_prefix : (bs : List ℕ) (n : ℕ) → ((i : ℕ) → i < n → get_or bs i 0 < 0x80) → ValidUpTo bs n
ValidUpTo_ascii_prefix bs n ascii = ValidUpTo-ascii bs 0 n (ValidUpTo-none bs) (IsClosedAt-start bs) (record { each = λ i _ l. ascii i l })

-- ---- indices at which no character is cut
-- before a byte that continues no character
closed_before : (bs : List ℕ) (i : ℕ) → IsValidAt bs i → 0xC0 ≤ get_or bs i 0 → IsClosedAt bs i
closed_before bs i f h =
    let x : get_or (0 ∷ 0 ∷ 0 ∷ bs) i 0 < 0xF0 =
    elim (cases_lt (get_or (0 ∷ 0 ∷ 0 ∷ bs) i 0) 0xF0) [ inl l ↦ l | inr g ↦ (let s = f.fourth g in absurd (omega arith)) ] in
    let y : get_or (0 ∷ 0 ∷ bs) i 0 < 0xE0 =
    elim (cases_lt (get_or (0 ∷ 0 ∷ bs) i 0) 0xE0) [ inl l ↦ l | inr g ↦ (let s = f.third g in absurd (omega arith)) ] in
    let a : get_or (0 ∷ bs) i 0 < 0xC0 =
    elim (cases_lt (get_or (0 ∷ bs) i 0) 0xC0) [ inl l ↦ l | inr g ↦ (let s = second_most _ _ (f.second g) in absurd (omega arith)) ] in
    (x, y, a)

pub IsClosedAt_tests : (bs : List ℕ) (at : ℕ) → 3 ≤ at → get_or bs (at - 1) 0 < 0xC0 → get_or bs (at - 2) 0 < 0xE0
    → get_or bs (at - 3) 0 < 0xF0 → IsClosedAt bs at
IsClosedAt_tests bs at h a y x = (
  omega (arith, three_before bs at h),
  omega (
    arith,
    two_before bs at
        (omega arith),
  ),
  omega (arith, one_before bs at (omega arith)),
)

-- ASCII from three bytes before an index on
pub ValidUpTo_through_ascii : (bs : List ℕ) (at n : ℕ) → 3 ≤ at → ValidUpTo bs at → ((k : ℕ) → at - 3 ≤ k → k < at - 3 + (3 + n) → get_or bs k 0 < 0x80)
    → ValidUpTo bs (at + n)
ValidUpTo_through_ascii bs at n h prefix ascii =
    let closed = IsClosedAt_tests bs at h (omega (arith, ascii (at - 1) (omega arith) (omega arith)))
    (omega (arith, ascii (at - 2) (omega arith) (omega arith))) (omega (arith, ascii (at - 3) (omega arith) (omega arith))) in
    ValidUpTo-ascii bs at (at + n) prefix closed (record { each = λ k from to. ascii k (omega arith) (omega arith) })

pub IsUtf8_closed : (bs : List ℕ) (n : ℕ) → n ≤ length bs → ValidUpTo bs n → IsClosedAt bs n → IsUtf8 (take n bs)
IsUtf8_closed bs n within f c = IsUtf8_following bs n within c n 0 (omega arith) (omega arith) (λ i _ l. f.each i l) (IsClosedAt-start bs) IsUtf8-nil

-- before the first byte of a character
pub IsUtf8_before : (bs : List ℕ) (n i : ℕ) → n ≤ length bs → i < n → ValidUpTo bs n → 0xC0 ≤ get_or bs i 0 → IsUtf8 (take i bs)
IsUtf8_before bs n i within l f h = IsUtf8_closed bs i (omega arith) (ValidUpTo_less bs n i (omega arith) f) (closed_before bs i (f.each i l) h)

-- an ASCII prefix
pub IsUtf8_ascii_prefix : (bs : List ℕ) (n : ℕ) → n ≤ length bs → ((i : ℕ) → i < n → get_or bs i 0 < 0x80) → IsUtf8 (take n bs)
IsUtf8_ascii_prefix bs n within ascii =
    IsUtf8_closed bs n within (ValidUpTo_ascii_prefix bs n ascii)
    (IsClosedAt-ascii bs 0 n (omega arith) (IsClosedAt-start bs) (record { each = λ i _ l. ascii i l }))

-- before a character that may be cut
pub ruleset boundaries = (IsUtf8_before, IsUtf8_closed, IsClosedAt_tests)

pub ruleset ascii_prefixes = (IsUtf8_ascii_prefix, ValidUpTo_ascii_prefix)
