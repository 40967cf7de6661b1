-- Latin1 text in UTF-8 byte by byte: the bytes with which characters begin, and the byte of Latin1 that each byte ends.
-- Pairs of bytes in a vector of sixteen: which of them end a byte of Latin1, and which bytes these are.
use Rattle.std.proofs.Common.{◌≡◌, ℕ, zero, suc, ◌+◌, ◌*◌, ◌/◌, ◌%◌, ◌<◌, ◌≤◌, inl, inr, cond, ◌&&◌, List, [], ◌∷◌, ◌++◌, map}
use Rattle.std.proofs.Common.{length, take, drop, get_or, encode_utf8_all, refl, sym, ap, ◌∙◌, arith, subst, append_assoc, ◌-◌}
use Rattle.std.proofs.Common.{◌^◌, ◌⊎◌, Bool, ltb, replicate, bit_and, w8, w16, Fits, length-append, take-add, drop-drop}
use Rattle.std.specs.Prelude.{nat_lt, nat_le}
use Rattle.std.proofs.str.Laws.{two}
use Rattle.std.proofs.lemmas.Bool.{cases_lt}
use Rattle.std.proofs.lemmas.Bool.Decides.{nat_tests}
use Rattle.std.proofs.lemmas.List.{length-append, get_or-append_right, get_or-map, get_or_past, length-map, length-take-le, same_lists}
use Rattle.std.proofs.lemmas.Simd.{ones-mask_l_cons, get_or-chunk, length-chunk, Each1-from_get_or, Each1-get_or, mask_l-mod, mask_l-lt}
use Rattle.std.proofs.lemmas.Str.{encode_ascii}
use Rattle.std.specs.Int.RustNames.{count_ones}
use Rattle.std.specs.Simd.Lanes.{chunk, mask_l, top, zip2, sel_l, Each1}
use lib.Dec.{leb}
use Rattle.encoding_definitions.specs.Latin1.{IsLatin1}
use Rattle.encoding_kernels.specs.KeptBytes.{latin1_ended, all_latin1_ended, both_end, kept_places, EndsPair}
use Rattle.encoding_kernels.proofs.UniformLemmas.{kept_step, ones-none, mask_from}
use Rattle.encoding_definitions.proofs.Latin1Lemmas.{IsLatin1-rest}
use Rattle.std.proofs.lemmas.Nat.{and_mask}
use Rattle.encoding_kernels.specs.Scans.{HasLanes}
use Rattle.encoding_kernels.proofs.MaskPartLemmas.{first_mask}
use Rattle.encoding_kernels.proofs.VectorLemmas.{HasLanes-itself, HasLanes-splat, HasLanes-zip2, HasLanes_same, compared}
use Rattle.encoding_kernels.proofs.VectorLemmas.{top_compared, mask_of, bytes_of, bytes_lanes, wide, wide_l}
use Rattle.encoding_kernels.proofs.MaskLemmas.{chosen_by, tests_of, tests_and}

-- a byte that continues a character
abbrev pub GoesOnWith : ℕ → Type 0
GoesOnWith x = (0x80 ≤ x) × (x < 0xC0)

-- ---- one byte
pub ended_ascii : (p x : ℕ) → x < 0x80 → latin1_ended p x ≡ x ∷ []
ended_ascii p x l = grind (arith, nat_tests)

pub ended_last : (p x : ℕ) → 0x80 ≤ x → x < 0xC0 → latin1_ended p x ≡ ((p * 64 + x % 64) % 256) ∷ []
ended_last p x l h = grind (arith, nat_tests)

pub ended_none : (p x : ℕ) → 0xC0 ≤ x → latin1_ended p x ≡ []
ended_none p x l = grind (arith, nat_tests)

-- the two bytes of a character
ended_two : (p c : ℕ) → 0x80 ≤ c → c < 0x100 → (xs : List ℕ)
    → all_latin1_ended p ((192 + c / 64) ∷ (128 + c % 64) ∷ xs) ≡ c ∷ all_latin1_ended (128 + c % 64) xs
ended_two p c l h xs =
    let first = ended_none p (192 + c / 64) (omega arith) in
    let second = ended_last (192 + c / 64) (128 + c % 64) (omega arith) (omega arith) in
    let same : ((192 + c / 64) * 64 + (128 + c % 64) % 64) % 256 ≡ c = omega arith in
    (λ i. first i ++ (second i ++ all_latin1_ended (128 + c % 64) xs)) ∙ ap (λ k. k ∷ all_latin1_ended (128 + c % 64) xs) same

ended_one : (p c : ℕ) → c < 0x80 → (xs : List ℕ) → all_latin1_ended p (c ∷ xs) ≡ c ∷ all_latin1_ended c xs
ended_one p c l xs = ap (λ ys. ys ++ all_latin1_ended c xs) (ended_ascii p c l)

-- ---- the bytes of a text
abbrev text_one : ℕ → List ℕ → List ℕ
text_one c cs = c ∷ encode_utf8_all cs

abbrev text_two : ℕ → List ℕ → List ℕ
text_two c cs = (192 + c / 64) ∷ (128 + c % 64) ∷ encode_utf8_all cs

is_one : (c : ℕ) (cs : List ℕ) → c < 0x80 → encode_utf8_all (c ∷ cs) ≡ text_one c cs
is_one c cs l = ap (λ xs. xs ++ encode_utf8_all cs) (encode_ascii c l)

is_two : (c : ℕ) (cs : List ℕ) → 0x80 ≤ c → c < 0x100 → encode_utf8_all (c ∷ cs) ≡ text_two c cs
is_two c cs l h = ap (λ xs. xs ++ encode_utf8_all cs) (two c l (omega arith))

-- a text begins with no byte that continues a character
begins : (cs : List ℕ) → IsLatin1 cs → GoesOnWith (get_or (encode_utf8_all cs) 0 0) → ⊥
begins [] low g = omega (arith, g.0)
begins (c ∷ cs) low g = elim (cases_lt c 0x80) [
  | inl l ↦ let same = ap (λ xs. get_or xs 0 0) (is_one c cs l) in omega (arith, same, g.0)
  | inr l ↦ let same = ap (λ xs. get_or xs 0 0) (is_two c cs l (omega (arith, low 0))) in omega (arith, same, g.1)
]

-- the byte y that follows a byte x
pub record NextIs (x y : ℕ) : Type 0 where
  pub after_first : 0xC0 ≤ x → GoesOnWith y
  pub after_last : x < 0xC0 → GoesOnWith y → ⊥

abbrev Nexts : List ℕ → Type 0
Nexts bs = (k : ℕ) → NextIs (get_or bs k 0) (get_or bs (suc k) 0)

pub nexts : (cs : List ℕ) → IsLatin1 cs → (k : ℕ) → NextIs (get_or (encode_utf8_all cs) k 0) (get_or (encode_utf8_all cs) (suc k) 0)
nexts [] low = λ k. record { after_first = λ l. absurd (omega arith); after_last = λ _ g. omega (arith, g.0) }
nexts (c ∷ cs) low = elim (cases_lt c 0x80) [
  | inl l ↦ subst Nexts (sym (is_one c cs l)) (one (nexts cs (IsLatin1-rest c cs low)) l)
  | inr l ↦ subst Nexts (sym (is_two c cs l (omega (arith, low 0)))) (both (nexts cs (IsLatin1-rest c cs low)) l)
]
  where
    one : Nexts (encode_utf8_all cs) → c < 0x80 → (k : ℕ) → NextIs (get_or (text_one c cs) k 0) (get_or (text_one c cs) (suc k) 0)
    one rest l zero = record { after_first = λ h. absurd (omega arith); after_last = λ _. begins cs (IsLatin1-rest c cs low) }
    one rest l (suc k) = rest k

    both : Nexts (encode_utf8_all cs) → 0x80 ≤ c → (k : ℕ) → NextIs (get_or (text_two c cs) k 0) (get_or (text_two c cs) (suc k) 0)
    both rest l zero = record { after_first = λ _. (omega arith, omega arith); after_last = λ h. absurd (omega (arith, low 0)) }
    both rest l (suc zero) = record { after_first = λ h. absurd (omega arith); after_last = λ _. begins cs (IsLatin1-rest c cs low) }
    both rest l (suc (suc k)) = rest k

-- ---- a prefix that ends between characters
abbrev pub Splits : List ℕ → ℕ → ℕ → List ℕ → Type 0
Splits cs p k bs = (drop k bs ≡ encode_utf8_all (drop (length (all_latin1_ended p (take k bs))) cs))
    × (take (length (all_latin1_ended p (take k bs))) cs ≡ all_latin1_ended p (take k bs))

pub splits : (cs : List ℕ) → IsLatin1 cs → (p k : ℕ) → (GoesOnWith (get_or (encode_utf8_all cs) k 0) → ⊥) → Splits cs p k (encode_utf8_all cs)
splits [] low p zero n = (refl, refl)
splits [] low p (suc k) n = (refl, refl)
splits (c ∷ cs) low p k n = elim (cases_lt c 0x80) [
  | inl l ↦ let e = is_one c cs l in
      subst (Splits (c ∷ cs) p k) (sym e) (one (splits cs (IsLatin1-rest c cs low)) l k (subst (λ bs. GoesOnWith (get_or bs k 0) → ⊥) e n))
  | inr l ↦ let e = is_two c cs l (omega (arith, low 0)) in
      subst (Splits (c ∷ cs) p k) (sym e) (both (splits cs (IsLatin1-rest c cs low)) l k (subst (λ bs. GoesOnWith (get_or bs k 0) → ⊥) e n))
]
  where
    one : ((q j : ℕ) → (GoesOnWith (get_or (encode_utf8_all cs) j 0) → ⊥) → Splits cs q j (encode_utf8_all cs)) → c < 0x80 → (k : ℕ)
        → (GoesOnWith (get_or (text_one c cs) k 0) → ⊥) → Splits (c ∷ cs) p k (text_one c cs)
    one before l zero n = (sym (is_one c cs l), refl)
    one before l (suc k) n =
        let rest = before c k n in
        let out = ended_one p c l (take k (encode_utf8_all cs)) in (
          rest.0 ∙ sym (ap (λ xs. encode_utf8_all (drop (length xs) (c ∷ cs))) out),
          ap (λ xs. take (length xs) (c ∷ cs)) out ∙ ap (λ xs. c ∷ xs) rest.1 ∙ sym out,
        )

    both : ((q j : ℕ) → (GoesOnWith (get_or (encode_utf8_all cs) j 0) → ⊥) → Splits cs q j (encode_utf8_all cs)) → 0x80 ≤ c → (k : ℕ)
        → (GoesOnWith (get_or (text_two c cs) k 0) → ⊥) → Splits (c ∷ cs) p k (text_two c cs)
    both before l zero n = (sym (is_two c cs l (omega (arith, low 0))), refl)
    both before l (suc zero) n = absurd (n (omega arith, omega arith))
    both before l (suc (suc k)) n =
        let rest = before (128 + c % 64) k n in
        let out = ended_two p c l (omega (arith, low 0)) (take k (encode_utf8_all cs)) in (
          rest.0 ∙ sym (ap (λ xs. encode_utf8_all (drop (length xs) (c ∷ cs))) out),
          ap (λ xs. take (length xs) (c ∷ cs)) out ∙ ap (λ xs. c ∷ xs) rest.1 ∙ sym out,
        )

-- a whole text ends its characters, after any byte
pub ended_all : (cs : List ℕ) → IsLatin1 cs → (p : ℕ) → all_latin1_ended p (encode_utf8_all cs) ≡ cs
ended_all [] low p = refl
ended_all (c ∷ cs) low p = elim (cases_lt c 0x80) [
  | inl l ↦ ap (all_latin1_ended p) (is_one c cs l) ∙ ended_one p c l (encode_utf8_all cs) ∙ ap (λ xs. c ∷ xs) (ended_all cs (IsLatin1-rest c cs low) c)
  | inr l ↦ ap (all_latin1_ended p) (is_two c cs l (omega (arith, low 0))) ∙ ended_two p c l (omega (arith, low 0)) (encode_utf8_all cs)
      ∙ ap (λ xs. c ∷ xs) (ended_all cs (IsLatin1-rest c cs low) (128 + c % 64))
]

-- the byte before the second part is the last of the first
pub ended_append : (p : ℕ) (xs ys : List ℕ) → all_latin1_ended p (xs ++ ys) ≡ all_latin1_ended p xs ++ all_latin1_ended (get_or (p ∷ xs) (length xs) 0) ys
ended_append p [] ys = refl
ended_append p (x ∷ xs) ys = ap (λ zs. latin1_ended p x ++ zs) (ended_append x xs ys) ∙ sym (append_assoc (latin1_ended p x) (all_latin1_ended x xs) _)

-- each byte ends one, if it begins no character of two
ended_one_or : (p x : ℕ) → length (latin1_ended p x) + cond (leb 0xC0 x) 1 0 ≡ 1
ended_one_or p x = grind (arith, nat_tests)

pub ended_ones : (p : ℕ) (xs : List ℕ) → length (all_latin1_ended p xs) + count_ones (mask_l (map (leb 0xC0) xs)) ≡ length xs
ended_ones p [] = omega (arith, ones-none)
ended_ones p (x ∷ xs) =
    omega (
      arith,
      length-append (latin1_ended p x) (all_latin1_ended x xs),
      ended_ones x xs,
      ones-mask_l_cons (leb 0xC0 x)
          (map (leb 0xC0) xs),
      ended_one_or p x,
    )

-- a last byte that ends none
pub ended_without : (xs : List ℕ) (p x : ℕ) → 0xC0 ≤ x → all_latin1_ended p (xs ++ x ∷ []) ≡ all_latin1_ended p xs
ended_without [] p x l = ap (λ ys. ys ++ []) (ended_none p x l)
ended_without (y ∷ ys) p x l = ap (λ zs. latin1_ended p y ++ zs) (ended_without ys y x l)

-- ---- pairs
abbrev pub PairAt : (ℕ → ℕ) → ℕ → List ℕ → ℕ → ℕ → Type 0
PairAt get p xs place j = cond (nat_lt (get_or xs j 0) 0xC0 && nat_lt (get_or xs (suc j) 0) 0xC0) (get place ∷ get (place + 1) ∷ []) (get place ∷ [])
    ≡ latin1_ended (get_or (p ∷ xs) j 0) (get_or xs j 0) ++ latin1_ended (get_or xs j 0) (get_or xs (suc j) 0)

pub pairs_kept : (get : ℕ → ℕ) (n : ℕ) (xs : List ℕ) (p at : ℕ) → length xs ≡ 2 * n → ((k : ℕ) → k < n → PairAt get p xs (at + 2 * k) (2 * k))
    → map get (kept_places at (both_end xs)) ≡ all_latin1_ended p xs
pairs_kept get zero [] p at long h = refl
pairs_kept get zero (a ∷ xs) p at long h = absurd (omega arith)
pairs_kept get (suc n) [] p at long h = absurd (omega arith)
pairs_kept get (suc n) (a ∷ []) p at long h = absurd (omega arith)
pairs_kept get (suc n) (a ∷ b ∷ xs) p at long h =
    let start : at + 2 * 0 ≡ at = omega arith in
    let here : PairAt get p (a ∷ b ∷ xs) at 0 = subst (λ k. PairAt get p (a ∷ b ∷ xs) k 0) start (h 0 (omega arith)) in
    let more : (k : ℕ) → k < n → PairAt get b xs (at + 2 + 2 * k) (2 * k) = λ k l.
    let place : at + 2 * suc k ≡ at + 2 + 2 * k = omega arith in
    let index : 2 * suc k ≡ suc (suc (2 * k)) = omega arith in
    subst (λ j. PairAt get p (a ∷ b ∷ xs) j (suc (suc (2 * k)))) place (subst (PairAt get p (a ∷ b ∷ xs) (at + 2 * suc k)) index (h (suc k) (omega arith))) in
    kept_step get at (nat_lt a 0xC0 && nat_lt b 0xC0) (kept_places (at + 2) (both_end xs)) (latin1_ended p a ++ latin1_ended a b) (all_latin1_ended b xs) here
    (pairs_kept get n xs b (at + 2) (omega arith) more)
    ∙ append_assoc (latin1_ended p a) (latin1_ended a b) (all_latin1_ended b xs)

pub both_end_long : (n : ℕ) (xs : List ℕ) → length xs ≡ 2 * n → length (both_end xs) ≡ n
both_end_long zero [] long = refl
both_end_long zero (a ∷ xs) long = absurd (omega arith)
both_end_long (suc n) [] long = absurd (omega arith)
both_end_long (suc n) (a ∷ []) long = absurd (omega arith)
both_end_long (suc n) (a ∷ b ∷ xs) long = omega (arith, both_end_long n xs (omega arith))

-- ---- two bytes as one number
low_half : (a b : ℕ) → a < 256 → bit_and (a + 256 * b) 0xFF ≡ a
low_half a b l = let mask : bit_and (a + 256 * b) 0xFF ≡ (a + 256 * b) % 2 ^ 8 = and_mask (a + 256 * b) 8 in omega arith

-- ---- the byte that x ends after p
abbrev end_of : ℕ → ℕ → ℕ
end_of p x = cond (nat_le 0x80 x) ((p * 2 ^ 6 % 2 ^ 8 + bit_and x 0x3F) % 2 ^ 8) x

end_small : (p x : ℕ) → x < 256 → end_of p x < 256
end_small p x l = grind (arith, nat_tests)

-- ---- a pair
abbrev pair_word : ℕ → ℕ → ℕ → ℕ
pair_word p a b = cond (nat_le 0xC0 (bit_and (a + 256 * b) 0xFF)) ((end_of p a + 256 * end_of a b) / 2 ^ 8) (end_of p a + 256 * end_of a b)

pair_ends : (p a b : ℕ) → a < 256 → b < 256 → EndsPair p a b (pair_word p a b % 256) (pair_word p a b / 256)
pair_ends p a b A B either =
    let low = low_half a b A in
    grind (arith, nat_tests, low, end_small p a A, end_small a b B, either, and_mask a 6, and_mask b 6)

-- ---- one vector
module _ (bs : List ℕ) (long : length bs ≡ 16) (fits : Each1 (Fits w8) bs) where
  byte : (k : ℕ) → k < 16 → get_or bs k 0 < 256
  byte k l = (Each1-get_or (Fits w8) bs k 0 (omega arith) fits).fits

  bytes_fit : Each1 (λ x. x < 256) bs
  bytes_fit = Each1-from_get_or (λ x. x < 256) bs 0 (λ k l. byte k (omega arith))

  -- ---- the mask
  abbrev tests_l : List ℕ
  tests_l = zip2 bit_and (zip2 (compared w16 ltb) (zip2 bit_and (wide_l bs) (replicate 8 0xFF)) (replicate 8 0xC0))
      (zip2 (compared w16 ltb) (wide_l bs) (replicate 8 0xC000))

  high_test : (a b : ℕ) → a < 256 → ltb (a + 256 * b) 0xC000 ≡ nat_lt b 0xC0
  high_test a b A = grind (arith, nat_tests)

  both_end_at : (xs : List ℕ) (k : ℕ) (d : Bool) → 2 * k + 1 < length xs
      → get_or (both_end xs) k d ≡ (nat_lt (get_or xs (2 * k) 0) 0xC0 && nat_lt (get_or xs (2 * k + 1) 0) 0xC0)
  both_end_at [] k d l = absurd (omega arith)
  both_end_at (a ∷ []) k d l = absurd (omega arith)
  both_end_at (a ∷ b ∷ xs) zero d l = refl
  both_end_at (a ∷ b ∷ xs) (suc k) d l =
      let one : suc (suc (2 * k)) ≡ 2 * suc k = omega arith in
      let two : suc (suc (2 * k + 1)) ≡ 2 * suc k + 1 = omega arith in
      both_end_at xs k d (omega arith) ∙ (λ i. nat_lt (get_or (a ∷ b ∷ xs) (one i) 0) 0xC0 && nat_lt (get_or (a ∷ b ∷ xs) (two i) 0) 0xC0)

  tests_are : map (top 15) tests_l ≡ both_end bs
  tests_are =
      let words = wide bs long bytes_fit in
      let first = tests_of w16 ltb (HasLanes-zip2 bit_and words (HasLanes-splat 8 0xFF)) (HasLanes-splat 8 0xC0) in
      let second = tests_of w16 ltb words (HasLanes-splat 8 0xC000) in
      let both = tests_and first second in
      let eight : length (map (top 15) tests_l) ≡ 8 = length-map tests_l (top 15) ∙ both.lanes.long in
      same_lists (map (top 15) tests_l) (both_end bs) (omega (arith, eight, both_end_long 8 bs (omega arith))) (λ k d l.
      let in_lanes : k < 8 = omega arith in
      let a = get_or bs (2 * k) 0 in
      let b = get_or bs (2 * k + 1) 0 in
      get_or-map (top 15) tests_l k 0 d (omega (arith, both.lanes.long)) ∙ ap (top 15) (both.lanes.each k in_lanes)
      ∙ top_compared w16 (ltb (bit_and (a + 256 * b) 0xFF) 0xC0 && ltb (a + 256 * b) 0xC000)
      ∙ (λ i. ltb (low_half a b (byte (2 * k) (omega arith)) i) 0xC0 && high_test a b (byte (2 * k) (omega arith)) i)
      ∙ sym (both_end_at bs k d (omega arith)))

  pub mask_ends : mask_of 15 tests_l ≡ mask_l (both_end bs)
  mask_ends = ap (λ ms. mask_l ms % 2 ^ 64) tests_are ∙ mask_l-mod (both_end bs) 64 (omega (arith, both_end_long 8 bs (omega arith)))

  pub mask_small : mask_l (both_end bs) < 256
  mask_small = subst (λ n. mask_l (both_end bs) < 2 ^ n) (both_end_long 8 bs (omega arith)) (mask_l-lt (both_end bs))

-- ---- with the bytes before
abbrev ends_l : List ℕ → List ℕ → List ℕ
ends_l v bs = sel_l (map (top 7) (zip2 (compared w8 leb) (replicate 16 0x80) bs))
    (zip2 (λ a b. (a + b) % 2 ^ 8) (zip2 (λ a b. a * 2 ^ b % 2 ^ 8) v (replicate 16 6)) (zip2 bit_and bs (replicate 16 0x3F))) bs

abbrev pub result_l : List ℕ → List ℕ → List ℕ
result_l v bs = sel_l (map (top 15) (zip2 (compared w16 leb) (replicate 8 0xC0) (zip2 bit_and (wide_l bs) (replicate 8 0xFF))))
    (zip2 (λ a b. a / 2 ^ b) (wide_l (ends_l v bs)) (replicate 8 8)) (wide_l (ends_l v bs))

module _ (bs v : List ℕ) (p : ℕ) (long : length bs ≡ 16) (fits : Each1 (Fits w8) bs) (before : HasLanes 16 v (λ k. get_or (p ∷ bs) k 0)) where
  at_lane : (k : ℕ) → k < 16 → get_or bs k 0 < 256
  at_lane = byte bs long fits

  ends_lanes : HasLanes 16 (ends_l v bs) (λ k. end_of (get_or (p ∷ bs) k 0) (get_or bs k 0))
  ends_lanes =
      let lanes = HasLanes-itself 16 bs long in
      let high = HasLanes-zip2 (λ a b. a * 2 ^ b % 2 ^ 8) before (HasLanes-splat 16 6) in
      let low = HasLanes-zip2 bit_and lanes (HasLanes-splat 16 0x3F) in
      chosen_by (tests_of w8 leb (HasLanes-splat 16 0x80) lanes) (HasLanes-zip2 (λ a b. (a + b) % 2 ^ 8) high low) lanes

  ends_fit : Each1 (λ x. x < 256) (ends_l v bs)
  ends_fit = Each1-from_get_or (λ x. x < 256) (ends_l v bs) 0 (λ k l.
      let in_lanes : k < 16 = omega (arith, ends_lanes.long) in
      let is = ends_lanes.each k in_lanes in
      omega (arith, is, end_small (get_or (p ∷ bs) k 0) (get_or bs k 0) (at_lane k in_lanes)))

  -- the byte before the second of a pair
  first_before : (k : ℕ) → get_or (p ∷ bs) (2 * k + 1) 0 ≡ get_or bs (2 * k) 0
  first_before k = let place : 2 * k + 1 - 1 ≡ 2 * k = omega arith in get_or-append_right (p ∷ []) bs 1 (2 * k + 1) 0 refl (omega arith)
      ∙ ap (λ j. get_or bs j 0) place

  words_lanes : HasLanes 8 (wide_l (ends_l v bs)) (λ k. end_of (get_or (p ∷ bs) (2 * k) 0) (get_or bs (2 * k) 0) + 256 * end_of (get_or bs (2 * k) 0)
      (get_or bs (2 * k + 1) 0))
  words_lanes = HasLanes_same (wide (ends_l v bs) ends_lanes.long ends_fit) (λ k l.
      let first = ends_lanes.each (2 * k) (omega arith) in
      let second = ends_lanes.each (2 * k + 1) (omega arith) ∙ ap (λ q. end_of q (get_or bs (2 * k + 1) 0)) (first_before k) in
      (λ i. first i + 256 * second i))

  result_lanes : HasLanes 8 (result_l v bs) (λ k. pair_word (get_or (p ∷ bs) (2 * k) 0) (get_or bs (2 * k) 0) (get_or bs (2 * k + 1) 0))
  result_lanes =
      let halves = HasLanes-zip2 bit_and (wide bs long (bytes_fit bs long fits)) (HasLanes-splat 8 0xFF) in
      chosen_by (tests_of w16 leb (HasLanes-splat 8 0xC0) halves) (HasLanes-zip2 (λ a b. a / 2 ^ b) words_lanes (HasLanes-splat 8 8)) words_lanes

  pair_small : (q a b : ℕ) → a < 256 → b < 256 → pair_word q a b < 65536
  pair_small q a b A B = grind (arith, nat_tests, end_small q a A, end_small a b B)

  pub pairs_end : (k : ℕ) → k < 8
      → EndsPair (get_or (p ∷ bs) (2 * k) 0) (get_or bs (2 * k) 0) (get_or bs (2 * k + 1) 0) (get_or (bytes_of (result_l v bs)) (2 * k) 0)
      (get_or (bytes_of (result_l v bs)) (2 * k + 1) 0)
  pairs_end k l =
      let q = get_or (p ∷ bs) (2 * k) 0 in
      let a = get_or bs (2 * k) 0 in
      let b = get_or bs (2 * k + 1) 0 in
      let bytes =
      bytes_lanes result_lanes (λ i m. pair_small (get_or (p ∷ bs) (2 * i) 0) (get_or bs (2 * i) 0) (get_or bs (2 * i + 1) 0)
      (at_lane (2 * i) (omega arith)) (at_lane (2 * i + 1) (omega arith))) k l in
      same_pair q a b bytes.0 bytes.1 (pair_ends q a b (at_lane (2 * k) (omega arith)) (at_lane (2 * k + 1) (omega arith)))
    where
      same_pair : (q a b : ℕ) {x y x2 y2 : ℕ} → x ≡ x2 → y ≡ y2 → EndsPair q a b x2 y2 → EndsPair q a b x y
      same_pair q a b {x} {y} {x2} {y2} e f h = subst (λ k. EndsPair q a b k y) (sym e) (subst (EndsPair q a b x2) (sym f) h)

  -- ---- what is kept
  pub kept_ends : (bytes : List ℕ)
      → ((k : ℕ) → k < 8 → EndsPair (get_or (p ∷ bs) (2 * k) 0) (get_or bs (2 * k) 0) (get_or bs (2 * k + 1) 0) (get_or bytes (2 * k) 0)
      (get_or bytes (2 * k + 1) 0))
      → ((k : ℕ) → (get_or bs k 0 < 0xC0) ⊎ (get_or bs (k + 1) 0 < 0xC0)) → map (λ j. get_or bytes j 0) (kept_places 0 (both_end bs)) ≡ all_latin1_ended p bs
  kept_ends bytes pairs apart =
      let get : ℕ → ℕ = λ j. get_or bytes j 0 in
      pairs_kept get 8 bs p 0 (omega arith) (λ k l.
      let next : 2 * k + 1 ≡ suc (2 * k) = omega arith in
      let place : 2 * k ≡ 0 + 2 * k = omega arith in
      subst (λ j. PairAt get p bs j (2 * k)) place
      (subst (λ j. cond (nat_lt (get_or bs (2 * k) 0) 0xC0 && nat_lt (get_or bs j 0) 0xC0) (get (2 * k) ∷ get (2 * k + 1) ∷ []) (get (2 * k) ∷ [])
      ≡ latin1_ended (get_or (p ∷ bs) (2 * k) 0) (get_or bs (2 * k) 0) ++ latin1_ended (get_or bs (2 * k) 0) (get_or bs j 0)) next (pairs k l (apart (2 * k)))))

-- ---- how many the first bytes end
pub first_length : (p : ℕ) (bs : List ℕ) (n : ℕ) → length bs ≡ 16 → n ≤ 16
    → length (all_latin1_ended p (take n bs)) + count_ones (bit_and (mask_of 7 (zip2 (compared w8 leb) (replicate 16 0xC0) bs)) (1 * 2 ^ n % 2 ^ 64 - 1)) ≡ n
first_length p bs n long few =
    let leads = first_mask (leb 0xC0) bs _ n (mask_from w8 16 0xC0 bs long (omega arith)) (omega arith) (omega arith) in
    omega (arith, ap count_ones leads, ended_ones p (take n bs), length-take-le n bs (omega arith))

-- ---- two vectors
pub apart_chunk : (src : List ℕ) (at n : ℕ) → at + n ≤ length src → ((k : ℕ) → (get_or src (at + k) 0 < 0xC0) ⊎ (get_or src (at + k + 1) 0 < 0xC0)) → (k : ℕ)
    → (get_or (chunk at n src) k 0 < 0xC0) ⊎ (get_or (chunk at n src) (k + 1) 0 < 0xC0)
apart_chunk src at n room h k = elim (cases_lt (k + 1) n) [
  | inr past ↦ inr (omega (arith, get_or_past (chunk at n src) (k + 1) 0 (omega (arith, length-chunk at n src room))))
  | inl l ↦
      let here = get_or-chunk at n src k 0 (omega arith) in
      let place : at + (k + 1) ≡ at + k + 1 = omega arith in
      let next = get_or-chunk at n src (k + 1) 0 l ∙ ap (λ j. get_or src j 0) place in
      elim (h k) [
        | inl a ↦ inl (omega (arith, here))
        | inr a ↦ inr (omega (arith, next))
      ]
]

module _ (src : List ℕ) (from : ℕ) (room : from + 32 ≤ length src) where
  abbrev last_before : ℕ
  last_before = get_or src (from + 15) 0

  pub before_second : (k : ℕ) → k < 16 → get_or (chunk (from + 16 - 1) 16 src) k 0 ≡ get_or (last_before ∷ chunk (from + 16) 16 src) k 0
  before_second zero l =
      let place : from + 16 - 1 + 0 ≡ from + 15 = omega arith in get_or-chunk (from + 16 - 1) 16 src 0 0 l ∙ ap (λ j. get_or src j 0) place
  before_second (suc k) l =
      let place : from + 16 - 1 + suc k ≡ from + 16 + k = omega arith in
      get_or-chunk (from + 16 - 1) 16 src (suc k) 0 l ∙ ap (λ j. get_or src j 0) place ∙ sym (get_or-chunk (from + 16) 16 src k 0 (omega arith))

  pub ended_of_two : all_latin1_ended 0 (chunk from 16 src) ++ all_latin1_ended last_before (chunk (from + 16) 16 src)
      ≡ all_latin1_ended 0 (take 32 (drop from src))
  ended_of_two =
      let first = chunk from 16 src in
      let second = chunk (from + 16) 16 src in
      let both : take 32 (drop from src) ≡ first ++ second = take-add 16 16 (drop from src) ∙ ap (λ xs. first ++ take 16 xs) (drop-drop 16 from src) in
      let last : get_or (0 ∷ first) (length first) 0 ≡ last_before = ap (λ n. get_or (0 ∷ first) n 0) (length-chunk from 16 src (omega arith))
      ∙ get_or-chunk from 16 src 15 0 (omega arith) in
      sym (ap (all_latin1_ended 0) both ∙ ended_append 0 first second ∙ ap (λ p. all_latin1_ended 0 first ++ all_latin1_ended p second) last)
