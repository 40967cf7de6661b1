-- The UTF-8 of sixteen bytes of Latin1: both bytes of each, and which of them are kept.
use Rattle.std.proofs.Common.{◌≡◌, ℕ, suc, ◌+◌, ◌-◌, ◌*◌, ◌/◌, ◌%◌, ◌^◌, ◌<◌, ◌≤◌, inl, inr, Bool, cond, leb, List, [], ◌∷◌}
use Rattle.std.proofs.Common.{◌++◌, map, length, take, drop, get_or, get_or-take, get_or-drop, length-append, length-drop}
use Rattle.std.proofs.Common.{length-take-le, encode_utf8, encode_utf8_all, bit_and, replicate, sym, ap, ◌∙◌, arith, subst, w8}
use Rattle.std.specs.Prelude.{nat_le}
use Rattle.std.proofs.lemmas.Bool.Decides.{nat_tests}
use Rattle.std.proofs.lemmas.List.{length-map, take-map, drop-map, take-append-drop, take_at, drop_at, take-take}
use Rattle.std.proofs.lemmas.Nat.{and_mask}
use Rattle.std.proofs.lemmas.Bool.{cases_lt}
use Rattle.std.proofs.lemmas.Simd.{mask_l-lt, ones-mask_l_cons}
use Rattle.std.specs.Int.RustNames.{count_ones}
use Rattle.std.proofs.lemmas.Str.{encode_ascii, encodes-append}
use Rattle.std.proofs.str.Laws.{two}
use Rattle.std.specs.Simd.Lanes.{mask_l, top, zip2, sel_l}
use mir.Syntax.{w8}
use Rattle.encoding_kernels.specs.Scans.{HasLanes}
use Rattle.encoding_kernels.specs.KeptBytes.{EncodesTo, kept_places}
use Rattle.encoding_kernels.proofs.ScanLemmas.{Each-take}
use Rattle.encoding_kernels.proofs.MaskPartLemmas.{low_half, first_mask, high_half}
use Rattle.encoding_kernels.proofs.VectorLemmas.{HasLanes-itself, HasLanes-splat, HasLanes-zip2, HasLanes_same, compared, bytes_of, bytes_lanes}
use Rattle.encoding_kernels.proofs.MaskLemmas.{chosen_by, tests_of}
use Rattle.encoding_kernels.proofs.UniformLemmas.{ones-none, respell, spelled_short}

-- ---- one byte
abbrev pub first_of : ℕ → ℕ
first_of b = cond (leb 0x80 b) ((b / 2 ^ 6 + 0xC0) % 2 ^ 8) b

abbrev pub second_of : ℕ → ℕ
second_of b = (bit_and b 0x3F + 0x80) % 2 ^ 8

EncodesTo-latin : (b : ℕ) → b < 0x100 → EncodesTo b (first_of b) (second_of b)
EncodesTo-latin b l = grind (arith, nat_tests, and_mask b 6, two b, encode_ascii b)

first_small : (b : ℕ) → b < 0x100 → first_of b < 0x100
first_small b l = grind (arith, nat_tests)

-- ---- lanes
module _ (v : List ℕ) (long : length v ≡ 16) (small : (k : ℕ) → k < 16 → get_or v k 0 < 0x100) where
  pub first_lanes : HasLanes 16
      (sel_l (map (top 7) (zip2 (compared w8 leb) (replicate 16 0x80) v))
      (zip2 (λ a b. (a + b) % 2 ^ 8) (zip2 (λ a b. a / 2 ^ b) v (replicate 16 6)) (replicate 16 0xC0)) v) (λ k. first_of (get_or v k 0))
  first_lanes =
      let lanes = HasLanes-itself 16 v long in
      let lead = HasLanes-zip2 (λ a b. (a + b) % 2 ^ 8) (HasLanes-zip2 (λ a b. a / 2 ^ b) lanes (HasLanes-splat 16 6)) (HasLanes-splat 16 0xC0) in
      chosen_by (tests_of w8 leb (HasLanes-splat 16 0x80) lanes) lead lanes

  pub second_lanes : HasLanes 16 (zip2 (λ a b. (a + b) % 2 ^ 8) (zip2 bit_and v (replicate 16 0x3F)) (replicate 16 0x80)) (λ k. second_of (get_or v k 0))
  second_lanes = HasLanes-zip2 (λ a b. (a + b) % 2 ^ 8) (HasLanes-zip2 bit_and (HasLanes-itself 16 v long) (HasLanes-splat 16 0x3F)) (HasLanes-splat 16 0x80)

  -- words of both bytes, as bytes
  pub latin_pairs : (lower upper words : List ℕ) (at : ℕ → ℕ) → ((k : ℕ) → k < 8 → at k < 16) → HasLanes 16 lower (λ k. first_of (get_or v k 0))
      → HasLanes 16 upper (λ k. second_of (get_or v k 0))
      → HasLanes 8 words (λ k. get_or lower (at k) 0 + 0x100 * get_or upper (at k) 0) → (k : ℕ) → k < 8
      → EncodesTo (get_or v (at k) 0) (get_or (bytes_of words) (2 * k) 0) (get_or (bytes_of words) (2 * k + 1) 0)
  latin_pairs lower upper words at inside low high is k l =
      let word = HasLanes_same is (λ i m j. low.each (at i) (inside i m) j + 0x100 * high.each (at i) (inside i m) j) in
      let bytes = bytes_lanes word (λ i m. omega (arith, first_small (get_or v (at i) 0) (small (at i) (inside i m)))) k l in
      let b = get_or v (at k) 0 in
      let bound = first_small b (small (at k) (inside k l)) in
      let even : (first_of b + 0x100 * second_of b) % 256 ≡ first_of b = omega (arith, bound) in
      let odd : (first_of b + 0x100 * second_of b) / 256 ≡ second_of b = omega (arith, bound) in
      respell b (bytes.0 ∙ even) (bytes.1 ∙ odd) (EncodesTo-latin b (small (at k) (inside k l)))

-- ---- halves
module _ (v : List ℕ) (long : length v ≡ 16) (others : ℕ) (is : others ≡ mask_l (map (nat_le 0x80) v)) where
  marks_long : length (map (nat_le 0x80) v) ≡ 16
  marks_long = length-map v (nat_le 0x80) ∙ long

  pub others_small : others / 256 < 256
  others_small = let bound : mask_l (map (nat_le 0x80) v) < 2 ^ 16 =
      subst (λ n. mask_l (map (nat_le 0x80) v) < 2 ^ n) marks_long (mask_l-lt (map (nat_le 0x80) v)) in
      omega (arith, is)

  pub low_others : bit_and others 255 ≡ mask_l (map (nat_le 0x80) (take 8 v))
  low_others = and_mask others 8 ∙ ap (λ m. m % 256) is ∙ low_half (map (nat_le 0x80) v) marks_long ∙ ap mask_l (take-map (nat_le 0x80) 8 v)

  pub high_others : others / 256 ≡ mask_l (map (nat_le 0x80) (drop 8 v))
  high_others = ap (λ m. m / 256) is ∙ high_half (map (nat_le 0x80) v) marks_long ∙ ap mask_l (drop-map (nat_le 0x80) 8 v)

  -- the UTF-8 of each half, given what any tests keep of its pairs
  pub first_spelled : (low first : List ℕ) (count : ℕ)
      → ((k : ℕ) → k < 8 → EncodesTo (get_or v k 0) (get_or low (2 * k) 0) (get_or low (2 * k + 1) 0))
      → ((tests : List Bool) → length tests ≡ 8 → bit_and others 255 ≡ mask_l tests → take count first ≡ map (λ k. get_or low k 0) (kept_places 0 tests))
      → take count first ≡ encode_utf8_all (take 8 v)
  first_spelled low first count p kept =
      let low_long : length (take 8 v) ≡ 8 = length-take-le 8 v (omega (arith, long)) in
      kept (map (nat_le 0x80) (take 8 v)) (length-map (take 8 v) (nat_le 0x80) ∙ low_long) low_others
      ∙ spelled_short (take 8 v) low low_long (λ k l. subst (λ b. EncodesTo b (get_or low (2 * k) 0) (get_or low (2 * k + 1) 0))
      (sym (get_or-take 8 v k 0 l)) (p k l))

  pub last_spelled : (high second : List ℕ) (more : ℕ)
      → ((k : ℕ) → k < 8 → EncodesTo (get_or v (8 + k) 0) (get_or high (2 * k) 0) (get_or high (2 * k + 1) 0))
      → ((tests : List Bool) → length tests ≡ 8 → others / 256 ≡ mask_l tests → take more second ≡ map (λ k. get_or high k 0) (kept_places 0 tests))
      → take more second ≡ encode_utf8_all (drop 8 v)
  last_spelled high second more q keeps =
      let high_long : length (drop 8 v) ≡ 8 = omega (arith, long, length-drop 8 v) in
      keeps (map (nat_le 0x80) (drop 8 v)) (length-map (drop 8 v) (nat_le 0x80) ∙ high_long) high_others
      ∙ spelled_short (drop 8 v) high high_long (λ k l. subst (λ b. EncodesTo b (get_or high (2 * k) 0) (get_or high (2 * k + 1) 0))
      (sym (get_or-drop 8 v k 0)) (q k l))

-- the UTF-8 of both halves
pub halves_spelled : (v first second : List ℕ) → first ≡ encode_utf8_all (take 8 v) → second ≡ encode_utf8_all (drop 8 v) → first ++ second ≡ encode_utf8_all v
halves_spelled v first second p q = (λ i. p i ++ q i) ∙ sym (encodes-append (take 8 v) (drop 8 v)) ∙ ap encode_utf8_all (take-append-drop 8 v)

-- of eight bytes and then of the last eight, which may overlap: the UTF-8 of those before the last, followed by that of these
pub few_spelled : (xs block lanes second : List ℕ) (count before : ℕ) → 8 ≤ length xs → length xs ≤ 16 → count ≤ length lanes
    → block ≡ take 8 xs ++ drop (length xs - 8) xs → take count lanes ≡ encode_utf8_all (take 8 block) → second ≡ encode_utf8_all (drop 8 block)
    → before ≡ length (encode_utf8_all (take (length xs - 8) block)) → take before lanes ++ second ≡ encode_utf8_all xs
few_spelled xs block lanes second count before least most fits is p q counted =
    let n = length xs - 8 in
    let within : n ≤ 8 = omega (arith, most) in
    let first_long : length (take 8 xs) ≡ 8 = length-take-le 8 xs least in
    let low : take 8 block ≡ take 8 xs = ap (take 8) is ∙ take_at (take 8 xs) (drop n xs) 8 first_long in
    let high : drop 8 block ≡ drop n xs = ap (drop 8) is ∙ drop_at (take 8 xs) (drop n xs) 8 first_long in
    let prefix : take n block ≡ take n xs = sym (take-take n 8 block within) ∙ ap (take n) low ∙ take-take n 8 xs within in
    let early = encode_utf8_all (take n xs) in
    let late = encode_utf8_all (drop n (take 8 xs)) in
    let whole : take count lanes ≡ early ++ late = p ∙ ap encode_utf8_all (low ∙ sym (take-append-drop n (take 8 xs)))
    ∙ encodes-append (take n (take 8 xs)) (drop n (take 8 xs)) ∙ ap (λ ys. encode_utf8_all ys ++ late) (take-take n 8 xs within) in
    let size : before ≡ length early = counted ∙ ap (λ ys. length (encode_utf8_all ys)) prefix in
    let fewer : before ≤ count = omega (arith, size, ap length whole, length-append early late, length-take-le count lanes fits) in
    let kept : take before lanes ≡ early = sym (take-take before count lanes fewer) ∙ ap (take before) whole ∙ take_at early late before (sym size) in
    (λ i. kept i ++ (q ∙ ap encode_utf8_all high) i) ∙ sym (encodes-append (take n xs) (drop n xs)) ∙ ap encode_utf8_all (take-append-drop n xs)

-- ---- how long the UTF-8 is
latin_long : (bs : List ℕ) → ((k : ℕ) → get_or bs k 0 < 0x100) → length (encode_utf8_all bs) ≡ length bs + count_ones (mask_l (map (nat_le 0x80) bs))
latin_long [] small = omega (arith, ones-none)
latin_long (b ∷ bs) small =
    let rest = latin_long bs (λ k. small (suc k)) in
    let ones = ones-mask_l_cons (nat_le 0x80 b) (map (nat_le 0x80) bs) in
    let long = length-append (encode_utf8 b) (encode_utf8_all bs) in
    elim (cases_lt b 0x80) [
      | inl l ↦ grind (arith, nat_tests, rest, ones, long, ap length (encode_ascii b l))
      | inr l ↦ grind (arith, nat_tests, rest, ones, long, ap length (two b l (omega (arith, small 0))))
    ]

length_two : (c : ℕ) → c < 256 → length (encode_utf8 c) ≤ 2
length_two c h = elim (cases_lt c 128) [
  | inl p ↦ rw (encode_ascii c p) (omega arith)
  | inr p ↦ rw (two c p (omega arith)) (omega arith)
]

pub twice : (xs : List ℕ) → ((i : ℕ) → get_or xs i 0 < 256) → length (encode_utf8_all xs) ≤ 2 * length xs
twice [] h = omega arith
twice (x ∷ xs) h = omega (arith, length-append (encode_utf8 x) (encode_utf8_all xs), length_two x (h 0), twice xs (λ i. h (suc i)))

pub latin_first_most : (v : List ℕ) (e : ℕ) → length v ≡ 16 → ((k : ℕ) → k < 16 → get_or v k 0 < 0x100) → e ≤ 16 → length (encode_utf8_all (take e v)) ≤ 2 * e
latin_first_most v e long small within = omega (
  arith,
  twice (take e v) (Each-take (λ b. b < 256) (omega arith) v e (λ k l. small k (omega arith))),
  length-take-le e v (omega (arith, long)),
)

-- the UTF-8 of the first bytes, given the mask of those that are not ASCII
pub latin_first_long : (v : List ℕ) (others e : ℕ) → length v ≡ 16 → ((k : ℕ) → k < 16 → get_or v k 0 < 0x100) → others ≡ mask_l (map (nat_le 0x80) v) → e ≤ 16
    → e + count_ones (bit_and others (1 * 2 ^ e % 2 ^ 64 - 1)) ≡ length (encode_utf8_all (take e v))
latin_first_long v others e long small is within =
    let mask = first_mask (nat_le 0x80) v others e is (omega arith) (omega arith) in
    let each = latin_long (take e v) (Each-take (λ b. b < 0x100) (omega arith) v e (λ k l. small k (omega arith))) in
    omega (arith, ap count_ones mask, each, length-take-le e v (omega (arith, long)))
