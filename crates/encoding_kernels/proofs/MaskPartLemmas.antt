-- The mask of a list of marks: of two lists joined, of a prefix, of what follows an index, and of both halves of sixteen marks.
use Rattle.std.proofs.Common.{◌≡◌, ℕ, zero, suc, ◌+◌, ◌-◌, ◌*◌, ◌/◌, ◌%◌, ◌^◌, ◌<◌, ◌≤◌, Bool, false, cond, List, [], ◌∷◌}
use Rattle.std.proofs.Common.{◌++◌, map, length, take, drop, replicate, bit_and, refl, sym, ap, ◌∙◌, arith, subst}
use Rattle.std.specs.Simd.Lanes.{mask_l}
use Rattle.std.proofs.Math.Nat.{pow-suc, mul_assoc}
use Rattle.std.proofs.lemmas.Nat.{and_mask, div-mul-add, mod_low, one_shl}
use Rattle.std.proofs.lemmas.List.{append-nil, length-map, length-append, length-take-le, length-drop, take-map, take-append-drop, length-replicate}
use Rattle.std.proofs.lemmas.Simd.{mask_l-lt}

pub mask_append : (xs ys : List Bool) → mask_l (xs ++ ys) ≡ mask_l ys * 2 ^ length xs + mask_l xs
mask_append [] ys = omega arith
mask_append (x ∷ xs) ys =
    let more = mask_append xs ys in
    let power : mask_l ys * 2 ^ suc (length xs) ≡ mask_l ys * 2 ^ length xs * 2 = ap (λ n. mask_l ys * n) (pow-suc 2 (length xs))
    ∙ sym (mul_assoc (mask_l ys) (2 ^ length xs) 2) in
    omega (arith, more, power)

mask_none : (n : ℕ) → mask_l (replicate n false) ≡ 0
mask_none zero = refl
mask_none (suc n) = omega (arith, mask_none n)

mask_pad : (xs : List Bool) (n : ℕ) → mask_l (xs ++ replicate n false) ≡ mask_l xs
mask_pad [] n = mask_none n
mask_pad (x ∷ xs) n = ap (λ m. cond x 1 0 + 2 * m) (mask_pad xs n)

-- a mask in two parts
pub mask_split : (xs : List Bool) (e : ℕ) → e ≤ length xs → (mask_l xs ≡ mask_l (drop e xs) * 2 ^ e + mask_l (take e xs)) × (mask_l (take e xs) < 2 ^ e)
mask_split xs e h =
    let long : length (take e xs) ≡ e = length-take-le e xs h in (
      ap mask_l (sym (take-append-drop e xs)) ∙ mask_append (take e xs) (drop e xs) ∙ ap (λ k. mask_l (drop e xs) * 2 ^ k + mask_l (take e xs)) long,
      subst (λ k. mask_l (take e xs) < 2 ^ k) long (mask_l-lt (take e xs)),
    )

-- the marks before an index
pub mask_prefix : (xs : List Bool) (n e : ℕ) → e ≤ length xs → bit_and (mask_l xs) (2 ^ e - 1) ≡ mask_l (take e xs ++ replicate n false)
mask_prefix xs n e h =
    let split = mask_split xs e h in
    and_mask (mask_l xs) e ∙ ap (λ m. m % 2 ^ e) split.0 ∙ mod_low (mask_l (drop e xs)) e (mask_l (take e xs)) split.1 ∙ sym (mask_pad (take e xs) n)

-- the marks from an index on
pub mask_suffix : (xs : List Bool) (e : ℕ) → e ≤ length xs → mask_l xs / 2 ^ e * 2 ^ e ≡ mask_l (replicate e false ++ drop e xs)
mask_suffix xs e h =
    let split = mask_split xs e h in
    let zeros : mask_l (replicate e false ++ drop e xs) ≡ mask_l (drop e xs) * 2 ^ e = mask_append (replicate e false) (drop e xs)
    ∙ (λ i. mask_l (drop e xs) * 2 ^ length-replicate e false i + mask_none e i) ∙ omega arith in
    ap (λ m. m * 2 ^ e) (ap (λ m. m / 2 ^ e) split.0 ∙ div-mul-add (mask_l (drop e xs)) (2 ^ e) (mask_l (take e xs)) split.1) ∙ sym zeros

-- the marks from an index up to another
pub part_size : (xs : List Bool) (from to : ℕ) → length xs ≡ 16 → from ≤ to → to ≤ 16
    → length (replicate from false ++ drop from (take to xs ++ replicate (16 - to) false)) ≡ 16
part_size xs from to long before within =
    let pad = replicate {A = Bool} (16 - to) false in
    omega (
      arith,
      length-take-le to xs (omega (arith, long)),
      length-append (take to xs) pad,
      length-replicate {A = Bool} (16 - to) false,
      length-append (replicate from false) (drop from (take to xs ++ pad)),
      length-replicate {A = Bool} from false,
      length-drop from (take to xs ++ pad),
    )

pub mask_between : (xs : List Bool) (from to : ℕ) → length xs ≡ 16 → from ≤ to → to ≤ 16
    → bit_and (mask_l xs) (2 ^ to - 1) / 2 ^ from * 2 ^ from ≡ mask_l (replicate from false ++ drop from (take to xs ++ replicate (16 - to) false))
mask_between xs from to long before within =
    let pad = replicate {A = Bool} (16 - to) false in
    let size = length-take-le to xs (omega (arith, long)) in
    ap (λ m. m / 2 ^ from * 2 ^ from) (mask_prefix xs (16 - to) to (omega (arith, long)))
    ∙ mask_suffix (take to xs ++ pad) from (omega (arith, size, length-append (take to xs) pad))

-- the mask of the tests of the first items
pub first_mask : (test : ℕ → Bool) (xs : List ℕ) (mask e : ℕ) → mask ≡ mask_l (map test xs) → e ≤ length xs → e < 64
    → bit_and mask (1 * 2 ^ e % 2 ^ 64 - 1) ≡ mask_l (map test (take e xs))
first_mask test xs mask e is within small =
    (λ i. bit_and (is i) (one_shl e 64 small i - 1)) ∙ mask_prefix (map test xs) 0 e (omega (arith, length-map xs test))
    ∙ ap mask_l (append-nil (take e (map test xs)) ∙ take-map test e xs)

-- sixteen marks in two halves
module _ (ms : List Bool) (long : length ms ≡ 16) where
  pub sixteen_small : (mask : ℕ) → mask ≡ mask_l ms → mask < 2 ^ 16
  sixteen_small mask is = let small : mask_l ms < 2 ^ 16 = subst (λ n. mask_l ms < 2 ^ n) long (mask_l-lt ms) in omega (arith, is)

  pub low_half : mask_l ms % 256 ≡ mask_l (take 8 ms)
  low_half = let split = mask_split ms 8 (omega (arith, long)) in omega (arith, split.0, split.1)

  pub high_half : mask_l ms / 256 ≡ mask_l (drop 8 ms)
  high_half = let split = mask_split ms 8 (omega (arith, long)) in omega (arith, split.0, split.1)
