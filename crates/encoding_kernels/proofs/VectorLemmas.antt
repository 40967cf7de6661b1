-- The value of each lane after the operations on vectors, and what the mask of a vector says about its lanes. A vector
-- that is stored in a list at an index, and one that is read from a whole stride. Words of two bytes.
use Rattle.std.proofs.Common.{◌≡◌, ℕ, ◌+◌, ◌≤◌, List, ◌++◌, length, take, drop, drop-drop, take-add, length-take, length-take-le, length-append}
use Rattle.std.proofs.Common.{map, map-id, sym, ap, ◌∙◌, arith, append_assoc, suc, ◌-◌, ◌*◌, ◌/◌, ◌^◌, ◌%◌, ◌<◌, Bool, true, false, not}
use Rattle.std.proofs.Common.{cond, ltb, inl, inr, [], ◌∷◌, get_or, replicate, refl, subst, length-drop, get_or-take, get_or-drop}
use Rattle.std.proofs.lemmas.List.{take_all, take_at, drop_at, take-append-le, take-append-drop, length-map}
use Rattle.std.proofs.lemmas.List.{get_or-map, drop-append-le, get_or_append_left, get_or-append_right, drop_more}
use Rattle.std.proofs.lemmas.Simd.{put_chunk_is, length-chunk, chunk-drop, get_or-chunk, length-replicate, get_or-replicate, length-zip2}
use Rattle.std.proofs.lemmas.Simd.{get_or-zip2, length-sel_l, get_or-sel_l, swz_l, SwzOk, length-swz_l, get_or-swz_l_below, SwzOk-from_below}
use Rattle.std.proofs.lemmas.Simd.{Each1-from_get_or, mask_l-mod, leading_from_mask_l, get_or_wider, get_or_narrower}
use Rattle.std.proofs.lemmas.Slice.{drop-append-drop}
use Rattle.std.specs.Simd.Lanes.{chunk, put_chunk, zip2, mask_l, top, sel_l, number_l, digits_l, Each1}
use Rattle.std.proofs.lemmas.Bool.{cond-true, cond-false, cases_lt, lt-ltb, le-ltb, not-true, not-false}
use Rattle.std.proofs.lemmas.Grind.{same_number_lists}
use Rattle.std.proofs.lemmas.List.Sums.{prefix_len-le-length, prefix_len_passes, prefix_len_stops}
use Rattle.std.specs.List.{prefix_len, range_with_len}
use Rattle.std.proofs.lemmas.List.FromFn.{get_or-map-range_with_len, get_or-range_with_len, length-range_with_len}
use mir.Syntax.{Width, w8, w16, w32, w64, w128}
use mir.Val.{bits, hbits}
use Rattle.encoding_kernels.specs.Scans.{HasLanes}

pub put_is : {X : Type 0} (at n : ℕ) (xs ys : List X) → length ys ≡ n → at + n ≤ length xs → put_chunk at xs ys ≡ take at xs ++ (ys ++ drop (at + n) xs)
put_is at n xs ys long room =
    let rest : drop (length ys) (drop at xs) ≡ drop (at + n) xs = drop-drop (length ys) at xs ∙ ap (λ m. drop (at + m) xs) long in
    put_chunk_is at xs ys (omega arith) ∙ ap (λ zs. take at xs ++ (ys ++ zs)) rest

-- a vector read from a list and stored in another
pub ruleset stored = (put_is, length-chunk)

-- a stride, read whole
pub whole_chunk : {X : Type 0} (n : ℕ) (stride : List X) → length stride ≡ n → chunk 0 n stride ≡ stride
whole_chunk n stride long = take_all n stride (omega (arith, long))

-- a vector read from another list, each lane cast to what holds it
pub put_copied : {X : Type 0} (from at n : ℕ) (xs ys : List X) → from + n ≤ length ys → at + n ≤ length xs
    → put_chunk at xs (map (λ x. x) (chunk from n ys)) ≡ take at xs ++ (take n (drop from ys) ++ drop (at + n) xs)
put_copied from at n xs ys within room =
    ap (put_chunk at xs) (map-id (chunk from n ys)) ∙ put_is at n xs (chunk from n ys) (length-chunk from n ys within) room

-- a stored vector whose first lanes count: the list before their end, and from a vector's width after it
pub put_prefix : (w : ℕ) (xs ys : List ℕ) (at n : ℕ) → length ys ≡ w → n ≤ w → at + w ≤ length xs
    → (take (at + n) (put_chunk at xs ys) ≡ take at xs ++ take n ys) × (drop (at + n + w) (put_chunk at xs ys) ≡ drop (at + n + w) xs)
put_prefix w xs ys at n long few room =
    let is : put_chunk at xs ys ≡ take at xs ++ (ys ++ drop (at + w) xs) = put_is at w xs ys long room in
    let start : length (take at xs) ≡ at = length-take-le at xs (omega arith) in
    let both : length (take at xs ++ ys) ≡ at + w = omega (arith, length-append (take at xs) ys) in (
      take-add at n (put_chunk at xs ys) ∙ (λ i. take at (is i) ++ take n (drop at (is i)))
          ∙ (λ i. take_at (take at xs) (ys ++ drop (at + w) xs) at start i ++ take n (drop_at (take at xs) (ys ++ drop (at + w) xs) at start i))
          ∙ ap (λ zs. take at xs ++ zs) (take-append-le n ys (drop (at + w) xs) (omega arith)),
      ap (drop (at + n + w)) (is ∙ sym (append_assoc (take at xs) ys (drop (at + w) xs)))
          ∙ drop-append-drop (at + w) xs (take at xs ++ ys) (at + n + w) (omega arith) both,
    )

-- what is written back after `count` bytes, of which some may have changed
pub put_back : (w : ℕ) (old mid : List ℕ) (count : ℕ) → count + w ≤ length old → length mid ≡ length old → drop (count + w) mid ≡ drop (count + w) old
    → put_chunk count mid (chunk count w old) ≡ take count mid ++ drop count old
put_back w old mid count room long rest =
    put_is count w mid (chunk count w old) (length-chunk count w old room) (omega arith)
    ∙ (λ i. take count mid ++ (chunk count w old ++ (rest ∙ sym (drop-drop w count old)) i))
    ∙ ap (λ xs. take count mid ++ xs) (take-append-drop w (drop count old))

-- what is copied to the same indices, and what is copied after it
pub copied_after : {X : Type 0} (at n m : ℕ) (xs ys first second : List X) → at + (n + m) ≤ length ys → at + (n + m) ≤ length xs
    → first ≡ take at xs ++ (take n (drop at ys) ++ drop (at + n) xs)
    → second ≡ take (at + n) first ++ (take m (drop (at + n) ys) ++ drop (at + n + m) first)
    → second ≡ take at xs ++ (take (n + m) (drop at ys) ++ drop (at + (n + m)) xs)
copied_after at n m xs ys first second within room is then =
    let part = take n (drop at ys) in
    let done = take at xs ++ part in
    let size : length done ≡ at + n = omega (arith, length-append (take at xs) part, length-take at xs, length-take n (drop at ys), length-drop at ys) in
    let stored : first ≡ done ++ drop (at + n) xs = is ∙ sym (append_assoc (take at xs) part (drop (at + n) xs)) in
    let before : take (at + n) first ≡ done = ap (take (at + n)) stored ∙ take_at done (drop (at + n) xs) (at + n) size in
    let past : drop (at + n + m) first ≡ drop (at + n + m) xs = ap (drop (at + n + m)) stored
    ∙ drop-append-drop (at + n) xs done (at + n + m) (omega arith) size in
    let both : part ++ take m (drop (at + n) ys) ≡ take (n + m) (drop at ys) = ap (λ zs. part ++ take m zs) (sym (drop-drop n at ys))
    ∙ sym (take-add n m (drop at ys)) in
    let place : at + n + m ≡ at + (n + m) = omega arith in
    then
    ∙ (λ i. before i ++ (take m (drop (at + n) ys) ++ past i))
    ∙ append_assoc (take at xs) part (take m (drop (at + n) ys) ++ drop (at + n + m) xs)
    ∙ ap (λ zs. take at xs ++ zs) (sym (append_assoc part (take m (drop (at + n) ys)) (drop (at + n + m) xs)))
    ∙ (λ i. take at xs ++ (both i ++ drop (place i) xs))

-- ---- lanes
pub HasLanes_load : (at n : ℕ) (xs : List ℕ) → at + n ≤ length xs → HasLanes n (chunk at n xs) (λ k. get_or xs (at + k) 0)
HasLanes_load at n xs room = record { long = length-chunk at n xs room; each = λ k l. get_or-chunk at n xs k 0 l }

-- a vector that was loaded
pub HasLanes_loaded : (at n : ℕ) (xs lanes : List ℕ) → at + n ≤ length xs → lanes ≡ chunk at n xs → HasLanes n lanes (λ k. get_or xs (at + k) 0)
HasLanes_loaded at n xs lanes room is = subst (λ ys. HasLanes n ys (λ k. get_or xs (at + k) 0)) (sym is) (HasLanes_load at n xs room)

pub HasLanes-splat : (n x : ℕ) → HasLanes n (replicate n x) (λ _. x)
HasLanes-splat n x = record { long = length-replicate n x; each = λ k l. get_or-replicate n k x 0 l }

-- an operator on two vectors
pub HasLanes-zip2 : (h : ℕ → ℕ → ℕ) {n : ℕ} {a b : List ℕ} {f g : ℕ → ℕ} → HasLanes n a f → HasLanes n b g → HasLanes n (zip2 h a b) (λ k. h (f k) (g k))
HasLanes-zip2 h {n} {a} {b} {f} {g} p q = record {
  long = length-zip2 h a b (p.long ∙ sym q.long) ∙ p.long;
  each = λ k l. get_or-zip2 h a b k 0 0 0 (omega (arith, p.long)) (omega (arith, q.long)) ∙ (λ i. h (p.each k l i) (q.each k l i));
}

-- a cast
pub HasLanes-cast : {n : ℕ} {a : List ℕ} {f : ℕ → ℕ} → HasLanes n a f → HasLanes n (map (λ x. x) a) f
HasLanes-cast {n} {a} {f} p = subst (λ xs. HasLanes n xs f) (sym (map-id a)) p

pub HasLanes-itself : (n : ℕ) (a : List ℕ) → length a ≡ n → HasLanes n a (λ k. get_or a k 0)
HasLanes-itself n a long = record { long = long; each = λ k l. refl }

-- the number of each lane
pub HasLanes-numbers : (n : ℕ) → HasLanes n (range_with_len 0 n) (λ k. k)
HasLanes-numbers n = record { long = length-range_with_len 0 n; each = λ k l. let e : 0 + k ≡ k = omega arith in get_or-range_with_len 0 n k 0 l ∙ e }

-- two functions have the same values below a bound, if all of them compute to the same
pub same_below : {X : Type 0} (f g : ℕ → X) (d : X) (n : ℕ) → map f (range_with_len 0 n) ≡ map g (range_with_len 0 n) → (k : ℕ) → k < n → f k ≡ g k
same_below f g d n e k l = sym (get_or-map-range_with_len f 0 n k k d l (omega arith)) ∙ ap (λ xs. get_or xs k d) e
    ∙ get_or-map-range_with_len g 0 n k k d l (omega arith)

-- a stride, read whole
pub HasLanes-whole : (n : ℕ) (xs : List ℕ) → length xs ≡ n → HasLanes n (chunk 0 n xs) (λ k. get_or xs k 0)
HasLanes-whole n xs long = subst (λ ys. HasLanes n ys (λ k. get_or xs k 0)) (sym (whole_chunk n xs long)) (HasLanes-itself n xs long)

pub HasLanes_same : {n : ℕ} {a : List ℕ} {f g : ℕ → ℕ} → HasLanes n a f → ((k : ℕ) → k < n → f k ≡ g k) → HasLanes n a g
HasLanes_same p e = record { long = p.long; each = λ k l. p.each k l ∙ e k l }

-- `mask.select(a, b)`
pub HasLanes-select : (h : ℕ) {n : ℕ} {m a b : List ℕ} {t f g : ℕ → ℕ} → HasLanes n m t → HasLanes n a f → HasLanes n b g
    → HasLanes n (sel_l (map (top h) m) a b) (λ k. cond (top h (t k)) (f k) (g k))
HasLanes-select h {n} {m} {a} {b} {t} {f} {g} p q r =
    let tops = map (top h) m in
    let long : length tops ≡ n = length-map m (top h) ∙ p.long in
    record {
      long = length-sel_l tops a b (long ∙ sym q.long) (long ∙ sym r.long) ∙ long;
      each = λ k l.
          let set : get_or tops k false ≡ top h (t k) = get_or-map (top h) m k 0 false (omega (arith, p.long)) ∙ ap (top h) (p.each k l) in
          get_or-sel_l tops a b k 0 (omega arith) (omega (arith, q.long)) (omega (arith, r.long)) ∙ (λ i. cond (set i) (q.each k l i) (r.each k l i));
    }

-- `table.swizzle_dyn(js)` of sixteen bytes, with each position below 16
pub HasLanes-swizzle : (table : List ℕ) {js : List ℕ} {f : ℕ → ℕ} → HasLanes 16 js f → ((k : ℕ) → k < 16 → f k < 16)
    → HasLanes 16 (swz_l w8 16 table 0 js) (λ k. get_or table (f k) 0)
HasLanes-swizzle table {js} {f} p small = record {
  long = length-swz_l w8 16 table 0 js ∙ p.long;
  each = λ k l.
      let is : 16 * ((0 + k) / 16) + get_or js k 0 ≡ f k = omega (arith, p.each k l) in
      get_or-swz_l_below w8 16 table 0 js k (omega (arith, p.long)) (omega (arith, p.each k l, small k l)) ∙ ap (λ j. get_or table j 0) is;
}

pub swizzle_ok : {js : List ℕ} {f : ℕ → ℕ} → HasLanes 16 js f → ((k : ℕ) → k < 16 → f k < 16) → SwzOk w8 16 16 0 js
swizzle_ok {js} {f} p small =
    SwzOk-from_below w8 16 1 16 0 js (omega arith) (omega (arith, p.long))
    (Each1-from_get_or (λ j. j < 16) js 0 (λ k l. let in_js : k < 16 = omega (arith, p.long) in omega (arith, p.each k in_js, small k in_js)))

-- a comparison: all bits of the lane are set if it holds
abbrev pub compared : Width → (ℕ → ℕ → Bool) → ℕ → ℕ → ℕ
compared w t a b = cond (t a b) (2 ^ bits w - 1) 0

pub top_compared : (w : Width) (b : Bool) → top (hbits w) (cond b (2 ^ bits w - 1) 0) ≡ b
top_compared w8 true = refl
top_compared w16 true = refl
top_compared w32 true = refl
top_compared w64 true = refl
top_compared w128 true = refl
top_compared w8 false = refl
top_compared w16 false = refl
top_compared w32 false = refl
top_compared w64 false = refl
top_compared w128 false = refl

-- ---- the mask of a vector
abbrev pub mask_of : ℕ → List ℕ → ℕ
mask_of h lanes = mask_l (map (top h) lanes) % 2 ^ 64

pub mask_is : (h n : ℕ) (a : List ℕ) → length a ≡ n → n ≤ 64 → mask_of h a ≡ mask_l (map (top h) a)
mask_is h n a long few = mask_l-mod (map (top h) a) 64 (omega (arith, length-map a (top h), long))

-- if no lane passes p, no bit is set
empty_mask : {X : Type 0} (p : X → Bool) (xs : List X) (d : X) → ((k : ℕ) → k < length xs → p (get_or xs k d) ≡ false) → mask_l (map p xs) ≡ 0
empty_mask p [] d h = refl
empty_mask p (x ∷ xs) d h =
    let first : cond {A = ℕ} (p x) 1 0 ≡ 0 = ap (λ b. cond b 1 0) (h 0 (omega arith)) in
    omega (arith, first, empty_mask p xs d (λ k l. h (suc k) (omega arith)))

-- of n lanes, the first at which t holds is r, or there is none and r is n
pub record IsFirstSet (n r : ℕ) (t : ℕ → Bool) : Type 0 where
  pub within : r ≤ n
  pub before : (k : ℕ) → k < r → t k ≡ false
  pub found : r < n → t r ≡ true

module _ (h : ℕ) {n : ℕ} {a : List ℕ} {f : ℕ → ℕ} (lanes : HasLanes n a f) (few : n ≤ 64) where
  at_lane : (k : ℕ) → k < n → top h (get_or a k 0) ≡ top h (f k)
  at_lane k l = ap (top h) (lanes.each k l)

  pub first_set : (r : ℕ) → r ≡ prefix_len (λ x. not (top h x)) a → IsFirstSet n r (λ k. top h (f k))
  first_set r e =
      let bound : r ≤ n = omega (arith, e, lanes.long, prefix_len-le-length (λ x. not (top h x)) a) in
      record {
        within = bound;
        before = λ k l. sym (at_lane k (omega arith)) ∙ not-true _ (prefix_len_passes (λ x. not (top h x)) a k 0 (omega (arith, e)));
        found = λ l. sym (at_lane r l) ∙ ap (λ j. top h (get_or a j 0)) e
            ∙ not-false _ (prefix_len_stops (λ x. not (top h x)) a 0 (omega (arith, e, lanes.long)));
      }

  -- if `mask.to_bitmask()` is 0
  pub first_none : mask_of h a ≡ 0 → IsFirstSet n n (λ k. top h (f k))
  first_none none = first_set n (sym (leading_from_mask_l (top h) a (sym (mask_is h n a lanes.long few) ∙ none) ∙ lanes.long))

  -- no bit is set
  pub no_bit_from : ((k : ℕ) → k < n → top h (f k) ≡ false) → mask_of h a ≡ 0
  no_bit_from p = mask_is h n a lanes.long few ∙ empty_mask (top h) a 0 (λ k l. at_lane k (omega (arith, lanes.long)) ∙ p k (omega (arith, lanes.long)))

-- ---- a store whose first lanes count
-- the first `count` lanes of one vector, followed by those of another
pub firsts_are : (n count : ℕ) (lanes following z : List ℕ) → length lanes ≡ n → length following ≡ n → count ≤ n
    → HasLanes n z (λ k. cond (ltb k count) (get_or lanes k 0) (get_or following k 0)) → z ≡ take count lanes ++ drop count following
firsts_are n count lanes following z p q few h =
    let prefix : length (take count lanes) ≡ count = length-take-le count lanes (omega arith) in
    same_number_lists z (take count lanes ++ drop count following)
    (omega (arith, h.long, length-append (take count lanes) (drop count following), length-drop count following)) (λ k l.
    let within : k < n = omega (arith, h.long) in
    h.each k within ∙ elim (cases_lt k count) [
      | inl a ↦ cond-true _ _ _ (lt-ltb k count a) ∙ sym (get_or_append_left (take count lanes) (drop count following) 0 k (omega arith)
          ∙ get_or-take count lanes k 0 a)
      | inr b ↦
          let back : count + (k - count) ≡ k = omega arith in
          cond-false _ _ _ (le-ltb k count b) ∙ sym (get_or-append_right (take count lanes) (drop count following) count k 0 prefix b
          ∙ get_or-drop count following (k - count) 0 ∙ ap (λ j. get_or following j 0) back)
    ])

pub put_firsts : (at n count : ℕ) (xs lanes z : List ℕ) → at + n ≤ length xs → length lanes ≡ n → count ≤ n
    → HasLanes n z (λ k. cond (ltb k count) (get_or lanes k 0) (get_or (chunk at n xs) k 0))
    → put_chunk at xs z ≡ take at xs ++ (take count lanes ++ drop (at + count) xs)
put_firsts at n count xs lanes z room p few h =
    let long = length-chunk at n xs room in
    let following = chunk at n xs in
    let is = firsts_are n count lanes following z p long few h in
    let rest : drop count following ++ drop (at + n) xs ≡ drop (at + count) xs =
    sym (drop-append-le count following (drop (at + n) xs) (omega arith)) ∙ ap (drop count) (sym (chunk-drop at n xs)) ∙ drop-drop count at xs in
    put_is at n xs z h.long room ∙ ap (λ ys. take at xs ++ (ys ++ drop (at + n) xs)) is
    ∙ ap (λ ys. take at xs ++ ys) (append_assoc (take count lanes) (drop count following) (drop (at + n) xs) ∙ ap (λ ys. take count lanes ++ ys) rest)

two_at : (bs : List ℕ) (i : ℕ) → i + 1 < length bs → take 2 (drop i bs) ≡ get_or bs i 0 ∷ get_or bs (i + 1) 0 ∷ []
two_at bs i l = ap (take 2) (drop_more bs i 0 (omega arith)) ∙ ap (λ xs. get_or bs i 0 ∷ take 1 xs) (drop_more bs (i + 1) 0 l)

joined : (x y : ℕ) → number_l 256 (x ∷ y ∷ []) ≡ x + 256 * y
joined x y = omega arith

-- the words of bytes
abbrev pub wide_l : List ℕ → List ℕ
wide_l bs = digits_l 65536 8 (number_l 256 bs)

-- the words of n pairs of bytes
widened : (n : ℕ) (bs : List ℕ) → length bs ≡ 2 * n → length (digits_l 65536 n (number_l 256 bs)) ≡ n → Each1 (λ x. x < 256) bs
    → HasLanes n (digits_l 65536 n (number_l 256 bs)) (λ j. get_or bs (2 * j) 0 + 256 * get_or bs (2 * j + 1) 0)
widened n bs long size fit = record {
  long = size;
  each = λ j l. get_or_wider 256 2 65536 n bs j refl fit l ∙ ap (number_l 256) (two_at bs (2 * j) (omega (arith, long)))
      ∙ joined (get_or bs (2 * j) 0) (get_or bs (2 * j + 1) 0);
}

pub wide : (bs : List ℕ) → length bs ≡ 16 → Each1 (λ x. x < 256) bs → HasLanes 8 (wide_l bs) (λ j. get_or bs (2 * j) 0 + 256 * get_or bs (2 * j + 1) 0)
wide bs long fit = widened 8 bs long refl fit

abbrev pub wide_sixteen_l : List ℕ → List ℕ
wide_sixteen_l bs = digits_l 65536 16 (number_l 256 bs)

pub wide_sixteen : (bs : List ℕ) → length bs ≡ 32 → Each1 (λ x. x < 256) bs
    → HasLanes 16 (wide_sixteen_l bs) (λ j. get_or bs (2 * j) 0 + 256 * get_or bs (2 * j + 1) 0)
wide_sixteen bs long fit = widened 16 bs long refl fit

-- the bytes of n words
pub narrow : (n : ℕ) (words : List ℕ) (f : ℕ → ℕ) → HasLanes n words f → ((k : ℕ) → k < n → f k < 65536) → (k : ℕ) → k < n
    → (get_or (digits_l 256 (2 * n) (number_l 65536 words)) (2 * k) 0 ≡ f k % 256)
    × (get_or (digits_l 256 (2 * n) (number_l 65536 words)) (2 * k + 1) 0 ≡ f k / 256)
narrow n words f lanes small k l =
    let fit : Each1 (λ x. x < 65536) words = Each1-from_get_or (λ x. x < 65536) words 0 (λ i m. let within : i < n = omega (arith, lanes.long) in
    omega (arith, lanes.each i within, small i within)) in
    let part = λ (j : ℕ) (m : j < 2). get_or_narrower 65536 2 256 (2 * n) words k j (omega arith) fit m (omega (arith, lanes.long)) in
    let place : 2 * k ≡ 2 * k + 0 = omega arith in
    let low : get_or words k 0 / 256 ^ 0 % 256 ≡ f k % 256 = omega (arith, lanes.each k l) in
    let high : get_or words k 0 / 256 ^ 1 % 256 ≡ f k / 256 = omega (arith, lanes.each k l, small k l) in
    (ap (λ j. get_or (digits_l 256 (2 * n) (number_l 65536 words)) j 0) place ∙ part 0 (omega arith) ∙ low, part 1 (omega arith) ∙ high)

abbrev pub bytes_of : List ℕ → List ℕ
bytes_of words = digits_l 256 16 (number_l 65536 words)

pub bytes_lanes : {words : List ℕ} {f : ℕ → ℕ} → HasLanes 8 words f → ((k : ℕ) → k < 8 → f k < 65536) → (k : ℕ) → k < 8
    → (get_or (bytes_of words) (2 * k) 0 ≡ f k % 256) × (get_or (bytes_of words) (2 * k + 1) 0 ≡ f k / 256)
bytes_lanes {words} {f} = narrow 8 words f

abbrev pub bytes_of_sixteen : List ℕ → List ℕ
bytes_of_sixteen words = digits_l 256 32 (number_l 65536 words)

pub sixteen_lanes : {words : List ℕ} {f : ℕ → ℕ} → HasLanes 16 words f → ((k : ℕ) → k < 16 → f k < 65536) → (k : ℕ) → k < 16
    → (get_or (bytes_of_sixteen words) (2 * k) 0 ≡ f k % 256) × (get_or (bytes_of_sixteen words) (2 * k + 1) 0 ≡ f k / 256)
sixteen_lanes {words} {f} = narrow 16 words f
