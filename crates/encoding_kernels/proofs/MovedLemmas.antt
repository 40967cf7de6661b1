-- The words of a vector, moved by the indices of their bytes: to any lanes, and so that the last of eight follow others.
use Rattle.std.proofs.Common.{◌≡◌, ℕ, zero, suc, ◌+◌, ◌-◌, ◌*◌, ◌/◌, ◌%◌, ◌^◌, ◌<◌, ◌≤◌, List, ◌++◌, length, take, drop, get_or, get_or-take}
use Rattle.std.proofs.Common.{get_or-drop, length-append, length-drop, length-take-le, replicate, bit_and, sym, ap, ◌∙◌, arith, subst, w8}
use Rattle.std.specs.List.{range_with_len}
use Rattle.std.specs.Simd.Lanes.{zip2, pick_l, Each1, digits_l, number_l}
use Rattle.std.proofs.lemmas.Grind.{same_number_lists}
use Rattle.std.proofs.Math.Seq.{take-append-add}
use Rattle.std.proofs.lemmas.Nat.{and_mask}
use Rattle.std.proofs.lemmas.Simd.{swz_l, Each1-get_or, Each1-from_get_or, pick_l_whole}
use Rattle.encoding_kernels.specs.Scans.{HasLanes}
use Rattle.encoding_kernels.proofs.VectorLemmas.{HasLanes-itself, HasLanes-numbers, HasLanes-splat, HasLanes-swizzle}
use Rattle.encoding_kernels.proofs.VectorLemmas.{HasLanes-zip2, HasLanes_same, bytes_lanes, bytes_of, wide, wide_l}

digit_small : (n x i : ℕ) → get_or (digits_l 256 n x) i 0 < 256
digit_small zero x i = omega arith
digit_small (suc n) x zero = omega arith
digit_small (suc n) x (suc i) = digit_small n (x / 256) i

-- each lane from the lane that f names, by the indices of its two bytes
module _ (words js : List ℕ) (place f : ℕ → ℕ) (eight : length words ≡ 8) (fit : Each1 (λ x. x < 65536) words) (placed : HasLanes 16 js place)
    (inside : (k : ℕ) → k < 16 → place k < 16) (even : (j : ℕ) → j < 8 → place (2 * j) ≡ 2 * f j) (odd : (j : ℕ) → j < 8
    → place (2 * j + 1) ≡ 2 * f j + 1) where
  moved : HasLanes 16 (swz_l w8 16 (bytes_of words) 0 js) (λ k. get_or (bytes_of words) (place k) 0)
  moved = HasLanes-swizzle (bytes_of words) placed inside

  moved_small : Each1 (λ x. x < 256) (swz_l w8 16 (bytes_of words) 0 js)
  moved_small = Each1-from_get_or (λ x. x < 256) (swz_l w8 16 (bytes_of words) 0 js) 0 (λ k l.
      subst (λ x. x < 256) (sym (moved.each k (omega (arith, moved.long)))) (digit_small 16 (number_l 65536 words) (place k)))

  pub words_moved : HasLanes 8 (wide_l (swz_l w8 16 (bytes_of words) 0 js)) (λ j. get_or words (f j) 0)
  words_moved = HasLanes_same (wide _ moved.long moved_small) (λ j l.
      let k = f j in
      let small : k < 8 = omega (arith, even j l, inside (2 * j) (omega arith)) in
      let two = bytes_lanes (HasLanes-itself 8 words eight) (λ i b. Each1-get_or (λ x. x < 65536) words i 0 (omega (arith, eight)) fit) k small in
      let bytes = λ (i : ℕ). get_or (bytes_of words) i 0 in
      let low = moved.each (2 * j) (omega arith) ∙ ap bytes (even j l) ∙ two.0 in
      let high = moved.each (2 * j + 1) (omega arith) ∙ ap bytes (odd j l) ∙ two.1 in
      let whole : get_or words k 0 % 256 + 256 * (get_or words k 0 / 256) ≡ get_or words k 0 = omega arith in
      (λ i. low i + 256 * high i) ∙ whole)

-- those of the last eight that follow the first eight
abbrev last_moved : List ℕ → ℕ → List ℕ
last_moved last count = wide_l (swz_l w8 16 (bytes_of last) 0
    (zip2 bit_and (zip2 (λ a b. (a + b) % 2 ^ 8) (range_with_len 0 16) (replicate 16 (2 * (16 - count)))) (replicate 16 15)))

module _ (first last : List ℕ) (count : ℕ) (long : length first ≡ 8) (eight : length last ≡ 8) (fit : Each1 (λ x. x < 65536) last) (least : 8 ≤ count)
    (most : count ≤ 16) where
  last_lanes : HasLanes 8 (last_moved last count) (λ j. get_or last ((j + (16 - count)) % 8) 0)
  last_lanes =
      let far = 2 * (16 - count) in
      let sum = HasLanes-zip2 (λ a b. (a + b) % 2 ^ 8) (HasLanes-numbers 16) (HasLanes-splat 16 far) in
      let placed = HasLanes_same (HasLanes-zip2 bit_and sum (HasLanes-splat 16 15)) (λ k l. and_mask ((k + far) % 2 ^ 8) 4) in
      words_moved last _ (λ k. (k + far) % 2 ^ 8 % 2 ^ 4) (λ j. (j + (16 - count)) % 8) eight fit placed (λ k l. omega arith) (λ j l. omega arith)
      (λ j l. omega arith)

  last_follow : take (count - 8) (last_moved last count) ≡ drop (16 - count) last
  last_follow =
      let short = length-take-le (count - 8) (last_moved last count) (omega (arith, last_lanes.long)) in
      same_number_lists (take (count - 8) (last_moved last count)) (drop (16 - count) last) (omega (arith, short, length-drop (16 - count) last)) (λ k l.
      let within : k < count - 8 = omega (arith, short) in
      let place : (k + (16 - count)) % 8 ≡ 16 - count + k = omega arith in
      get_or-take (count - 8) (last_moved last count) k 0 within ∙ last_lanes.each k (omega arith) ∙ ap (λ j. get_or last j 0) place
      ∙ sym (get_or-drop (16 - count) last k 0))

  pub eights_joined : take count (pick_l 0 (first ++ last_moved last count) (range_with_len 0 16)) ≡ first ++ drop (16 - count) last
  eights_joined =
      let both = first ++ last_moved last count in
      let size : length both ≡ 16 = omega (arith, length-append first (last_moved last count), last_lanes.long) in
      let all : count ≡ length first + (count - 8) = omega arith in
      ap (take count) (pick_l_whole 0 both 16 size) ∙ ap (λ n. take n both) all ∙ take-append-add first (last_moved last count) (count - 8)
      ∙ ap (λ xs. first ++ xs) last_follow
