-- The last sixteen bytes of Latin1 text in UTF-8 as one block, which may begin in the middle of a character.
use Rattle.std.proofs.Common.{◌≡◌, ℕ, zero, suc, ◌+◌, ◌-◌, ◌<◌, ◌≤◌, ◌⊎◌, List, ◌∷◌, ◌++◌, length, take}
use Rattle.std.proofs.Common.{drop, slice_index, encode_utf8_all, sym, ap, ◌∙◌, arith, subst, append_assoc}
use Rattle.std.specs.Simd.Lanes.{chunk}
use Rattle.std.proofs.lemmas.List.{length-append, length-drop, length-take, length-take-le, get_or-drop}
use Rattle.std.proofs.lemmas.List.{get_or-take, drop-drop, take_at, take-take, take-append-drop}
use Rattle.std.proofs.lemmas.Simd.{get_or-chunk}
use Rattle.encoding_definitions.specs.Latin1.{IsLatin1}
use Rattle.encoding_definitions.specs.Prefixes.{WritesPrefix}
use Rattle.encoding_kernels.specs.KeptBytes.{all_latin1_ended}
use Rattle.encoding_kernels.proofs.Latin1FromUtf8Lemmas.{NextIs, nexts, ended_all, ended_append}
use Rattle.encoding_text.proofs.Latin1ConversionLemmas.{apart, last_block}

abbrev last : List ℕ → ℕ
last src = length src - 16

-- the last block, and the byte before it
abbrev block : List ℕ → List ℕ
block src = chunk (last src) 16 src

abbrev pub byte_before : List ℕ → ℕ
byte_before src = slice_index src (last src - 1)

-- the bytes that the block's first ones end, up to an index of the text
abbrev ended_first : List ℕ → ℕ → List ℕ
ended_first src read = all_latin1_ended (byte_before src) (take (read - last src) (block src))

-- what was written is as many characters
pub written_within : (old cs : List ℕ) (n : ℕ) → n ≤ length old → take n old ≡ take n cs → n ≤ length cs
written_within old cs n l e = omega (arith, ap length e, length-take-le n old l, length-take n cs)

module _ (src : List ℕ) (long : 16 < length src) where
  pub last_before : (k : ℕ) → k < 16 → slice_index (chunk (last src - 1) 16 src) k ≡ slice_index (byte_before src ∷ block src) k
  last_before zero l = get_or-chunk (last src - 1) 16 src 0 0 (omega arith) ∙ ap (slice_index src) (let e : last src - 1 + 0 ≡ last src - 1 = omega arith in e)
  last_before (suc k) l =
      let place : last src - 1 + suc k ≡ last src + k = omega arith in
      get_or-chunk (last src - 1) 16 src (suc k) 0 l ∙ ap (slice_index src) place ∙ sym (get_or-chunk (last src) 16 src k 0 (omega arith))

module _ (src cs : List ℕ) (low : IsLatin1 cs) (text : encode_utf8_all cs ≡ src) (long : 16 < length src) where
  pub last_apart : (k : ℕ) → (slice_index (block src) k < 0xC0) ⊎ (slice_index (block src) (k + 1) < 0xC0)
  last_apart = apart (drop (last src) src) (omega (arith, length-drop (last src) src)) (λ k.
      let here = get_or-drop (last src) src k 0 in
      let there = get_or-drop (last src) src (suc k) 0 ∙ ap (slice_index src) (let e : last src + suc k ≡ suc (last src + k) = omega arith in e) in
      subst (λ x. NextIs x (slice_index (drop (last src) src) (suc k))) (sym here) (subst (NextIs (slice_index src (last src + k))) (sym there)
      (subst (λ bs. NextIs (slice_index bs (last src + k)) (slice_index bs (suc (last src + k)))) text (nexts cs low (last src + k)))))

  -- the bytes before the block and the block end all
  ended_parts : cs ≡ all_latin1_ended 0 (take (last src) src) ++ all_latin1_ended (byte_before src) (block src)
  ended_parts =
      let count : length (take (last src) src) ≡ suc (last src - 1) = length-take-le (last src) src (omega arith) ∙ omega arith in
      let before = ap (slice_index (0 ∷ take (last src) src)) count ∙ get_or-take (last src) src (last src - 1) 0 (omega arith) in
      sym (ended_all cs low 0) ∙ ap (all_latin1_ended 0) (text ∙ sym (take-append-drop (last src) src))
      ∙ ended_append 0 (take (last src) src) (drop (last src) src)
      ∙ (λ i. all_latin1_ended 0 (take (last src) src) ++ all_latin1_ended (before i) (sym (last_block src (last src) (omega arith)) i))

module _ (src cs : List ℕ) (read written : ℕ) (low : IsLatin1 cs) (text : encode_utf8_all cs ≡ src) (long : 16 < length src) (near : length src < read + 16)
    (rest : drop read src ≡ encode_utf8_all (drop written cs)) where
  after_low : IsLatin1 (drop written cs)
  after_low n = let same = get_or-drop written cs n 0 in omega (arith, same, low (written + n))

  -- the block ends the bytes that its first ones end, and then what is left
  ended_block : all_latin1_ended (byte_before src) (block src) ≡ ended_first src read ++ drop written cs
  ended_block =
      let n = read - last src in
      let place : last src + n ≡ read = omega arith in
      let left : drop n (block src) ≡ encode_utf8_all (drop written cs) = ap (drop n) (last_block src (last src) (omega arith)) ∙ drop-drop n (last src) src
      ∙ ap (λ k. drop k src) place ∙ rest in
      ap (all_latin1_ended (byte_before src)) (sym (take-append-drop n (block src))) ∙ ended_append (byte_before src) (take n (block src)) (drop n (block src))
      ∙ ap (λ xs. ended_first src read ++ xs) (ap (all_latin1_ended _) left ∙ ended_all (drop written cs) after_low _)

  pub first_counts : written ≤ length cs → length (all_latin1_ended 0 (take (last src) src)) + length (ended_first src read) ≡ written
  first_counts l = omega (
    arith,
    ap length (ended_parts src cs low text long),
    length-append (all_latin1_ended 0 (take (last src) src)) (all_latin1_ended (byte_before src) (block src)),
    ap length ended_block,
    length-append (ended_first src read) (drop written cs),
    length-drop written cs,
  )

  -- the block was written where its first byte of Latin1 belongs
  pub last_written : (old new bytes : List ℕ) (at m : ℕ) → written ≤ length cs → take written old ≡ take written cs
      → at ≡ written - length (ended_first src read)
      → take m bytes ≡ all_latin1_ended (byte_before src) (block src) → m ≤ length bytes → at + m ≤ length old
      → new ≡ take at old ++ (take m bytes ++ drop (at + m) old)
      → WritesPrefix old new (at + m) cs
  last_written old new bytes at m l prefix place ends many room put =
      let done = all_latin1_ended 0 (take (last src) src) in
      let parts = ended_parts src cs low text long in
      let here : at ≡ length done = omega (arith, first_counts l) in
      let same : take at old ≡ done = sym (take-take at written old (omega arith)) ∙ ap (take at) prefix ∙ take-take at written cs (omega arith)
      ∙ ap (take at) parts ∙ take_at done _ at (sym here) in
      record {
        count = omega (
          arith,
          here,
          ap length parts,
          length-append done
              (all_latin1_ended (byte_before src) (block src)),
          ap length ends,
          length-take-le m bytes many,
        );
        fits = room;
        placed = put ∙ (λ i. same i ++ (ends i ++ drop (at + m) old))
            ∙ sym (append_assoc done (all_latin1_ended (byte_before src) (block src)) (drop (at + m) old)) ∙ ap (λ xs. xs ++ drop (at + m) old) (sym parts);
      }
