use Rattle.std.proofs.Common.{◌≡◌, ◌∙◌, ℕ, ◌+◌, ◌-◌, ◌<◌, ◌≤◌, ◌⊎◌, inl, inr, zero, suc, List, ◌++◌, ap, arith, drop}
use Rattle.std.proofs.Common.{encode_utf8_all, length, length-append, refl, replicate, slice_index, subst, sym, take}
use Rattle.std.specs.Str.{chars}
use Rattle.std.proofs.lemmas.Bool.{cases_lt}
use Rattle.std.proofs.lemmas.List.{drop-replicate, get_or_append_left, get_or-append_right, length-drop, length-take-le, take-take, take_at}
use Rattle.std.proofs.lemmas.Str.{encodes-append, encodes-IsAscii}
use Rattle.encoding_definitions.specs.Latin1.{IsLatin1, IsUtf8Latin1}
use Rattle.encoding_definitions.specs.Prefixes.{WritesPrefix}
use Rattle.encoding_definitions.proofs.Latin1Lemmas.{latin1_chars}
use Rattle.encoding_kernels.specs.KeptBytes.{all_latin1_ended}
use Rattle.encoding_kernels.proofs.Latin1FromUtf8Lemmas.{ended_all}
use Rattle.encoding_text.proofs.Latin1ConversionLemmas.{left_apart}
use Rattle.encoding_text.proofs.mem.utf8_to_latin1.convert_least_utf8.Goals as goal

-- the zeros after the text
abbrev zeros : List ℕ → List ℕ
zeros src = drop (length src) (replicate 16 0)

zero_each : (src : List ℕ) (k : ℕ) → slice_index (zeros src) k ≡ 0
zero_each src k =
    let left : ℕ = 16 - length src in
    let none : ℕ = 0 in
    let is : zeros src ≡ replicate left none = drop-replicate (length src) 16 0 in
    ap (λ xs. slice_index xs k) is ∙ each left k
  where
    each : (n k : ℕ) → slice_index (replicate n 0) k ≡ 0
    each zero k = refl
    each (suc n) zero = refl
    each (suc n) (suc k) = each n k

module _ (src block : List ℕ) (latin1 : IsUtf8Latin1 src) (few : length src < 16) (is : block ≡ src ++ zeros src) where
  low : IsLatin1 (chars src ++ zeros src)
  low k = elim (cases_lt k (length (chars src))) [
    | inl l ↦ omega (arith, (latin1_chars src latin1).0 k, get_or_append_left (chars src) (zeros src) 0 k l)
    | inr l ↦ omega (arith, get_or-append_right (chars src) (zeros src) (length (chars src)) k 0 refl l, zero_each src (k - length (chars src)))
  ]

  spelled : encode_utf8_all (chars src ++ zeros src) ≡ block
  spelled = encodes-append (chars src) (zeros src) ∙ (λ i. (latin1_chars src latin1).1 i ++ encodes-IsAscii (zeros src) (λ k. omega (arith, zero_each src k)) i)
      ∙ sym is

  apart : (k : ℕ) → (slice_index block k < 0xC0) ⊎ (slice_index block (k + 1) < 0xC0)
  apart k =
      let there : 0 + k ≡ k = omega arith in
      subst (λ j. (slice_index block j < 0xC0) ⊎ (slice_index block (j + 1) < 0xC0)) there (left_apart block (chars src ++ zeros src) 0 0 low (sym spelled) k)

  ended : all_latin1_ended 0 block ≡ chars src ++ zeros src
  ended = ap (all_latin1_ended 0) (sym spelled) ∙ ended_all (chars src ++ zeros src) low 0

  module _ (lanes : List ℕ) (count : ℕ) (sixteen : length lanes ≡ 16) (most : count ≤ 16) (holds : take count lanes ≡ all_latin1_ended 0 block) where
    counted : count ≡ length (chars src) + (16 - length src)
    counted = sym (length-take-le count lanes (omega arith)) ∙ ap length (holds ∙ ended) ∙ length-append (chars src) (zeros src)
        ∙ ap (λ n. length (chars src) + n) (length-drop (length src) (replicate 16 0))

    first : take (count - (16 - length src)) lanes ≡ chars src
    first =
        let n : count - (16 - length src) ≡ length (chars src) = omega (arith, counted) in
        sym (take-take (count - (16 - length src)) count lanes (omega arith)) ∙ ap (take (count - (16 - length src))) (holds ∙ ended)
        ∙ take_at (chars src) (zeros src) (count - (16 - length src)) (sym n)

pub latin1_of-count-requires : goal.latin1_of-count-requires
latin1_of-count-requires c = apart c.args.src.now c.few_with_zeros.result c.requires.latin1 c.requires.src_length c.few_with_zeros.ensures

pub overflow_sub-length-2 : goal.overflow_sub-length-2
overflow_sub-length-2 c =
    let call = c.latin1_of-count.ensures in
    let n = counted c.args.src.now c.few_with_zeros.result c.requires.latin1 c.requires.src_length c.few_with_zeros.ensures c.latin1_of-count.result.0
    c.latin1_of-count.result.1 call.lane_count call.out_length call.latin1_ended in
    omega (arith, n)

pub copy_prefix-requires : goal.copy_prefix-requires
copy_prefix-requires c =
    let call = c.latin1_of-count.ensures in
    let same = first c.args.src.now c.few_with_zeros.result c.requires.latin1 c.requires.src_length c.few_with_zeros.ensures c.latin1_of-count.result.0
    c.latin1_of-count.result.1 call.lane_count call.out_length call.latin1_ended in
    omega (arith, ap length same, c.requires.dst_length)

pub returns : goal.returns
returns c =
    let call = c.latin1_of-count.ensures in
    let n = counted c.args.src.now c.few_with_zeros.result c.requires.latin1 c.requires.src_length c.few_with_zeros.ensures c.latin1_of-count.result.0
    c.latin1_of-count.result.1 call.lane_count call.out_length call.latin1_ended in
    let same = first c.args.src.now c.few_with_zeros.result c.requires.latin1 c.requires.src_length c.few_with_zeros.ensures c.latin1_of-count.result.0
    c.latin1_of-count.result.1 call.lane_count call.out_length call.latin1_ended in
    record {
      written = subst (λ m. WritesPrefix c.args.dst.now c.copy_prefix.new.dst m (chars c.args.src.now)) (omega (arith, n))
          (subst (λ ys. WritesPrefix c.args.dst.now c.copy_prefix.new.dst (length ys) ys) same c.copy_prefix.ensures);
    }
