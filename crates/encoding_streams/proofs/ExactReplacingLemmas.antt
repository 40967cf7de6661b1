-- Exactly what a call that replaces malformed sequences returns: calls that report, one after another.
use Rattle.std.proofs.Common.{◌≡◌, ℕ, suc, ◌+◌, ◌-◌, Bool, List, [], ◌∷◌, ◌++◌, length, take, drop, refl, sym, ap, subst, ◌∙◌, arith, append_assoc}
use Rattle.std.proofs.Common.{length-append}
use Rattle.std.specs.Prelude.{None, Some}
use Rattle.std.proofs.lemmas.List.{take_rest, drop-drop, length-drop}
use Rattle.encoding_definitions.specs.Prefixes.{WritesPrefix}
use Rattle.encoding_definitions.proofs.PrefixesLemmas.{WritesPrefix-length, WritesPrefix_after, written_is}
use borrow.Rule.Slice.PartMut.{put_mid}
use Rattle.encoding_streams.specs.declared.encoding.CoderResult.{CoderResult}
use Rattle.encoding_streams.specs.Decoders.{DecoderState}
use Rattle.encoding_streams.specs.ExactCalls.{IsExactCall, IsExactReplacingCall, ReplaceInTurn, ended_by}
use Rattle.encoding_streams.specs.DecoderSteps.{Continues, IsExactStep}

-- what two writes, one after the other, wrote
pub both_written : {A : Type 0} (dst dst1 sub out units : List A) (w more : ℕ) → WritesPrefix dst dst1 w out
    → WritesPrefix (take (length dst1 - w) (drop w dst1)) sub more units
    → take (w + more) (put_mid w (length dst1 - w) dst1 sub) ≡ take w dst1 ++ take more sub
both_written dst dst1 sub out units w more writes puts =
    sym (written_is dst (put_mid w (length dst1 - w) dst1 sub) (w + more) (out ++ units) (WritesPrefix_after dst dst1 w out sub more units writes puts))
    ∙ (λ i. written_is dst dst1 w out writes i ++ written_is (take (length dst1 - w) (drop w dst1)) sub more units puts i)

pub length_written : {A : Type 0} (dst dst1 out : List A) (w : ℕ) → WritesPrefix dst dst1 w out → length (take w dst1) ≡ w
length_written dst dst1 out w writes = sym (ap length (written_is dst dst1 w out writes)) ∙ sym writes.count

module _ {A : Type 0} (encode : ℕ → List A) (need : ℕ) where
  pub exact_end : (old : DecoderState) (src : List ℕ) (room : ℕ) (last : Bool) (result : CoderResult) (read : ℕ) (out : List A) (new : DecoderState)
      → IsExactCall encode need old src room last (ended_by result) read out new
      → IsExactReplacingCall encode need old src room last result read out 0 new
  exact_end old src room last result read out new made = ([], (refl, made))

  exact_cons : (old mid : DecoderState) (src : List ℕ) (room : ℕ) (last : Bool) (read : ℕ) (out : List A)
      → IsExactStep encode need old src room last None read out mid
      → (result : CoderResult) (more : ℕ) (rest : List A) (again : ℕ) (new : DecoderState)
      → IsExactReplacingCall encode need mid (drop read src) (room - length out) last result more rest again new
      → IsExactReplacingCall encode need old src room last result (read + more) (out ++ rest) (suc again) new
  exact_cons old mid src room last read out (k, second, before, is, call) result more rest again new (reports, made) = (
    record { length = k; second = second; read = read; out = before; after = mid } ∷ reports,
    (
      call,
      more,
      rest,
      again,
      refl,
      ap (λ xs. xs ++ rest) is,
      refl,
      subst (λ xs. ReplaceInTurn encode need reports mid (drop read src) (room - length xs) last result more rest again new) is made,
    ),
  )

  pub none_replaced : (old : DecoderState) (src : List ℕ) (room : ℕ) (last : Bool) → Continues encode need old old src room last 0 [] 0
  none_replaced old src room last result more rest again new made =
      let reads : more ≡ 0 + more = omega arith in
      let counts : again ≡ 0 + again = omega arith in
      let space : room - length {A = A} [] ≡ room = omega arith in
      subst (λ n. IsExactReplacingCall encode need old src room last result n rest (0 + again) new) reads
      (subst (λ n. IsExactReplacingCall encode need old src room last result more rest n new) counts
      (subst (λ n. IsExactReplacingCall encode need old src n last result more rest again new) space made))

  -- ---- a call into the rest of a destination
  module _ (old mid : DecoderState) (src : List ℕ) (dst dst1 sub out units : List A) (last : Bool) (read w r more : ℕ) (writes : WritesPrefix dst dst1 w out)
      (puts : WritesPrefix (take (length dst1 - w) (drop w dst1)) sub more units) where
    rest_is : take (length src - read) (drop read src) ≡ drop read src
    rest_is = take_rest src read

    space_is : length (take (length dst1 - w) (drop w dst1)) ≡ length dst - length (take w dst1)
    space_is = omega (
      arith,
      ap length (take_rest dst1 w),
      length-drop w dst1,
      WritesPrefix-length dst dst1 w out writes,
      length_written dst dst1 out w writes,
    )

    unread_is : drop (read + r) src ≡ drop r (take (length src - read) (drop read src))
    unread_is = sym (ap (drop r) rest_is ∙ drop-drop r read src)

    left_is : length dst - length (take (w + more) (put_mid w (length dst1 - w) dst1 sub))
        ≡ length (take (length dst1 - w) (drop w dst1)) - length (take more sub)
    left_is = omega (
      arith,
      space_is,
      ap length (both_written dst dst1 sub out units w more writes puts),
      length_both,
    )
      where
        length_both : length (take w dst1 ++ take more sub) ≡ length (take w dst1) + length (take more sub)
        length_both = length-append (take w dst1) (take more sub)

    pub then_step : (new : DecoderState) (replaced : ℕ) → Continues encode need old mid src (length dst) last read (take w dst1) replaced
        → IsExactStep encode need mid (take (length src - read) (drop read src)) (length (take (length dst1 - w) (drop w dst1))) last None r (take more sub) new
        → Continues encode need old new src (length dst) last (read + r) (take (w + more) (put_mid w (length dst1 - w) dst1 sub)) (replaced + 1)
    then_step new replaced goes_on step result n rest again final made =
        let whole = take (w + more) (put_mid w (length dst1 - w) dst1 sub) in
        let src' = take (length src - read) (drop read src) in
        let room' = length (take (length dst1 - w) (drop w dst1)) in
        let next = exact_cons mid new src' room' last r (take more sub) step result n rest again final
        (subst (λ bs. IsExactReplacingCall encode need new bs (room' - length (take more sub)) last result n rest again final) unread_is
        (subst (λ k. IsExactReplacingCall encode need new (drop (read + r) src) k last result n rest again final) left_is made)) in
        let all = goes_on result (r + n) (take more sub ++ rest) (suc again) final
        (subst
        (λ bs. IsExactReplacingCall encode need mid bs (length dst - length (take w dst1)) last result (r + n) (take more sub ++ rest) (suc again) final)
        rest_is
        (subst (λ k. IsExactReplacingCall encode need mid src' k last result (r + n) (take more sub ++ rest) (suc again) final) space_is next)) in
        let reads : read + (r + n) ≡ read + r + n = omega arith in
        let counts : replaced + suc again ≡ replaced + 1 + again = omega arith in
        let outs : take w dst1 ++ (take more sub ++ rest) ≡ whole ++ rest =
        sym (append_assoc (take w dst1) (take more sub) rest) ∙ ap (λ xs. xs ++ rest) (sym (both_written dst dst1 sub out units w more writes puts)) in
        subst (λ k. IsExactReplacingCall encode need old src (length dst) last result k (whole ++ rest) (replaced + 1 + again) final) reads
        (subst (λ k. IsExactReplacingCall encode need old src (length dst) last result (read + (r + n)) (whole ++ rest) k final) counts
        (subst (λ xs. IsExactReplacingCall encode need old src (length dst) last result (read + (r + n)) xs (replaced + suc again) final) outs all))

    pub then_end : (new : DecoderState) (replaced : ℕ) (result : CoderResult) → Continues encode need old mid src (length dst) last read (take w dst1) replaced
        → IsExactStep encode need mid (take (length src - read) (drop read src)) (length (take (length dst1 - w) (drop w dst1))) last (Some result) r
        (take more sub) new
        → IsExactReplacingCall encode need old src (length dst) last result (read + r) (take (w + more) (put_mid w (length dst1 - w) dst1 sub)) replaced new
    then_end new replaced result goes_on step =
        let src' = take (length src - read) (drop read src) in
        let room' = length (take (length dst1 - w) (drop w dst1)) in
        let whole = take (w + more) (put_mid w (length dst1 - w) dst1 sub) in
        let all = goes_on result r (take more sub) 0 new
        (subst (λ bs. IsExactReplacingCall encode need mid bs (length dst - length (take w dst1)) last result r (take more sub) 0 new) rest_is
        (subst (λ k. IsExactReplacingCall encode need mid src' k last result r (take more sub) 0 new) space_is
        (exact_end mid src' room' last result r (take more sub) new step))) in
        let counts : replaced + 0 ≡ replaced = omega arith in
        subst (λ k. IsExactReplacingCall encode need old src (length dst) last result (read + r) whole k new) counts
        (subst (λ xs. IsExactReplacingCall encode need old src (length dst) last result (read + r) xs (replaced + 0) new)
        (sym (both_written dst dst1 sub out units w more writes puts)) all)

    pub step_then : (result : CoderResult) (again : ℕ) (new : DecoderState) → IsExactStep encode need old src (length dst) last None read (take w dst1) mid
        → IsExactReplacingCall encode need mid (take (length src - read) (drop read src)) (length (take (length dst1 - w) (drop w dst1))) last result r
        (take more sub) again new
        → IsExactReplacingCall encode need old src (length dst) last result (read + r) (take (w + more) (put_mid w (length dst1 - w) dst1 sub)) (1 + again) new
    step_then result again new step rest =
        let src' = take (length src - read) (drop read src) in
        let whole = take (w + more) (put_mid w (length dst1 - w) dst1 sub) in
        let all = exact_cons old mid src (length dst) last read (take w dst1) step result r (take more sub) again new
        (subst (λ bs. IsExactReplacingCall encode need mid bs (length dst - length (take w dst1)) last result r (take more sub) again new) rest_is
        (subst (λ k. IsExactReplacingCall encode need mid src' k last result r (take more sub) again new) space_is rest)) in
        let counts : suc again ≡ 1 + again = omega arith in
        subst (λ k. IsExactReplacingCall encode need old src (length dst) last result (read + r) whole k new) counts
        (subst (λ xs. IsExactReplacingCall encode need old src (length dst) last result (read + r) xs (suc again) new)
        (sym (both_written dst dst1 sub out units w more writes puts)) all)
