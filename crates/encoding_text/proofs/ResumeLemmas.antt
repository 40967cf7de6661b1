-- An incomplete sequence p in an array of four bytes, followed by the first m bytes of the source: bs. What its first n bytes are.
use borrow.Rule.Slice.PartMut.{put_mid}
use Rattle.std.proofs.Common.{◌≡◌, ◌≢◌, ℕ, ◌-◌, ◌+◌, ◌<◌, ◌≤◌, inl, inr, false, true, List, [], ◌∷◌}
use Rattle.std.proofs.Common.{◌++◌, length, take, drop, slice_index, refl, sym, ap, ◌∙◌, arith, subst}
use Prim.Native.Nat.{min}
use Rattle.std.proofs.Math.Seq.{take-append-add, drop-append-add}
use Rattle.std.proofs.lemmas.Bool.{cases_lt}
use Rattle.std.proofs.lemmas.List.{length-append, length-take, length-drop, take-append-drop}
use Rattle.std.proofs.lemmas.List.{take-append-le, drop-append-le, take-take, take_all, get_or_append_left}
use Rattle.std.proofs.lemmas.Slice.{take-put_mid}
use Rattle.encoding_definitions.specs.Sequence.{IsSequence, IsIncomplete, IsPending}
use Rattle.encoding_definitions.proofs.PartsLemmas.{first_open}
use Rattle.encoding_definitions.proofs.SequenceLemmas.{length-IsIncomplete}
use Rattle.encoding_text.specs.Decoding.{IsMalformed}
use Rattle.encoding_text.specs.Steps.{IsRejected}
use Rattle.encoding_text.proofs.CallLemmas.{malformed_first, not_ascii}
use Rattle.encoding_text.proofs.FirstLemmas.{pending_rest}
use Rattle.encoding_text.proofs.PendingLemmas.{pending_incomplete}

-- the byte after an incomplete sequence that is malformed
rejected_next : (x rest : List ℕ) → IsIncomplete x → IsMalformed x rest false → (b : ℕ) × (more : List ℕ) × (rest ≡ b ∷ more) × IsRejected x b
rejected_next x [] begun (inl (b, e, none)) = absurd (none (inr (subst IsIncomplete e begun)))
rejected_next x [] begun (inr (o, e)) = absurd (let no : false ≡ true = e in cc)
rejected_next x (y ∷ ys) begun (inl (b, e, none)) = absurd (none (inr (subst IsIncomplete e begun)))
rejected_next x (y ∷ ys) begun (inr (o, rejected)) = (y, ys, refl, rejected)

module _ (p src bytes new : List ℕ) (count m : ℕ) (is : take count bytes ≡ p) (four : length bytes ≡ 4)
    (kept : (count ≤ 3) × IsPending (take count bytes)) (unfinished : p ≢ []) (least : m ≡ min (length src) (4 - count)) (copied : new ≡ take m src) where
  abbrev array : List ℕ
  array = put_mid count (count + m - count) bytes new

  abbrev bs : List ℕ
  bs = take (count + m) array

  begun : IsIncomplete p
  begun = pending_incomplete p unfinished (subst IsPending is kept.1)

  long : length p ≡ count
  long = omega (arith, ap length is, length-take count bytes, four, kept.0)

  within : m ≤ length src
  within = omega (arith, least)

  copies : length new ≡ m
  copies = omega (arith, ap length copied, length-take m src, within)

  whole : bs ≡ p ++ take m src
  whole =
      take-put_mid count (count + m - count) bytes new (count + m) (omega (arith, copies)) (omega (arith, four, kept.0)) ∙ ap (λ xs. xs ++ new) is
      ∙ ap (λ xs. p ++ xs) copied

  size : length bs ≡ count + m
  size = omega (arith, ap length whole, length-append p (take m src), length-take m src, long, within)

  pub resumed_four : length array ≡ 4
  resumed_four =
      let k = count + m - count in
      omega (
        arith,
        length-append (take count bytes) (new ++ drop k (drop count bytes)),
        length-append new (drop k (drop count bytes)),
        length-take count bytes,
        length-drop k (drop count bytes),
        length-drop count bytes,
        four,
        kept.0,
        copies,
        least,
      )

  -- the first byte isn't ASCII
  pub resumed_lead : 0x80 ≤ slice_index bs 0
  resumed_lead = rw (whole, get_or_append_left p (take m src) 0 0 begun.0) (not_ascii p begun.0 (first_open p begun).0)

  -- all of the source is pending too
  pub resumed_longer : IsPending bs → (count + m ≤ 3) × (m ≡ length src) × (bs ≡ p ++ src)
  resumed_longer pending =
      let short : count + m ≤ 3 = omega (arith, size, length-IsIncomplete bs (pending_rest bs (omega (arith, size, long, begun.0)) pending)) in
      let all : m ≡ length src = omega (arith, least, short) in
      (short, all, whole ∙ ap (λ xs. p ++ xs) (take_all m src (omega (arith, all))))

  module _ (n : ℕ) (inside : n ≤ length bs) where
    -- the first n bytes, if these are no fewer than those of p
    front : count ≤ n → take n bs ≡ p ++ take (n - count) src
    front l =
        let k = n - count in
        let add : n ≡ length p + k = omega (arith, l, long) in
        ap (take n) whole ∙ ap (λ i. take i (p ++ take m src)) add ∙ take-append-add p (take m src) k
        ∙ ap (λ xs. p ++ xs) (take-take k m src (omega (arith, size, inside, l)))

    -- the bytes of the source after these
    after : count ≤ n → drop (n - count) src ≡ drop n bs ++ drop m src
    after l =
        let k = n - count in
        let add : n ≡ length p + k = omega (arith, l, long) in
        let rest : drop n bs ≡ drop k (take m src) = ap (drop n) whole ∙ ap (λ i. drop i (p ++ take m src)) add ∙ drop-append-add p (take m src) k in
        ap (drop k) (sym (take-append-drop m src)) ∙ drop-append-le k (take m src) (drop m src) (omega (arith, size, inside, l, length-take m src, within))
        ∙ ap (λ xs. xs ++ drop m src) (sym rest)

    -- a character that begins with p has more bytes
    pub resumed_whole : IsSequence (take n bs) → (0 < count) × (count < n) × (n ≤ count + m) × (take n array ≡ p ++ take (n - count) src)
        × IsSequence (p ++ take (n - count) src)
    resumed_whole s =
        let longer : count < n = elim (cases_lt count n) [
          | inl l ↦ l
          | inr g ↦
              let prefix : take n bs ≡ take n p = ap (take n) whole ∙ take-append-le n p (take m src) (omega (arith, g, long)) in
              absurd ((first_open p begun).0 (take n p) (drop n p) (sym (take-append-drop n p)) (subst IsSequence prefix s))
        ] in
        let e = front (omega (arith, longer)) in
        let few : n ≤ count + m = omega (arith, inside, size) in
        (omega (arith, long, begun.0), longer, few, sym (take-take n (count + m) array few) ∙ e, subst IsSequence e s)

    -- a malformed sequence has all of p, and the next byte of the source doesn't continue it
    pub resumed_rejected : IsMalformed (take n bs) (drop n bs) false
        → (count ≤ n) × (n - count < length src) × (n ≡ length p + (n - count)) × IsIncomplete (p ++ take (n - count) src)
        × (b : ℕ) × (more : List ℕ) × (drop (n - count) src ≡ b ∷ more) × IsRejected (p ++ take (n - count) src) b
    resumed_rejected malformed =
        let both : take n bs ++ drop n bs ≡ p ++ take m src = take-append-drop n bs ∙ whole in
        elim (malformed_first (take n bs) (drop n bs) false malformed).1 [
          | inl first ↦
              let all : count ≤ n = omega (arith, first.longest p (take m src) both begun, length-take n bs, inside, long) in
              let e = front all in
              let (b, more, next, rejected) = rejected_next (take n bs) (drop n bs) first.incomplete malformed in
              let following = after all ∙ ap (λ xs. xs ++ drop m src) next in (
                all,
                omega (arith, length-append (b ∷ more) (drop m src), ap length following, length-drop (n - count) src),
                omega (arith, all, long),
                subst IsIncomplete e first.incomplete,
                b,
                more ++ drop m src,
                following,
                subst (λ xs. IsRejected xs b) e rejected,
              )
          | inr single ↦ absurd (single.none p (take m src) both begun)
        ]
