-- A text whose prefix is overwritten, and that is cleared after it, is well-formed.
use Rattle.std.proofs.Common.{◌≡◌, ℕ, suc, ◌+◌, ◌-◌, ◌<◌, inl, inr, ◌&&◌, List, [], ◌∷◌, ◌++◌, length, take}
use Rattle.std.proofs.Common.{drop, get_or, refl, sym, ap, ◌∙◌, arith, nat_le, IsUtf8, append_assoc, subst}
use Rattle.std.specs.Prelude.{min, replicate}
use Rattle.std.proofs.lemmas.Bool.{and_from, le-leb, cond-true, cond-false, cases_Bool, cases_lt, both_ways}
use Rattle.std.proofs.lemmas.List.{append-nil, length-drop, length-take-le, take_at, take_rest, drop_at, drop-drop, drop_all, drop_more}
use Rattle.std.proofs.lemmas.List.{get_or-append_right, get_or-drop, get_or-replicate, get_or_past, length-replicate, replicate_more}
use Rattle.std.proofs.lemmas.Str.{IsUtf8-nil, IsUtf8-append, IsUtf8-drop, IsUtf8-from_ascii}
use borrow.Rule.Slice.PartMut.{put_mid}
use Rattle.encoding_definitions.specs.Clearing.{clear_continuation, cleared_prefix, WritesAndClears}
use Rattle.encoding_definitions.specs.Prefixes.{WritesPrefix}
use Rattle.encoding_definitions.specs.Sequence.{IsContinuation}
use Rattle.encoding_definitions.proofs.PrefixesLemmas.{WritesPrefix-length, written_is}

-- ---- one byte
clear_more : (b : ℕ) (bs : List ℕ) → IsContinuation b → clear_continuation (b ∷ bs) ≡ 0 ∷ clear_continuation bs
clear_more b bs c = cond-true (nat_le 0x80 b && nat_le b 0xBF) _ _ (and_from _ _ (le-leb _ _ c.0) (le-leb _ _ c.1))

-- ---- the loop, at an index after bytes that are zero
pub clear_next : (bs : List ℕ) (at : ℕ) → at < length bs → IsContinuation (get_or bs at 0)
    → replicate at 0 ++ clear_continuation (drop at bs) ≡ replicate (at + 1) 0 ++ clear_continuation (drop (at + 1) bs)
clear_next bs at h c =
    let rest : List ℕ = clear_continuation (drop (at + 1) bs) in
    ap (λ xs. replicate at 0 ++ clear_continuation xs) (drop_more bs at 0 h)
    ∙ ap (λ xs. replicate at 0 ++ xs) (clear_more (get_or bs at 0) (drop (at + 1) bs) c)
    ∙ sym (append_assoc (replicate at 0) (0 ∷ []) rest) ∙ ap (λ xs. xs ++ rest) (replicate_more at 0)

-- the first byte after them
pub byte_after : (bs : List ℕ) (at : ℕ) → get_or (replicate at 0 ++ drop at bs) at 0 ≡ get_or bs at 0
byte_after bs at =
    get_or-append_right (replicate at 0) (drop at bs) at at 0 (length-replicate {A = ℕ} at 0) (omega arith) ∙ get_or-drop at bs (at - at) 0
    ∙ ap (λ n. get_or bs n 0) {x = at + (at - at)} {y = at} (omega arith)

-- ---- the bytes that are cleared, and what follows them
record IsCleared (bs : List ℕ) : Type 0 where
  count : ℕ
  cleared : clear_continuation bs ≡ replicate count 0 ++ drop count bs
  stops : count < length bs → IsContinuation (get_or bs count 0) → ⊥

IsCleared-from : (bs : List ℕ) → IsCleared bs
IsCleared-from [] = record { count = 0; cleared = refl; stops = λ h c. absurd (omega arith) }
IsCleared-from (b ∷ bs) = elim (cases_Bool (nat_le 0x80 b && nat_le b 0xBF)) [
  | inl e ↦
      let rest = IsCleared-from bs in
      record {
        count = suc rest.count;
        cleared = cond-true (nat_le 0x80 b && nat_le b 0xBF) _ _ e ∙ ap (λ xs. 0 ∷ xs) rest.cleared;
        stops = λ h c. rest.stops (omega arith) c;
      }
  | inr e ↦ record {
    count = 0;
    cleared = cond-false (nat_le 0x80 b && nat_le b 0xBF) _ _ e;
    stops = λ h c. both_ways _ e (and_from _ _ (le-leb _ _ c.0) (le-leb _ _ c.1));
  }
]

-- ---- well-formed
IsUtf8-zeros : (n : ℕ) → IsUtf8 (replicate n 0)
IsUtf8-zeros n = IsUtf8-from_ascii (replicate n 0) (λ i. elim (cases_lt i n) [
  | inl h ↦ rw (get_or-replicate {A = ℕ} n i 0 0 h) (omega arith)
  | inr h ↦ rw (get_or_past {X = ℕ} (replicate n 0) i 0 (omega (arith, length-replicate {A = ℕ} n 0))) (omega arith)
])

-- a text after any index, once the continuation bytes at its start are cleared
IsUtf8-continuation : (bs : List ℕ) (n : ℕ) → IsUtf8 bs → IsUtf8 (clear_continuation (drop n bs))
IsUtf8-continuation bs n u =
    let c = IsCleared-from (drop n bs) in
    let at : ℕ = n + c.count in
    let following : IsUtf8 (drop at bs) = elim (cases_lt at (length bs)) [
      | inl h ↦ IsUtf8-drop bs at u (
        omega arith,
        λ _ high. elim (cases_lt (get_or bs at 0) 192) [
          | inl l ↦ absurd (c.stops (omega (arith, length-drop n bs)) (rw (get_or-drop n bs c.count 0) (high, omega arith)))
          | inr l ↦ l
        ],
      )
      | inr h ↦ rw (drop_all at bs h) IsUtf8-nil
    ] in
    rw (c.cleared, drop-drop) (IsUtf8-append _ _ (IsUtf8-zeros c.count) following)

-- a text, overwritten at the start by whole characters and cleared after them
pub IsUtf8-cleared : (old out : List ℕ) (zeros : ℕ) → IsUtf8 old → IsUtf8 out → IsUtf8 (out ++ cleared_prefix zeros (drop (length out) old))
IsUtf8-cleared old out zeros u v =
    let rest : IsUtf8 (clear_continuation (drop zeros (drop (length out) old))) = rw drop-drop (IsUtf8-continuation old (length out + zeros) u) in
    IsUtf8-append _ _ v (IsUtf8-append _ _ (IsUtf8-zeros _) rest)

-- ---- a call wrote a prefix, and what follows it was cleared
-- only continuation bytes were
pub only_continuation : (mid sub : List ℕ) (written : ℕ) → sub ≡ clear_continuation (take (length mid - written) (drop written mid))
    → sub ≡ cleared_prefix 0 (take (length mid - written) (drop written mid))
only_continuation mid sub written c =
    let bs : List ℕ = take (length mid - written) (drop written mid) in
    c ∙ ap (λ n. replicate n 0 ++ clear_continuation bs) {x = 0} {y = min 0 (length bs)} (omega arith)

module _ (old mid sub : List ℕ) (zeros written : ℕ) (out : List ℕ) (w : WritesPrefix old mid written out)
    (c : sub ≡ cleared_prefix zeros (take (length mid - written) (drop written mid))) where
  pub clears_after : WritesAndClears zeros old (put_mid written (length mid - written) mid sub) written out
  clears_after =
      let prefix : take written mid ≡ out = sym (written_is old mid written out w) in
      let none : drop (length mid - written) (drop written mid) ≡ [] =
      drop_all (length mid - written) (drop written mid) (omega (arith, length-drop written mid)) in
      let rest : take (length mid - written) (drop written mid) ≡ drop written old =
      take_rest mid written ∙ ap (drop written) w.placed ∙ drop_at out (drop written old) written (sym w.count) in
      let part : sub ≡ cleared_prefix zeros (drop written old) = c ∙ ap (cleared_prefix zeros) rest in
      record { count = w.count; fits = w.fits; placed = rw (prefix, none, part, append-nil) refl }

  pub written_stays : take written (put_mid written (length mid - written) mid sub) ≡ take written mid
  written_stays = take_at (take written mid) _ written (length-take-le written mid (omega (arith, WritesPrefix-length old mid written out w, w.fits)))

  pub text_stays : IsUtf8 old → IsUtf8 out → IsUtf8 (put_mid written (length mid - written) mid sub)
  text_stays u v = subst IsUtf8 (sym clears_after.placed)
      (subst (λ n. IsUtf8 (out ++ cleared_prefix zeros (drop n old))) (sym w.count) (IsUtf8-cleared old out zeros u v))
