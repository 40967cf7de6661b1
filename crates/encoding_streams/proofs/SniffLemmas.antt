-- The start of a stream, which is a mark, the start of one, or neither.
use Rattle.std.proofs.Common.{◌≡◌, ℕ, ◌+◌, ◌-◌, ◌<◌, ◌≤◌, inl, inr, ◌⊎◌, Bool, true, false, ◌||◌, List, [], ◌∷◌, ◌++◌, length, take, drop, if◌then◌else◌}
use Rattle.std.proofs.Common.{nat_eq, slice_index, refl, sym, ap, subst, ◌∙◌, arith, append-nil, append_assoc, length-append, take-append-drop}
use Rattle.std.specs.Prelude.{Option, None, Some}
use Rattle.std.proofs.lemmas.Bool.{both_ways, and_parts, cases_lt, false_from_ne_true}
use Rattle.std.proofs.lemmas.Bool.Decides.{Decides-eqb, nat_tests}
use Rattle.std.proofs.lemmas.List.{drop_at, drop_all, drop-drop, drop-append-le, nil_from_length, take_all, length-take, length-drop}
use Rattle.std.proofs.lemmas.Slice.Eq.{starts_is}
use Rattle.std.specs.List.{starts_with}
use Rattle.encoding_definitions.proofs.PartsLemmas.{prefixes_nest}
use Rattle.encoding_streams.specs.declared.encoding.Encoding.{Encoding}
use Rattle.encoding_streams.specs.declared.encoding.Encoding.TheVariants.{Utf8, Utf16Le, Utf16Be}
use Rattle.encoding_streams.specs.declared.encoding.BomHandling.{BomHandling}
use Rattle.encoding_streams.specs.declared.encoding.BomHandling.TheVariants.{Off, Remove, Sniff}
use Rattle.encoding_streams.specs.Marks.{mark, found_mark, begins_mark_of, begins_mark, after_mark}
use Rattle.encoding_streams.specs.Decoders.{DecoderState, left}
use Rattle.encoding_streams.specs.ExactCalls.{IsPendingOf, start_after}
use Rattle.encoding_streams.specs.DecoderSteps.{IsSniffed}

-- one is a prefix of the other
starts : (bytes prefix : List ℕ) → starts_with nat_eq bytes prefix ≡ true → bytes ≡ prefix ++ drop (length prefix) bytes
starts bytes prefix = (starts_is Decides-eqb bytes prefix (starts_with nat_eq bytes prefix) refl).0

starts_so : (bytes prefix rest : List ℕ) → bytes ≡ prefix ++ rest → starts_with nat_eq bytes prefix ≡ true
starts_so bytes prefix = (starts_is Decides-eqb bytes prefix (starts_with nat_eq bytes prefix) refl).1

-- ---- the marks differ in their first byte
abbrev pub first : Encoding → ℕ
first m = slice_index (mark m) 0

same_mark : (m n : Encoding) → first m ≡ first n → m ≡ n
same_mark Utf8 Utf8 e = refl
same_mark Utf8 Utf16Le e = absurd (omega (arith, e))
same_mark Utf8 Utf16Be e = absurd (omega (arith, e))
same_mark Utf16Le Utf8 e = absurd (omega (arith, e))
same_mark Utf16Le Utf16Le e = refl
same_mark Utf16Le Utf16Be e = absurd (omega (arith, e))
same_mark Utf16Be Utf8 e = absurd (omega (arith, e))
same_mark Utf16Be Utf16Le e = absurd (omega (arith, e))
same_mark Utf16Be Utf16Be e = refl

first_of : (m : Encoding) (rest : List ℕ) → slice_index (mark m ++ rest) 0 ≡ first m
first_of Utf8 rest = refl
first_of Utf16Le rest = refl
first_of Utf16Be rest = refl

short_mark : (m : Encoding) → (2 ≤ length (mark m)) × (length (mark m) ≤ 3)
short_mark Utf8 = (omega arith, omega arith)
short_mark Utf16Le = (omega arith, omega arith)
short_mark Utf16Be = (omega arith, omega arith)

-- bytes that start with two marks
one_mark : (bytes : List ℕ) (m n : Encoding) → starts_with nat_eq bytes (mark m) ≡ true → starts_with nat_eq bytes (mark n) ≡ true → m ≡ n
one_mark bytes m n h k =
    same_mark m n
    (sym (first_of m (drop (length (mark m)) bytes)) ∙ ap (λ xs. slice_index xs 0) (sym (starts bytes (mark m) h) ∙ starts bytes (mark n) k)
    ∙ first_of n (drop (length (mark n)) bytes))

-- ---- bytes that follow
stays : (w t : List ℕ) (m : Encoding) → starts_with nat_eq w (mark m) ≡ true → starts_with nat_eq (w ++ t) (mark m) ≡ true
stays w t m h = starts_so (w ++ t) (mark m) (drop (length (mark m)) w ++ t) (ap (λ xs. xs ++ t) (starts w (mark m) h) ∙ append_assoc (mark m) _ t)

-- the bytes show that no mark that they don't start with follows
abbrev Shows : Bool → List ℕ → List ℕ → Type 0
Shows begins w t = (3 ≤ length w) ⊎ ((t ≡ []) ⊎ (begins ≡ false))

none_stays : (w t : List ℕ) (m : Encoding) → starts_with nat_eq w (mark m) ≡ false → Shows (begins_mark_of m w) w t
    → starts_with nat_eq (w ++ t) (mark m) ≡ false
none_stays w t m none shows = false_from_ne_true _ (λ h. other (drop (length (mark m)) (w ++ t)) (starts (w ++ t) (mark m) h))
  where
    longer : (x rest : List ℕ) → mark m ≡ w ++ x → t ≡ x ++ rest → ⊥
    longer [] rest e f = both_ways _ none (starts_so w (mark m) [] (sym (append-nil w) ∙ sym e ∙ sym (append-nil (mark m))))
    longer (b ∷ x) rest e f = elim shows [
      | inl long ↦ omega (arith, long, ap length e, length-append w (b ∷ x), (short_mark m).1)
      | inr (inl end) ↦ omega (arith, ap length (sym end ∙ f))
      | inr (inr begins) ↦
          let less : length w < length (mark m) = omega (arith, ap length e, length-append w (b ∷ x)) in
          let is = starts_so (mark m) w (b ∷ x) e in
          both_ways _ begins (grind (arith, nat_tests))
    ]

    other : (rest : List ℕ) → w ++ t ≡ mark m ++ rest → ⊥
    other rest e = elim (prefixes_nest w t (mark m) rest e) [
      | inl (x, f, g) ↦ longer x rest f g
      | inr (x, f, g) ↦ both_ways _ none (starts_so w (mark m) x f)
    ]

-- ---- the mark that is found
if_is : {X : Type 0} (b : Bool) (x y z : X) → b ≡ true → x ≡ z → (if b then x else y) ≡ z
if_is b x y z e f = rw e f

else_is : {X : Type 0} (b : Bool) (x y z : X) → b ≡ false → y ≡ z → (if b then x else y) ≡ z
else_is b x y z e f = rw e f

-- among the marks that are looked for
abbrev IsLookedFor : BomHandling → Encoding → Encoding → Type 0
IsLookedFor Off e m = ⊥
IsLookedFor Remove e m = m ≡ e
IsLookedFor Sniff e m = Unit {0}

found_so : (bom : BomHandling) (e m : Encoding) (bytes : List ℕ) → IsLookedFor bom e m → starts_with nat_eq bytes (mark m) ≡ true
    → found_mark bom e bytes ≡ Some m
found_so Off e m bytes never h = absurd never
found_so Remove e m bytes is h = if_is _ (Some e) None (Some m) (subst (λ x. starts_with nat_eq bytes (mark x) ≡ true) is h) (ap (λ x. Some x) (sym is))
found_so Sniff e Utf8 bytes is h = if_is _ _ _ _ h refl
found_so Sniff e Utf16Be bytes is h = else_is _ _ _ _ (apart Utf8 Utf16Be h (λ e. omega (arith, ap first e))) (if_is _ _ _ _ h refl)
  where
    apart : (m n : Encoding) → starts_with nat_eq bytes (mark n) ≡ true → (m ≡ n → ⊥) → starts_with nat_eq bytes (mark m) ≡ false
    apart m n k differ = false_from_ne_true _ (λ g. differ (one_mark bytes m n g k))
found_so Sniff e Utf16Le bytes is h =
    else_is _ _ _ _ (apart Utf8 Utf16Le h (λ e. omega (arith, ap first e)))
    (else_is _ _ _ _ (apart Utf16Be Utf16Le h (λ e. omega (arith, ap first e))) (if_is _ _ _ _ h refl))
  where
    apart : (m n : Encoding) → starts_with nat_eq bytes (mark n) ≡ true → (m ≡ n → ⊥) → starts_with nat_eq bytes (mark m) ≡ false
    apart m n k differ = false_from_ne_true _ (λ g. differ (one_mark bytes m n g k))

abbrev IsFound : BomHandling → Encoding → List ℕ → Option Encoding → Type 0
IsFound bom e bytes None = (m : Encoding) → IsLookedFor bom e m → starts_with nat_eq bytes (mark m) ≡ false
IsFound bom e bytes (Some m) = IsLookedFor bom e m × (starts_with nat_eq bytes (mark m) ≡ true)

found_is : (bom : BomHandling) (e : Encoding) (bytes : List ℕ) → IsFound bom e bytes (found_mark bom e bytes)
found_is Off e bytes = λ m never. absurd never
found_is Remove e bytes = go (starts_with nat_eq bytes (mark e)) refl
  where
    go : (b : Bool) → starts_with nat_eq bytes (mark e) ≡ b → IsFound Remove e bytes (if b then Some e else None)
    go true h = (refl, h)
    go false h = λ m is. subst (λ x. starts_with nat_eq bytes (mark x) ≡ false) (sym is) h
found_is Sniff e bytes = go (starts_with nat_eq bytes (mark Utf8)) (starts_with nat_eq bytes (mark Utf16Be))
    (starts_with nat_eq bytes (mark Utf16Le)) refl refl refl
  where
    each : starts_with nat_eq bytes (mark Utf8) ≡ false → starts_with nat_eq bytes (mark Utf16Be) ≡ false → starts_with nat_eq bytes (mark Utf16Le) ≡ false
        → (m : Encoding) → starts_with nat_eq bytes (mark m) ≡ false
    each x y z Utf8 = x
    each x y z Utf16Be = y
    each x y z Utf16Le = z

    go : (x y z : Bool) → starts_with nat_eq bytes (mark Utf8) ≡ x → starts_with nat_eq bytes (mark Utf16Be) ≡ y → starts_with nat_eq bytes (mark Utf16Le) ≡ z
        → IsFound Sniff e bytes (if x then Some Utf8 else (if y then Some Utf16Be else (if z then Some Utf16Le else None)))
    go true y z h k l = (tt, h)
    go false true z h k l = (tt, k)
    go false false true h k l = (tt, l)
    go false false false h k l = λ m is. each h k l m

none_so : (bom : BomHandling) (e : Encoding) (bytes : List ℕ) → ((m : Encoding) → IsLookedFor bom e m → starts_with nat_eq bytes (mark m) ≡ false)
    → found_mark bom e bytes ≡ None
none_so Off e bytes none = refl
none_so Remove e bytes none = else_is _ _ _ _ (none e refl) refl
none_so Sniff e bytes none = else_is _ _ _ _ (none Utf8 tt) (else_is _ _ _ _ (none Utf16Be tt) (else_is _ _ _ _ (none Utf16Le tt) refl))

-- ---- the start of a mark
either : (x y : Bool) → (x || y) ≡ true → (x ≡ true) ⊎ (y ≡ true)
either true y h = inl refl
either false y h = inr h

pub begun : (bom : BomHandling) (e : Encoding) (bytes : List ℕ) → begins_mark bom e bytes ≡ true
    → (m : Encoding) × IsLookedFor bom e m × (begins_mark_of m bytes ≡ true)
begun Off e bytes h = absurd (both_ways false refl h)
begun Remove e bytes h = (e, refl, h)
begun Sniff e bytes h = elim (either _ _ h) [
  | inl a ↦ (Utf8, tt, a)
  | inr b ↦ elim (either _ _ b) [ inl c ↦ (Utf16Be, tt, c) | inr d ↦ (Utf16Le, tt, d) ]
]

begins_each : (bom : BomHandling) (e m : Encoding) (bytes : List ℕ) → IsLookedFor bom e m → begins_mark bom e bytes ≡ false → begins_mark_of m bytes ≡ false
begins_each Off e m bytes never h = absurd never
begins_each Remove e m bytes is h = subst (λ x. begins_mark_of x bytes ≡ false) (sym is) h
begins_each Sniff e Utf8 bytes is h = neither_left _ _ h
  where
    neither_left : (x y : Bool) → (x || y) ≡ false → x ≡ false
    neither_left true y h = h
    neither_left false y h = refl
begins_each Sniff e Utf16Be bytes is h = neither _ _ _ h
  where
    neither : (x y z : Bool) → (x || (y || z)) ≡ false → y ≡ false
    neither true y z h = absurd (both_ways true h refl)
    neither false true z h = absurd (both_ways true h refl)
    neither false false z h = refl
begins_each Sniff e Utf16Le bytes is h = neither _ _ _ h
  where
    neither : (x y z : Bool) → (x || (y || z)) ≡ false → z ≡ false
    neither true y z h = absurd (both_ways true h refl)
    neither false true z h = absurd (both_ways true h refl)
    neither false false z h = h

pub begun_parts : (m : Encoding) (bytes : List ℕ) → begins_mark_of m bytes ≡ true
    → (length bytes < length (mark m)) × (mark m ≡ bytes ++ drop (length bytes) (mark m))
begun_parts m bytes h =
    let parts = and_parts _ _ h in
    let less : length bytes < length (mark m) = let is = parts.0 in grind (arith, nat_tests) in
    (less, starts (mark m) bytes parts.1)

pub begun_short : (bom : BomHandling) (e : Encoding) (bytes : List ℕ) → begins_mark bom e bytes ≡ true → length bytes < 3
begun_short bom e bytes h =
    let some = begun bom e bytes h in
    omega (arith, (begun_parts some.0 bytes some.2).0, (short_mark some.0).1)

-- it is shorter than any mark that it starts with bytes that follow
pub within_mark : (bom : BomHandling) (e m : Encoding) (p xs : List ℕ) → begins_mark bom e p ≡ true → found_mark bom e (p ++ xs) ≡ Some m
    → length p < length (mark m)
within_mark bom e m [] xs h found = omega (arith, (short_mark m).0)
within_mark bom e m (b ∷ p) xs h found =
    let some = begun bom e (b ∷ p) h in
    let parts = begun_parts some.0 (b ∷ p) some.2 in
    let is = subst (IsFound bom e (b ∷ (p ++ xs))) found (found_is bom e (b ∷ (p ++ xs))) in
    let whole = starts (b ∷ (p ++ xs)) (mark m) is.1 in
    let same : some.0 ≡ m = same_mark some.0 m
    (ap (λ ys. slice_index ys 0) parts.1 ∙ ap (λ ys. slice_index ys 0) whole ∙ first_of m (drop (length (mark m)) (b ∷ (p ++ xs)))) in
    subst (λ x. length (b ∷ p) < length (mark x)) same parts.0

-- ---- what is left
module _ (bom : BomHandling) (e : Encoding) (p src : List ℕ) where
  abbrev old : DecoderState
  old = record { encoding = e; bom = bom; pending = p }

  abbrev window : List ℕ
  window = take 4 (p ++ src)

  cut : (more : List ℕ) → p ++ (src ++ more) ≡ window ++ (drop 4 (p ++ src) ++ more)
  cut more = sym (append_assoc p src more) ∙ ap (λ xs. xs ++ more) (sym (take-append-drop 4 (p ++ src))) ∙ append_assoc window (drop 4 (p ++ src)) more

  found_whole : (m : Encoding) (more : List ℕ) → found_mark bom e window ≡ Some m → found_mark bom e (p ++ (src ++ more)) ≡ Some m
  found_whole m more found =
      let is = subst (IsFound bom e window) found (found_is bom e window) in
      found_so bom e m (p ++ (src ++ more)) is.0
      (subst (λ xs. starts_with nat_eq xs (mark m) ≡ true) (sym (cut more)) (stays window (drop 4 (p ++ src) ++ more) m is.1))

  module _ (last : Bool) (m : Encoding) (pending : IsPendingOf bom e p) (found : found_mark bom e window ≡ Some m) where
    pub long_enough : length p < length (mark m)
    long_enough = elim pending [
      | inl begins ↦ within_mark bom e m p (src ++ []) begins (found_whole m [] found)
      | inr decided ↦ absurd (none_off (subst (λ x. found_mark x e window ≡ Some m) decided.0 found))
    ]
      where
        is_none : Option Encoding → Bool
        is_none None = true
        is_none (Some x) = false

        none_off : None ≡ Some m → ⊥
        none_off wrong = both_ways true (ap is_none wrong) refl

    pub mark_within : length (mark m) ≤ length p + length src
    mark_within =
        let is = subst (IsFound bom e window) found (found_is bom e window) in
        omega (
          arith,
          ap length (starts window (mark m) is.1),
          length-append (mark m) (drop (length (mark m)) window),
          length-take 4
              (p ++ src),
          length-append p src,
        )

    pub sniff_found : (read : ℕ) → read ≡ length (mark m) - length p → IsSniffed old src last (record { encoding = m; bom = Off; pending = [] }) read
    sniff_found read size = record {
      within = omega (arith, size, mark_within);
      same = λ more none. ap (λ bs. (m, bs)) (rest more) ∙ ap (after_mark e (p ++ (src ++ more))) (sym (found_whole m more found));
      keeps = (p ++ take read src, sym (append-nil (p ++ take read src)));
      at_most_three = omega arith;
      still = inl refl;
      encoding = looked_for bom (subst (IsFound bom e window) found (found_is bom e window)).0;
      found = λ _ _. refl;
      stays = λ none. absurd (omega (arith, none, size, long_enough));
      waiting = λ on. absurd (on refl);
      decided = λ _. (
        λ w. omega (
          arith,
          mark_within,
          length-append p src,
          within_mark bom e m (p ++ src) [] w.1
              (ap (found_mark bom e) (append-nil (p ++ src)) ∙ found_here),
        ),
        ap (start_after old) found_here ∙ (λ i. record { encoding = m; pending = []; skipped = (sym size) i }),
      );
    }
      where
        found_here : found_mark bom e (p ++ src) ≡ Some m
        found_here = ap (λ xs. found_mark bom e (p ++ xs)) (sym (append-nil src)) ∙ found_whole m [] found

        rest : (more : List ℕ) → drop read src ++ more ≡ drop (length (mark m)) (p ++ (src ++ more))
        rest more =
            let short : read ≤ length src = omega (arith, size, mark_within) in
            sym (drop-append-le read src more short) ∙ ap (drop read) (sym (drop_at p (src ++ more) (length p) refl))
            ∙ drop-drop read (length p) (p ++ (src ++ more)) ∙ ap (λ n. drop n (p ++ (src ++ more))) (omega (arith, size, long_enough))

        looked_for : (b : BomHandling) → IsLookedFor b e m → (b ≡ Sniff) ⊎ (m ≡ e)
        looked_for Off never = absurd never
        looked_for Remove is = inr is
        looked_for Sniff is = inl refl

  -- the bytes are those of the start of a mark
  pub sniff_open : (last : Bool) → last ≡ false → begins_mark bom e window ≡ true
      → IsSniffed old src last (record { encoding = e; bom = bom; pending = window })
      (length src)
  sniff_open last unmarked begins =
      let whole : window ≡ p ++ src = take_all 4 (p ++ src) (omega (arith, begun_short bom e window begins, length-take 4 (p ++ src))) in
      record {
        within = omega arith;
        same = λ more none.
            ap (λ bs. after_mark e bs (found_mark bom e bs)) (ap (λ xs. window ++ (xs ++ more)) (drop_all (length src) src (omega arith))
            ∙ ap (λ xs. xs ++ more) whole
            ∙ append_assoc p src more);
        keeps = ([], ap (λ xs. p ++ xs) (take_all (length src) src (omega arith)) ∙ sym whole);
        at_most_three = omega (arith, begun_short bom e window begins);
        still = inr (refl, unmarked, refl, begins);
        encoding = inr refl;
        found = λ _ off. absurd (both_ways false refl (subst (λ x. begins_mark x e window ≡ true) off begins));
        stays = λ none. (refl, whole ∙ ap (λ bs. p ++ bs) (nil_from_length src none) ∙ append-nil p);
        waiting = λ _. (
          (unmarked, subst (λ xs. begins_mark bom e xs ≡ true) whole begins),
          λ i. record { encoding = e; bom = bom; pending = whole i },
        );
        decided = λ off. absurd (both_ways false refl (subst (λ x. begins_mark x e window ≡ true) off begins));
      }

  -- they are not
  pub sniff_none : (last : Bool) → length p ≤ 3 → found_mark bom e window ≡ None → (last ≡ true) ⊎ (begins_mark bom e window ≡ false)
      → IsSniffed old src last (record { encoding = e; bom = Off; pending = p }) 0
  sniff_none last few none why = record {
    within = omega arith;
    same = λ more end. ap (after_mark e (p ++ (src ++ more))) (sym (none_so bom e (p ++ (src ++ more)) (λ m is.
        subst (λ xs. starts_with nat_eq xs (mark m) ≡ false) (sym (cut more))
        (none_stays window (drop 4 (p ++ src) ++ more) m (subst (IsFound bom e window) none (found_is bom e window) m is) (shows m is more end)))));
    keeps = ([], append-nil p);
    at_most_three = few;
    still = inl refl;
    encoding = inr refl;
    found = λ some _. absurd (omega (arith, some));
    stays = λ _. (refl, refl);
    waiting = λ on. absurd (on refl);
    decided = λ _. (no_wait, ap (start_after old) found_none);
  }
    where
      no_wait : (last ≡ false) × (begins_mark bom e (p ++ src) ≡ true) → ⊥
      no_wait (unmarked, begins) = elim why [
        | inl marked ↦ both_ways _ unmarked marked
        | inr none_begun ↦
            both_ways _ none_begun (subst (λ xs. begins_mark bom e xs ≡ true)
            (sym (take_all 4 (p ++ src) (omega (arith, begun_short bom e (p ++ src) begins)))) begins)
      ]

      short_or_long : (more : List ℕ) → more ≡ [] → (3 ≤ length window) ⊎ (drop 4 (p ++ src) ++ more ≡ [])
      short_or_long more end = elim (cases_lt 4 (length (p ++ src))) [
        | inl long ↦ inl (omega (arith, length-take 4 (p ++ src), long))
        | inr short ↦ inr (ap (λ xs. drop 4 (p ++ src) ++ xs) end ∙ append-nil (drop 4 (p ++ src)) ∙ drop_all 4 (p ++ src) (omega (arith, short)))
      ]

      shows : (m : Encoding) → IsLookedFor bom e m → (more : List ℕ) → (last ≡ true → more ≡ [])
          → Shows (begins_mark_of m window) window (drop 4 (p ++ src) ++ more)
      shows m is more end = elim why [
        | inl marked ↦ elim (short_or_long more (end marked)) [ inl long ↦ inl long | inr gone ↦ inr (inl gone) ]
        | inr begins ↦ inr (inr (begins_each bom e m window is begins))
      ]

      found_none : found_mark bom e (p ++ src) ≡ None
      found_none = ap (λ xs. found_mark bom e (p ++ xs)) (sym (append-nil src)) ∙ none_so bom e (p ++ (src ++ [])) (λ m is.
          subst (λ xs. starts_with nat_eq xs (mark m) ≡ false) (sym (cut []))
          (none_stays window (drop 4 (p ++ src) ++ []) m (subst (IsFound bom e window) none (found_is bom e window) m is) (shows m is [] (λ _. refl))))

-- ---- no mark is looked for
pub sniff_off : (e : Encoding) (bom : BomHandling) (p src : List ℕ) (last : Bool) → bom ≡ Off → length p ≤ 3
    → IsSniffed (record { encoding = e; bom = bom; pending = p }) src last (record { encoding = e; bom = bom; pending = p }) 0
sniff_off e bom p src last off few = record {
  within = omega arith;
  same = λ more end. refl;
  keeps = ([], append-nil p);
  at_most_three = few;
  still = inl off;
  encoding = inr refl;
  found = λ some _. absurd (omega (arith, some));
  stays = λ _. (refl, refl);
  waiting = λ on. absurd (on off);
  decided = λ _. (
    λ w. both_ways false refl (subst (λ b. begins_mark b e (p ++ src) ≡ true) off w.1),
    ap (λ b. start_after (record { encoding = e; bom = bom; pending = p }) (found_mark b e (p ++ src))) off,
  );
}

-- ---- how much is left
after_within : (e : Encoding) (bytes : List ℕ) (found : Option Encoding) → length (after_mark e bytes found).1 ≤ length bytes
after_within e bytes None = omega arith
after_within e bytes (Some m) = omega (arith, length-drop (length (mark m)) bytes)

pub left_within : (s : DecoderState) (unread : List ℕ) → length (left s unread).1 ≤ length s.pending + length unread
left_within s unread =
    omega (arith, after_within s.encoding (s.pending ++ unread) (found_mark s.bom s.encoding (s.pending ++ unread)), length-append s.pending unread)

pub left_off : (s : DecoderState) (unread : List ℕ) → s.bom ≡ Off → length (left s unread).1 ≡ length s.pending + length unread
left_off s unread off =
    ap (λ b. length (after_mark s.encoding (s.pending ++ unread) (found_mark b s.encoding (s.pending ++ unread))).1) off ∙ length-append s.pending unread
