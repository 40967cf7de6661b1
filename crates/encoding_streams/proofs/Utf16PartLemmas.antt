-- The one list of parts of the bytes of UTF-16LE or UTF-16BE: it exists, it is the only one, and final parts stay for any
-- bytes that follow.
use Rattle.std.proofs.Common.{◌≡◌, ◌≢◌, ℕ, zero, suc, ◌<◌, ◌≤◌, ◌⊎◌, inl, inr, Bool, true, false, cond, List, [], ◌∷◌, ◌++◌, length, map, refl, sym, ap, ◌∙◌}
use Rattle.std.proofs.Common.{arith, subst, append_assoc}
use Rattle.std.specs.Char.Escape.{encode_utf16}
use Rattle.std.specs.Char.Utf16.{surrogate_pair_char, is_high_surrogate, is_low_surrogate}
use Rattle.std.specs.List.{flat_map}
use Rattle.std.specs.Str.{all_scalars}
use Rattle.std.proofs.lemmas.Bool.{and_parts, cases_lt}
use Rattle.std.proofs.lemmas.Bool.Decides.{nat_tests}
use Rattle.std.proofs.lemmas.List.{append-nil, length-append}
use Rattle.encoding_text.specs.Parts.{Part, Character, IllFormed}
use Rattle.encoding_text.specs.Utf16.{IsHighSurrogate, IsLowSurrogate}
use Rattle.encoding_text.specs.Encoding.{IsPendingSurrogate}
use Rattle.encoding_text.specs.Utf16Bytes.{bytes_of_scalars, unit_bytes, utf16_bytes}
use Rattle.encoding_text.specs.declared.utf_16.ByteOrder.{ByteOrder}
use Rattle.encoding_definitions.proofs.Utf16Lemmas.{first_unit, first_pair}
use Rattle.encoding_streams.specs.Utf16Parts.{AreBytes, bytes_of_utf16, IsPendingUtf16, IsMalformedUtf16, IsFirstPartUtf16, StartsWithUtf16, ArePartsOfUtf16}
use Rattle.encoding_streams.specs.Utf16Parts.{AreFinalUtf16}
use Rattle.encoding_streams.proofs.Utf16ByteLemmas.{unit_at, first_byte, second_byte, two_bytes, unit_of_bytes, bytes_of_unit, unit_at-bound, length-unit_bytes}
use Rattle.encoding_streams.proofs.Utf16ByteLemmas.{character_bytes, character_some, bytes_of_scalars-append, pending_nil}

-- ---- what the first part is, by the bytes
-- after a high surrogate
abbrev after_high : ByteOrder → ℕ → ℕ → ℕ → List ℕ → Part × List ℕ
after_high order a b u [] = (IllFormed (a ∷ b ∷ []), [])
after_high order a b u (c ∷ []) = (IllFormed (a ∷ b ∷ c ∷ []), [])
after_high order a b u (c ∷ d ∷ more) =
    cond (is_low_surrogate (unit_at order c d)) (Character (surrogate_pair_char u (unit_at order c d)), more) (IllFormed (a ∷ b ∷ []), c ∷ d ∷ more)

-- after any code unit
abbrev after_unit : ByteOrder → ℕ → ℕ → ℕ → List ℕ → Part × List ℕ
after_unit order a b u rest =
    cond (is_low_surrogate u) (IllFormed (a ∷ b ∷ []), rest) (cond (is_high_surrogate u) (after_high order a b u rest) (Character u, rest))

abbrev first_of : ByteOrder → List ℕ → Part × List ℕ
first_of order [] = (IllFormed [], [])
first_of order (a ∷ []) = (IllFormed (a ∷ []), [])
first_of order (a ∷ b ∷ rest) = after_unit order a b (unit_at order a b) rest

is_low : (u : ℕ) → IsLowSurrogate u → is_low_surrogate u ≡ true
is_low u h = grind (arith, nat_tests)

no_low : (u : ℕ) → (IsLowSurrogate u → ⊥) → is_low_surrogate u ≡ false
no_low u h = grind (arith, nat_tests)

is_high : (u : ℕ) → IsHighSurrogate u → is_high_surrogate u ≡ true
is_high u h = grind (arith, nat_tests)

no_high : (u : ℕ) → (IsHighSurrogate u → ⊥) → is_high_surrogate u ≡ false
no_high u h = grind (arith, nat_tests)

first_of_unit : (order : ByteOrder) (u : ℕ) (rest : List ℕ) → u < 0x10000
    → first_of order (unit_bytes order u ++ rest) ≡ after_unit order (first_byte order u) (second_byte order u) u rest
first_of_unit order u rest l =
    ap (λ xs. first_of order (xs ++ rest)) (two_bytes order u)
    ∙ ap (λ v. after_unit order (first_byte order u) (second_byte order u) v rest) (unit_of_bytes order u l)

first_of_low : (order : ByteOrder) (u : ℕ) (rest : List ℕ) → IsLowSurrogate u
    → first_of order (unit_bytes order u ++ rest) ≡ (IllFormed (unit_bytes order u), rest)
first_of_low order u rest h =
    first_of_unit order u rest (omega (arith, h))
    ∙ ap (λ t. cond t (IllFormed (first_byte order u ∷ second_byte order u ∷ []), rest)
    (cond (is_high_surrogate u) (after_high order (first_byte order u) (second_byte order u) u rest) (Character u, rest))) (is_low u h)
    ∙ ap (λ xs. (IllFormed xs, rest)) (sym (two_bytes order u))

first_of_high : (order : ByteOrder) (u : ℕ) (rest : List ℕ) → IsHighSurrogate u
    → first_of order (unit_bytes order u ++ rest) ≡ after_high order (first_byte order u) (second_byte order u) u rest
first_of_high order u rest h =
    first_of_unit order u rest (omega (arith, h))
    ∙ ap (λ t. cond t (IllFormed (first_byte order u ∷ second_byte order u ∷ []), rest)
    (cond (is_high_surrogate u) (after_high order (first_byte order u) (second_byte order u) u rest) (Character u, rest))) (no_low u (λ l. omega (arith, h, l)))
    ∙ ap (λ t. cond t (after_high order (first_byte order u) (second_byte order u) u rest) (Character u, rest)) (is_high u h)

first_of_single : (order : ByteOrder) (u : ℕ) (rest : List ℕ) → u < 0x10000 → (u < 0xD800) ⊎ (0xDFFF < u)
    → first_of order (unit_bytes order u ++ rest) ≡ (Character u, rest)
first_of_single order u rest l apart =
    first_of_unit order u rest l
    ∙ ap (λ t. cond t (IllFormed (first_byte order u ∷ second_byte order u ∷ []), rest)
    (cond (is_high_surrogate u) (after_high order (first_byte order u) (second_byte order u) u rest) (Character u, rest)))
    (no_low u (λ h. elim apart [ inl a ↦ omega (arith, h, a) | inr a ↦ omega (arith, h, a) ]))
    ∙ ap (λ t. cond t (after_high order (first_byte order u) (second_byte order u) u rest) (Character u, rest))
    (no_high u (λ h. elim apart [ inl a ↦ omega (arith, h, a) | inr a ↦ omega (arith, h, a) ]))

-- a high surrogate and one more code unit
first_of_two : (order : ByteOrder) (u v : ℕ) (rest : List ℕ) → IsHighSurrogate u → v < 0x10000
    → first_of order (unit_bytes order u ++ (unit_bytes order v ++ rest)) ≡
    cond (is_low_surrogate v) (Character (surrogate_pair_char u v), rest) (IllFormed (unit_bytes order u), unit_bytes order v ++ rest)
first_of_two order u v rest h l =
    first_of_high order u (unit_bytes order v ++ rest) h
    ∙ ap (λ xs. after_high order (first_byte order u) (second_byte order u) u (xs ++ rest)) (two_bytes order v)
    ∙ ap (λ w. cond (is_low_surrogate w) (Character (surrogate_pair_char u w), rest)
    (IllFormed (first_byte order u ∷ second_byte order u ∷ []), first_byte order v ∷ second_byte order v ∷ rest)) (unit_of_bytes order v l)
    ∙ (λ i. cond (is_low_surrogate v) (Character (surrogate_pair_char u v), rest)
    (IllFormed ((sym (two_bytes order u)) i), (sym (two_bytes order v)) i ++ rest))

-- ---- there is only one
-- all that is left of a character that isn't whole
first_of_pending : (order : ByteOrder) (high odd : List ℕ) → IsPendingSurrogate high → length odd ≤ 1 → utf16_bytes order high ++ odd ≢ []
    → first_of order (utf16_bytes order high ++ odd) ≡ (IllFormed (utf16_bytes order high ++ odd), [])
first_of_pending order [] [] h l some = absurd (some refl)
first_of_pending order [] (b ∷ []) h l some = refl
first_of_pending order [] (b ∷ c ∷ more) h l some = absurd (omega arith)
first_of_pending order (u ∷ []) [] h l some =
    ap (first_of order) (append_assoc (unit_bytes order u) [] []) ∙ first_of_high order u [] h
    ∙ ap (λ xs. (IllFormed xs, [])) (sym (two_bytes order u) ∙ sym (append-nil (unit_bytes order u)) ∙ sym (append-nil (unit_bytes order u ++ [])))
first_of_pending order (u ∷ []) (b ∷ []) h l some =
    ap (first_of order) (append_assoc (unit_bytes order u) [] (b ∷ [])) ∙ first_of_high order u (b ∷ []) h
    ∙ ap (λ xs. (IllFormed (xs ++ b ∷ []), [])) (sym (two_bytes order u) ∙ sym (append-nil (unit_bytes order u)))
first_of_pending order (u ∷ []) (b ∷ c ∷ more) h l some = absurd (omega arith)
first_of_pending order (u ∷ v ∷ us) odd h l some = absurd h

first_is : (order : ByteOrder) (last : Bool) (bs : List ℕ) (part : Part) (rest : List ℕ) → IsFirstPartUtf16 order last bs part rest
    → first_of order bs ≡ (part, rest)
first_is order last bs (Character c) rest (s, e) = ap (first_of order) e ∙ elim (character_bytes order c s) [
  | inl (small, apart, f) ↦ ap (λ xs. first_of order (xs ++ rest)) f ∙ first_of_single order c rest small apart
  | inr (u, v, high, low, same, f) ↦
      ap (λ xs. first_of order (xs ++ rest)) f ∙ ap (first_of order) (append_assoc (unit_bytes order u) (unit_bytes order v) rest)
      ∙ first_of_two order u v rest high (omega (arith, low))
      ∙ ap (λ t. cond t (Character (surrogate_pair_char u v), rest) (IllFormed (unit_bytes order u), unit_bytes order v ++ rest)) (is_low v low)
      ∙ ap (λ d. (Character d, rest)) same
]
first_is order last bs (IllFormed x) rest (e, inl (u, low, f)) =
    ap (first_of order) (e ∙ ap (λ xs. xs ++ rest) f) ∙ first_of_low order u rest low ∙ ap (λ xs. (IllFormed xs, rest)) (sym f)
first_is order last bs (IllFormed x) rest (e, inr (inl h)) =
    ap (first_of order) (e ∙ (λ i. h.bytes i ++ h.following i)) ∙ first_of_two order h.unit h.next h.more h.is_high h.is_unit
    ∙ ap (λ t. cond t (Character (surrogate_pair_char h.unit h.next), h.more) (IllFormed (unit_bytes order h.unit), unit_bytes order h.next ++ h.more))
    (no_low h.next h.not_low)
    ∙ (λ i. (IllFormed ((sym h.bytes) i), (sym h.following) i))
first_is order last bs (IllFormed x) rest (e, inr (inr (some, pending, none, l))) =
    ap (first_of order) (e ∙ ap (λ ys. x ++ ys) none ∙ append-nil x ∙ pending.whole)
    ∙ first_of_pending order pending.surrogate pending.odd pending.is_high pending.one (λ n. some (pending.whole ∙ n))
    ∙ (λ i. (IllFormed ((sym pending.whole) i), (sym none) i))

pub same_first : (order : ByteOrder) (last other : Bool) (bs : List ℕ) (p : Part) (r : List ℕ) (q : Part) (s : List ℕ) → IsFirstPartUtf16 order last bs p r
    → IsFirstPartUtf16 order other bs q s → (p ≡ q) × (r ≡ s)
same_first order last other bs p r q s h k =
    let e = sym (first_is order last bs p r h) ∙ first_is order other bs q s k in
    (ap (λ (t : Part × List ℕ). t.0) e, ap (λ (t : Part × List ℕ). t.1) e)

-- ---- there is one
abbrev HasFirst : ByteOrder → List ℕ → Type 0
HasFirst order bs = (part : Part) × (rest : List ℕ) × IsFirstPartUtf16 order true bs part rest

-- a number of sixteen bits is no surrogate, a high or a low one
abbrev UnitKind : ℕ → Type 0
UnitKind u = ((u < 0xD800) ⊎ (0xDFFF < u)) ⊎ (IsHighSurrogate u ⊎ IsLowSurrogate u)

unit_kind : (u : ℕ) → UnitKind u
unit_kind u = elim (cases_lt u 0xD800) [
  | inl a ↦ inl (inl a)
  | inr a ↦ elim (cases_lt 0xDFFF u) [
    | inl b ↦ inl (inr b)
    | inr b ↦ elim (cases_lt u 0xDC00) [ inl c ↦ inr (inl (a, omega arith)) | inr c ↦ inr (inr (c, b)) ]
  ]
]

cut_off : (order : ByteOrder) (high odd : List ℕ) → IsPendingSurrogate high → length odd ≤ 1 → utf16_bytes order high ++ odd ≢ []
    → HasFirst order (utf16_bytes order high ++ odd)
cut_off order high odd h l some = (
  IllFormed (utf16_bytes order high ++ odd),
  [],
  (
    sym (append-nil (utf16_bytes order high ++ odd)),
    inr
        (inr (
          some,
          record {
            surrogate = high;
            is_high = h;
            odd = odd;
            one = l;
            whole = refl;
          },
          refl,
          refl,
        )),
  ),
)

some_bytes : (order : ByteOrder) (u : ℕ) (rest : List ℕ) → unit_bytes order u ++ rest ≢ []
some_bytes order u rest e = omega (arith, ap length e, length-append (unit_bytes order u) rest, length-unit_bytes order u)

high_bytes : (order : ByteOrder) (u : ℕ) (odd : List ℕ) → IsHighSurrogate u → length odd ≤ 1 → HasFirst order (unit_bytes order u ++ odd)
high_bytes order u odd h l =
    subst (HasFirst order) (ap (λ xs. xs ++ odd) (append-nil (unit_bytes order u)))
    (cut_off order (u ∷ []) odd h l (λ e. some_bytes order u odd (ap (λ xs. xs ++ odd) (sym (append-nil (unit_bytes order u))) ∙ e)))

low_follows : (order : ByteOrder) (u v : ℕ) (more : List ℕ) → IsHighSurrogate u → IsLowSurrogate v
    → HasFirst order (unit_bytes order u ++ (unit_bytes order v ++ more))
low_follows order u v more h l =
    let (s, e) = first_pair u v [] (h.0, omega (arith, h.1), l.0, omega (arith, l.1)) in (
      Character (surrogate_pair_char u v),
      more,
      (
        s,
        sym (append_assoc (unit_bytes order u) (unit_bytes order v) more)
            ∙ ap (λ xs. xs ++ more) (ap (λ xs. unit_bytes order u ++ xs) (sym (append-nil (unit_bytes order v)))
            ∙ ap (utf16_bytes order) (e ∙ append-nil (encode_utf16 (surrogate_pair_char u v)))),
      ),
    )

other_follows : (order : ByteOrder) (u v : ℕ) (more : List ℕ) → IsHighSurrogate u → v < 0x10000 → (IsLowSurrogate v → ⊥)
    → HasFirst order (unit_bytes order u ++ (unit_bytes order v ++ more))
other_follows order u v more h l n = (
  IllFormed (unit_bytes order u),
  unit_bytes order v ++ more,
  (refl, inr (inl (record { unit = u; is_high = h; bytes = refl; next = v; is_unit = l; not_low = n; more = more; following = refl }))),
)

unit_follows : (order : ByteOrder) (u : ℕ) (rest : List ℕ) → IsHighSurrogate u → AreBytes rest → HasFirst order (unit_bytes order u ++ rest)
unit_follows order u [] h bytes = high_bytes order u [] h (omega arith)
unit_follows order u (c ∷ []) h bytes = high_bytes order u (c ∷ []) h (omega arith)
unit_follows order u (c ∷ d ∷ more) h bytes =
    let v = unit_at order c d in
    let spelled = bytes_of_unit order c d (bytes 0) (bytes 1) in
    subst (λ xs. HasFirst order (unit_bytes order u ++ (xs ++ more))) spelled (elim (unit_kind v) [
      | inl apart ↦
          other_follows order u v more h (unit_at-bound order c d (bytes 0) (bytes 1))
          (λ l. elim apart [ inl a ↦ omega (arith, a, l) | inr a ↦ omega (arith, a, l) ])
      | inr (inl high) ↦ other_follows order u v more h (unit_at-bound order c d (bytes 0) (bytes 1)) (λ l. omega (arith, high, l))
      | inr (inr low) ↦ low_follows order u v more h low
    ])

pub has_first : (order : ByteOrder) (bs : List ℕ) → AreBytes bs → 0 < length bs → HasFirst order bs
has_first order [] bytes some = absurd (omega arith)
has_first order (a ∷ []) bytes some = cut_off order [] (a ∷ []) tt (omega arith) (λ e. omega (arith, ap length e))
has_first order (a ∷ b ∷ rest) bytes some =
    let u = unit_at order a b in
    let bound = unit_at-bound order a b (bytes 0) (bytes 1) in
    subst (λ xs. HasFirst order (xs ++ rest)) (bytes_of_unit order a b (bytes 0) (bytes 1)) (elim (unit_kind u) [
      | inl apart ↦
          let (s, e) = first_unit u [] bound apart in
          (Character u, rest, (s, ap (λ xs. xs ++ rest) (sym (append-nil (unit_bytes order u)) ∙ ap (utf16_bytes order) (e ∙ append-nil (encode_utf16 u)))))
      | inr (inl high) ↦ unit_follows order u rest high (λ k. bytes (suc (suc k)))
      | inr (inr low) ↦ (IllFormed (unit_bytes order u), rest, (refl, inl (u, low, refl)))
    ])

-- ---- it takes bytes
pub part_bytes : (order : ByteOrder) (last : Bool) (bs : List ℕ) (part : Part) (rest : List ℕ) → IsFirstPartUtf16 order last bs part rest
    → (bs ≡ bytes_of_utf16 order part ++ rest) × (0 < length (bytes_of_utf16 order part))
part_bytes order last bs (Character c) rest (s, e) = (e, omega (arith, character_some order c s))
part_bytes order last bs (IllFormed x) rest (e, inl (u, low, f)) = (e, omega (arith, ap length f, length-unit_bytes order u))
part_bytes order last bs (IllFormed x) rest (e, inr (inl h)) = (e, omega (arith, ap length h.bytes, length-unit_bytes order h.unit))
part_bytes order last bs (IllFormed x) rest (e, inr (inr (some, pending, none, l))) = (e, not_empty x some)
  where
    not_empty : (x : List ℕ) → x ≢ [] → 0 < length x
    not_empty [] some = absurd (some refl)
    not_empty (b ∷ x) some = omega arith

-- ---- it stays the first
pub malformed_stays : (order : ByteOrder) (x rest more : List ℕ) (last : Bool) → IsMalformedUtf16 order x rest false
    → IsMalformedUtf16 order x (rest ++ more) last
malformed_stays order x rest more last (inl low) = inl low
malformed_stays order x rest more last (inr (inl h)) =
    inr
    (inl (record {
      unit = h.unit;
      is_high = h.is_high;
      bytes = h.bytes;
      next = h.next;
      is_unit = h.is_unit;
      not_low = h.not_low;
      more = h.more ++ more;
      following = ap (λ xs. xs ++ more) h.following ∙ append_assoc (unit_bytes order h.next) h.more more;
    }))
malformed_stays order x rest more last (inr (inr (some, pending, none, l))) = cc

pub first_stays : (order : ByteOrder) (bs : List ℕ) (part : Part) (rest more : List ℕ) (last : Bool) → IsFirstPartUtf16 order false bs part rest
    → IsFirstPartUtf16 order last (bs ++ more) part (rest ++ more)
first_stays order bs (Character c) rest more last (s, e) = (s, ap (λ xs. xs ++ more) e ∙ append_assoc (utf16_bytes order (encode_utf16 c)) rest more)
first_stays order bs (IllFormed x) rest more last (e, m) = (ap (λ xs. xs ++ more) e ∙ append_assoc x rest more, malformed_stays order x rest more last m)

-- if fewer bytes may follow, it is the first part too
pub malformed_weaker : (order : ByteOrder) (x rest : List ℕ) (last other : Bool) → (last ≡ true → other ≡ true) → IsMalformedUtf16 order x rest last
    → IsMalformedUtf16 order x rest other
malformed_weaker order x rest last other i (inl low) = inl low
malformed_weaker order x rest last other i (inr (inl h)) = inr (inl h)
malformed_weaker order x rest last other i (inr (inr (some, pending, none, l))) = inr (inr (some, pending, none, i l))

first_weaker : (order : ByteOrder) (last other : Bool) (bs : List ℕ) (part : Part) (rest : List ℕ) → (last ≡ true → other ≡ true)
    → IsFirstPartUtf16 order last bs part rest → IsFirstPartUtf16 order other bs part rest
first_weaker order last other bs (Character c) rest i f = f
first_weaker order last other bs (IllFormed x) rest i (e, m) = (e, malformed_weaker order x rest last other i m)

-- ---- runs of parts
pub starts_append : (order : ByteOrder) (last : Bool) (bs : List ℕ) (ps : List Part) (mid : List ℕ) (qs : List Part) (rest : List ℕ)
    → StartsWithUtf16 order last bs ps mid
    → StartsWithUtf16 order last mid qs rest → StartsWithUtf16 order last bs (ps ++ qs) rest
starts_append order last bs [] mid qs rest e s = subst (λ xs. StartsWithUtf16 order last xs qs rest) (sym e) s
starts_append order last bs (p ∷ ps) mid qs rest (after, f, more) s = (after, f, starts_append order last after ps mid qs rest more s)

pub starts_bytes : (order : ByteOrder) (last : Bool) (bs : List ℕ) (ps : List Part) (rest : List ℕ) → StartsWithUtf16 order last bs ps rest
    → bs ≡ flat_map (bytes_of_utf16 order) ps ++ rest
starts_bytes order last bs [] rest e = e
starts_bytes order last bs (p ∷ ps) rest (after, f, more) =
    (part_bytes order last bs p after f).0 ∙ ap (λ xs. bytes_of_utf16 order p ++ xs) (starts_bytes order last after ps rest more)
    ∙ sym (append_assoc (bytes_of_utf16 order p) (flat_map (bytes_of_utf16 order) ps) rest)

pub starts_stay : (order : ByteOrder) (bs : List ℕ) (ps : List Part) (rest more : List ℕ) (last : Bool) → StartsWithUtf16 order false bs ps rest
    → StartsWithUtf16 order last (bs ++ more) ps (rest ++ more)
starts_stay order bs [] rest more last e = ap (λ xs. xs ++ more) e
starts_stay order bs (p ∷ ps) rest more last (after, f, s) = (
  after ++ more,
  first_stays order bs p after more last f,
  starts_stay order after
      ps rest more last s,
)

pub starts_weaker : (order : ByteOrder) (last other : Bool) (bs : List ℕ) (ps : List Part) (rest : List ℕ) → (last ≡ true → other ≡ true)
    → StartsWithUtf16 order last bs ps rest → StartsWithUtf16 order other bs ps rest
starts_weaker order last other bs [] rest i e = e
starts_weaker order last other bs (p ∷ ps) rest i (after, f, s) = (
  after,
  first_weaker order last other bs p after i f,
  starts_weaker order last
      other after ps rest i s,
)

pub starts_characters : (order : ByteOrder) (last : Bool) (cs rest : List ℕ) → all_scalars cs ≡ true
    → StartsWithUtf16 order last (bytes_of_scalars order cs ++ rest) (map Character cs) rest
starts_characters order last [] rest h = refl
starts_characters order last (c ∷ cs) rest h =
    let parts = and_parts _ _ h in (
      bytes_of_scalars order cs ++ rest,
      (
        parts.0,
        ap (λ xs. xs ++ rest) (bytes_of_scalars-append order (c ∷ []) cs
            ∙ ap (λ us. utf16_bytes order us ++ bytes_of_scalars order cs) (append-nil (encode_utf16 c)))
            ∙ append_assoc (utf16_bytes order (encode_utf16 c)) (bytes_of_scalars order cs) rest,
      ),
      starts_characters order last cs rest parts.1,
    )

-- ---- there is one list
no_first : (order : ByteOrder) (last : Bool) (part : Part) (rest : List ℕ) → IsFirstPartUtf16 order last [] part rest → ⊥
no_first order last part rest f =
    let bytes = part_bytes order last [] part rest f in
    omega (arith, ap length bytes.0, length-append (bytes_of_utf16 order part) rest, bytes.1)

-- first parts are a prefix of all the parts
pub parts_split : (order : ByteOrder) (last : Bool) (bs : List ℕ) (ps : List Part) (rest : List ℕ) (all : List Part) → StartsWithUtf16 order last bs ps rest
    → ArePartsOfUtf16 order bs all → (more : List Part) × (all ≡ ps ++ more) × ArePartsOfUtf16 order rest more
parts_split order last bs [] rest all e h = (all, refl, subst (λ xs. ArePartsOfUtf16 order xs all) e h)
parts_split order last bs (p ∷ ps) rest [] (after, f, s) e = absurd (no_first order last p after (subst (λ xs. IsFirstPartUtf16 order last xs p after) e f))
parts_split order last bs (p ∷ ps) rest (q ∷ all) (after, f, s) (then', g, t) =
    let same = same_first order last true bs p after q then' f g in
    let more = parts_split order last after ps rest all s (subst (λ xs. ArePartsOfUtf16 order xs all) (sym same.1) t) in
    (more.0, (λ i. (sym same.0) i ∷ (more.1) i), more.2)

no_parts : (order : ByteOrder) (ps : List Part) → ArePartsOfUtf16 order [] ps → ps ≡ []
no_parts order [] h = refl
no_parts order (p ∷ ps) (after, f, s) = absurd (no_first order true p after f)

pub same_parts : (order : ByteOrder) (bs : List ℕ) (ps qs : List Part) → ArePartsOfUtf16 order bs ps → ArePartsOfUtf16 order bs qs → ps ≡ qs
same_parts order bs ps qs h k =
    let split = parts_split order true bs ps [] qs h k in
    sym (split.1 ∙ ap (λ xs. ps ++ xs) (no_parts order split.0 split.2) ∙ append-nil ps)

-- bytes after a prefix of bytes are bytes
rest_bytes : (xs ys : List ℕ) → AreBytes (xs ++ ys) → AreBytes ys
rest_bytes [] ys h = h
rest_bytes (x ∷ xs) ys h = rest_bytes xs ys (λ k. h (suc k))

parts_within : (order : ByteOrder) (n : ℕ) (bs : List ℕ) → AreBytes bs → length bs ≤ n → (ps : List Part) × ArePartsOfUtf16 order bs ps
parts_within order n [] bytes h = ([], refl)
parts_within order zero (b ∷ bs) bytes h = absurd (omega arith)
parts_within order (suc n) (b ∷ bs) bytes h =
    let first = has_first order (b ∷ bs) bytes (omega arith) in
    let taken = part_bytes order true (b ∷ bs) first.0 first.1 first.2 in
    let less : length first.1 ≤ n = omega (arith, ap length taken.0, length-append (bytes_of_utf16 order first.0) first.1, taken.1) in
    let more = parts_within order n first.1 (rest_bytes (bytes_of_utf16 order first.0) first.1 (subst AreBytes taken.0 bytes)) less in
    (first.0 ∷ more.0, (first.1, first.2, more.1))

pub has_parts : (order : ByteOrder) (bs : List ℕ) → AreBytes bs → (ps : List Part) × ArePartsOfUtf16 order bs ps
has_parts order bs bytes = parts_within order (length bs) bs bytes (omega arith)

-- ---- final parts
abbrev HasFinal : ByteOrder → List ℕ → Type 0
HasFinal order bs = (ps : List Part) × (rest : List ℕ) × AreFinalUtf16 order bs ps rest

-- a first part is final, or it is all that is left of a character that isn't whole
final_or_open : (order : ByteOrder) (bs : List ℕ) (part : Part) (rest : List ℕ) → IsFirstPartUtf16 order true bs part rest
    → IsFirstPartUtf16 order false bs part rest ⊎ IsPendingUtf16 order bs
final_or_open order bs (Character c) rest f = inl f
final_or_open order bs (IllFormed x) rest (e, inl low) = inl (e, inl low)
final_or_open order bs (IllFormed x) rest (e, inr (inl h)) = inl (e, inr (inl h))
final_or_open order bs (IllFormed x) rest (e, inr (inr (some, pending, none, l))) =
    inr (subst (IsPendingUtf16 order) (sym (e ∙ ap (λ ys. x ++ ys) none ∙ append-nil x)) pending)

final_more : (order : ByteOrder) (bs : List ℕ) (part : Part) (after : List ℕ) → IsFirstPartUtf16 order true bs part after
    → HasFinal order after → HasFinal order bs
final_more order bs part after f (ps, rest, s) = elim (final_or_open order bs part after f) [
  | inl final ↦ (part ∷ ps, rest, record { starts = (after, final, s.starts); still_open = s.still_open })
  | inr pending ↦ ([], bs, record { starts = refl; still_open = pending })
]

final_of : (order : ByteOrder) (bs : List ℕ) (ps : List Part) → ArePartsOfUtf16 order bs ps → HasFinal order bs
final_of order bs [] e = ([], [], record { starts = e; still_open = pending_nil order })
final_of order bs (p ∷ ps) (after, f, s) = final_more order bs p after f (final_of order after ps s)

pub has_final : (order : ByteOrder) (bs : List ℕ) → AreBytes bs → HasFinal order bs
has_final order bs bytes = let all = has_parts order bs bytes in final_of order bs all.0 all.1
