-- The kind of a malformed sequence, by its first byte and the next byte. Each malformed sequence has exactly one kind.
use Rattle.std.proofs.Common.{◌≡◌, ℕ, ◌+◌, ◌≤◌, ◌<◌, inl, inr, ◌⊎◌, Bool, true, false, List, [], ◌∷◌, ◌++◌, ◌||◌}
use Rattle.std.proofs.Common.{if◌then◌else◌, nat_lt, nat_eq, length, take, drop, slice_index, refl, sym, ap, ◌∙◌, arith, subst}
use Rattle.std.proofs.lemmas.Bool.{cases_eq, cases_lt}
use Rattle.std.proofs.lemmas.List.{length-take, length-drop, drop_more, get_or-take, get_or-drop}
use Rattle.std.proofs.lemmas.Bool.Decides.{nat_tests}
use Rattle.encoding_definitions.specs.Sequence.{IsSequence, IsIncomplete, IsNeverLeading, IsContinuation, IsSecond}
use Rattle.encoding_definitions.proofs.SequenceLemmas.{decide_incomplete, IsIncomplete-prefix, HasOpenShape-IsIncomplete}
use Rattle.encoding_definitions.proofs.SequenceLemmas.{IsSequence-HasShape, begins_by_range, second_goes_on, third_goes_on, HasOpenShape}
use Rattle.encoding_definitions.specs.Parts.{Part, IllFormed, IsFirstPart, StartsWith}
use Rattle.encoding_definitions.proofs.PartsLemmas.{part_bytes}
use Rattle.encoding_text.specs.Decoding.{IsMalformed}
use Rattle.encoding_text.proofs.CallLemmas.{malformed_first}
use Rattle.encoding_text.proofs.OneResultLemmas.{malformed_or_open}
use Rattle.encoding_runs.specs.MalformedSequences.{IsNextMalformed}
use Rattle.encoding_runs.proofs.MalformedLemmas.{next_size, first_size}
use Rattle.encoding_runs.specs.declared.malformed.Malformation.{Malformation}
use Rattle.encoding_runs.specs.Malformations.{IsMalformation, IsDisallowed, IsExcludedBy, overlong_rows, surrogate_rows, too_large_rows}
use Rattle.encoding_runs.specs.declared.malformed.Malformation.TheVariants.{UnexpectedContinuation, DisallowedByte, Overlong}
use Rattle.encoding_runs.specs.declared.malformed.Malformation.TheVariants.{Surrogate, TooLarge, Truncated, IncompleteAtEnd}

-- ---- by the first byte
-- a byte that starts no incomplete sequence is malformed by itself
single : (a : ℕ) (more rest : List ℕ) (last : Bool) → IsMalformed (a ∷ more) rest last → (IsIncomplete (a ∷ []) → ⊥) → (a ∷ more ≡ a ∷ []) × IsNeverLeading a
single a more [] last (inl (b, e, n)) none = let same : a ≡ b = cc in (e ∙ ap (λ y. y ∷ []) (sym same), subst IsNeverLeading (sym same) n)
single a more (y ∷ ys) last (inl (b, e, n)) none = let same : a ≡ b = cc in (e ∙ ap (λ y. y ∷ []) (sym same), subst IsNeverLeading (sym same) n)
single a more [] last (inr (o, s)) none = absurd (none (IsIncomplete-prefix (a ∷ []) more (omega arith) o))
single a more (y ∷ ys) last (inr (o, s)) none = absurd (none (IsIncomplete-prefix (a ∷ []) more (omega arith) o))

-- any other is the first of an incomplete sequence
several : (a : ℕ) (more rest : List ℕ) (last : Bool) → IsMalformed (a ∷ more) rest last → IsIncomplete (a ∷ []) → IsIncomplete (a ∷ more)
several a more [] last (inl (b, e, n)) o = let same : a ≡ b = cc in absurd (n (inr (subst (λ y. IsIncomplete (y ∷ [])) same o)))
several a more (y ∷ ys) last (inl (b, e, n)) o = let same : a ≡ b = cc in absurd (n (inr (subst (λ y. IsIncomplete (y ∷ [])) same o)))
several a more [] last (inr (o, s)) _ = o
several a more (y ∷ ys) last (inr (o, s)) _ = o

pub is_unexpected : (a : ℕ) (more rest : List ℕ) (last : Bool) → IsContinuation a → IsMalformed (a ∷ more) rest last
    → IsMalformation (a ∷ more) rest UnexpectedContinuation
is_unexpected a more rest last c m = (a, (single a more rest last m (λ o. let r = (begins_by_range a).0 o in omega (arith, r.0, c.1))).0, c)

pub is_disallowed : (a : ℕ) (more rest : List ℕ) (last : Bool) → (IsContinuation a → ⊥) → (IsIncomplete (a ∷ []) → ⊥) → IsMalformed (a ∷ more) rest last
    → IsMalformation (a ∷ more) rest DisallowedByte
is_disallowed a more rest last no_continuation none m = let one = single a more rest last m none in (a, one.0, range one.1)
  where
    range : IsNeverLeading a → IsDisallowed a
    range n = elim (cases_lt a 0x80) [
      | inl l ↦ absurd (n (inl (IsSequence-HasShape (a ∷ []) (omega arith))))
      | inr l ↦ elim (cases_lt a 0xC0) [
        | inl k ↦ absurd (no_continuation (l, omega arith))
        | inr k ↦ elim (cases_lt a 0xC2) [
          | inl h ↦ inl (k, omega arith)
          | inr h ↦ elim (cases_lt a 0xF5) [
            | inl g ↦ absurd (none ((begins_by_range a).1 (h, omega arith)))
            | inr g ↦ inr g
          ]
        ]
      ]
    ]

-- ---- by the next byte
pub is_at_end : (a : ℕ) (more rest : List ℕ) (last : Bool) → IsIncomplete (a ∷ []) → rest ≡ [] → IsMalformed (a ∷ more) rest last
    → IsMalformation (a ∷ more) rest IncompleteAtEnd
is_at_end a more rest last o e m = (several a more rest last m o, e)

pub is_truncated : (a : ℕ) (more rest : List ℕ) (last : Bool) → IsIncomplete (a ∷ []) → 0 < length rest → (IsContinuation (slice_index rest 0) → ⊥)
    → IsMalformed (a ∷ more) rest last
    → IsMalformation (a ∷ more) rest Truncated
is_truncated a more [] last o some none m = absurd (omega (arith, some))
is_truncated a more (y ∷ ys) last o some none m = (several a more (y ∷ ys) last m o, y, ys, refl, none)

-- a continuation byte continues all incomplete sequences but some of one byte
continues : (a : ℕ) (more : List ℕ) (y : ℕ) → IsIncomplete (a ∷ more) → IsContinuation y
    → ((IsSequence ((a ∷ more) ++ y ∷ []) ⊎ IsIncomplete ((a ∷ more) ++ y ∷ [])) → ⊥)
    → (more ≡ []) × (IsSecond a y → ⊥)
continues a [] y o c none = (refl, λ s. none (second_goes_on a y s))
continues a (b ∷ []) y o c none = absurd (none (third_goes_on a b y (HasOpenShape-IsIncomplete (a ∷ b ∷ []) o) c))
continues a (b ∷ d ∷ []) y o c none =
    let h : HasOpenShape (a ∷ b ∷ d ∷ []) = HasOpenShape-IsIncomplete (a ∷ b ∷ d ∷ []) o in
    absurd (none (inl (IsSequence-HasShape (a ∷ b ∷ d ∷ y ∷ []) (h.0, h.1, h.2, h.3, c))))
continues a (b ∷ d ∷ e ∷ more) y o c none = absurd (HasOpenShape-IsIncomplete (a ∷ b ∷ d ∷ e ∷ more) o)

-- so the second byte is one that the table leaves out
record IsLeftOut (a y : ℕ) : Type 0 where
  pub least : 0xC2 ≤ a
  pub greatest : a ≤ 0xF4
  pub continuation : IsContinuation y
  pub not_second : IsSecond a y → ⊥

left_out : (a : ℕ) (more : List ℕ) (y : ℕ) (ys : List ℕ) (last : Bool) → IsIncomplete (a ∷ []) → IsContinuation y
    → IsMalformed (a ∷ more) (y ∷ ys) last → (more ≡ []) × IsLeftOut a y
left_out a more y ys last o c (inl (b, e, n)) = let same : a ≡ b = cc in absurd (n (inr (subst (λ z. IsIncomplete (z ∷ [])) same o)))
left_out a more y ys last o c (inr (incomplete, none)) =
    let one = continues a more y incomplete c none in
    let range = (begins_by_range a).0 o in
    (one.0, record { least = range.0; greatest = range.1; continuation = c; not_second = one.1 })

is_surrogate_second : (a y : ℕ) → a ≡ 0xED → IsLeftOut a y → 0xA0 ≤ y
is_surrogate_second a y e l = elim (cases_lt y 0xA0) [
  | inl k ↦ absurd (l.not_second (subst (λ z. IsSecond z y) (sym e) (omega arith, omega arith, l.continuation.0, omega arith)))
  | inr k ↦ k
]

is_too_large_second : (a y : ℕ) → a ≡ 0xF4 → IsLeftOut a y → 0x90 ≤ y
is_too_large_second a y e l = elim (cases_lt y 0x90) [
  | inl k ↦ absurd (l.not_second (subst (λ z. IsSecond z y) (sym e) (omega arith, omega arith, l.continuation.0, omega arith)))
  | inr k ↦ k
]

is_overlong_second : (a y : ℕ) → (a ≡ 0xED → ⊥) → (a ≡ 0xF4 → ⊥) → IsLeftOut a y → ((a ≡ 0xE0) × (y ≤ 0x9F)) ⊎ ((a ≡ 0xF0) × (y ≤ 0x8F))
is_overlong_second a y n m l = elim (cases_eq a 0xE0) [
  | inl e ↦ inl (
    e,
    elim (cases_lt y 0xA0) [
      | inl k ↦ omega arith
      | inr k ↦ absurd (l.not_second (subst (λ z. IsSecond z y) (sym e) (omega arith, omega arith, k, l.continuation.1)))
    ],
  )
  | inr e ↦ elim (cases_eq a 0xF0) [
    | inl f ↦ inr (
      f,
      elim (cases_lt y 0x90) [
        | inl k ↦ omega arith
        | inr k ↦ absurd (l.not_second (subst (λ z. IsSecond z y) (sym f) (omega arith, omega arith, k, l.continuation.1)))
      ],
    )
    | inr f ↦ let c = l.continuation in absurd (l.not_second (l.least, l.greatest, grind (arith, nat_tests), grind (arith, nat_tests)))
  ]
]

in_overlong : (a y : ℕ) (ys : List ℕ) → 0x80 ≤ y → ((a ≡ 0xE0) × (y ≤ 0x9F)) ⊎ ((a ≡ 0xF0) × (y ≤ 0x8F)) → IsExcludedBy overlong_rows (a ∷ []) (y ∷ ys)
in_overlong a y ys l (inl (e, h)) = (a, y, ys, refl, refl, grind (arith, nat_tests))
in_overlong a y ys l (inr (e, h)) = (a, y, ys, refl, refl, grind (arith, nat_tests))

in_surrogate : (a y : ℕ) (ys : List ℕ) → a ≡ 0xED → 0xA0 ≤ y → y ≤ 0xBF → IsExcludedBy surrogate_rows (a ∷ []) (y ∷ ys)
in_surrogate a y ys e l h = (a, y, ys, refl, refl, grind (arith, nat_tests))

in_too_large : (a y : ℕ) (ys : List ℕ) → a ≡ 0xF4 → 0x90 ≤ y → y ≤ 0xBF → IsExcludedBy too_large_rows (a ∷ []) (y ∷ ys)
in_too_large a y ys e l h = (a, y, ys, refl, refl, grind (arith, nat_tests))

-- the kind of a sequence of several bytes before a continuation byte, which leaves it with its first byte
pub is_excluded : (a : ℕ) (more rest : List ℕ) (last : Bool) → IsIncomplete (a ∷ []) → 0 < length rest → IsContinuation (slice_index rest 0)
    → IsMalformed (a ∷ more) rest last
    → (a ≡ 0xED → IsMalformation (a ∷ more) rest Surrogate) × (a ≡ 0xF4 → IsMalformation (a ∷ more) rest TooLarge)
    × ((a ≡ 0xED → ⊥) → (a ≡ 0xF4 → ⊥) → IsMalformation (a ∷ more) rest Overlong)
is_excluded a more [] last o some c m = absurd (omega (arith, some))
is_excluded a more (y ∷ ys) last o some c m =
    let (none, l) = left_out a more y ys last o c m in
    let at = λ (rows : List (List (ℕ × ℕ))) (h : IsExcludedBy rows (a ∷ []) (y ∷ ys)). subst (λ zs. IsExcludedBy rows (a ∷ zs) (y ∷ ys)) (sym none) h in (
      λ e. at surrogate_rows (in_surrogate a y ys e (is_surrogate_second a y e l) c.1),
      λ e. at too_large_rows (in_too_large a y ys e (is_too_large_second a y e l) c.1),
      λ n k. at overlong_rows (in_overlong a y ys c.0 (is_overlong_second a y n k l)),
    )

-- ---- the next malformed sequence
last_malformed : (bs : List ℕ) (ps : List Part) (x rest : List ℕ) → StartsWith bs (ps ++ IllFormed x ∷ []) rest → IsMalformed x rest true
last_malformed bs [] x rest (after, f, e) =
    let whole = (part_bytes bs (IllFormed x) after f).0 in
    let first = subst (λ zs. IsFirstPart (x ++ zs) (IllFormed x) zs) e (subst (λ zs. IsFirstPart zs (IllFormed x) after) whole f) in
    elim (malformed_or_open x rest true first) [
      | inl m ↦ m
      | inr (none, o, differ) ↦ absurd (let e : true ≡ false = differ in cc)
    ]
last_malformed bs (p ∷ ps) x rest (after, f, s) = last_malformed after ps x rest s

pub next_first : (bs : List ℕ) (place size : ℕ) → IsNextMalformed bs place size
    → IsFirstPart (take size (drop place bs) ++ drop (place + size) bs) (IllFormed (take size (drop place bs))) (drop (place + size) bs)
next_first bs place size next = malformed_first _ _ true (last_malformed bs _ _ _ next.first)

-- its first byte and the bytes after it determine its kind
pub next_kind : (bs : List ℕ) (place size : ℕ) (kind : Malformation) → IsNextMalformed bs place size
    → ((more : List ℕ) (last : Bool) → IsMalformed (slice_index bs place ∷ more) (drop (place + size) bs) last
    → IsMalformation (slice_index bs place ∷ more) (drop (place + size) bs) kind)
    → IsMalformation (take size (drop place bs)) (drop (place + size) bs) kind
next_kind bs place size kind next is =
    subst (λ zs. IsMalformation zs rest kind) (sym whole)
    (is (drop 1 x) true (subst (λ zs. IsMalformed zs rest true) whole (last_malformed bs _ x rest next.first)))
  where
    x : List ℕ
    x = take size (drop place bs)

    rest : List ℕ
    rest = drop (place + size) bs

    some : 0 < size
    some = (next_size bs place size next).0

    whole : x ≡ slice_index bs place ∷ drop 1 x
    whole = drop_more x 0 0 (omega (arith, some, next.within, length-take size (drop place bs), length-drop place bs))
        ∙ ap (λ y. y ∷ drop 1 x) (get_or-take size (drop place bs) 0 0 some ∙ get_or-drop place bs 0 0 ∙ ap (slice_index bs) (omega arith))

-- ---- each malformed sequence has exactly one kind
has_kind : (a : ℕ) (more rest : List ℕ) (last : Bool) → IsMalformed (a ∷ more) rest last → (kind : Malformation) × IsMalformation (a ∷ more) rest kind
has_kind a more rest last m = elim (decide_incomplete (a ∷ []) (omega arith)) [
  | inl o ↦ several_kind rest o m
  | inr n ↦ elim (cases_lt a 0xC0) [
    | inl l ↦ elim (cases_lt a 0x80) [
      | inl k ↦ absurd ((single a more rest last m n).1 (inl (IsSequence-HasShape (a ∷ []) (omega arith))))
      | inr k ↦ (UnexpectedContinuation, is_unexpected a more rest last (k, omega arith) m)
    ]
    | inr l ↦ (DisallowedByte, is_disallowed a more rest last (λ c. omega (arith, c.1)) n m)
  ]
]
  where
    before : (y : ℕ) (ys : List ℕ) → IsIncomplete (a ∷ []) → IsContinuation y → IsMalformed (a ∷ more) (y ∷ ys) last
        → (kind : Malformation) × IsMalformation (a ∷ more) (y ∷ ys) kind
    before y ys o c m =
        let (surrogate, too_large, overlong) = is_excluded a more (y ∷ ys) last o (omega arith) c m in
        elim (cases_eq a 0xED) [
          | inl e ↦ (Surrogate, surrogate e)
          | inr n ↦ elim (cases_eq a 0xF4) [ inl e ↦ (TooLarge, too_large e) | inr k ↦ (Overlong, overlong n k) ]
        ]

    several_kind : (rest : List ℕ) → IsIncomplete (a ∷ []) → IsMalformed (a ∷ more) rest last → (kind : Malformation) × IsMalformation (a ∷ more) rest kind
    several_kind [] o m = (IncompleteAtEnd, is_at_end a more [] last o refl m)
    several_kind (y ∷ ys) o m = elim (cases_lt y 0x80) [
      | inl l ↦ (Truncated, is_truncated a more (y ∷ ys) last o (omega arith) (λ c. omega (arith, c.0)) m)
      | inr l ↦ elim (cases_lt 0xBF y) [
        | inl k ↦ (Truncated, is_truncated a more (y ∷ ys) last o (omega arith) (λ c. omega (arith, c.1)) m)
        | inr k ↦ before y ys o (l, k) m
      ]
    ]

some_kind : (bs x rest : List ℕ) → IsFirstPart bs (IllFormed x) rest → (kind : Malformation) × IsMalformation x rest kind
some_kind bs [] rest f = absurd (omega (arith, (first_size bs [] rest f).0))
some_kind bs (a ∷ more) rest f = has_kind a more rest true (last_malformed bs [] (a ∷ more) rest (rest, f, refl))

-- the kind by the first byte and the next byte, if there is one
abbrev kind_before : ℕ → List ℕ → Malformation
kind_before a [] = IncompleteAtEnd
kind_before a (y ∷ ys) =
    if nat_lt y 0x80 || nat_lt 0xBF y then Truncated else (if nat_eq a 0xED then Surrogate else (if nat_eq a 0xF4 then TooLarge else Overlong))

abbrev kind_by : ℕ → List ℕ → Malformation
kind_by a rest = if nat_lt a 0xC0 then UnexpectedContinuation else (if nat_lt a 0xC2 || nat_lt 0xF4 a then DisallowedByte else kind_before a rest)

first_range : (x : List ℕ) → IsIncomplete x → (0xC2 ≤ slice_index x 0) × (slice_index x 0 ≤ 0xF4)
first_range [] o = absurd (omega (arith, o.0))
first_range (a ∷ more) o = (begins_by_range a).0 (IsIncomplete-prefix (a ∷ []) more (omega arith) o)

is_kind_by : (x rest : List ℕ) (kind : Malformation) → IsMalformation x rest kind → kind ≡ kind_by (slice_index x 0) rest
is_kind_by x rest UnexpectedContinuation (b, e, c) = rw e (grind (arith, nat_tests))
is_kind_by x rest DisallowedByte (b, e, d) = rw e (grind (arith, nat_tests))
is_kind_by x rest Overlong (a, b, more, e, f, t) = rw (e, f) (grind (arith, nat_tests))
is_kind_by x rest Surrogate (a, b, more, e, f, t) = rw (e, f) (grind (arith, nat_tests))
is_kind_by x rest TooLarge (a, b, more, e, f, t) = rw (e, f) (grind (arith, nat_tests))
is_kind_by x rest Truncated (o, b, more, f, n) = let r = first_range x o in rw f (grind (arith, nat_tests))
is_kind_by x rest IncompleteAtEnd (o, f) = let r = first_range x o in rw f (grind (arith, nat_tests))

pub one_kind : (bs x rest : List ℕ) → IsFirstPart bs (IllFormed x) rest
    → (kind : Malformation) × IsMalformation x rest kind × ((other : Malformation) → IsMalformation x rest other → other ≡ kind)
one_kind bs x rest f = let (kind, is) = some_kind bs x rest f in (kind, is, λ other are. is_kind_by x rest other are ∙ sym (is_kind_by x rest kind is))
