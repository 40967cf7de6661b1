-- The bytes of one more code unit.
use Rattle.std.proofs.Common.{◌≡◌, ℕ, zero, suc, ◌+◌, ◌*◌, ◌<◌, ◌≤◌, Bool, true, false, ◌/◌, ◌%◌, inl, inr, List, [], ◌∷◌, ◌++◌, length}
use Rattle.std.proofs.Common.{take, drop, get_or, set, slice_index, refl, sym, ap, ◌∙◌, arith, append_assoc, subst, encode_utf8}
use Rattle.std.specs.Str.{IsAscii, all_scalars}
use Rattle.std.proofs.lemmas.Bool.{cases_lt}
use Rattle.std.proofs.lemmas.List.{get_or-take, get_or-drop, get_or_past, length-drop, length-take, take_more}
use Rattle.std.proofs.lemmas.Nat.{le_bytes_2, be_bytes_2}
use Rattle.encoding_definitions.specs.Prefixes.{WritesPrefix}
use Rattle.encoding_definitions.proofs.PrefixesLemmas.{WritesPrefix_push, WritesPrefix_push_two, WritesPrefix-same, flat_map_push}
use Rattle.encoding_text.specs.declared.utf_16.ByteOrder.{ByteOrder}
use Rattle.encoding_text.specs.declared.utf_16.ByteOrder.TheVariants.{LittleEndian, BigEndian}
use Rattle.encoding_kernels.specs.Scans.{BelowUpTo}
use Rattle.encoding_kernels.proofs.UnitBytesLemmas.{length-units_of, unit_at_is, units_of-drop}
use Rattle.encoding_kernels.specs.Utf8Output.{IsCharacterAt, WritesScalars}
use Rattle.encoding_definitions.specs.Utf16.{AreCodeUnits}
use Rattle.std.specs.Char.{IsScalar}
use Rattle.std.specs.Char.Escape.{encode_utf16}
use Rattle.std.specs.List.{flat_map}
use Rattle.std.proofs.str.Utf16.{one_unit}
use Rattle.encoding_definitions.proofs.Utf16Lemmas.{halves}
use Rattle.encoding_kernels.proofs.UpToSurrogateLemmas.{written_within}
use Rattle.encoding_kernels.specs.UnitBytes.{unit_of, units_of}
use Rattle.encoding_text.specs.Utf16Bytes.{unit_bytes, utf16_bytes}

-- the first n code units are written, and they are those of the first 2 n bytes
abbrev pub DecodesUnits : ByteOrder → List ℕ → List ℕ → List ℕ → ℕ → Type 0
DecodesUnits order src old new n = (units : List ℕ) × (utf16_bytes order units ≡ take (2 * n) src) × WritesPrefix old new n units

two_more : (src : List ℕ) (n : ℕ) → n + 1 < length src → take (n + 2) src ≡ take n src ++ (slice_index src n ∷ slice_index src (n + 1) ∷ [])
two_more src n l =
    ap (λ k. take k src) (let e : n + 2 ≡ (n + 1) + 1 = omega arith in e) ∙ take_more src (n + 1) 0 l
    ∙ ap (λ xs. xs ++ slice_index src (n + 1) ∷ []) (take_more src n 0 (omega arith))
    ∙ append_assoc (take n src) (slice_index src n ∷ []) (slice_index src (n + 1) ∷ [])

pub decodes_one_more : (order : ByteOrder) (src old new : List ℕ) (n unit : ℕ)
    → unit_bytes order unit ≡ slice_index src (2 * n) ∷ slice_index src (2 * n + 1) ∷ []
    → 2 * n + 1 < length src → n < length new → DecodesUnits order src old new n → DecodesUnits order src old (set new n unit) (n + 1)
decodes_one_more order src old new n unit e l m (units, spelled, writes) =
    let twice : 2 * (n + 1) ≡ 2 * n + 2 = omega arith in (
      units ++ unit ∷ [],
      flat_map_push (unit_bytes order) units unit ∙ ap (λ xs. utf16_bytes order units ++ xs) e
          ∙ ap (λ xs. xs ++ (slice_index src (2 * n) ∷ slice_index src (2 * n + 1) ∷ [])) spelled
          ∙ sym (two_more src (2 * n) l) ∙ ap (λ k. take k src) (sym twice),
      WritesPrefix_push old new n units unit writes m,
    )

both_bytes : (order : ByteOrder) (unit : ℕ) → slice_index (unit_bytes order unit) 0 ∷ slice_index (unit_bytes order unit) 1 ∷ [] ≡ unit_bytes order unit
both_bytes LittleEndian unit = refl
both_bytes BigEndian unit = refl

pub encodes_one_more : (order : ByteOrder) (src old new bytes : List ℕ) (n : ℕ) → bytes ≡ unit_bytes order (slice_index src n)
    → n < length src → 2 * n + 1 < length new → WritesPrefix old new (2 * n) (utf16_bytes order (take n src))
    → WritesPrefix old (set (set new (2 * n) (slice_index bytes 0)) (2 * n + 1) (slice_index bytes 1)) (2 * (n + 1)) (utf16_bytes order (take (n + 1) src))
encodes_one_more order src old new bytes n e l m writes =
    let pair : slice_index bytes 0 ∷ slice_index bytes 1 ∷ [] ≡ unit_bytes order (slice_index src n) = rw e (both_bytes order (slice_index src n)) in
    let pushed = WritesPrefix_push_two old new (2 * n) _ (slice_index bytes 0) (slice_index bytes 1) writes m in
    WritesPrefix-same _ _ _ _ _ _ pushed (omega arith)
    (ap (λ xs. utf16_bytes order (take n src) ++ xs) pair ∙ sym (flat_map_push (unit_bytes order) (take n src) (slice_index src n))
    ∙ ap (utf16_bytes order) (sym (take_more src n 0 l)))

-- ---- code units of bytes: a kernel takes whether the more significant byte comes first
abbrev pub is_big : ByteOrder → Bool
is_big LittleEndian = false
is_big BigEndian = true

two_bytes : (order : ByteOrder) (a b : ℕ) → a < 256 → b < 256 → unit_bytes order (unit_of (is_big order) a b) ≡ a ∷ b ∷ []
two_bytes order a b h k = at order bounds
  where
    bounds : (i : ℕ) → slice_index (a ∷ b ∷ []) i < 256
    bounds zero = h
    bounds (suc zero) = k
    bounds (suc (suc i)) = omega arith

    at : (order : ByteOrder) → ((i : ℕ) → slice_index (a ∷ b ∷ []) i < 256) → unit_bytes order (unit_of (is_big order) a b) ≡ a ∷ b ∷ []
    at LittleEndian f = le_bytes_2 (a ∷ b ∷ []) (a + 0x100 * b) refl f (omega arith)
    at BigEndian f = be_bytes_2 (a ∷ b ∷ []) (0x100 * a + b) refl f (omega arith)

pub spelled_units : (order : ByteOrder) (bs : List ℕ) (n : ℕ) → 2 * n ≤ length bs → ((k : ℕ) → slice_index bs k < 256)
    → utf16_bytes order (take n (units_of (is_big order) bs)) ≡ take (2 * n) bs
spelled_units order bs zero l fit = refl
spelled_units order [] (suc n) l fit = absurd (omega (arith, l))
spelled_units order (a ∷ []) (suc n) l fit = absurd (omega (arith, l))
spelled_units order (a ∷ b ∷ bs) (suc n) l fit =
    let twice : suc (suc (2 * n)) ≡ 2 * suc n = omega arith in
    let rest = spelled_units order bs n (omega (arith, l)) (λ k. fit (suc (suc k))) in
    (λ i. two_bytes order a b (fit zero) (fit (suc zero)) i ++ rest i) ∙ ap (λ k. take k (a ∷ b ∷ bs)) twice

-- the same if the order is known
spelled_by : (order : ByteOrder) (big : Bool) → is_big order ≡ big → (bs : List ℕ) (n : ℕ) → 2 * n ≤ length bs → ((k : ℕ) → slice_index bs k < 256)
    → utf16_bytes order (take n (units_of big bs)) ≡ take (2 * n) bs
spelled_by order big e bs n l fit = ap (λ b. utf16_bytes order (take n (units_of b bs))) (sym e) ∙ spelled_units order bs n l fit

module _ (order : ByteOrder) (big : Bool) (is : is_big order ≡ big) (src : List ℕ) (fit : (k : ℕ) → slice_index src k < 256) where
  -- the first r code units are ASCII, and copied
  pub copied_ascii : (old sub : List ℕ) (n r : ℕ) → 2 * r ≤ length src → BelowUpTo 0x80 (units_of big src) r
      → WritesPrefix (take n old) sub r (take r (units_of big src))
      → (units : List ℕ) × (utf16_bytes order units ≡ take (2 * r) src) × IsAscii units × WritesPrefix old (sub ++ drop n old) r units
  copied_ascii old sub n r l below w =
      let us = units_of big src in (
        take r us,
        spelled_by order big is src r l fit,
        (λ i. elim (cases_lt i r) [
          | inl p ↦ omega (arith, get_or-take r us i 0 p, below i p)
          | inr p ↦ omega (arith, get_or_past (take r us) i 0 (omega (arith, length-take r us)))
        ]),
        written_within old sub n _ _ w,
      )

-- the next code unit isn't ASCII
pub next_beyond : (order : ByteOrder) (big : Bool) → is_big order ≡ big → (src : List ℕ) (r unit : ℕ) (rest : List ℕ)
    → drop (2 * r) src ≡ unit_bytes order unit ++ rest → (2 * r + 2 ≤ length src → 0x80 ≤ slice_index (units_of big src) r) → 0x80 ≤ unit
next_beyond order big is src r unit rest e stops = at order is e
  where
    here : (bs : List ℕ) → drop (2 * r) src ≡ bs → (k : ℕ) → get_or src (2 * r + k) 0 ≡ get_or bs k 0
    here bs f k = sym (get_or-drop (2 * r) src k 0) ∙ ap (λ xs. get_or xs k 0) f

    first : 2 * r ≡ 2 * r + 0
    first = omega arith

    at : (order : ByteOrder) → is_big order ≡ big → drop (2 * r) src ≡ unit_bytes order unit ++ rest → 0x80 ≤ unit
    at LittleEndian b f =
        let size : 2 * r + 2 ≤ length src = omega (arith, ap length f, length-drop (2 * r) src) in
        let low : get_or src (2 * r) 0 ≡ unit % 256 = ap (λ k. get_or src k 0) first ∙ here _ f 0 in
        let high : get_or src (2 * r + 1) 0 ≡ unit / 256 % 256 = here _ f 1 in
        let is = unit_at_is big src r size ∙ ap (λ x. unit_of x (get_or src (2 * r) 0) (get_or src (2 * r + 1) 0)) (sym b) in
        omega (arith, stops size, is, low, high)
    at BigEndian b f =
        let size : 2 * r + 2 ≤ length src = omega (arith, ap length f, length-drop (2 * r) src) in
        let high : get_or src (2 * r) 0 ≡ unit / 256 % 256 = ap (λ k. get_or src k 0) first ∙ here _ f 0 in
        let low : get_or src (2 * r + 1) 0 ≡ unit % 256 = here _ f 1 in
        let is = unit_at_is big src r size ∙ ap (λ x. unit_of x (get_or src (2 * r) 0) (get_or src (2 * r + 1) 0)) (sym b) in
        omega (arith, stops size, is, low, high)

-- ---- characters
module _ (order : ByteOrder) (big : Bool) (is : is_big order ≡ big) (src : List ℕ) (fit : (k : ℕ) → slice_index src k < 256) where
  -- the first r code units are converted
  pub converted_scalars : {old new : List ℕ} {r written : ℕ} → WritesScalars (units_of big src) old new r written
      → (scalars : List ℕ) × (all_scalars scalars ≡ true) × (utf16_bytes order (flat_map encode_utf16 scalars) ≡ take (2 * r) src)
      × WritesPrefix old new written (flat_map encode_utf8 scalars)
  converted_scalars {old} {new} {r} {written} w = (
    w.scalars,
    w.are_scalars,
    ap (utf16_bytes order) w.taken ∙ spelled_by order big is src r (omega (arith, w.within, length-units_of big src)) fit,
    w.written,
  )

-- the code units of the bytes of code units
units_back : (order : ByteOrder) (us rest : List ℕ) → AreCodeUnits us
    → units_of (is_big order) (utf16_bytes order us ++ rest) ≡ us ++ units_of (is_big order) rest
units_back order [] rest a = refl
units_back LittleEndian (u ∷ us) rest a =
    let small : u < 0x10000 = a zero in
    let same : u % 256 + 0x100 * (u / 256 % 256) ≡ u = omega arith in
    (λ i. same i ∷ units_back LittleEndian us rest (λ k. a (suc k)) i)
units_back BigEndian (u ∷ us) rest a =
    let small : u < 0x10000 = a zero in
    let same : 0x100 * (u / 256 % 256) + u % 256 ≡ u = omega arith in
    (λ i. same i ∷ units_back BigEndian us rest (λ k. a (suc k)) i)

-- a scalar value has one code unit or two
units_of_scalar : (c : ℕ) → IsScalar c → AreCodeUnits (encode_utf16 c)
units_of_scalar c s = elim (cases_lt c 0x10000) [
  | inl l ↦ subst AreCodeUnits (sym (one_unit c l)) (one c l)
  | inr l ↦ let two = halves c l s in
      subst AreCodeUnits (sym two.3) (both two.0 two.1 (omega (arith, two.2.1)) (omega (arith, two.2.3)))
]
  where
    one : (u : ℕ) → u < 0x10000 → AreCodeUnits (u ∷ [])
    one u l zero = l
    one u l (suc k) = omega arith

    both : (u v : ℕ) → u < 0x10000 → v < 0x10000 → AreCodeUnits (u ∷ v ∷ [])
    both u v l m zero = l
    both u v l m (suc zero) = m
    both u v l m (suc (suc k)) = omega arith

-- what stops the code units stops the bytes
pub next_scalar : (order : ByteOrder) (big : Bool) → is_big order ≡ big → (src old : List ℕ) (r written : ℕ)
    → ((scalar : ℕ) → IsCharacterAt (units_of big src) r scalar → length old < written + length (encode_utf8 scalar))
    → (scalar : ℕ) (rest : List ℕ) → IsScalar scalar → drop (2 * r) src ≡ utf16_bytes order (encode_utf16 scalar) ++ rest
    → length old < written + length (encode_utf8 scalar)
next_scalar order big is src old r written stops scalar rest s e =
    let back = subst (λ b. units_of b (utf16_bytes order (encode_utf16 scalar) ++ rest) ≡ encode_utf16 scalar ++ units_of b rest) is
    (units_back order (encode_utf16 scalar) rest (units_of_scalar scalar s)) in
    stops scalar (record { is_scalar = s; rest = units_of big rest; begins = sym (units_of-drop big r src) ∙ ap (units_of big) e ∙ back })
