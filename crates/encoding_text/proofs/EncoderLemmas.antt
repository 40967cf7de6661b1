-- One call of the encoder: what is to be written, and a call that starts with the pending surrogate.
use Rattle.std.proofs.Common.{◌≡◌, ℕ, suc, ◌+◌, ◌-◌, ◌*◌, ◌<◌, ◌≤◌, ◌⊎◌, inl, inr, Bool, true, false, List, [], ◌∷◌, ◌++◌}
use Rattle.std.proofs.Common.{length, take, drop, get_or, encode_utf8, refl, sym, ap, ◌∙◌, arith, subst, append_assoc}
use Rattle.std.specs.Char.{len_utf8}
use Rattle.std.specs.Char.Escape.{encode_utf16}
use Rattle.std.specs.List.{flat_map}
use Rattle.std.specs.Prelude.{◌==◌}
use Rattle.std.proofs.lemmas.Bool.{cases_lt}
use Rattle.std.proofs.lemmas.Bool.Decides.{nat_tests}
use Rattle.std.proofs.lemmas.Str.{length-encode}
use Rattle.std.proofs.lemmas.List.{length-append, length-drop, length-take-le, take-append-drop, drop_all, drop_more, get_or-drop, length_push, take_rest}
use borrow.Rule.Slice.PartMut.{put_mid}
use Rattle.std.proofs.str.Utf16.{one_unit}
use Rattle.encoding_definitions.specs.Prefixes.{WritesPrefix}
use Rattle.encoding_definitions.specs.Utf16.{AreCodeUnits, Part16, Character16, Unpaired, units_of_part16}
use Rattle.encoding_definitions.specs.Utf16.{utf8_of_part16, ArePartsOf16, IsHighSurrogate, IsUtf8OfLongestPrefix}
use Rattle.encoding_definitions.specs.FirstScalar.{BeginsLow, IsFirstPart16, IsFirstScalar}
use Rattle.encoding_text.specs.Encoding.{IsPendingSurrogate, EndsHigh, AreEncodable, IsEncodeResult, EncodeStep}
use Rattle.encoding_text.specs.declared.utf_8.encoder.EncoderResult.{EncoderResult}
use Rattle.encoding_text.specs.declared.utf_8.encoder.EncoderResult.TheVariants.{InputEmpty, OutputFull}
use Rattle.encoding_definitions.proofs.PrefixesLemmas.{IsLongestFittingPrefix-stop, WritesPrefix_after, WritesPrefix-length}
use Rattle.encoding_definitions.proofs.PrefixesLemmas.{IsLongestFittingPrefix-cons, written_is, written_prefix}
use Rattle.encoding_definitions.proofs.Utf16Lemmas.{parts_of, parts_exist, ArePartsOf16-cons, halves, length-units_of_part16}
use Rattle.encoding_definitions.proofs.Utf16PrefixLemmas.{all_fit, units_counted}
use Rattle.encoding_kernels.proofs.ScanLemmas.{Each-take}
use Rattle.encoding_kernels.proofs.PairsLemmas.{high_decided}

-- ---- which unit stays pending
-- the units from this index on stay pending
pub record LeavesOpen (us : List ℕ) (last : Bool) (n : ℕ) : Type 0 where
  pub within : n ≤ length us
  pub surrogate : IsPendingSurrogate (drop n us)
  pub last_opens_none : last ≡ true → n ≡ length us
  pub waits : last ≡ false → EndsHigh us → n + 1 ≡ length us

at_end : (prefix : List ℕ) (u : ℕ) → get_or (prefix ++ u ∷ []) (length prefix) 0 ≡ u
at_end [] u = refl
at_end (x ∷ prefix) u = at_end prefix u

last_of_push : (prefix : List ℕ) (u : ℕ) → get_or (prefix ++ u ∷ []) (length (prefix ++ u ∷ []) - 1) 0 ≡ u
last_of_push prefix u = ap (λ n. get_or (prefix ++ u ∷ []) n 0) {x = length (prefix ++ u ∷ []) - 1} {y = length prefix} (omega (arith, length_push prefix u))
    ∙ at_end prefix u

pub ends_high_last : (us : List ℕ) → EndsHigh us → (0 < length us) × IsHighSurrogate (get_or us (length us - 1) 0)
ends_high_last us h = (
  omega (arith, ap length h.2, length_push h.0 h.1),
  subst IsHighSurrogate
      (sym (ap (λ xs. get_or xs (length xs - 1) 0) h.2 ∙ last_of_push h.0 h.1)) h.3,
)

all_due : (us : List ℕ) (last : Bool) → (last ≡ false → EndsHigh us → ⊥) → LeavesOpen us last (length us)
all_due us last n = record {
  within = omega arith;
  surrogate = subst IsPendingSurrogate (sym (drop_all (length us) us (omega arith))) tt;
  last_opens_none = λ e. refl;
  waits = λ e h. absurd (n e h);
}

pub leaves_open : (us : List ℕ) (last : Bool) → (n : ℕ) × LeavesOpen us last n
leaves_open us true = (length us, all_due us true (λ e. absurd (cc (e))))
leaves_open [] false = (0, all_due [] false (λ e h. omega (arith, (ends_high_last [] h).0)))
leaves_open (u ∷ us) false = elim (high_decided (get_or (u ∷ us) (length us) 0)) [
  | inl h ↦ (
    length us,
    record {
      within = omega arith;
      surrogate = subst IsPendingSurrogate
          (sym (drop_more (u ∷ us) (length us) 0 (omega arith)
          ∙ ap (λ xs. get_or (u ∷ us) (length us) 0 ∷ xs) (drop_all (length us + 1) (u ∷ us) (omega arith)))) h;
      last_opens_none = λ e. absurd (cc (e));
      waits = λ e k. omega arith;
    },
  )
  | inr n ↦ (
    length (u ∷ us),
    all_due (u ∷ us) false
        (λ e h. n (subst (λ k. IsHighSurrogate (get_or (u ∷ us) k 0)) {x = length (u ∷ us) - 1} {y = length us} (omega arith) (ends_high_last (u ∷ us) h).1)),
  )
]

pub AreCodeUnits-prefix : (us : List ℕ) (n : ℕ) → AreCodeUnits us → AreCodeUnits (take n us)
AreCodeUnits-prefix us n a = Each-take (λ u. u < 0x10000) (omega arith) us n (λ k _. a k)

pub AreCodeUnits-following : (us : List ℕ) (n : ℕ) → AreCodeUnits us → AreCodeUnits (drop n us)
AreCodeUnits-following us n a k = omega (arith, get_or-drop n us k 0, a (n + k))

-- the parts before that index are to be written
open_due : (us : List ℕ) (last : Bool) (n : ℕ) (due : List Part16) → LeavesOpen us last n → ArePartsOf16 (take n us) due → AreEncodable us last due (drop n us)
open_due us last n due l a = record {
  prefix = take n us;
  whole = sym (take-append-drop n us);
  parts = a;
  surrogate = l.surrogate;
  last_opens_none = λ e. drop_all n us (omega (arith, l.last_opens_none e));
  waits = λ e h. omega (arith, l.waits e h, length-drop n us);
}

-- ---- nothing pending
module _ (src : List ℕ) (room : ℕ) (last : Bool) (n read : ℕ) (out : List ℕ) (l : LeavesOpen src last n)
    (f : IsUtf8OfLongestPrefix (take n src) room read out) where
  pub fresh_full : read < n → EncodeStep [] src room last OutputFull read out []
  fresh_full h = record {
    surrogate_before = tt;
    surrogate_after = tt;
    due = f.parts;
    left_open = drop n src;
    taken = read;
    are_encodable = open_due src last n f.parts l f.are_parts;
    longest = f.longest;
    answer = (omega (arith, h, ap length f.are_parts.1, length-take-le n src l.within), (λ e. (e, refl)), (λ p. (omega arith, refl)));
  }

-- ---- a pending surrogate
first_units : (us : List ℕ) (p : Part16) (rest : List ℕ) → IsFirstPart16 us p rest → us ≡ units_of_part16 p ++ rest
first_units us (Character16 c) rest h = h.1
first_units us (Unpaired u) rest h = h.1

begins_low_append : (xs ys : List ℕ) → BeginsLow xs → BeginsLow (xs ++ ys)
begins_low_append [] ys b = absurd b
begins_low_append (x ∷ xs) ys b = b

-- the part is also the first of fewer units
first_of_fewer : (us : List ℕ) (p : Part16) (rest prefix more : List ℕ) → IsFirstPart16 us p rest → rest ≡ prefix ++ more
    → IsFirstPart16 (units_of_part16 p ++ prefix) p prefix
first_of_fewer us (Character16 c) rest prefix more h e = (h.0, refl)
first_of_fewer us (Unpaired u) rest prefix more h e = (h.0, refl, (λ k b. h.2 k (subst BeginsLow (sym e) (begins_low_append prefix more b))))

AreEncodable-cons : (us : List ℕ) (p : Part16) (rest : List ℕ) (last : Bool) (due : List Part16) (left_open : List ℕ) → IsFirstPart16 us p rest
    → AreEncodable rest last due left_open
    → (last ≡ false → EndsHigh us → EndsHigh rest) → AreEncodable us last (p ∷ due) left_open
AreEncodable-cons us p rest last due left_open f d n = record {
  prefix = units_of_part16 p ++ d.prefix;
  whole = first_units us p rest f ∙ ap (λ xs. units_of_part16 p ++ xs) d.whole ∙ sym (append_assoc (units_of_part16 p) d.prefix left_open);
  parts = ArePartsOf16-cons (units_of_part16 p ++ d.prefix) p d.prefix due (first_of_fewer us p rest d.prefix left_open f d.whole) d.parts;
  surrogate = d.surrogate;
  last_opens_none = d.last_opens_none;
  waits = λ e h. d.waits e (n e h);
}

-- the units after the first end with a high surrogate if all do
ends_high_tail : (a b : ℕ) (xs : List ℕ) → EndsHigh (a ∷ b ∷ xs) → EndsHigh (b ∷ xs)
ends_high_tail a b xs ([], u, e, h) = absurd (omega (arith, ap length e))
ends_high_tail a b xs (x ∷ prefix, u, e, h) = (prefix, u, ap (drop 1) e, h)

after_one : (u : ℕ) (rest : List ℕ) → 0 < length rest → EndsHigh (u ∷ rest) → EndsHigh rest
after_one u [] l h = absurd (omega arith)
after_one u (v ∷ rest) l h = ends_high_tail u v rest h

after_pair : (u v : ℕ) (rest : List ℕ) → 0xDC00 ≤ v → EndsHigh (u ∷ v ∷ rest) → EndsHigh rest
after_pair u v [] l h = let high = (ends_high_last (v ∷ []) (ends_high_tail u v [] h)).1 in absurd (omega arith)
after_pair u v (x ∷ rest) l h = ends_high_tail v x rest (ends_high_tail u v (x ∷ rest) h)

ends_after : (us : List ℕ) (p : Part16) (rest : List ℕ) → IsFirstPart16 us p rest → (length (units_of_part16 p) ≡ 1 → 0 < length rest)
    → EndsHigh us → EndsHigh rest
ends_after us (Unpaired u) rest f n h = after_one u rest (n refl) (subst EndsHigh f.1 h)
ends_after us (Character16 c) rest f n h = elim (cases_lt c 0x10000) [
  | inl l ↦ after_one c rest (n (ap length (one_unit c l))) (subst EndsHigh (f.1 ∙ ap (λ xs. xs ++ rest) (one_unit c l)) h)
  | inr l ↦ let two = halves c l f.0 in
      after_pair two.0 two.1 rest two.2.2 (subst EndsHigh (f.1 ∙ ap (λ xs. xs ++ rest) two.3) h)
]

-- the first part of the pending surrogate and the source
pub pending_first : (u : ℕ) (src : List ℕ) (scalar t : ℕ) (f : IsFirstScalar (u ∷ src) scalar) → t + 1 ≡ length (encode_utf16 scalar)
    → IsFirstPart16 (u ∷ src) f.part (drop t src)
pending_first u src scalar t f e =
    let following : drop (length (encode_utf16 scalar)) (u ∷ src) ≡ drop t src =
    ap (λ n. drop n (u ∷ src)) {x = length (encode_utf16 scalar)} {y = suc t} (omega arith) in
    subst (IsFirstPart16 (u ∷ src) f.part) following f.first

module _ (u : ℕ) (src : List ℕ) (room : ℕ) (last : Bool) (p : Part16) (t : ℕ) (f : IsFirstPart16 (u ∷ src) p (drop t src))
    (e : t + 1 ≡ length (units_of_part16 p)) (n : last ≡ false → 0 < length src) (high : IsHighSurrogate u) where
  due_after : last ≡ false → EndsHigh (u ∷ src) → EndsHigh (drop t src)
  due_after x = ends_after (u ∷ src) p (drop t src) f (λ one. omega (arith, n x, length-drop t src))

  -- its first part doesn't fit
  pub pending_full : AreCodeUnits src → room < length (utf8_of_part16 p) → EncodeStep (u ∷ []) src room last OutputFull 0 [] (u ∷ [])
  pending_full a l =
      let open_at = leaves_open (drop t src) last in
      let rest : AreEncodable (drop t src) last (parts_of (take open_at.0 (drop t src))) (drop open_at.0 (drop t src)) =
      open_due (drop t src) last open_at.0 _ open_at.1 (parts_exist _ (AreCodeUnits-prefix (drop t src) open_at.0 (AreCodeUnits-following src t a))) in
      record {
        surrogate_before = high;
        surrogate_after = high;
        due = p ∷ parts_of (take open_at.0 (drop t src));
        left_open = drop open_at.0 (drop t src);
        taken = 0;
        are_encodable = AreEncodable-cons (u ∷ src) p (drop t src) last _ _ f rest due_after;
        longest = IsLongestFittingPrefix-stop units_of_part16 utf8_of_part16 [] p (parts_of (take open_at.0 (drop t src))) room
            (omega arith) (omega (arith, l));
        answer = (
          omega (
            arith,
            length-units_of_part16 p,
            length-append (units_of_part16 p)
                (flat_map units_of_part16 (parts_of (take open_at.0 (drop t src)))),
          ),
          (λ x. (refl, refl)),
          (λ x. absurd (omega arith)),
        );
      }

  within : t ≤ length src
  within = omega (arith, ap length (first_units (u ∷ src) p (drop t src) f), length-append (units_of_part16 p) (drop t src))

  answers_after : (due : List Part16) (left_open : List ℕ) (taken : ℕ) (r : EncoderResult) (read : ℕ) (after : List ℕ)
      → IsEncodeResult [] (drop t src) due left_open taken r read after
      → IsEncodeResult (u ∷ []) src (p ∷ due) left_open (length (units_of_part16 p) + taken) r (t + read) after
  answers_after due left_open taken InputEmpty read after (x, y, z) = (
    omega (
      arith,
      x,
      length-append (units_of_part16 p)
          (flat_map units_of_part16 due),
    ),
    omega (arith, y, length-drop t src, within),
    z,
  )
  answers_after due left_open taken OutputFull read after (x, y, z) = (
    omega (arith, x, length-append (units_of_part16 p) (flat_map units_of_part16 due)),
    (λ k. absurd (omega (arith, k, length-units_of_part16 p))),
    (λ k. elim (cases_lt 0 taken) [
      | inl l ↦ (omega (arith, (z l).0), (z l).1)
      | inr l ↦ let none : taken ≡ 0 = omega arith in
          (omega (arith, (y none).0), (y none).1)
    ]),
  )

  -- its first part is written, and then comes a call with nothing pending
  pub pending_then : (r : EncoderResult) (read : ℕ) (out after : List ℕ) → length (utf8_of_part16 p) ≤ room
      → EncodeStep [] (drop t src) (room - length (utf8_of_part16 p)) last r read out after
      → EncodeStep (u ∷ []) src room last r (t + read) (utf8_of_part16 p ++ out) after
  pending_then r read out after l c = record {
    surrogate_before = high;
    surrogate_after = c.surrogate_after;
    due = p ∷ c.due;
    left_open = c.left_open;
    taken = length (units_of_part16 p) + c.taken;
    are_encodable = AreEncodable-cons (u ∷ src) p (drop t src) last c.due c.left_open f c.are_encodable due_after;
    longest = IsLongestFittingPrefix-cons units_of_part16 utf8_of_part16 p c.due room c.taken out l c.longest;
    answer = answers_after c.due c.left_open c.taken r read after c.answer;
  }

-- ---- space for all
pub enough_room : (surrogate src : List ℕ) (room : ℕ) (last : Bool) (r : EncoderResult) (read : ℕ) (out after : List ℕ)
    → 3 * (length src + length surrogate) ≤ room
    → EncodeStep surrogate src room last r read out after → r ≡ InputEmpty
enough_room surrogate src room last InputEmpty read out after h c = refl
enough_room surrogate src room last OutputFull read out after h c =
    let prefix : length (flat_map units_of_part16 c.due) ≡ length c.are_encodable.prefix = ap length c.are_encodable.parts.1 in
    let whole : length surrogate + length src ≡ length c.are_encodable.prefix + length c.left_open =
    sym (length-append surrogate src) ∙ ap length c.are_encodable.whole ∙ length-append c.are_encodable.prefix c.left_open in
    absurd (omega (arith, (all_fit c.due room c.taken out (omega arith) c.longest).0, c.answer.0))

-- ---- the calls as the encoder makes them, with a pending surrogate
pub none_there : (is_empty : Bool) (n : ℕ) → is_empty ≡ (n == 0) → is_empty ≡ true → n ≡ 0
none_there is_empty n e f = grind (arith, nat_tests)

pub some_there : (is_empty last : Bool) (n : ℕ) → is_empty ≡ (n == 0) → ((is_empty ≡ true) × (last ≡ true)) ⊎ (is_empty ≡ false) → last ≡ false → 0 < n
some_there is_empty last n e (inl h) f = absurd (cc (h.1, f))
some_there is_empty last n e (inr h) f = some_when n (sym e ∙ h)
  where
    some_when : (n : ℕ) → (n == 0) ≡ false → 0 < n
    some_when n e = grind (arith, nat_tests)

module _ (surrogate src : List ℕ) (u room : ℕ) (last : Bool) (e : surrogate ≡ u ∷ []) (high : IsHighSurrogate u) where
  -- the source may be empty, and the first part starts with the pending surrogate
  pub call_full : (scalar t : ℕ) (f : IsFirstScalar (u ∷ src) scalar) → t + 1 ≡ length (encode_utf16 scalar) → (last ≡ false → 0 < length src)
      → AreCodeUnits src → room < len_utf8 scalar
      → EncodeStep surrogate src room last OutputFull 0 [] surrogate
  call_full scalar t f g n a l =
      let long : length (utf8_of_part16 f.part) ≡ len_utf8 scalar = ap (λ c. length (encode_utf8 c)) f.counts ∙ length-encode scalar in
      rw e (pending_full u src room last f.part t (pending_first u src scalar t f g) (g ∙ units_counted (u ∷ src) scalar f) n high a (omega (arith, l, long)))

module _ (surrogate src old mid sub : List ℕ) (u scalar t first read written : ℕ) (last : Bool) (r : EncoderResult) (after : List ℕ) (e : surrogate ≡ u ∷ [])
    (high : IsHighSurrogate u)
    (f : IsFirstScalar (u ∷ src) scalar) (g : t + 1 ≡ length (encode_utf16 scalar)) (n : last ≡ false → 0 < length src)
    (w : WritesPrefix old mid first (encode_utf8 scalar))
    (c : EncodeStep [] (take (length src - t) (drop t src)) (length (take (length mid - first) (drop first mid))) last r read (take written sub) after)
    (v : WritesPrefix (take (length mid - first) (drop first mid)) sub written (take written sub)) where
  first_and_rest : WritesPrefix old (put_mid first (length mid - first) mid sub) (first + written) (encode_utf8 scalar ++ take written sub)
  first_and_rest = WritesPrefix_after old mid first (encode_utf8 scalar) sub written (take written sub) w v

  pub call_then_rest : WritesPrefix old (put_mid first (length mid - first) mid sub) (first + written)
      (take (first + written) (put_mid first (length mid - first) mid sub))
  call_then_rest = written_prefix _ _ _ _ first_and_rest

  pub call_then : EncodeStep surrogate src (length old) last r (t + read) (take (first + written) (put_mid first (length mid - first) mid sub)) after
  call_then =
      let p : Part16 = f.part in
      let bytes : utf8_of_part16 p ≡ encode_utf8 scalar = ap encode_utf8 f.counts in
      let room : length (take (length mid - first) (drop first mid)) ≡ length old - length (utf8_of_part16 p) =
      ap length (take_rest mid first) ∙ length-drop first mid ∙ omega (arith, WritesPrefix-length old mid first _ w, w.count, ap length bytes) in
      let rest = rw (room, take_rest src t) at c in
      let whole : EncodeStep (u ∷ []) src (length old) last r (t + read) (utf8_of_part16 p ++ take written sub) after =
      pending_then u src (length old) last p t (pending_first u src scalar t f g) (g ∙ units_counted (u ∷ src) scalar f) n high r read (take written sub) after
      (omega (arith, w.count, w.fits, ap length bytes)) rest in
      subst (λ xs. EncodeStep xs src (length old) last r (t + read) (take (first + written) (put_mid first (length mid - first) mid sub)) after) (sym e)
      (subst (λ xs. EncodeStep (u ∷ []) src (length old) last r (t + read) xs after) (ap (λ xs. xs ++ take written sub) bytes
      ∙ written_is _ _ _ _ first_and_rest) whole)
