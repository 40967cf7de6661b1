-- What a call of the UTF-16 decoder does at the pending bytes and the first bytes of its source, at most four together.
use Rattle.std.proofs.Common.{◌≡◌, ◌≢◌, ℕ, ◌+◌, ◌-◌, ◌*◌, ◌/◌, ◌<◌, ◌≤◌, inl, inr, Bool, true, false, List, [], ◌∷◌, ◌++◌, length, take, drop, get_or, min}
use Rattle.std.proofs.Common.{refl, sym, ap, ◌∙◌, arith, subst, append_assoc}
use Rattle.std.specs.Char.Escape.{encode_utf16}
use Rattle.std.specs.List.{flat_map}
use Rattle.std.specs.Str.{all_scalars}
use Rattle.std.proofs.lemmas.Bool.{cases_lt}
use Rattle.std.proofs.lemmas.List.{append-nil, length-append, length-drop, length-take, length-take-le, take_at, take_all, drop_all, drop_at, drop-drop}
use Rattle.std.proofs.lemmas.List.{take-append-drop, take-append-le, drop-append-le, take-take, nil_from_length}
use Rattle.std.proofs.Math.Seq.{take-append-add}
use Rattle.encoding_text.specs.Parts.{Part, Character, IllFormed}
use Rattle.encoding_text.specs.Prefixes.{WritesPrefix}
use Rattle.encoding_text.specs.Surrogates.{IsValidUtf16}
use Rattle.encoding_text.specs.Encoding.{IsPendingSurrogate}
use Rattle.encoding_text.specs.Utf16.{IsHighSurrogate, IsLowSurrogate}
use Rattle.encoding_text.specs.Utf16Bytes.{bytes_of_scalars, unit_bytes, utf16_bytes}
use Rattle.encoding_text.specs.declared.utf_16.ByteOrder.{ByteOrder}
use Rattle.encoding_text.specs.declared.decoder.DecoderResult.TheVariants.{InputEmpty, OutputFull, Malformed}
use Rattle.encoding_text.proofs.PrefixesLemmas.{WritesPrefix-nil}
use Rattle.std.proofs.str.Utf16.{IsPair}
use Rattle.encoding_text.proofs.SurrogateLemmas.{scalars_of_valid, valid-encode, valid_more_one, valid_more_two}
use Rattle.encoding_streams.specs.Utf16Parts.{IsPendingUtf16, IsMalformedUtf16, IsFirstPartUtf16}
use Rattle.encoding_streams.specs.Utf16Decoding.{NeedsMore, DecodeUtf16StepInto}
use Rattle.encoding_streams.specs.Utf16Steps.{Advances, WritesUnits, BeginsUnpaired, IsFirstOf}
use Rattle.encoding_streams.specs.declared.utf16_decoder.window.First.{First}
use Rattle.encoding_streams.specs.declared.utf16_decoder.window.First.TheVariants.{Characters, Unpaired, Incomplete}
use Rattle.encoding_streams.proofs.Utf16ByteLemmas.{length-unit_bytes, same_unit, length-utf16_bytes, no_character_pending, no_characters_pending}
use Rattle.encoding_streams.proofs.Utf16ByteLemmas.{length-pending, pending_nil}
use Rattle.encoding_streams.proofs.Utf16StepLemmas.{scalars_split, within_units, done_bytes, block_advances, too_long}

third : (xs : List ℕ) → take 1 (drop 2 xs) ≡ drop 2 (take 3 xs)
third [] = refl
third (a ∷ []) = refl
third (a ∷ b ∷ []) = refl
third (a ∷ b ∷ c ∷ more) = refl

-- bytes from an index after the first of two lists
drop-append-add : (p src : List ℕ) (n : ℕ) → drop (length p + n) (p ++ src) ≡ drop n src
drop-append-add p src n = sym (drop-drop n (length p) (p ++ src)) ∙ ap (drop n) (drop_at p src (length p) refl)

-- no characters have no code units
pub none_done : (order : ByteOrder) (cs : List ℕ) → all_scalars cs ≡ true → length (flat_map encode_utf16 cs) ≡ 0 → cs ≡ []
none_done order cs h e =
    let none : length (bytes_of_scalars order cs) ≡ 0 = length-utf16_bytes order (flat_map encode_utf16 cs) ∙ ap (λ n. 2 * n) e in
    no_characters_pending order cs [] [] h (pending_nil order) (empty (bytes_of_scalars order cs) none)
  where
    empty : (xs : List ℕ) → length xs ≡ 0 → [] ≡ xs ++ []
    empty [] e = refl
    empty (x ∷ xs) e = absurd (omega arith)

-- pending bytes start with no surrogate that is known to be unpaired
pub not_unpaired : (order : ByteOrder) (p : List ℕ) → IsPendingUtf16 order p → (x rest : List ℕ) → p ≡ x ++ rest → IsMalformedUtf16 order x rest false → ⊥
not_unpaired order p pending x rest e (inl (u, low, f)) = start pending.surrogate pending.is_high (sym pending.whole ∙ e ∙ ap (λ xs. xs ++ rest) f)
  where
    start : (high : List ℕ) → IsPendingSurrogate high → utf16_bytes order high ++ pending.odd ≡ unit_bytes order u ++ rest → ⊥
    start [] h g = omega (arith, ap length g, length-append (unit_bytes order u) rest, length-unit_bytes order u, pending.one)
    start (v ∷ []) h g =
        let same = same_unit order v u pending.odd rest (omega (arith, h)) (omega (arith, low))
        (ap (λ xs. xs ++ pending.odd) (sym (append-nil (unit_bytes order v))) ∙ g) in
        omega (arith, same.0, h, low)
    start (v ∷ t ∷ us) h g = h
not_unpaired order p pending x rest e (inr (inl h)) =
    omega (
      arith,
      length-pending order p pending,
      ap length e,
      length-append x rest,
      ap length h.bytes,
      length-unit_bytes order h.unit,
      ap length h.following,
      length-append (unit_bytes order h.next) h.more,
      length-unit_bytes order h.next,
    )
not_unpaired order p pending x rest e (inr (inr (some, also, none, l))) = cc

module _ {A : Type 0} (order : ByteOrder) (encode : ℕ → List A) (need : ℕ) (p src w : List ℕ) (old : List A) (last : Bool) (before : IsPendingUtf16 order p)
    (first : w ≡ take 4 (p ++ src)) where
  -- a call that writes nothing and ends
  silent_full : (part : Part) (after : List ℕ) (new : List A) → 0 < length src → WritesPrefix old new 0 []
      → IsFirstPartUtf16 order last (p ++ src) part after → NeedsMore encode need (length old) part
      → DecodeUtf16StepInto order encode need p src old new last OutputFull 0 0 p
  silent_full part after new some writes f more = (
    [],
    writes,
    record {
      scalars = [];
      are_scalars = refl;
      out_is = refl;
      fits = omega arith;
      pending_before = before;
      pending = before;
      answer = (
        some,
        omega arith,
        append-nil p,
        (λ _. (refl, refl)),
        part,
        after,
        f,
        (let same : length old ≡ length old - 0 = omega arith in subst (λ n. NeedsMore encode need n part) same more),
      );
    },
  )

  silent_report : (x q : List ℕ) (k second read : ℕ) → IsPendingUtf16 order q → read ≤ length src → p ++ take read src ≡ x ++ q
      → length x ≡ k → length q ≡ second → (q ≢ [] → read ≡ 0)
      → IsMalformedUtf16 order x (q ++ drop read src) last → (0 < length src → need ≤ length old)
      → DecodeUtf16StepInto order encode need p src old old last (Malformed k second) read 0 q
  silent_report x q k second read pending within whole size more stayed malformed room = (
    [],
    WritesPrefix-nil old,
    record {
      scalars = [];
      are_scalars = refl;
      out_is = refl;
      fits = omega arith;
      pending_before = before;
      pending = pending;
      answer = (
        x,
        within,
        whole,
        size,
        more,
        stayed,
        malformed,
        (λ some. omega (arith, room some)),
      );
    },
  )

  -- the source isn't empty
  some_unread : (src ≡ [] → ⊥) → 0 < length src
  some_unread n = elim (cases_lt 0 (length src)) [ inl h ↦ h | inr h ↦ absurd (n (nil_from_length src (omega arith))) ]

  length_first : (length w ≤ 4) × (length w ≤ length p + length src)
  length_first = (omega (arith, ap length first, length-take 4 (p ++ src)), omega (arith, ap length first, length-take 4 (p ++ src), length-append p src))

  -- ---- characters
  module _ (units : List ℕ) (new : List A) (taken written : ℕ) (writes : WritesUnits encode units old new taken written)
      (spelled : utf16_bytes order units ≡ take (2 * length units) w) (short : 2 * length units ≤ length w) where
    all_spelled : utf16_bytes order units ≡ take (2 * length units) (p ++ src)
    all_spelled = spelled ∙ ap (take (2 * length units)) first ∙ take-take (2 * length units) 4 (p ++ src) (omega (arith, short, length_first.0))

    pub at_most_two : taken ≤ 2
    at_most_two = omega (arith, short, length_first.0, within_units order encode (p ++ src) units old new taken written writes all_spelled)

    pub window_full : 0 < length units → taken ≡ 0 → DecodeUtf16StepInto order encode need p src old new last OutputFull 0 0 p
    window_full some zero_taken =
        let scalars = (scalars_split writes.done writes.more writes.are_scalars).0 in
        let none : writes.done ≡ [] = none_done order writes.done scalars (sym writes.taken_is ∙ zero_taken) in
        let nothing : written ≡ 0 = writes.writes.count ∙ ap (λ cs. length (flat_map encode cs)) none in
        let (c, rest, s, e, l) = too_long order encode (p ++ src) units old new taken written writes all_spelled (omega (arith, some, zero_taken)) in
        let next : p ++ src ≡ utf16_bytes order (encode_utf16 c) ++ rest = ap (λ n. drop (2 * n) (p ++ src)) (sym zero_taken) ∙ e in
        silent_full (Character c) rest new
        (some_unread (λ n. no_character_pending order c rest p s before (sym (append-nil p) ∙ ap (λ xs. p ++ xs) (sym n) ∙ next)))
        (subst (λ xs. WritesPrefix old new 0 (flat_map encode xs)) none
        (subst (λ n. WritesPrefix old new n (flat_map encode writes.done)) nothing writes.writes))
        (s, next) (omega (arith, l, nothing))

    pub fewer_pending : taken ≢ 0 → length p < 2 * taken
    fewer_pending some = elim (cases_lt (length p) (2 * taken)) [
      | inl h ↦ h
      | inr h ↦
          let bytes = done_bytes order encode (p ++ src) units old new taken written writes all_spelled in
          let here : bytes_of_scalars order writes.done ≡ take (2 * taken) p = bytes ∙ take-append-le (2 * taken) p src h in
          let none = no_characters_pending order writes.done (drop (2 * taken) p) p (scalars_split writes.done writes.more writes.are_scalars).0 before
          (sym (take-append-drop (2 * taken) p) ∙ ap (λ xs. xs ++ drop (2 * taken) p) (sym here)) in
          absurd (some (writes.taken_is ∙ ap (λ cs. length (flat_map encode_utf16 cs)) none))
    ]

    pub window_advances : taken ≢ 0 → Advances order encode p src old new (2 * taken - length p) written []
    window_advances some =
        let block = block_advances order encode (p ++ src) units old new taken written writes all_spelled in
        let less = fewer_pending some in
        record {
          scalars = block.scalars;
          are_scalars = block.are_scalars;
          within = omega (arith, block.within, length-append p src, less);
          spelled = sym (take-append-add p src (2 * taken - length p))
              ∙ ap (λ n. take n (p ++ src)) {x = length p + (2 * taken - length p)} {y = 2 * taken} (omega (arith, less))
              ∙ block.spelled;
          writes = block.writes;
        }

  -- ---- an unpaired surrogate
  module _ (two : 2 ≤ length w) (unpaired : (more : List ℕ) (last : Bool) → IsMalformedUtf16 order (take 2 w) (drop 2 w ++ more) last) where
    two_bytes_first : take 2 w ≡ take 2 (p ++ src)
    two_bytes_first = ap (take 2) first ∙ take-take 2 4 (p ++ src) (omega arith)

    rest_after_two : drop 2 w ++ drop 4 (p ++ src) ≡ drop 2 (p ++ src)
    rest_after_two = sym (drop-append-le 2 w (drop 4 (p ++ src)) two) ∙ ap (λ xs. drop 2 (xs ++ drop 4 (p ++ src))) first
        ∙ ap (drop 2) (take-append-drop 4 (p ++ src))

    is_malformed : (final : Bool) → IsMalformedUtf16 order (take 2 (p ++ src)) (drop 2 (p ++ src)) final
    is_malformed final = subst (λ xs. IsMalformedUtf16 order xs (drop 2 (p ++ src)) final) two_bytes_first
        (subst (λ xs. IsMalformedUtf16 order (take 2 w) xs final) rest_after_two (unpaired (drop 4 (p ++ src)) final))

    pub unpaired_full : length old < need → DecodeUtf16StepInto order encode need p src old old last OutputFull 0 0 p
    unpaired_full l =
        silent_full (IllFormed (take 2 (p ++ src))) (drop 2 (p ++ src)) old
        (some_unread (λ n. not_unpaired order p before _ _
        (sym (append-nil p) ∙ ap (λ xs. p ++ xs) (sym n) ∙ sym (take-append-drop 2 (p ++ src))) (is_malformed false)))
        (WritesPrefix-nil old) (sym (take-append-drop 2 (p ++ src)), is_malformed last) l

    pub unpaired_read : length p < 3 → need ≤ length old → DecodeUtf16StepInto order encode need p src old old last (Malformed 2 0) (2 - length p) 0 []
    unpaired_read l room =
        let sum : length p + (2 - length p) ≡ 2 = omega (arith, l) in
        silent_report (take 2 (p ++ src)) [] 2 0 (2 - length p) (pending_nil order) (omega (arith, length_first.1, two, l))
        (sym (take-append-add p src (2 - length p)) ∙ ap (λ n. take n (p ++ src)) sum ∙ sym (append-nil (take 2 (p ++ src))))
        (length-take-le 2 (p ++ src) (omega (arith, length_first.1, two, length-append p src))) refl (λ some. absurd (some refl))
        (subst (λ xs. IsMalformedUtf16 order (take 2 (p ++ src)) xs last)
        (sym (sym (drop-append-add p src (2 - length p)) ∙ ap (λ n. drop n (p ++ src)) sum)) (is_malformed last))
        (λ _. room)

    pub unpaired_pending : 3 ≤ length p → need ≤ length old → (window q : List ℕ) (count : ℕ) → take count window ≡ w → 3 ≤ count → q ≡ take 1 (drop 2 window)
        → DecodeUtf16StepInto order encode need p src old old last (Malformed 2 1) 0 0 q
    unpaired_pending l room window q count e m f =
        let three : length p ≡ 3 = omega (arith, l, length-pending order p before) in
        let prefix : take 3 window ≡ p = sym (take-take 3 count window m) ∙ ap (take 3) (e ∙ first) ∙ take-take 3 4 (p ++ src) (omega arith)
        ∙ take_at p src 3 three in
        let odd : q ≡ drop 2 p = f ∙ third window ∙ ap (drop 2) prefix in
        let one : length (drop 2 p) ≡ 1 = omega (arith, length-drop 2 p, three) in
        subst (λ xs. DecodeUtf16StepInto order encode need p src old old last (Malformed 2 1) 0 0 xs) (sym odd)
        (silent_report (take 2 p) (drop 2 p) 2 1 0 (record {
          surrogate = [];
          is_high = tt;
          odd = drop 2 p;
          one = omega (arith, one);
          whole =
              refl;
        }) (omega arith)
        (append-nil p ∙ sym (take-append-drop 2 p)) (length-take-le 2 p (omega (arith, three))) one (λ _. refl)
        (subst (λ xs. IsMalformedUtf16 order xs (drop 2 p ++ src) last) (take-append-le 2 p src (omega (arith, three)))
        (subst (λ xs. IsMalformedUtf16 order (take 2 (p ++ src)) xs last) (drop-append-le 2 p src (omega (arith, three))) (is_malformed last)))
        (λ _. room))

  -- ---- no more than the start of a character
  module _ (incomplete : IsPendingUtf16 order w) where
    whole_window : w ≡ p ++ src
    whole_window = first ∙ take_all 4 (p ++ src) (omega (arith, length-pending order w incomplete, ap length first, length-take 4 (p ++ src)))

    pub pending_whole : (q : List ℕ) → q ≡ w → (last ≡ true → length w ≡ 0)
        → DecodeUtf16StepInto order encode need p src old old last InputEmpty (length src) 0 q
    pending_whole q e none = subst (λ xs. DecodeUtf16StepInto order encode need p src old old last InputEmpty (length src) 0 xs) (sym e) (
      [],
      WritesPrefix-nil old,
      record {
        scalars = [];
        are_scalars = refl;
        out_is = refl;
        fits = omega arith;
        pending_before = before;
        pending = incomplete;
        answer = (refl, sym whole_window, λ t. nil_from_length w (none t));
      },
    )

    cut_off : last ≡ true → 0 < length w → IsMalformedUtf16 order w [] last
    cut_off l some = inr (inr ((λ n. omega (arith, ap length n, some)), incomplete, refl, l))

    pub cut_full : last ≡ true → 0 < length w → 0 < length src → length old < need → DecodeUtf16StepInto order encode need p src old old last OutputFull 0 0 p
    cut_full l some unread room = silent_full (IllFormed w) [] old unread (WritesPrefix-nil old) (sym whole_window ∙ sym (append-nil w), cut_off l some) room

    pub cut_report : (k : ℕ) → last ≡ true → 0 < length w → k ≡ length w → (0 < length src → need ≤ length old)
        → DecodeUtf16StepInto order encode need p src old old last (Malformed k 0) (length src) 0 []
    cut_report k l some e room =
        silent_report w [] k 0 (length src) (pending_nil order) (omega arith)
        (ap (λ xs. p ++ xs) (take_all (length src) src (omega arith)) ∙ sym whole_window ∙ sym (append-nil w)) (sym e) refl (λ some. absurd (some refl))
        (subst (λ xs. IsMalformedUtf16 order w xs last) (sym (drop_all (length src) src (omega arith))) (cut_off l some)) room

-- ---- code units that start with no character
-- the bytes of these code units
pub bytes_unpaired : (order : ByteOrder) (w us : List ℕ) (count : ℕ) → utf16_bytes order us ≡ take (2 * count) w → count ≡ length us → 2 * count ≤ length w
    → BeginsUnpaired us → (2 ≤ length w) × ((more : List ℕ) (last : Bool) → IsMalformedUtf16 order (take 2 w) (drop 2 w ++ more) last)
bytes_unpaired order w [] count e c l b = absurd b
bytes_unpaired order w (u ∷ []) count e c l b = (
  omega (arith, c, l),
  λ more last.
      inl (u, b, ap (λ n. take n w) {x = 2} {y = 2 * count} (omega (arith, c)) ∙ sym e ∙ append-nil (unit_bytes order u)),
)
bytes_unpaired order w (u ∷ v ∷ us) count e c l b =
    let first : take 2 w ≡ unit_bytes order u =
    sym (take-take 2 (2 * count) w (omega (arith, c))) ∙ ap (take 2) (sym e)
    ∙ take_at (unit_bytes order u) (unit_bytes order v ++ utf16_bytes order us) 2 (length-unit_bytes order u) in
    let following : drop 2 w ≡ unit_bytes order v ++ (utf16_bytes order us ++ drop (2 * count) w) =
    ap (drop 2) (sym (take-append-drop (2 * count) w) ∙ ap (λ xs. xs ++ drop (2 * count) w) (sym e)
    ∙ append_assoc (unit_bytes order u) (unit_bytes order v ++ utf16_bytes order us) (drop (2 * count) w))
    ∙ drop_at (unit_bytes order u) ((unit_bytes order v ++ utf16_bytes order us) ++ drop (2 * count) w) 2 (length-unit_bytes order u)
    ∙ append_assoc (unit_bytes order v) (utf16_bytes order us) (drop (2 * count) w) in (
      omega (arith, c, l),
      λ more last. elim b [
        | inl low ↦ inl (u, low, first)
        | inr (high, bound, apart) ↦
            inr
            (inl (record {
              unit = u;
              is_high = high;
              bytes = first;
              next = v;
              is_unit = bound;
              not_low = apart;
              more = (utf16_bytes order us ++ drop (2 * count) w) ++ more;
              following = ap (λ xs. xs ++ more) following ∙ append_assoc (unit_bytes order v) (utf16_bytes order us ++ drop (2 * count) w) more;
            }))
      ],
    )

pub bytes_pending : (order : ByteOrder) (w us : List ℕ) (count : ℕ) → utf16_bytes order us ≡ take (2 * count) w → count ≡ length us
    → count ≡ min (length w / 2) 2 → IsPendingSurrogate us → IsPendingUtf16 order w
bytes_pending order w us count e c m p = record {
  surrogate = us;
  is_high = p;
  odd = drop (2 * count) w;
  one = omega (arith, length-drop (2 * count) w, few us p, c, m);
  whole = sym (take-append-drop (2 * count) w) ∙ ap (λ xs. xs ++ drop (2 * count) w) (sym e);
}
  where
    few : (us : List ℕ) → IsPendingSurrogate us → length us ≤ 1
    few [] p = omega arith
    few (u ∷ []) p = omega arith
    few (u ∷ v ∷ us) p = absurd p

-- ---- one code unit, or two
pub first_two : (w : List ℕ) → 2 ≤ length w → take 2 w ≡ get_or w 0 0 ∷ get_or w 1 0 ∷ []
first_two [] l = absurd (omega (arith, l))
first_two (a ∷ []) l = absurd (omega (arith, l))
first_two (a ∷ b ∷ w) l = refl

pub all_four : (w : List ℕ) → 4 ≤ length w → take 4 w ≡ get_or w 0 0 ∷ get_or w 1 0 ∷ get_or w 2 0 ∷ get_or w 3 0 ∷ []
all_four [] l = absurd (omega (arith, l))
all_four (a ∷ []) l = absurd (omega (arith, l))
all_four (a ∷ b ∷ []) l = absurd (omega (arith, l))
all_four (a ∷ b ∷ c ∷ []) l = absurd (omega (arith, l))
all_four (a ∷ b ∷ c ∷ d ∷ w) l = refl

module _ (order : ByteOrder) (w : List ℕ) (u : ℕ) (first : unit_bytes order u ≡ get_or w 0 0 ∷ get_or w 1 0 ∷ []) where
  pub one_spelled : 2 ≤ length w → utf16_bytes order (u ∷ []) ≡ take 2 w
  one_spelled l = append-nil (unit_bytes order u) ∙ first ∙ sym (first_two w l)

  pub two_spelled : (v : ℕ) → unit_bytes order v ≡ get_or w 2 0 ∷ get_or w 3 0 ∷ [] → 4 ≤ length w → utf16_bytes order (u ∷ v ∷ []) ≡ take 4 w
  two_spelled v second l = (λ i. first i ++ (second i ++ [])) ∙ sym (all_four w l)

pub one_valid : (u : ℕ) → u < 0x10000 → (0xD800 ≤ u → u ≤ 0xDFFF → ⊥) → IsValidUtf16 (u ∷ [])
one_valid u l n = valid_more_one (u ∷ []) 0 (omega arith) l (valid-encode [] [] refl refl) n

pub two_valid : (u v : ℕ) → IsPair u v → IsValidUtf16 (u ∷ v ∷ [])
two_valid u v p = valid_more_two (u ∷ v ∷ []) 0 (omega arith) (valid-encode [] [] refl refl) p

-- a surrogate that is no low one
pub high_of : (u : ℕ) → (0xD800 ≤ u) × (u ≤ 0xDFFF) → (IsLowSurrogate u → ⊥) → IsHighSurrogate u
high_of u s n = (s.0, elim (cases_lt 0xDBFF u) [ inl l ↦ absurd (n (omega arith, s.1)) | inr l ↦ l ])

-- code units that are characters don't begin what is pending
pub no_units_pending : (order : ByteOrder) (w us : List ℕ) (n : ℕ) → IsValidUtf16 us → 0 < length us → utf16_bytes order us ≡ take n w
    → IsPendingUtf16 order w → ⊥
no_units_pending order w us n valid some spelled pending =
    let (scalars, e) = scalars_of_valid us valid in
    let none = no_characters_pending order valid.0 (drop n w) w scalars pending
    (sym (take-append-drop n w) ∙ ap (λ xs. xs ++ drop n w) (sym spelled ∙ ap (utf16_bytes order) (sym e))) in
    omega (arith, some, ap length (sym e ∙ ap (flat_map encode_utf16) none))

-- nor does an unpaired surrogate
pub no_surrogate_pending : (order : ByteOrder) (w : List ℕ) → ((more : List ℕ) (last : Bool) → IsMalformedUtf16 order (take 2 w) (drop 2 w ++ more) last)
    → IsPendingUtf16 order w → ⊥
no_surrogate_pending order w unpaired pending =
    not_unpaired order w pending (take 2 w) (drop 2 w) (sym (take-append-drop 2 w))
    (subst (λ xs. IsMalformedUtf16 order (take 2 w) xs false) (append-nil (drop 2 w)) (unpaired [] false))

pub not_incomplete : (order : ByteOrder) (w : List ℕ) (first : First) → IsFirstOf order w first → (first ≢ Incomplete) → IsPendingUtf16 order w → ⊥
not_incomplete order w (Characters units count) (some, within, short, valid, spelled) other pending =
    no_units_pending order w (take count units) (2 * count) valid (omega (arith, some, length-take-le count units within)) spelled pending
not_incomplete order w Unpaired (two, unpaired) other pending = no_surrogate_pending order w unpaired pending
not_incomplete order w Incomplete is other pending = other refl

-- what four bytes start with, and so those that they start
pub unpaired_start : (order : ByteOrder) (src w : List ℕ) → w ≡ take 4 src → 2 ≤ length w
    → ((more : List ℕ) (last : Bool) → IsMalformedUtf16 order (take 2 w) (drop 2 w ++ more) last) → IsMalformedUtf16 order (take 2 src) (drop 2 src) false
unpaired_start order src w first two unpaired =
    subst (λ xs. IsMalformedUtf16 order xs (drop 2 src) false) (ap (take 2) first ∙ take-take 2 4 src (omega arith))
    (subst (λ xs. IsMalformedUtf16 order (take 2 w) xs false)
    (sym (drop-append-le 2 w (drop 4 src) two) ∙ ap (λ xs. drop 2 (xs ++ drop 4 src)) first ∙ ap (drop 2) (take-append-drop 4 src))
    (unpaired (drop 4 src) false))
