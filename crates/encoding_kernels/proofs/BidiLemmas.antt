-- Indices of bytes at which there are right-to-left characters: a text with one has such an index, and the first three
-- bytes show if there is none. And code units that aren't right-to-left, by ranges that hold all those that are.
use Rattle.std.proofs.Common.{◌≡◌, ℕ, ◌+◌, ◌/◌, ◌%◌, ◌<◌, ◌≤◌, inl, inr, List, [], ◌∷◌, ◌++◌, length, take, drop, slice_index, encode_utf8, encode_utf8_all}
use Rattle.std.proofs.Common.{IsUtf8, refl, sym, ap, ◌∙◌, arith, subst, Bool, true, false, cond, ◌&&◌, leb, ltb, eqb, bit_or, ◌^◌, ◌⊎◌, ◌||◌}
use Rattle.std.specs.Prelude.{Any, nat_eq}
use Rattle.std.specs.Str.{all_scalars}
use Rattle.std.proofs.str.Laws.{two, three, four, both}
use Rattle.std.proofs.lemmas.Str.{encode_same, length-encode, IsUtf8-take, IsUtf8-append}
use Rattle.std.proofs.lemmas.Bool.{cases_lt, eqb-true, agree_below_at, ltb-false, or_parts}
use Rattle.std.proofs.lemmas.Bool.Decides.{nat_tests}
use Rattle.std.proofs.lemmas.List.{length-append, drop_at, drop-drop, get_or-drop, take_at, take-append-drop, take_all}
use lib.Utf8.{scalar}
use Rattle.encoding_definitions.specs.Bidi.{IsRightToLeft, IsBidiText, IsBidiBytes, IsRightToLeftUnit}
use Rattle.encoding_definitions.specs.Parts.{BeginsWithNoCharacter}
use Rattle.encoding_definitions.specs.Sequence.{IsSequence}
use Rattle.encoding_kernels.specs.Scans.{PassBetween, BelowUpTo, BelowBetween}
use Rattle.encoding_kernels.specs.RightToLeft.{rtl_second_end, ends_mark, rtl_mark_lead, may_start_rtl, HasNoRtlAt}
use Rattle.encoding_kernels.specs.RightToLeft.{RtlAt, NoRtlIn, NoneRightToLeft, in_range, may_be_right_to_left}
use Rattle.encoding_definitions.proofs.AnyLemmas.{Any-none, Any-cons}
use Rattle.encoding_definitions.proofs.BidiTextLemmas.{right_to_left_from, character_bidi, bidi_character, found_in_text, bidi_after}
use Rattle.encoding_definitions.proofs.BidiTextLemmas.{bidi_either, rest_text, text_of_bidi, text_of_latin1, latin1_not_bidi}
use Rattle.encoding_kernels.proofs.MaskLemmas.{wrapped}
use Rattle.encoding_kernels.proofs.PairsLemmas.{ascii_latin1}
use Rattle.encoding_definitions.proofs.EncodingLemmas.{decode_utf8_scalar, IsSequence-encode}
use Rattle.encoding_definitions.proofs.BidiUnitsLemmas.{UnitForm, unit_form, unit_low_none}

-- ---- the first three bytes
end_hebrew : (a mark : ℕ) → 0xD6 ≤ a → a ≤ 0xDF → rtl_second_end a mark ≡ 0xFF
end_hebrew a mark l h = grind (arith, nat_tests)

second_of_two : (c mark : ℕ) → 0x590 ≤ c → c < 0x800 → 128 + c % 64 < rtl_second_end (192 + c / 64) mark
second_of_two c mark l h = let e = end_hebrew (192 + c / 64) mark (omega arith) (omega arith) in omega arith

lead_of_mark : (c : ℕ) → 0x1000 ≤ c → c < 0x3000 → IsRightToLeft c → rtl_mark_lead (128 + c % 64) ≡ 0xE2
lead_of_mark c l h r = grind (arith, nat_tests, r)

second_of_three : (c : ℕ) → 0x800 ≤ c → c < 0x10000 → IsRightToLeft c → 128 + c / 64 % 64 < rtl_second_end (224 + c / 4096) (rtl_mark_lead (128 + c % 64))
second_of_three c l h r = elim (cases_lt c 0x1000) [
  | inl p ↦ let low : c ≤ 0x8FF = omega arith in
      let e : 224 + c / 4096 ≡ 0xE0 = omega arith in
      rw e (omega arith)
  | inr p ↦ elim (cases_lt c 0x3000) [
    | inl q ↦ let from : 0x200F ≤ c = omega arith in
        let to : c ≤ 0x2067 = omega arith in
        let e : 224 + c / 4096 ≡ 0xE2 = omega arith in
        rw (e, lead_of_mark c p q r) (omega arith)
    | inr q ↦ let from : 0xFB1D ≤ c = omega arith in
        let to : c ≤ 0xFEFE = omega arith in
        let e : 224 + c / 4096 ≡ 0xEF = omega arith in
        rw e (omega arith)
  ]
]

second_of_four : (c mark : ℕ) → 0x10000 ≤ c → IsRightToLeft c → 128 + c / 4096 % 64 < rtl_second_end (240 + c / 262144) mark
second_of_four c mark l r = grind (arith, nat_tests, r)

first_three : (c : ℕ) (rest : List ℕ) → IsRightToLeft c
    → slice_index (encode_utf8 c ++ rest) 1 < rtl_second_end (slice_index (encode_utf8 c ++ rest) 0) (rtl_mark_lead (slice_index (encode_utf8 c ++ rest) 2))
first_three c rest r = elim (cases_lt c 2048) [
  | inl p ↦ rw (two c (omega (arith, right_to_left_from c r)) p) (second_of_two c _ (right_to_left_from c r) p)
  | inr p ↦ elim (cases_lt c 65536) [
    | inl q ↦ rw (three c p q) (second_of_three c p q r)
    | inr q ↦ rw (four c q) (second_of_four c _ q r)
  ]
]

at_place : (bs : List ℕ) (at k : ℕ) (xs : List ℕ) → drop at bs ≡ xs → slice_index xs k ≡ slice_index bs (at + k)
at_place bs at k xs e = ap (λ ys. slice_index ys k) (sym e) ∙ get_or-drop at bs k 0

-- what the first three bytes of each right-to-left character fulfil, with any bytes after it, and so those at the index of one
pub by_first_three : (P : ℕ → ℕ → ℕ → Type 0)
    → ((c : ℕ) (rest : List ℕ) → IsRightToLeft c
    → P (slice_index (encode_utf8 c ++ rest) 0) (slice_index (encode_utf8 c ++ rest) 1) (slice_index (encode_utf8 c ++ rest) 2))
    → (bs : List ℕ) (at : ℕ) → RtlAt bs at → P (slice_index bs at) (slice_index bs (at + 1)) (slice_index bs (at + 2))
by_first_three P p bs at s =
    let xs = encode_utf8 s.character ++ s.rest in
    let first : slice_index xs 0 ≡ slice_index bs at = at_place bs at 0 xs s.spelled ∙ ap (λ k. slice_index bs k) {x = at + 0} {y = at} (omega arith) in
    let second : slice_index xs 1 ≡ slice_index bs (at + 1) = at_place bs at 1 xs s.spelled in
    let third : slice_index xs 2 ≡ slice_index bs (at + 2) = at_place bs at 2 xs s.spelled in
    rw (sym first, sym second, sym third) (p s.character s.rest s.right_to_left)

pub second_below : (bs : List ℕ) (at : ℕ) → RtlAt bs at → slice_index bs (at + 1) < rtl_second_end (slice_index bs at) (rtl_mark_lead (slice_index bs (at + 2)))
second_below = by_first_three (λ a b d. b < rtl_second_end a (rtl_mark_lead d)) first_three

-- ---- what the lanes hold
abbrev pub ends_lane : ℕ → ℕ → ℕ
ends_lane a mark = bit_or (bit_or (bit_or (bit_or (cond (leb 0xD6 a && ltb a 0xE0) 0xFF 0) (cond (eqb a 0xE0) 0xA4 0)) (cond (eqb a 0xEF) 0xBC 0))
    (cond (eqb a 0xF0) 0x9F 0)) (cond (eqb a mark) 0x82 0)

chosen_either : (P : ℕ → Type 0) → P 0xE2 → P 0xF0 → (ends : Bool) → P (cond ends 0xE2 0xF0)
chosen_either P p q true = p
chosen_either P p q false = q

-- for both numbers that `rtl_mark_lead` has
pub for_both : (P : ℕ → Type 0) → P 0xE2 → P 0xF0 → (d : ℕ) → P (rtl_mark_lead d)
for_both P p q d = chosen_either P p q (ends_mark d)

pub ends_are : (a d : ℕ) → a < 256 → ends_lane a (rtl_mark_lead d) ≡ rtl_second_end a (rtl_mark_lead d)
ends_are a d l =
    let same = λ (mark : ℕ). λ (x : ℕ). eqb (ends_lane x mark) (rtl_second_end x mark) in
    for_both (λ mark. ends_lane a mark ≡ rtl_second_end a mark)
    (eqb-true _ _ (agree_below_at (same 0xE2) (λ x. true) 256 a refl l)) (eqb-true _ _ (agree_below_at (same 0xF0) (λ x. true) 256 a refl l)) d

-- if no second byte is below the bound of the first
pub none_clear : (bs : List ℕ) (from to : ℕ) → PassBetween (HasNoRtlAt bs) from to → NoRtlIn bs from to
none_clear bs from to clear = record { each = λ k l m s. omega (arith, second_below bs k s, clear k l m) }

-- ---- indices at which there is none
low_end : (a d : ℕ) → a < 0xD6 → rtl_second_end a (rtl_mark_lead d) ≡ 0
low_end a d l = for_both (λ mark. rtl_second_end a mark ≡ 0) (grind (arith, nat_tests)) (grind (arith, nat_tests)) d

end_of_low : (a d : ℕ) → may_start_rtl a (rtl_mark_lead d) ≡ false → rtl_second_end a (rtl_mark_lead d) ≡ 0
end_of_low a d = for_both (λ mark. may_start_rtl a mark ≡ false → rtl_second_end a mark ≡ 0) (λ e. grind (arith, nat_tests)) (λ e. grind (arith, nat_tests)) d

pub none_from_zero : (bs : List ℕ) (at : ℕ) → ((d : ℕ) → rtl_second_end (slice_index bs at) (rtl_mark_lead d) ≡ 0) → RtlAt bs at → ⊥
none_from_zero bs at none s = omega (arith, second_below bs at s, none (slice_index bs (at + 2)))

pub none_low : (bs : List ℕ) (from to : ℕ) → PassBetween (λ k. may_start_rtl (slice_index bs k) (rtl_mark_lead (slice_index bs (k + 2))) ≡ false) from to
    → NoRtlIn bs from to
none_low bs from to low = record { each = λ k l m s. omega (arith, second_below bs k s, end_of_low (slice_index bs k) (slice_index bs (k + 2)) (low k l m)) }

pub none_before : (bs : List ℕ) (n : ℕ) → BelowUpTo 0xD6 bs n → NoRtlIn bs 0 n
none_before bs n low = record { each = λ k from to s. none_from_zero bs k (λ d. low_end (slice_index bs k) d (low k to)) s }

pub none_joined : (bs : List ℕ) (a b d : ℕ) → NoRtlIn bs a b → NoRtlIn bs b d → NoRtlIn bs a d
none_joined bs a b d p q = record { each = λ k from to s. elim (cases_lt k b) [ inl l ↦ p.each k from l s | inr l ↦ q.each k l to s ] }

-- low bytes after a range
pub none_and_low : (bs : List ℕ) (a b d : ℕ) → NoRtlIn bs a b
    → PassBetween (λ k. may_start_rtl (slice_index bs k) (rtl_mark_lead (slice_index bs (k + 2))) ≡ false) b d → NoRtlIn bs a d
none_and_low bs a b d p low = none_joined bs a b d p (none_low bs b d low)

some_bytes : (c : ℕ) → IsRightToLeft c → 2 ≤ length (encode_utf8 c)
some_bytes c r = grind (arith, nat_tests, length-encode c, right_to_left_from c r)

-- ---- the character at an index
pub stands_spelled : (bs : List ℕ) (at n : ℕ) → IsSequence (take n (drop at bs)) → IsBidiText (take n (drop at bs)) → RtlAt bs at
stands_spelled bs at n q b =
    let c = decode_utf8_scalar (take n (drop at bs)) q in
    record {
      character = c.0;
      rest = drop n (drop at bs);
      scalar = c.1;
      right_to_left = bidi_character c.0 _ c.2 b;
      spelled = sym (take-append-drop n (drop at bs)) ∙ ap (λ xs. xs ++ drop n (drop at bs)) (sym c.2);
    }

pub spelled_stands : (bs : List ℕ) (at n : ℕ) → IsSequence (take n (drop at bs)) → RtlAt bs at → IsBidiText (take n (drop at bs))
spelled_stands bs at n q s =
    let c = decode_utf8_scalar (take n (drop at bs)) q in
    let both_ways = ap (λ xs. xs ++ drop n (drop at bs)) c.2 ∙ take-append-drop n (drop at bs) ∙ s.spelled in
    let same = (encode_same c.0 s.character (drop n (drop at bs)) s.rest both_ways).0 in
    character_bidi c.0 _ c.1 c.2 (subst IsRightToLeft (sym same) s.right_to_left)

pub no_character_stands : (bs : List ℕ) (at : ℕ) → BeginsWithNoCharacter (drop at bs) → RtlAt bs at → ⊥
no_character_stands bs at none s = none (encode_utf8 s.character) s.rest s.spelled (IsSequence-encode s.character s.scalar)

-- ---- texts
first_high : (bs : List ℕ) (at : ℕ) → RtlAt bs at → 0xD6 ≤ slice_index bs at
first_high bs at s = elim (cases_lt (slice_index bs at) 0xD6) [
  | inl l ↦ absurd (none_from_zero bs at (λ d. low_end _ d l) s)
  | inr l ↦ l
]

pub bidi_of_place : (bs : List ℕ) (at : ℕ) → IsUtf8 bs → at < length bs → RtlAt bs at → IsBidiText bs
bidi_of_place bs at u l s =
    let n = length (encode_utf8 s.character) in
    let prefix : IsUtf8 (take at bs) = IsUtf8-take bs at u (omega arith, λ _ _. omega (arith, first_high bs at s)) in
    let here : encode_utf8 s.character ≡ take n (drop at bs) = sym (take_at (encode_utf8 s.character) s.rest n refl) ∙ ap (take n) (sym s.spelled) in
    found_in_text bs at n u (omega arith) prefix (character_bidi s.character _ s.scalar here s.right_to_left)

place_in : (cs : List ℕ) → all_scalars cs ≡ true → Any IsRightToLeft cs → (k : ℕ) × (k < length (encode_utf8_all cs)) × RtlAt (encode_utf8_all cs) k
place_in [] s a = absurd (Any-none IsRightToLeft a)
place_in (c ∷ cs) s a =
    let parts = both (scalar c) (all_scalars cs) s in
    let rest = encode_utf8_all cs in
    elim (Any-cons IsRightToLeft c cs a) [
      | inl r ↦ (
        0,
        omega (arith, some_bytes c r, length-append (encode_utf8 c) rest),
        record {
          character = c;
          rest = rest;
          scalar = parts.0;
          right_to_left =
              r;
          spelled = refl;
        },
      )
      | inr b ↦
          let found = place_in cs parts.1 b in
          let at = length (encode_utf8 c) + found.0 in
          let following : drop at (encode_utf8 c ++ rest) ≡ drop found.0 rest = sym (drop-drop found.0 (length (encode_utf8 c)) (encode_utf8 c ++ rest))
          ∙ ap (drop found.0) (drop_at (encode_utf8 c) rest (length (encode_utf8 c)) refl) in
          let s = found.2 in (
            at,
            omega (arith, found.1, length-append (encode_utf8 c) rest),
            record { character = s.character; rest = s.rest; scalar = s.scalar; right_to_left = s.right_to_left; spelled = following ∙ s.spelled },
          )
    ]

pub place_of_bidi : (bs : List ℕ) → IsBidiText bs → (k : ℕ) × (k < length bs) × RtlAt bs k
place_of_bidi bs b = subst (λ xs. (k : ℕ) × (k < length xs) × RtlAt xs k) b.2 (place_in b.0 b.1 b.3)

-- ---- a text without any
abbrev pub IsLeftToRight : List ℕ → Type 0
IsLeftToRight bs = IsUtf8 bs × (IsBidiText bs → ⊥)

-- the bytes after such a prefix
pub clear_whole : (bs : List ℕ) (n : ℕ) → n ≤ length bs → IsLeftToRight (take n bs) → IsBidiBytes (drop n bs) → IsBidiBytes bs
clear_whole bs n l v (inl ill) = inl (λ u. ill (rest_text bs n u l v.0))
clear_whole bs n l v (inr b) = inr (subst IsBidiText (take-append-drop n bs) (bidi_after (take n bs) (drop n bs) v.0 b))

pub clear_rest : (bs : List ℕ) (n : ℕ) → n ≤ length bs → IsLeftToRight (take n bs) → IsBidiBytes bs → IsBidiBytes (drop n bs)
clear_rest bs n l v (inl ill) = inl (λ u. ill (subst IsUtf8 (take-append-drop n bs) (IsUtf8-append (take n bs) (drop n bs) v.0 u)))
clear_rest bs n l v (inr b) =
    let rest = rest_text bs n (text_of_bidi bs b) l v.0 in
    elim (bidi_either (take n bs) (drop n bs) v.0 rest (subst IsBidiText (sym (take-append-drop n bs)) b)) [
      | inl a ↦ absurd (v.1 a)
      | inr a ↦ inr a
    ]

pub clear_none : (bs : List ℕ) (n : ℕ) → length bs ≤ n → IsLeftToRight (take n bs) → IsBidiBytes bs → ⊥
clear_none bs n l v (inl ill) = ill (subst IsUtf8 (take_all n bs l) v.0)
clear_none bs n l v (inr b) = v.1 (subst IsBidiText (sym (take_all n bs l)) b)

-- ---- an ASCII prefix
pub ascii_text : (bs : List ℕ) (n : ℕ) → n ≤ length bs → BelowUpTo 0x80 bs n → IsLeftToRight (take n bs)
ascii_text bs n l low = let latin1 = ascii_latin1 bs n l low in (text_of_latin1 (take n bs) latin1, latin1_not_bidi (take n bs) latin1)

-- ---- ranges by one comparison
pub outside : (from count u : ℕ) → from < 2 ^ 16 → u < 2 ^ 16 → in_range from count u ≡ false → (u < from) ⊎ (from + count ≤ u)
outside from count u l m e = let over = ltb-false _ _ e in grind arith

none_of : (u : ℕ) → UnitForm u → (u < 0x590) ⊎ (0x590 + 0x370 ≤ u) → (u < 0x202B) ⊎ (0x202B + 4 ≤ u) → (u ≡ 0x200F → ⊥) → (u ≡ 0x2067 → ⊥)
    → (u < 0xD802) ⊎ (0xD802 + 0x3A ≤ u)
    → (u < 0xFB1D) ⊎ (0xFB1D + 0x3E2 ≤ u) → u < 2 ^ 16 → ⊥
none_of u (inl r) a b c d e f l = omega arith
none_of u (inr (inl r)) a b c d e f l = omega arith
none_of u (inr (inr r)) a b c d e f l = omega arith

is_not : (u x : ℕ) → nat_eq u x ≡ false → u ≡ x → ⊥
is_not u x e is = grind (arith, nat_tests)

not_right_to_left : (u : ℕ) → u < 2 ^ 16 → may_be_right_to_left u ≡ false → IsRightToLeftUnit u → ⊥
not_right_to_left u l e r =
    let controls = (in_range 0x0590 0x0370 u || in_range 0x202B 4 u) || (nat_eq u 0x200F || nat_eq u 0x2067) in
    let parts = or_parts controls (in_range 0xD802 0x003A u || in_range 0xFB1D 0x03E2 u) e in
    let prefix = or_parts (in_range 0x0590 0x0370 u || in_range 0x202B 4 u) (nat_eq u 0x200F || nat_eq u 0x2067) parts.0 in
    let scripts = or_parts (in_range 0x0590 0x0370 u) (in_range 0x202B 4 u) prefix.0 in
    let marks = or_parts (nat_eq u 0x200F) (nat_eq u 0x2067) prefix.1 in
    let following = or_parts (in_range 0xD802 0x003A u) (in_range 0xFB1D 0x03E2 u) parts.1 in
    none_of u (unit_form u r) (outside 0x0590 0x0370 u (omega arith) l scripts.0) (outside 0x202B 4 u (omega arith) l scripts.1) (is_not u 0x200F marks.0)
    (is_not u 0x2067 marks.1)
    (outside 0xD802 0x003A u (omega arith) l following.0) (outside 0xFB1D 0x03E2 u (omega arith) l following.1) l

pub units_clear : (us : List ℕ) (from to : ℕ) → ((k : ℕ) → slice_index us k < 2 ^ 16)
    → PassBetween (λ k. may_be_right_to_left (slice_index us k) ≡ false) from to → NoneRightToLeft us from to
units_clear us from to units none = record { each = λ k l m r. not_right_to_left (slice_index us k) (units k) (none k l m) r }

-- ---- ranges by lanes that are zero
-- how far a code unit is past a range, 0 if it is in it
abbrev past_range : ℕ → ℕ → ℕ → ℕ
past_range from last u = wrapped (cond (ltb (wrapped u from) last) last (wrapped u from)) last

past_zero : (from last u : ℕ) → last < 2 ^ 16 → eqb (past_range from last u) 0 ≡ in_range from (last + 1) u
past_zero from last u l = grind (arith, nat_tests)

lesser_zero : (a b : ℕ) → eqb (cond (ltb a b) a b) 0 ≡ (eqb a 0 || eqb b 0)
lesser_zero a b = grind (arith, nat_tests)

or_turned : (a b d : Bool) → ((a || d) || b) ≡ ((a || b) || d)
or_turned true b d = refl
or_turned false true true = refl
or_turned false true false = refl
or_turned false false true = refl
or_turned false false false = refl

abbrev lesser : ℕ → ℕ → ℕ
lesser a b = cond (ltb a b) a b

abbrev pub past_ranges : ℕ → ℕ
past_ranges u = lesser (lesser (past_range 0x0590 0x036F u) (past_range 0x202B 3 u)) (lesser (past_range 0xD802 0x0039 u) (past_range 0xFB1D 0x03E1 u))

pub same_test : (u : ℕ) → (eqb (past_ranges u) 0 || (eqb u 0x200F || eqb u 0x2067)) ≡ may_be_right_to_left u
same_test u =
    let first = lesser_zero (past_range 0x0590 0x036F u) (past_range 0x202B 3 u)
    ∙ (λ i. past_zero 0x0590 0x036F u (omega arith) i || past_zero 0x202B 3 u (omega arith) i) in
    let second = lesser_zero (past_range 0xD802 0x0039 u) (past_range 0xFB1D 0x03E1 u)
    ∙ (λ i. past_zero 0xD802 0x0039 u (omega arith) i || past_zero 0xFB1D 0x03E1 u (omega arith) i) in
    let all = lesser_zero (lesser (past_range 0x0590 0x036F u) (past_range 0x202B 3 u)) (lesser (past_range 0xD802 0x0039 u) (past_range 0xFB1D 0x03E1 u))
    ∙ (λ i. first i || second i) in
    ap (λ b. b || (eqb u 0x200F || eqb u 0x2067)) all
    ∙ or_turned (in_range 0x0590 0x0370 u || in_range 0x202B 4 u) (eqb u 0x200F || eqb u 0x2067) (in_range 0xD802 0x003A u || in_range 0xFB1D 0x03E2 u)

-- ---- ranges of units
pub units_low : (us : List ℕ) (from to : ℕ) → BelowBetween 0x590 us from to → NoneRightToLeft us from to
units_low us from to low = record { each = λ k l m r. unit_low_none (slice_index us k) (low k l m) r }

pub units_joined : (us : List ℕ) (a b from to : ℕ) → NoneRightToLeft us a b → NoneRightToLeft us from to → from ≤ b → NoneRightToLeft us a to
units_joined us a b from to p q l = record { each = λ k h m r. elim (cases_lt k b) [ inl i ↦ p.each k h i r | inr i ↦ q.each k (omega arith) m r ] }

-- low units after two ranges
pub units_and_low : (us : List ℕ) (a b d e : ℕ) → NoneRightToLeft us a b → NoneRightToLeft us b d → BelowBetween 0x590 us d e → NoneRightToLeft us a e
units_and_low us a b d e p q low = units_joined us a d d e (units_joined us a b b d p q (omega arith)) (units_low us d e low) (omega arith)

pub unit_none : (us : List ℕ) (at : ℕ) → (IsRightToLeftUnit (slice_index us at) → ⊥) → NoneRightToLeft us at (at + 1)
unit_none us at none = record { each = λ k from to r. let e : k ≡ at = omega arith in none (subst (λ j. IsRightToLeftUnit (slice_index us j)) e r) }
