-- Writing the UTF-16 of a text character by character and block by block: what is still to be written, and the progress
-- of a loop.
use Rattle.std.proofs.Common.{◌≡◌, append_assoc, inl, inr, ◌⊎◌, slice_index, ℕ, zero, suc, ◌+◌, ◌-◌, ◌*◌, ◌/◌, ◌<◌, ◌≤◌, true, List, [], ◌∷◌, ◌++◌}
use Rattle.std.proofs.Common.{length, take, drop, replicate, get_or, encode_utf8, encode_utf8_all, refl, sym, ap, ◌∙◌, arith, subst, take-add}
use lib.Utf8.{scalar}
use Rattle.std.specs.Char.{IsScalar}
use Rattle.std.specs.Char.Escape.{encode_utf16}
use Rattle.std.specs.Str.{all_scalars, IsAscii, IsUtf8, chars}
use Rattle.std.specs.List.{flat_map}
use Rattle.std.proofs.str.Laws.{one, scalars-append}
use Rattle.std.proofs.Math.Seq.{drop-cons, take-append-add}
use Rattle.std.proofs.lemmas.Bool.{and_parts, and_from, cases_lt}
use Rattle.std.proofs.lemmas.Bool.Decides.{nat_tests}
use Rattle.std.proofs.lemmas.Grind.{flat_map-append}
use Rattle.std.proofs.lemmas.List.{append-nil, length-append, length-drop, length-take, length-take-le, take-take, take-append-drop}
use Rattle.std.proofs.lemmas.List.{take_at, take_all, take_rest, drop_at, drop_all, drop-drop, get_or_append_left}
use Rattle.std.proofs.lemmas.Str.{encodes-append, chars_from_encodes, length-encode, len_utf8_bounds, IsUtf8-nil}
use borrow.Rule.Slice.PartMut.{put_mid}
use Rattle.encoding_definitions.specs.Sequence.{IsSequence}
use Rattle.encoding_definitions.specs.Prefixes.{WritesPrefix}
use Rattle.encoding_kernels.specs.EndingUnits.{units_in, WritesUtf16}
use Rattle.encoding_definitions.proofs.EncodingLemmas.{IsSequence-encode, length_encode_utf16_utf8, encodes_one, length-utf16}
use Rattle.encoding_definitions.proofs.PrefixesLemmas.{written_is}
use Rattle.encoding_kernels.proofs.Utf8ToUtf16Lemmas.{puts_ascii, puts_prefix}
use Rattle.encoding_kernels.specs.Scans.{BelowUpTo, IsRunBelow}
use Rattle.encoding_kernels.proofs.ScanLemmas.{Each-take}

-- ---- a character
pub record Begins (src : List ℕ) (n : ℕ) : Type 0 where
  pub some : 0 < n
  pub within : n ≤ length src
  pub sequence : IsSequence (take n src)
  pub rest : IsUtf8 (drop n src)

pub first_character : (src : List ℕ) (n : ℕ) → IsUtf8 src → 0 < length src
    → ((rest : List ℕ) → IsSequence (get_or src 0 0 ∷ rest) → n ≡ 1 + length rest) → Begins src n
first_character src n ([], (h, e)) some all = absurd (omega (arith, ap length e))
first_character src n (c ∷ cs, (h, e)) some all =
    let parts = and_parts (scalar c) (all_scalars cs) h in
    let bytes = encode_utf8 c in
    let rest = encode_utf8_all cs in
    let long : 0 < length bytes = omega (arith, length-encode c, len_utf8_bounds c) in
    let whole : bytes ≡ get_or bytes 0 0 ∷ drop 1 bytes = drop-cons bytes 0 0 long in
    let first : get_or bytes 0 0 ≡ get_or src 0 0 = sym (get_or_append_left bytes rest 0 0 long) ∙ ap (λ xs. get_or xs 0 0) e in
    let sequence : IsSequence (get_or src 0 0 ∷ drop 1 bytes) = subst IsSequence (whole ∙ ap (λ b. b ∷ drop 1 bytes) first) (IsSequence-encode c parts.0) in
    let size : length bytes ≡ n = omega (arith, all (drop 1 bytes) sequence, length-drop 1 bytes) in
    let prefix : take n src ≡ bytes = ap (take n) (sym e) ∙ take_at bytes rest n size in
    let back : drop n src ≡ rest = ap (drop n) (sym e) ∙ drop_at bytes rest n size in
    record {
      some = omega (arith, size);
      within = omega (arith, ap length e, length-append bytes rest, size);
      sequence = subst IsSequence (sym prefix) (IsSequence-encode c parts.0);
      rest = subst IsUtf8 (sym back) (cs, (parts.1, refl));
    }

pub puts_character : (src old new : List ℕ) (n k c : ℕ) → Begins src n → IsScalar c → encode_utf8 c ≡ take n src → WritesPrefix old new k (encode_utf16 c)
    → WritesUtf16 src old new n k k
puts_character src old new n k c b s e w =
    let units : flat_map encode_utf16 (c ∷ []) ≡ encode_utf16 c = append-nil (encode_utf16 c) in
    record {
      taken = c ∷ [];
      are_scalars = and_from _ _ s refl;
      within = b.within;
      spelled = encodes_one c ∙ e;
      rest = b.rest;
      counted = w.count ∙ ap length (sym units);
      placed = sym (written_is old new k (encode_utf16 c) w) ∙ sym units;
      following = ap (drop k) w.placed ∙ drop_at (encode_utf16 c) (drop k old) k (sym w.count);
    }

-- it has at most four bytes
-- it fits
pub character_fits : (src : List ℕ) (n c room : ℕ) → Begins src n → IsScalar c → encode_utf8 c ≡ take n src → length src ≤ room
    → room < length (encode_utf16 c) → ⊥
character_fits src n c room b s e l full = omega (arith, length_encode_utf16_utf8 c s, ap length e, length-take n src, b.within)

-- ---- what is still to be written
units_of_part16 : (cs src : List ℕ) → IsUtf8 src → encode_utf8_all cs ≡ src → units_in src ≡ length (flat_map encode_utf16 cs)
unfolding units_in
units_of_part16 cs src u e = ap (λ ds. length (flat_map encode_utf16 ds)) (sym (chars_from_encodes cs src u e))

-- a character has at most three bytes for each of its code units
units_third : (cs : List ℕ) → all_scalars cs ≡ true → length (encode_utf8_all cs) ≤ 3 * length (flat_map encode_utf16 cs)
units_third [] h = omega arith
units_third (c ∷ cs) h =
    let parts = and_parts (scalar c) (all_scalars cs) h in
    omega (
      arith,
      units_third cs parts.1,
      unit_third c parts.0,
      length-append (encode_utf8 c) (encode_utf8_all cs),
      length-append (encode_utf16 c)
          (flat_map encode_utf16 cs),
    )
  where
    unit_third : (c : ℕ) → IsScalar c → length (encode_utf8 c) ≤ 3 * length (encode_utf16 c)
    unit_third c s = grind (arith, nat_tests, length-encode c)

-- the code units of a text are those written and those of the rest
units_split : (src old new : List ℕ) (n k reach : ℕ) → IsUtf8 src → WritesUtf16 src old new n k reach → units_in src ≡ k + units_in (drop n src)
units_split src old new n k reach u p =
    let more = p.rest.0 in
    let all : encode_utf8_all (p.taken ++ more) ≡ src = encodes-append p.taken more ∙ (λ i. p.spelled i ++ p.rest.1.1 i) ∙ take-append-drop n src in
    let sum_over_suffixes : length (flat_map encode_utf16 (p.taken ++ more)) ≡ length (flat_map encode_utf16 p.taken) + length (flat_map encode_utf16 more) =
    ap length (flat_map-append encode_utf16 p.taken more) ∙ length-append (flat_map encode_utf16 p.taken) (flat_map encode_utf16 more) in
    omega (arith, units_of_part16 (p.taken ++ more) src u all, sum_over_suffixes, p.counted, units_of_part16 more (drop n src) p.rest p.rest.1.1)

-- the same characters written to another list
moved : {src old new old2 new2 : List ℕ} {n k reach reach2 : ℕ} → WritesUtf16 src old new n k reach
    → take k new2 ≡ take k new → drop reach2 new2 ≡ drop reach2 old2 → WritesUtf16 src old2 new2 n k reach2
moved p same following = record {
  taken = p.taken;
  are_scalars = p.are_scalars;
  within = p.within;
  spelled = p.spelled;
  rest = p.rest;
  counted = p.counted;
  placed = same ∙ p.placed;
  following = following;
}

reaches : (src old new : List ℕ) (n k reach most : ℕ) → reach ≤ most → WritesUtf16 src old new n k reach → WritesUtf16 src old new n k most
reaches src old new n k reach most l p =
    let e : reach + (most - reach) ≡ most = omega arith in
    let past = λ (xs : List ℕ). ap (λ m. drop m xs) (sym e) ∙ sym (drop-drop (most - reach) reach xs) in
    moved p refl (past new ∙ ap (drop (most - reach)) p.following ∙ sym (past old))

-- a third of the bytes left are still to be written, in units
pub due_block : (src old new : List ℕ) (n k reach : ℕ) → IsUtf8 src → reach ≤ k + (length src - n) / 3 → WritesUtf16 src old new n k reach
    → WritesUtf16 src old new n k (units_in src)
due_block src old new n k reach u l p =
    let more = p.rest in
    let left : length src - n ≤ 3 * units_in (drop n src) =
    omega (arith, units_of_part16 more.0 (drop n src) more more.1.1, units_third more.0 more.1.0, ap length more.1.1, length-drop n src) in
    reaches src old new n k reach (units_in src) (omega (arith, left, l, units_split src old new n k reach u p)) p

pub due_exact : (src old new : List ℕ) (n k : ℕ) → IsUtf8 src → WritesUtf16 src old new n k k → WritesUtf16 src old new n k (units_in src)
due_exact src old new n k u p = reaches src old new n k k (units_in src) (omega (arith, units_split src old new n k k u p)) p

-- an ASCII prefix
pub due_ascii : (src old new : List ℕ) (n : ℕ) → IsUtf8 src → n ≤ length src → IsAscii (take n src) → WritesPrefix old new n (take n src)
    → WritesUtf16 src old new n n (units_in src)
due_ascii src old new n u within ascii w = due_exact src old new n n u (puts_ascii src old new n u within ascii w)

-- ---- the progress of a loop
pub record Putting (src old new : List ℕ) (read written : ℕ) : Type 0 where
  pub done : List ℕ
  pub are_scalars : all_scalars done ≡ true
  pub within : read ≤ length src
  pub spelled : encode_utf8_all done ≡ take read src
  pub rest : IsUtf8 (drop read src)
  pub due : units_in src ≡ written + units_in (drop read src)
  pub shorter : written ≤ read
  pub counted : written ≡ length (flat_map encode_utf16 done)
  pub placed : take written new ≡ flat_map encode_utf16 done
  pub following : drop (units_in src) new ≡ drop (units_in src) old

pub putting_more : (src old new sub : List ℕ) (read written n k : ℕ) → written ≤ length new → Putting src old new read written
    → WritesUtf16 (drop read src) (take (length new - written) (drop written new)) sub n k (units_in (drop read src))
    → Putting src old (put_mid written (length new - written) new sub) (read + n) (written + k)
putting_more src old new sub read written n k room d p =
    let units = flat_map encode_utf16 d.done in
    let after = put_mid written (length new - written) new sub in
    let whole : take (length new - written) (drop written new) ≡ drop written new = take_rest new written in
    let none : drop (length new - written) (drop written new) ≡ [] =
    drop_all (length new - written) (drop written new) (omega (arith, length-drop written new)) in
    let is : after ≡ take written new ++ sub = ap (λ xs. take written new ++ (sub ++ xs)) none ∙ ap (λ xs. take written new ++ xs) (append-nil sub) in
    let size : length (take written new) ≡ written = length-take-le written new room in
    let added : flat_map encode_utf16 (d.done ++ p.taken) ≡ units ++ flat_map encode_utf16 p.taken = flat_map-append encode_utf16 d.done p.taken in
    let few : length (flat_map encode_utf16 p.taken) ≤ length (encode_utf8_all p.taken) = length-utf16 p.taken p.are_scalars in
    let due = units_in (drop read src) in
    let past = λ (m : ℕ). ap (λ j. drop (j + m) (take written new ++ sub)) (sym size) ∙ drop_past (take written new) sub m in
    record {
      done = d.done ++ p.taken;
      are_scalars = scalars-append d.done p.taken d.are_scalars p.are_scalars;
      within = let inside : read ≤ length src = d.within in omega (arith, inside, p.within, length-drop read src);
      spelled = encodes-append d.done p.taken ∙ (λ i. d.spelled i ++ p.spelled i) ∙ sym (take-add read n src);
      rest = subst IsUtf8 (drop-drop n read src) p.rest;
      due = omega (arith, d.due, units_split (drop read src) _ sub n k due d.rest p, ap units_in (drop-drop n read src));
      shorter = omega (arith, d.shorter, p.counted, few, ap length p.spelled, length-take n (drop read src));
      counted = omega (arith, d.counted, p.counted, ap length added, length-append units (flat_map encode_utf16 p.taken));
      placed = (λ i. take (written + k) (is i)) ∙ ap (λ j. take (j + k) (take written new ++ sub)) (sym size) ∙ take-append-add (take written new) sub k
          ∙ (λ i. d.placed i ++ p.placed i) ∙ sym added;
      following = (λ i. drop (d.due i) (is i)) ∙ past due ∙ p.following ∙ ap (drop due) whole ∙ drop-drop due written new
          ∙ (λ i. drop (sym d.due i) new) ∙ d.following;
    }
  where
    drop_past : (xs ys : List ℕ) (j : ℕ) → drop (length xs + j) (xs ++ ys) ≡ drop j ys
    drop_past xs ys j = sym (drop-drop j (length xs) (xs ++ ys)) ∙ ap (drop j) (drop_at xs ys (length xs) refl)

-- the first characters of a text
pub putting_first : (src old new : List ℕ) (n k : ℕ) → IsUtf8 src → WritesUtf16 src old new n k (units_in src) → Putting src old new n k
putting_first src old new n k u p = record {
  done = p.taken;
  are_scalars = p.are_scalars;
  within = p.within;
  spelled = p.spelled;
  rest = p.rest;
  due = units_split src old new n k (units_in src) u p;
  shorter = omega (arith, p.counted, length-utf16 p.taken p.are_scalars, ap length p.spelled, length-take n src);
  counted = p.counted;
  placed = p.placed;
  following = p.following;
}

-- the rest of the text fits after it
pub putting_fits : (src old new : List ℕ) (read written : ℕ) → length src ≤ length old → length new ≡ length old → Putting src old new read written
    → length (take (length src - read) (drop read src)) ≤ length (take (length new - written) (drop written new))
putting_fits src old new read written room same d = omega (
  arith,
  d.shorter,
  d.within,
  room,
  same,
  length-take (length src - read) (drop read src),
  length-drop read src,
  length-take (length new - written) (drop written new),
  length-drop written new,
)

-- the rest of the text is written after it
pub putting_rest : (src old new sub : List ℕ) (read written k : ℕ) → IsUtf8 src → length src ≤ length old → length new ≡ length old
    → Putting src old new read written
    → WritesPrefix (take (length new - written) (drop written new)) sub k (flat_map encode_utf16 (chars (drop read src)))
    → WritesPrefix old (put_mid written (length new - written) new sub) (written + k) (flat_map encode_utf16 (chars src))
putting_rest src old new sub read written k u room same d w =
    let left = d.rest.0 in
    let inside : read ≤ length src = d.within in
    let done : d.done ++ left ≡ chars src = chars_from_encodes (d.done ++ left) src u (encodes-append d.done left ∙ (λ i. d.spelled i ++ d.rest.1.1 i)
    ∙ take-append-drop read src) in
    let rest : left ≡ chars (drop read src) = chars_from_encodes left (drop read src) d.rest d.rest.1.1 in
    let units : flat_map encode_utf16 (chars src) ≡ flat_map encode_utf16 d.done ++ flat_map encode_utf16 (chars (drop read src)) =
    ap (flat_map encode_utf16) (sym done) ∙ flat_map-append encode_utf16 d.done left
    ∙ ap (λ cs. flat_map encode_utf16 d.done ++ flat_map encode_utf16 cs) rest in
    let sum_over_suffixes : units_in src ≡ written + k =
    omega (arith, d.due, w.count, units_of_part16 left (drop read src) d.rest d.rest.1.1, ap (λ cs. length (flat_map encode_utf16 cs)) rest) in
    let whole : take (length new - written) (drop written new) ≡ drop written new = take_rest new written in
    let none : drop (length new - written) (drop written new) ≡ [] =
    drop_all (length new - written) (drop written new) (omega (arith, length-drop written new)) in
    let is : put_mid written (length new - written) new sub ≡ take written new ++ sub = ap (λ xs. take written new ++ (sub ++ xs)) none
    ∙ ap (λ xs. take written new ++ xs) (append-nil sub) in
    let following : drop (written + k) new ≡ drop (written + k) old = ap (λ n. drop n new) (sym sum_over_suffixes) ∙ d.following
    ∙ ap (λ n. drop n old) sum_over_suffixes in
    let part : sub ≡ flat_map encode_utf16 (chars (drop read src)) ++ drop (written + k) old = w.placed
    ∙ ap (λ xs. flat_map encode_utf16 (chars (drop read src)) ++ drop k xs) whole
    ∙ ap (λ xs. flat_map encode_utf16 (chars (drop read src)) ++ xs) (drop-drop k written new ∙ following) in
    record {
      count = omega (arith, d.counted, w.count, ap length units, length-append (flat_map encode_utf16 d.done) (flat_map encode_utf16 (chars (drop read src))));
      fits = omega (arith, w.fits, ap length whole, length-drop written new, same, d.shorter, inside, room);
      placed = is ∙ (λ i. d.placed i ++ part i)
          ∙ sym (append_assoc (flat_map encode_utf16 d.done) (flat_map encode_utf16 (chars (drop read src))) (drop (written + k) old))
          ∙ ap (λ us. us ++ drop (written + k) old) (sym units);
    }

pub putting_all : (src old new : List ℕ) (read written : ℕ) → IsUtf8 src → length src ≤ length old → length src ≤ read → Putting src old new read written
    → WritesPrefix old new written (flat_map encode_utf16 (chars src))
putting_all src old new read written u room end d =
    let done : d.done ≡ chars src = chars_from_encodes d.done src u (d.spelled ∙ take_all read src end) in
    let units = flat_map encode_utf16 (chars src) in
    let same : flat_map encode_utf16 d.done ≡ units = ap (flat_map encode_utf16) done in
    let count : written ≡ length units = d.counted ∙ ap length same in
    let sum_over_suffixes : units_in src ≡ written = units_of_part16 d.done src u (d.spelled ∙ take_all read src end) ∙ sym d.counted in
    let inside : read ≤ length src = d.within in
    record {
      count = count;
      fits = omega (arith, d.shorter, inside, room);
      placed = sym (take-append-drop written new)
          ∙ (λ i. (d.placed ∙ same) i ++ (ap (λ n. drop n new) (sym sum_over_suffixes) ∙ d.following ∙ ap (λ n. drop n old) sum_over_suffixes) i);
    }

-- ---- where a loop stops
pub putting_some : {src old new : List ℕ} {read written : ℕ} → Putting src old new read written → WritesUtf16 src old new read written (units_in src)
putting_some d = record {
  taken = d.done;
  are_scalars = d.are_scalars;
  within = d.within;
  spelled = d.spelled;
  rest = d.rest;
  counted = d.counted;
  placed = d.placed;
  following = d.following;
}

-- the whole text
pub puts_text : (src old new : List ℕ) (k : ℕ) → IsUtf8 src → WritesPrefix old new k (flat_map encode_utf16 (chars src))
    → WritesUtf16 src old new (length src) k (units_in src)
puts_text src old new k u w =
    let units : flat_map encode_utf16 (chars src) ≡ flat_map encode_utf16 u.0 = ap (flat_map encode_utf16) (sym (chars_from_encodes u.0 src u u.1.1)) in
    let count : k ≡ length (flat_map encode_utf16 u.0) = w.count ∙ ap length units in
    due_exact src old new (length src) k u (record {
      taken = u.0;
      are_scalars = u.1.0;
      within = omega arith;
      spelled = u.1.1 ∙ sym (take_all (length src) src (omega arith));
      rest = subst IsUtf8 (sym (drop_all (length src) src (omega arith))) IsUtf8-nil;
      counted = count;
      placed = sym (written_is old new k _ w) ∙ units;
      following = ap (drop k) w.placed ∙ drop_at (flat_map encode_utf16 (chars src)) (drop k old) k (sym w.count);
    })

-- ---- the ASCII prefix of a text, by parts that are stored whole
-- after an ASCII prefix, `size` bytes of ASCII or three times as many of a text have at least `size` code units
part_due : (src : List ℕ) (n size : ℕ) → IsUtf8 src → n + size ≤ length src → BelowUpTo 0x80 src n → BelowUpTo 0x80 src (n + size) ⊎ (n + 3 * size ≤ length src)
    → n + size ≤ units_in src
part_due src n size u long low (inl more) =
    let p = puts_prefix src src src (n + size) (n + size) u long (Each-take (λ b. b < 0x80) (omega arith) src (n + size) more) refl refl in
    omega (arith, units_split src src src (n + size) (n + size) (n + size) u p)
part_due src n size u long low (inr left) =
    let p = puts_prefix src src src n n u (omega arith) (Each-take (λ b. b < 0x80) (omega arith) src n low) refl refl in
    let more = p.rest in
    omega (
      arith,
      units_split src src src n n n u p,
      units_of_part16 more.0
          (drop n src) more more.1.1,
      units_third more.0 more.1.0,
      ap length more.1.1,
      length-drop n src,
    )

pub record Unpacked (src old new : List ℕ) (at : ℕ) : Type 0 where
  pub within : at ≤ length src
  pub same : length new ≡ length old
  pub low : BelowUpTo 0x80 src at
  pub copied : take at new ≡ take at src
  pub following : drop (units_in src) new ≡ drop (units_in src) old

pub unpacked_none : (src old : List ℕ) → Unpacked src old old 0
unpacked_none src old = record { within = omega arith; same = refl; low = λ k l. absurd (omega arith); copied = refl; following = refl }

pub unpacked_part : (src old new after : List ℕ) (at n run : ℕ) → IsUtf8 src → at + n ≤ length src → (run ≡ n) ⊎ (at + 3 * n ≤ length src)
    → length src ≤ length old → Unpacked src old new at
    → IsRunBelow 0x80 src at n run → after ≡ take at new ++ (take n (drop at src) ++ drop (at + n) new) → Unpacked src old after (at + run)
unpacked_part src old new after at n run u long left room d r is =
    let part = take n (drop at src) in
    let done = take at src ++ part in
    let more : (k : ℕ) → k < at + run → slice_index src k < 0x80 = λ k l. elim (cases_lt k at) [ inl b ↦ d.low k b | inr b ↦ r.pass k b l ] in
    let due = part_due src at n u long d.low (elim left [ inl e ↦ inl (λ k l. more k (omega (arith, e))) | inr e ↦ inr e ]) in
    let size : length done ≡ at + n = omega (arith, length-append (take at src) part, length-take at src, length-take n (drop at src), length-drop at src) in
    let stored : after ≡ done ++ drop (at + n) new = is ∙ (λ i. d.copied i ++ (part ++ drop (at + n) new))
    ∙ sym (append_assoc (take at src) part (drop (at + n) new)) in
    let whole : take (at + n) after ≡ take (at + n) src = ap (take (at + n)) stored ∙ take_at done (drop (at + n) new) (at + n) size
    ∙ sym (take-add at n src) in
    let within : run ≤ n = r.within in
    let upto = λ (xs : List ℕ). sym (take-take (at + run) (at + n) xs (omega arith)) in
    let reach : at + n + (units_in src - (at + n)) ≡ units_in src = omega (arith, due) in
    let past = λ (xs : List ℕ). ap (λ m. drop m xs) (sym reach) ∙ sym (drop-drop (units_in src - (at + n)) (at + n) xs) in
    let kept : drop (at + n) after ≡ drop (at + n) new = ap (drop (at + n)) stored ∙ drop_at done (drop (at + n) new) (at + n) size in
    record {
      within = omega (arith, within);
      same = omega (arith, ap length stored, length-append done (drop (at + n) new), size, length-drop (at + n) new, d.same);
      low = more;
      copied = upto after ∙ ap (take (at + run)) whole ∙ sym (upto src);
      following = past after ∙ ap (drop (units_in src - (at + n))) kept ∙ sym (past new) ∙ d.following;
    }

pub unpacked_prefix : (src old new : List ℕ) (at : ℕ) → IsUtf8 src → Unpacked src old new at → WritesUtf16 src old new at at (units_in src)
unpacked_prefix src old new at u d = puts_prefix src old new at (units_in src) u d.within
    (Each-take (λ b. b < 0x80) (omega arith) src at d.low) d.copied d.following

pub putting_prefix : (src old new : List ℕ) (at : ℕ) → IsUtf8 src → Unpacked src old new at → Putting src old new at at
putting_prefix src old new at u d =
    let p = unpacked_prefix src old new at u d in
    record {
      done = p.taken;
      are_scalars = p.are_scalars;
      within = p.within;
      spelled = p.spelled;
      rest = p.rest;
      due = units_split src old new at at (units_in src) u p;
      shorter = omega arith;
      counted = p.counted;
      placed = p.placed;
      following = p.following;
    }

-- ---- the end of a text: a block of it, followed by zeros
-- zeros are a text
pub zeros_text : (n m : ℕ) → IsUtf8 (drop n (replicate m 0))
zeros_text zero zero = ([], (refl, refl))
zeros_text (suc n) zero = ([], (refl, refl))
zeros_text zero (suc m) = let text = zeros_text zero m in (0 ∷ text.0, (and_from _ _ refl text.1.0, λ i. one 0 (omega arith) i ++ text.1.1 i))
zeros_text (suc n) (suc m) = zeros_text n m

-- no more code units than bytes
puts_few : {src old new : List ℕ} {n k reach : ℕ} → WritesUtf16 src old new n k reach → k ≤ n
puts_few {src} {old} {new} {n} {k} {reach} p =
    omega (arith, p.counted, length-utf16 p.taken p.are_scalars, ap length p.spelled, length-take n src, p.within)

-- a whole text, at the start of a block
pub puts_whole : (src block old new : List ℕ) (n k : ℕ) → IsUtf8 src → take n block ≡ src → n ≤ length old → WritesUtf16 block old new n k k
    → WritesPrefix old new k (flat_map encode_utf16 (chars src))
puts_whole src block old new n k u prefix room p =
    let units : flat_map encode_utf16 p.taken ≡ flat_map encode_utf16 (chars src) =
    ap (flat_map encode_utf16) (chars_from_encodes p.taken src u (p.spelled ∙ prefix)) in
    record {
      count = p.counted ∙ ap length units;
      fits = omega (arith, puts_few p, room);
      placed = sym (take-append-drop k new) ∙ (λ i. (p.placed ∙ units) i ++ p.following i);
    }
