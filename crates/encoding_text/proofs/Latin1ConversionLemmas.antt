-- Conversions from and to Latin1: the longest fitting prefix of bytes, and the bits of characters.
use Rattle.std.proofs.Common.{◌≡◌, ℕ, zero, suc, ◌+◌, ◌-◌, ◌*◌, ◌/◌, ◌%◌, ◌<◌, ◌≤◌, ◌⊎◌, inl, inr, List, [], ◌∷◌, ◌++◌, length, take, drop, take-add}
use Rattle.std.proofs.Common.{append_assoc, set, slice_index, map, bit_and, bit_or, encode_utf8, encode_utf8_all, IsUtf8, refl, sym, ap, ◌∙◌, arith, subst}
use Rattle.std.specs.List.{flat_map}
use Rattle.std.specs.Str.{chars, IsAscii}
use Rattle.std.proofs.str.Laws.{two}
use Rattle.std.proofs.lemmas.Bool.{cases_lt}
use Rattle.std.proofs.lemmas.Grind.{common_steps}
use Rattle.std.proofs.lemmas.List.{append-nil, length-append, length-map, length-drop, length-take, length-take-le, get_or-drop, get_or-take}
use Rattle.std.proofs.lemmas.List.{get_or_past, drop-drop, take_all, take_at, take_more, take_rest, drop_more, take-append-drop, map_more, map-append}
use Rattle.std.proofs.lemmas.Str.{encodes-append, encodes-IsAscii, chars-IsAscii, chars-append, IsUtf8-from_ascii}
use Rattle.std.proofs.Math.Seq.{drop-append_seam, take-append_seam}
use borrow.Rule.Slice.PartMut.{put_mid}
use Rattle.encoding_kernels.proofs.Latin1ToUtf8Lemmas.{twice}
use Rattle.encoding_definitions.proofs.EncodingLemmas.{flat_map-encode_utf8}
use Rattle.encoding_definitions.specs.Prefixes.{IsLongestFittingPrefix, WritesPrefix}
use Rattle.encoding_definitions.specs.Latin1.{IsLatin1, IsUtf8Latin1}
use Rattle.encoding_kernels.specs.KeptBytes.{all_latin1_ended}
use Rattle.encoding_kernels.specs.Scans.{BelowUpTo}
use Rattle.std.specs.Simd.Lanes.{chunk}
use Rattle.encoding_kernels.proofs.Latin1FromUtf8Lemmas.{GoesOnWith, NextIs, Splits, apart_chunk, nexts, splits, ended_without}
use Rattle.encoding_kernels.proofs.ScanLemmas.{Each-take, Each-at, WritesPrefix_copy}
use Rattle.encoding_kernels.proofs.OverwriteLemmas.{ascii_left, written_left}
use Rattle.encoding_definitions.proofs.PrefixesLemmas.{IsLongestFittingPrefix-stop, IsLongestFittingPrefix-all, WritesPrefix-length, WritesPrefix_again}
use Rattle.encoding_definitions.proofs.PrefixesLemmas.{WritesPrefix_push, WritesPrefix_push_two, WritesPrefix_after, WritesPrefix_put, WritesPrefix-same}
use Rattle.encoding_text.proofs.WholePrefixesLemmas.{other_after}
use Rattle.encoding_definitions.proofs.Latin1Lemmas.{IsLatin1-following, next_of_one, next_of_two, split_prefix, scalars_of_latin1}

-- ---- what a destination has at its start
pub had_prefix : (old out : List ℕ) (n : ℕ) → n ≤ length old → take n old ≡ out → WritesPrefix old old n out
had_prefix old out n l e = record {
  count = sym (length-take-le n old l) ∙ ap length e;
  fits = l;
  placed = sym (take-append-drop n old) ∙ ap (λ xs. xs ++ drop n old) e;
}

pub prefix_had : {old new out : List ℕ} {n : ℕ} → WritesPrefix old new n out → (n ≤ length new) × (take n new ≡ out)
prefix_had {old} {new} {out} {n} w =
    (omega (arith, w.fits, WritesPrefix-length old new n out w), ap (take n) w.placed ∙ take_at out (drop n old) n (sym w.count))

-- a prefix of bytes below U+0080 is ASCII
pub ascii_taken : (src : List ℕ) (n : ℕ) → BelowUpTo 0x80 src n → IsAscii (take n src)
ascii_taken src n below = Each-take (λ b. b < 0x80) (omega arith) src n below

-- a copied ASCII prefix is its own UTF-8
pub ascii_spelled : (src old new : List ℕ) (n : ℕ) → BelowUpTo 0x80 src n → WritesPrefix old new n (take n src)
    → WritesPrefix old new n (encode_utf8_all (take n src))
ascii_spelled src old new n below w =
    WritesPrefix-same _ _ _ _ _ _ w refl (sym (encodes-IsAscii (take n src) (ascii_taken src n below)))

-- ---- fitting
singles : (xs : List ℕ) → length (flat_map (λ (b : ℕ). b ∷ []) xs) ≡ length xs
singles [] = refl
singles (x ∷ xs) = omega (arith, singles xs)

-- the bytes from i on don't fit
pub latin1_fits_stop : (xs : List ℕ) (i room : ℕ) → i < length xs → length (encode_utf8_all (take i xs)) ≤ room
    → room < length (encode_utf8_all (take i xs)) + length (encode_utf8 (slice_index xs i))
    → IsLongestFittingPrefix (λ b. b ∷ []) encode_utf8 xs room i (encode_utf8_all (take i xs))
latin1_fits_stop xs i room l h s =
    let done = take i xs in
    let b = slice_index xs i in
    let whole : done ++ b ∷ drop (i + 1) xs ≡ xs = ap (λ ys. done ++ ys) (sym (drop_more xs i 0 l)) ∙ take-append-drop i xs in
    let out = flat_map-encode_utf8 done in
    let read : length (flat_map (λ (x : ℕ). x ∷ []) done) ≡ i = singles done ∙ length-take-le i xs (omega arith) in
    let stop = IsLongestFittingPrefix-stop (λ (x : ℕ). x ∷ []) encode_utf8 done b (drop (i + 1) xs) room (rw out h) (rw out s) in
    rw (whole, read, out) at stop

-- they all fit
pub latin1_fits_all : (xs : List ℕ) (i room : ℕ) → i ≤ length xs → length xs ≤ i → length (encode_utf8_all (take i xs)) ≤ room
    → IsLongestFittingPrefix (λ b. b ∷ []) encode_utf8 xs room i (encode_utf8_all (take i xs))
latin1_fits_all xs i room l m h =
    let all : take i xs ≡ xs = take_all i xs m in
    let n : i ≡ length xs = omega arith in
    let fits = IsLongestFittingPrefix-all (λ (x : ℕ). x ∷ []) encode_utf8 xs room (rw (flat_map-encode_utf8 xs) (rw all at h)) in
    rw (all, n) (rw (singles xs, flat_map-encode_utf8 xs) at fits)

-- all of them are written
pub latin1_fits_written : (old new xs : List ℕ) (n : ℕ) → WritesPrefix old new n (encode_utf8_all xs)
    → IsLongestFittingPrefix (λ b. b ∷ []) encode_utf8 xs (length old) (length xs) (encode_utf8_all (take (length xs) xs))
latin1_fits_written old new xs n w =
    let all : take (length xs) xs ≡ xs = take_all (length xs) xs (omega arith) in
    latin1_fits_all xs (length xs) (length old) (omega arith) (omega arith) (omega (arith, w.count, w.fits, ap (λ ys. length (encode_utf8_all ys)) all))

-- the UTF-8 of the first bytes of a block begins with that of these bytes
pub least_spelled : (xs block rest text : List ℕ) (n count : ℕ) → take n block ≡ xs → count ≡ length (encode_utf8_all (take n block))
    → text ≡ encode_utf8_all block ++ rest → take count text ≡ encode_utf8_all xs
least_spelled xs block rest text n count is counted had =
    let early = encode_utf8_all (take n block) in
    let late = encode_utf8_all (drop n block) in
    let whole : encode_utf8_all block ≡ early ++ late = ap encode_utf8_all (sym (take-append-drop n block)) ∙ encodes-append (take n block) (drop n block) in
    let split : text ≡ early ++ (late ++ rest) = had ∙ ap (λ ys. ys ++ rest) whole ∙ append_assoc early late rest in
    ap (take count) split ∙ take_at early (late ++ rest) count (sym counted) ∙ ap encode_utf8_all is

-- ---- one more byte as a character
pub latin1_more : (xs : List ℕ) (i : ℕ) → i < length xs → encode_utf8_all (take (i + 1) xs) ≡ encode_utf8_all (take i xs) ++ encode_utf8 (slice_index xs i)
latin1_more xs i h = rw (take_more xs i 0 h, encodes-append, append-nil) refl

pub latin1_bytes_two : (c : ℕ) → 128 ≤ c → c < 256 → encode_utf8 c ≡ bit_or 0xC0 (c / 64) ∷ bit_or 0x80 (bit_and c 0x3F) ∷ []
latin1_bytes_two c l h =
    let lead : bit_or 0xC0 (c / 64) ≡ 192 + c / 64 = grind (arith, common_steps) in
    let last : bit_or 0x80 (bit_and c 0x3F) ≡ 128 + c % 64 = grind (arith, common_steps) in
    two c l (omega arith) ∙ rw (lead, last) refl

-- with two bytes of space for each byte the longest prefix that fits is all
pub latin1_fits_twice : (xs : List ℕ) (room read : ℕ) (out : List ℕ) → ((i : ℕ) → slice_index xs i < 256) → 2 * length xs ≤ room
    → IsLongestFittingPrefix (λ b. b ∷ []) encode_utf8 xs room read out → out ≡ encode_utf8_all xs
latin1_fits_twice xs room read out h l f =
    let all : take (length xs) xs ≡ xs = take_all (length xs) xs (omega arith) in
    let whole : f.count ≡ length xs = elim (cases_lt f.count (length xs)) [
      | inl p ↦
          absurd
          (omega (
            arith,
            f.longest p,
            ap length (flat_map-encode_utf8 (take (f.count + 1) xs)),
            twice (take (f.count + 1) xs)
                (Each-take (λ b. b < 256) (omega arith) xs (f.count + 1) (λ k _. h k)),
            length-take-le (f.count + 1) xs (omega arith),
          ))
      | inr p ↦ omega (arith, f.within)
    ] in
    f.written ∙ flat_map-encode_utf8 (take f.count xs) ∙ ap (λ n. encode_utf8_all (take n xs)) whole ∙ ap encode_utf8_all all

-- ---- one more character as a byte
low_six : (b : ℕ) → bit_and b 63 ≡ b % 64
low_six b = grind (arith, common_steps)

or_low : (n : ℕ) → n < 64 → bit_or 128 n ≡ 128 + n
or_low n l = grind (arith, common_steps)

or_high : (n : ℕ) → n < 64 → bit_or 192 n ≡ 192 + n
or_high n l = grind (arith, common_steps)

-- the scalar value's two bits in the first byte, and its six in the second
character_of_two : (a b c : ℕ) → 128 ≤ c → c < 256 → a ≡ 192 + c / 64 → b ≡ 128 + c % 64 → bit_or (a * 64 % 256) (bit_and b 63) ≡ c
character_of_two a b c l h e f =
    let six : bit_and b 63 ≡ c % 64 = omega (arith, low_six b) in
    elim (cases_lt c 192) [
      | inl p ↦ let first : a * 64 % 256 ≡ 128 = omega arith in rw (first, six) (omega (arith, or_low (c % 64) (omega arith)))
      | inr p ↦ let first : a * 64 % 256 ≡ 192 = omega arith in rw (first, six) (omega (arith, or_high (c % 64) (omega arith)))
    ]

pub WritesPrefix_low : (old new xs : List ℕ) (n b : ℕ) → WritesPrefix old new n (map (λ (unit : ℕ). unit % 0x100) (take n xs)) → n < length xs → n < length new
    → b ≡ slice_index xs n % 0x100
    → WritesPrefix old (set new n b) (n + 1) (map (λ (unit : ℕ). unit % 0x100) (take (n + 1) xs))
WritesPrefix_low old new xs n b w l m e = rw (map_more (λ (unit : ℕ). unit % 0x100) xs n 0 l, sym e) (WritesPrefix_push old new n _ b w m)

-- m more units at once
pub WritesPrefix_low_block : (old new after xs : List ℕ) (n m : ℕ) → WritesPrefix old new n (map (λ (unit : ℕ). unit % 0x100) (take n xs)) → n + m ≤ length xs
    → n + m ≤ length new
    → after ≡ take n new ++ (map (λ (unit : ℕ). unit % 0x100) (take m (drop n xs)) ++ drop (n + m) new)
    → WritesPrefix old after (n + m) (map (λ (unit : ℕ). unit % 0x100) (take (n + m) xs))
WritesPrefix_low_block old new after xs n m w l k put =
    let low : ℕ → ℕ = λ unit. unit % 0x100 in
    let short : length (map low (take m (drop n xs))) ≡ m = length-map (take m (drop n xs)) low
    ∙ length-take-le m (drop n xs) (omega (arith, length-drop n xs)) in
    rw (take-add n m xs, map-append low (take n xs) (take m (drop n xs)))
    (WritesPrefix_put old new after n m (map low (take n xs)) (map low (take m (drop n xs))) w (sym short) k put)

-- ---- after an ASCII prefix, which is its own UTF-8
pub ascii_utf8_prefix : (bs : List ℕ) (n : ℕ) → IsAscii (take n bs) → take n bs ++ encode_utf8_all (take (length bs - n) (drop n bs)) ≡ encode_utf8_all bs
ascii_utf8_prefix bs n h =
    let rest : encode_utf8_all (take (length bs - n) (drop n bs)) ≡ encode_utf8_all (drop n bs) = ap encode_utf8_all (take_rest bs n) in
    let prefix : encode_utf8_all (take n bs) ≡ take n bs = encodes-IsAscii (take n bs) h in
    let whole = encodes-append (take n bs) (drop n bs) in
    rw rest (ap (λ xs. xs ++ encode_utf8_all (drop n bs)) (sym prefix) ∙ sym whole ∙ ap encode_utf8_all (take-append-drop n bs))

pub ascii_latin1_rest : (bs : List ℕ) (n : ℕ) → IsAscii (take n bs) → IsUtf8Latin1 bs → IsUtf8Latin1 (take (length bs - n) (drop n bs))
ascii_latin1_rest bs n h u =
    let prefix : encode_utf8_all (take n bs) ≡ take n bs = encodes-IsAscii (take n bs) h in
    let parts = split_prefix (take n bs) u.0 (drop n bs) (u.2 ∙ sym (take-append-drop n bs) ∙ ap (λ xs. xs ++ drop n bs) (sym prefix)) in
    let low : IsLatin1 (take n bs ++ parts.0) = subst IsLatin1 parts.1 u.1 in
    rw (take_rest bs n) (parts.0, IsLatin1-following (take n bs) parts.0 low, parts.2)

pub ascii_chars_prefix : (bs : List ℕ) (n : ℕ) → IsAscii (take n bs) → take n bs ++ chars (take (length bs - n) (drop n bs)) ≡ chars bs
ascii_chars_prefix bs n h =
    let rest : chars (take (length bs - n) (drop n bs)) ≡ chars (drop n bs) = ap chars (take_rest bs n) in
    let prefix : chars (take n bs) ≡ take n bs = chars-IsAscii (take n bs) h in
    let whole = chars-append (take n bs) (drop n bs) (IsUtf8-from_ascii (take n bs) h) in
    rw rest (ap (λ xs. xs ++ chars (drop n bs)) (sym prefix) ∙ sym whole ∙ ap chars (take-append-drop n bs))

-- a prefix was copied, and a call wrote after it
pub written_after : (bs old prefix sub : List ℕ) (n m : ℕ) (more : List ℕ) → n ≤ length bs → n ≤ length old → prefix ≡ take n bs
    → WritesPrefix (take (length (prefix ++ drop n old) - n) (drop n (prefix ++ drop n old))) sub m more
    → WritesPrefix old (put_mid n (length (prefix ++ drop n old) - n) (prefix ++ drop n old) sub) (n + m) (take n bs ++ more)
written_after bs old prefix sub n m more l k e w =
    let copied : WritesPrefix old (prefix ++ drop n old) n (take n bs) =
    record { count = sym (length-take-le n bs l); fits = k; placed = ap (λ xs. xs ++ drop n old) e } in
    WritesPrefix_after old (prefix ++ drop n old) n (take n bs) sub m more copied w

-- bytes as characters are well-formed
pub IsUtf8-bytes : (xs : List ℕ) → ((i : ℕ) → slice_index xs i < 256) → IsUtf8 (encode_utf8_all xs)
IsUtf8-bytes xs h = (xs, (scalars_of_latin1 xs (λ i. omega (arith, h i)), refl))

-- ---- ASCII within Latin1 text
-- each of the next n bytes is ASCII, and a character
pub ascii_run : (src cs : List ℕ) (i j n : ℕ) → IsLatin1 cs → drop i src ≡ encode_utf8_all (drop j cs) → j ≤ length cs → i + n ≤ length src
    → ((k : ℕ) → k < n → slice_index src (i + k) < 0x80)
    → (j + n ≤ length cs) × (take n (drop i src) ≡ take n (drop j cs)) × (drop (i + n) src ≡ encode_utf8_all (drop (j + n) cs))
ascii_run src cs i j zero low rest within room ascii =
    let at : i + 0 ≡ i = omega arith in
    let to : j + 0 ≡ j = omega arith in
    (omega arith, refl, ap (λ k. drop k src) at ∙ rest ∙ ap (λ k. encode_utf8_all (drop k cs)) (sym to))
ascii_run src cs i j (suc n) low rest within room ascii =
    let before = ascii_run src cs i j n low rest within (omega arith) (λ k l. ascii k (omega arith)) in
    let next = next_of_one src cs (i + n) (j + n) low before.2 (omega arith) (ascii n (omega arith)) in
    let at : i + n + 1 ≡ i + suc n = omega arith in
    let to : j + n + 1 ≡ j + suc n = omega arith in
    let one : n + 1 ≡ suc n = omega arith in
    let bytes : take (n + 1) (drop i src) ≡ take (n + 1) (drop j cs) =
    take_more (drop i src) n 0 (omega (arith, length-drop i src)) ∙ (λ k. before.1 k ++ (get_or-drop i src n 0 ∙ next.1 ∙ sym (get_or-drop j cs n 0)) k ∷ [])
    ∙ sym (take_more (drop j cs) n 0 (omega (arith, next.0, length-drop j cs))) in (
      omega (arith, next.0),
      subst (λ m. take m (drop i src) ≡ take m (drop j cs)) one bytes,
      ap (λ k. drop k src) (sym at) ∙ next.2
          ∙ ap (λ k. encode_utf8_all (drop k cs)) to,
    )

-- an ASCII prefix of the whole, which the destination has
pub ascii_start : (src cs old : List ℕ) (n : ℕ) → IsLatin1 cs → encode_utf8_all cs ≡ src → n ≤ length src → IsAscii (take n src) → take n old ≡ take n src
    → length cs ≤ length old
    → (drop n src ≡ encode_utf8_all (drop n cs)) × WritesPrefix old old n (take n cs)
ascii_start src cs old n low text within ascii copied room =
    let run = ascii_run src cs 0 0 n low (sym text) (omega arith) (omega arith) (λ k l.
    let place : 0 + k ≡ k = omega arith in omega (arith, ap (slice_index src) place, Each-at (λ b. b < 0x80) (omega arith) src n k l ascii)) in
    let start : 0 + n ≡ n = omega arith in (
      subst (λ m. drop m src ≡ encode_utf8_all (drop m cs)) start run.2,
      record {
        count = sym (length-take-le n cs (omega (arith, run.0)));
        fits = omega (arith, run.0);
        placed = sym (take-append-drop n old) ∙ ap (λ xs. xs ++ drop n old) (copied ∙ run.1);
      },
    )

-- if a byte is left, a character is
character_left : (src cs : List ℕ) (i j : ℕ) → IsLatin1 cs → drop i src ≡ encode_utf8_all (drop j cs) → i < length src → j < length cs
character_left src cs i j low rest l = elim (cases_lt (slice_index src i) 128) [
  | inl p ↦ (next_of_one src cs i j low rest l p).0
  | inr p ↦ (next_of_two src cs i j low rest l p).0
]

-- an ASCII prefix of what is left was copied after the characters before it
module _ (src cs old new sub : List ℕ) (i j n : ℕ) (low : IsLatin1 cs) (rest : drop i src ≡ encode_utf8_all (drop j cs))
    (w : WritesPrefix old new j (take j cs))
    (within : n ≤ length (take (length src - i) (drop i src))) (ascii : IsAscii (take n (take (length src - i) (drop i src))))
    (v : WritesPrefix (take (length new - j) (drop j new)) sub n (take n (take (length src - i) (drop i src)))) (h : i ≤ length src) where
  pub ascii_on : (drop (i + n) src ≡ encode_utf8_all (drop (j + n) cs)) × WritesPrefix old (put_mid j (length new - j) new sub) (j + n) (take (j + n) cs)
  ascii_on =
      let counted : j ≤ length cs = omega (arith, w.count, length-take j cs) in
      let part = ascii_run src cs i j n low rest counted (omega (arith, within, ap length (take_rest src i), length-drop i src))
      (λ k l. omega (
        arith,
        get_or-drop i src k 0,
        ap (λ xs. slice_index xs k) (take_rest src i),
        Each-at (λ b. b < 0x80) (omega arith)
            (take (length src - i) (drop i src)) n k l ascii,
      )) in
      let text = ap (λ xs. take j cs ++ take n xs) (take_rest src i) ∙ ap (λ xs. take j cs ++ xs) part.1 ∙ sym (take-add j n cs) in
      (part.2, WritesPrefix-same _ _ _ _ _ _ (WritesPrefix_after old new j (take j cs) sub n _ w v) refl text)

  -- if room is left for all characters, the next one has two bytes
  pub two_after : i + n < length src → length cs ≤ length old
      → (n < length (take (length src - i) (drop i src)) → n < length (take (length new - j) (drop j new))
      → 0x80 ≤ slice_index (take (length src - i) (drop i src)) n)
      → (j + n < length cs) × (i + n + 1 < length src) × (0x80 ≤ slice_index cs (j + n)) × (slice_index src (i + n) ≡ 192 + slice_index cs (j + n) / 64)
      × (slice_index src (i + n + 1) ≡ 128 + slice_index cs (j + n) % 64) × (drop (i + n + 2) src ≡ encode_utf8_all (drop (j + n + 1) cs))
  two_after l room stops =
      let left = character_left src cs (i + n) (j + n) low ascii_on.0 l in
      next_of_two src cs (i + n) (j + n) low ascii_on.0 l
      (other_after src new i j n l (omega (arith, left, room, WritesPrefix-length old new j (take j cs) w)) stops)

  -- and is written as one byte
  pub character_on : i + n < length src → length cs ≤ length old
      → (n < length (take (length src - i) (drop i src)) → n < length (take (length new - j) (drop j new))
      → 0x80 ≤ slice_index (take (length src - i) (drop i src)) n)
      → WritesPrefix old
      (set (put_mid j (length new - j) new sub) (j + n) (bit_or (slice_index src (i + n) * 64 % 256) (bit_and (slice_index src (i + n + 1)) 63))) (j + n + 1)
      (take (j + n + 1) cs)
  character_on l room stops =
      let two = two_after l room stops in
      let byte = character_of_two (slice_index src (i + n)) (slice_index src (i + n + 1)) (slice_index cs (j + n)) two.2 (omega (arith, low (j + n))) two.3
      two.4 in
      WritesPrefix_copy _ _ cs (j + n) _ ascii_on.1 two.0 (omega (arith, two.0, room, WritesPrefix-length _ _ _ _ ascii_on.1)) byte

-- ---- blocks of Latin1 text
-- no two bytes in a row start a character of two bytes
pub apart : (bs : List ℕ) → 16 ≤ length bs → ((k : ℕ) → NextIs (slice_index bs k) (slice_index bs (suc k)))
    → (k : ℕ) → (slice_index (take 16 bs) k < 0xC0) ⊎ (slice_index (take 16 bs) (k + 1) < 0xC0)
apart bs room next k = elim (cases_lt k 15) [
  | inr h ↦ inr (omega (arith, get_or_past (take 16 bs) (k + 1) 0 (omega (arith, length-take-le 16 bs room))))
  | inl h ↦
      let here : slice_index (take 16 bs) k ≡ slice_index bs k = get_or-take 16 bs k 0 (omega arith) in
      let one : k + 1 ≡ suc k = omega arith in
      let there : slice_index (take 16 bs) (k + 1) ≡ slice_index bs (suc k) = get_or-take 16 bs (k + 1) 0 (omega arith) ∙ ap (slice_index bs) one in
      elim (cases_lt (slice_index (take 16 bs) k) 0xC0) [
        | inl l ↦ inl l
        | inr l ↦ let last = (next k).after_first (omega arith) in inr (omega (arith, there, last.1))
      ]
]

-- the same in what is left
pub left_apart : (src cs : List ℕ) (i j : ℕ) → IsLatin1 cs → drop i src ≡ encode_utf8_all (drop j cs) → (k : ℕ)
    → (slice_index src (i + k) < 0xC0) ⊎ (slice_index src (i + k + 1) < 0xC0)
left_apart src cs i j low rest k =
    let following : IsLatin1 (drop j cs) = λ n. let same = get_or-drop j cs n 0 in omega (arith, same, low (j + n)) in
    let next : NextIs (slice_index (drop i src) k) (slice_index (drop i src) (suc k)) =
    subst (λ bs. NextIs (slice_index bs k) (slice_index bs (suc k))) (sym rest) (nexts (drop j cs) following k) in
    let place : i + suc k ≡ i + k + 1 = omega arith in
    let there = get_or-drop i src (suc k) 0 ∙ ap (slice_index src) place in
    elim (cases_lt (slice_index src (i + k)) 0xC0) [
      | inl l ↦ inl l
      | inr l ↦ let last = next.after_first (omega (arith, get_or-drop i src k 0)) in inr (omega (arith, there, last.1))
    ]

pub begins_apart : (src cs : List ℕ) (i j : ℕ) → IsLatin1 cs → drop i src ≡ encode_utf8_all (drop j cs) → i + 16 ≤ length src
    → (k : ℕ) → (slice_index (chunk i 16 src) k < 0xC0) ⊎ (slice_index (chunk i 16 src) (k + 1) < 0xC0)
begins_apart src cs i j low rest room = apart_chunk src i 16 room (left_apart src cs i j low rest)

module _ (p : ℕ) (src cs old new after : List ℕ) (i j m k : ℕ) (low : IsLatin1 cs) (rest : drop i src ≡ encode_utf8_all (drop j cs))
    (w : WritesPrefix old new j (take j cs)) (out : List ℕ)
    (ends : out ≡ all_latin1_ended 0 (chunk i (suc p) src)) (many : m ≡ length out) (room : j + m ≤ length new)
    (put : after ≡ take j new ++ (out ++ drop (j + m) new)) (inside : i + suc p ≤ length src)
    (whole : ((k ≡ p) × (0xC0 ≤ slice_index src (i + p))) ⊎ ((k ≡ suc p) × (slice_index src (i + p) < 0xC0))) where
  after_low : IsLatin1 (drop j cs)
  after_low n = let same = get_or-drop j cs n 0 in omega (arith, same, low (j + n))

  last_is : slice_index (encode_utf8_all (drop j cs)) p ≡ slice_index src (i + p)
  last_is = ap (λ bs. slice_index bs p) (sym rest) ∙ get_or-drop i src p 0

  between : GoesOnWith (slice_index (encode_utf8_all (drop j cs)) k) → ⊥
  between g = elim whole [
    | inl h ↦ let cut : GoesOnWith (slice_index (encode_utf8_all (drop j cs)) p) =
        subst (λ n. GoesOnWith (slice_index (encode_utf8_all (drop j cs)) n)) h.0 g in omega (arith, last_is, cut.1, h.1)
    | inr h ↦ let next : GoesOnWith (slice_index (encode_utf8_all (drop j cs)) (suc p)) =
        subst (λ n. GoesOnWith (slice_index (encode_utf8_all (drop j cs)) n)) h.0 g in
        (nexts (drop j cs) after_low p).after_last (omega (arith, last_is, h.1)) next
  ]

  ended_whole : all_latin1_ended 0 (take (suc p) (drop i src)) ≡ all_latin1_ended 0 (take k (drop i src))
  ended_whole = elim whole [
    | inl h ↦
        let one : suc p ≡ p + 1 = omega arith in
        let cut : take (suc p) (drop i src) ≡ take p (drop i src) ++ slice_index (drop i src) p ∷ [] =
        ap (λ n. take n (drop i src)) one ∙ take_more (drop i src) p 0 (omega (arith, length-drop i src)) in
        ap (all_latin1_ended 0) cut ∙ ended_without (take p (drop i src)) 0 (slice_index (drop i src) p) (omega (arith, get_or-drop i src p 0, h.1))
        ∙ ap (λ n. all_latin1_ended 0 (take n (drop i src))) (sym h.0)
    | inr h ↦ ap (λ n. all_latin1_ended 0 (take n (drop i src))) (sym h.0)
  ]

  parts : (drop k (drop i src) ≡ encode_utf8_all (drop (length (all_latin1_ended 0 (take k (drop i src)))) (drop j cs)))
      × (take (length (all_latin1_ended 0 (take k (drop i src)))) (drop j cs) ≡ all_latin1_ended 0 (take k (drop i src)))
  parts = subst (Splits (drop j cs) 0 k) (sym rest) (splits (drop j cs) after_low 0 k between)

  counted : length (all_latin1_ended 0 (take k (drop i src))) ≡ m
  counted = ap length (sym ended_whole ∙ sym ends) ∙ sym many

  pub block_on : (drop (i + k) src ≡ encode_utf8_all (drop (j + m) cs)) × WritesPrefix old after (j + m) (take (j + m) cs)
  block_on =
      let part : out ≡ take m (drop j cs) = ends ∙ ended_whole ∙ sym parts.1 ∙ ap (λ n. take n (drop j cs)) counted in (
        sym (drop-drop k i src) ∙ parts.0 ∙ ap (λ n. encode_utf8_all (drop n (drop j cs))) counted ∙ ap encode_utf8_all (drop-drop m j cs),
        WritesPrefix-same _ _ _ _ _ _ (WritesPrefix_put old new after j m (take j cs) out w many room put) refl
            (ap (λ xs. take j cs ++ xs) part ∙ sym (take-add j m cs)),
      )

-- ---- the last bytes as one block, whose first ones are written again
pub last_block : (src : List ℕ) (last : ℕ) → last + 16 ≡ length src → chunk last 16 src ≡ drop last src
last_block src last long = take_all 16 (drop last src) (omega (arith, length-drop last src))

module _ (src : List ℕ) (read last : ℕ) (long : last + 16 ≡ length src) (first : last ≤ read) where
  -- the bytes before the block, and those of it that were written
  again_cut : encode_utf8_all (take read src) ≡ encode_utf8_all (take last src) ++ encode_utf8_all (take (read - last) (chunk last 16 src))
  again_cut =
      let sum : last + (read - last) ≡ read = omega arith in
      ap (λ n. encode_utf8_all (take n src)) (sym sum) ∙ ap encode_utf8_all (take-add last (read - last) src)
      ∙ encodes-append (take last src) (take (read - last) (drop last src))
      ∙ ap (λ xs. encode_utf8_all (take last src) ++ encode_utf8_all (take (read - last) xs)) (sym (last_block src last long))

  pub again_counted : length (encode_utf8_all (take read src)) ≡ length (encode_utf8_all (take last src)) + length
      (encode_utf8_all (take (read - last) (chunk last 16 src)))
  again_counted = ap length again_cut ∙ length-append (encode_utf8_all (take last src)) (encode_utf8_all (take (read - last) (chunk last 16 src)))

  pub latin1_again : (old new after : List ℕ) (written at m : ℕ) → WritesPrefix old new written (encode_utf8_all (take read src))
      → at ≡ length (encode_utf8_all (take last src)) → m ≡ length (encode_utf8_all (chunk last 16 src))
      → at + m ≤ length new → after ≡ take at new ++ (encode_utf8_all (chunk last 16 src) ++ drop (at + m) new)
      → WritesPrefix old after (at + m) (encode_utf8_all src)
  latin1_again old new after written at m w before count room put =
      let out = encode_utf8_all src in
      let block = encode_utf8_all (chunk last 16 src) in
      let spelled : (n : ℕ) → encode_utf8_all (take n src) ++ encode_utf8_all (drop n src) ≡ out = λ n. sym (encodes-append (take n src) (drop n src))
      ∙ ap encode_utf8_all (take-append-drop n src) in
      let rest : drop at out ≡ block = ap (λ n. drop n out) before ∙ ap (drop (length (encode_utf8_all (take last src)))) (sym (spelled last))
      ∙ drop-append_seam (encode_utf8_all (take last src)) _ ∙ ap encode_utf8_all (sym (last_block src last long)) in
      let size : length out ≡ at + m =
      omega (
        arith,
        ap length (spelled last),
        length-append (encode_utf8_all (take last src)) (encode_utf8_all (drop last src)),
        ap
            (λ xs. length (encode_utf8_all xs)) (last_block src last long),
      ) in
      let prefix : encode_utf8_all (take read src) ≡ take written out =
      sym (ap (λ n. take n out) w.count ∙ ap (take (length (encode_utf8_all (take read src)))) (sym (spelled read))
      ∙ take-append_seam (encode_utf8_all (take read src)) _) in
      let again = WritesPrefix_again old new after out written at m (WritesPrefix-same _ _ _ _ _ _ w refl prefix) (omega (arith, w.count, again_counted))
      (omega (arith, size, w.count, ap length prefix, length-take written out)) (omega (arith, size)) room
      (put ∙ ap (λ xs. take at new ++ (xs ++ drop (at + m) new)) (sym (ap (take m) rest ∙ take_all m block (omega arith)))) in
      WritesPrefix-same _ _ _ _ _ _ again refl (take_all (at + m) out (omega (arith, size)))

-- ---- a turn: an ASCII prefix of what is left, a character of two bytes, and blocks
module _ (xs : List ℕ) (small : (i : ℕ) → slice_index xs i < 256) (at to n : ℕ) (old new sub : List ℕ)
    (w : WritesPrefix old new to (encode_utf8_all (take at xs)))
    (ascii : IsAscii (take n (take (length xs - at) (drop at xs))))
    (copied : WritesPrefix (take (length new - to) (drop to new)) sub n (take n (take (length xs - at) (drop at xs))))
    (inside : at + n < length xs) (room : to + n + 1 < length (put_mid to (length new - to) new sub))
    (stops : n < length (take (length xs - at) (drop at xs)) → n < length (take (length new - to) (drop to new))
    → 0x80 ≤ slice_index (take (length xs - at) (drop at xs)) n) where
  abbrev turn_two : List ℕ
  turn_two = set (set (put_mid to (length new - to) new sub) (to + n) (bit_or 0xC0 (slice_index xs (at + n) / 64))) (to + n + 1)
      (bit_or 0x80 (bit_and (slice_index xs (at + n)) 0x3F))

  pub latin1_turn : (m k : ℕ) (blocks : List ℕ)
      → WritesPrefix (take (length turn_two - (to + n + 2)) (drop (to + n + 2) turn_two)) blocks k
      (encode_utf8_all (take m (take (length xs - (at + n + 1)) (drop (at + n + 1) xs))))
      → WritesPrefix old (put_mid (to + n + 2) (length turn_two - (to + n + 2)) turn_two blocks) (to + n + 2 + k) (encode_utf8_all (take (at + n + 1 + m) xs))
  latin1_turn m k blocks v =
      let prefix = ascii_left xs at n w ascii copied in
      let b = slice_index xs (at + n) in
      let other = other_after xs new at to n inside (omega (arith, WritesPrefix-length _ _ _ _ w, WritesPrefix-length _ _ _ _ prefix)) stops in
      let two = latin1_bytes_two b other (small (at + n)) in
      let more : WritesPrefix old turn_two (to + n + 2) (encode_utf8_all (take (at + n + 1) xs)) =
      rw (latin1_more xs (at + n) inside, two) (WritesPrefix_push_two _ _ _ _ (bit_or 0xC0 (b / 64)) (bit_or 0x80 (bit_and b 0x3F)) prefix room) in
      written_left xs (at + n + 1) m more v
