-- Line and column after a text: by its line feeds, and by the characters after the last one.
use Rattle.std.proofs.Common.{◌≡◌, ℕ, zero, suc, ◌+◌, ◌-◌, ◌/◌, ◌<◌, ◌≤◌, inl, inr, true, false, List, [], ◌∷◌, ◌++◌, length, map, take, drop, slice_index}
use Rattle.std.proofs.Common.{nat_eq, encode_utf8, encode_utf8_all, if◌then◌else◌, refl, sym, ap, ◌∙◌, arith, subst}
use Rattle.std.specs.Str.{chars, all_scalars, IsUtf8}
use Rattle.std.proofs.str.Laws.{one, two, three, four}
use lib.Utf8.{next}
use Rattle.std.proofs.lemmas.Bool.{and_parts, cases_lt, cases_eq}
use Rattle.std.proofs.lemmas.Bool.Decides.{nat_tests}
use Rattle.std.proofs.lemmas.List.{append-nil, length-append, length-map, take-append-drop, drop-drop, drop_more}
use Rattle.std.proofs.lemmas.Str.{chars-encodes}
use Rattle.encoding_runs.specs.Parts.{Part, Character, ArePartsOf}
use Rattle.encoding_definitions.proofs.DecompositionLemmas.{StartsWith-characters, same_parts}
use Rattle.std.specs.List.{flat_map}
use Rattle.encoding_definitions.specs.Parts.{IllFormed, bytes_of, StartsWith}
use Rattle.encoding_definitions.proofs.PartsLemmas.{part_bytes}
use Rattle.utf8_check_library.specs.declared.place.Columns.{Columns}
use Rattle.utf8_check_library.specs.declared.place.Columns.TheVariants.{Characters, Bytes}
use Rattle.utf8_check_library.specs.Lines.{CountsColumns, line_feeds, width_of, next_place, place_after}

feed_here : (bs : List ℕ) → line_feeds (10 ∷ bs) ≡ suc (line_feeds bs)
feed_here bs = omega arith

pub feed_other : (b : ℕ) (bs : List ℕ) → (b ≡ 10 → ⊥) → line_feeds (b ∷ bs) ≡ line_feeds bs
feed_other b bs n = let no : nat_eq b 10 ≡ false = grind (arith, nat_tests) in ap (λ t. (if t then 1 else 0) + line_feeds bs) no ∙ omega arith

feeds-append : (xs ys : List ℕ) → line_feeds (xs ++ ys) ≡ line_feeds xs + line_feeds ys
feeds-append [] ys = omega arith
feeds-append (x ∷ xs) ys = omega (arith, feeds-append xs ys)

-- a step over `n` items of the rest
pub feeds_next : (at n count : ℕ) (xs : List ℕ) → count + line_feeds (drop at xs) ≡ line_feeds xs
    → count + line_feeds (take n (drop at xs)) + line_feeds (drop (at + n) xs) ≡ line_feeds xs
feeds_next at n count xs counted =
    let parts : line_feeds (drop at xs) ≡ line_feeds (take n (drop at xs)) + line_feeds (drop n (drop at xs)) =
    ap line_feeds (sym (take-append-drop n (drop at xs))) ∙ feeds-append (take n (drop at xs)) (drop n (drop at xs)) in
    let rest : line_feeds (drop n (drop at xs)) ≡ line_feeds (drop (at + n) xs) = ap line_feeds (drop-drop n at xs) in
    omega (arith, counted, parts, rest)

-- ---- places
-- the columns of characters
abbrev widths : Columns → List ℕ → ℕ
widths columns [] = 0
widths columns (c ∷ cs) = width_of columns (Character c) + widths columns cs

widths_characters : (cs : List ℕ) → widths Characters cs ≡ length cs
widths_characters [] = refl
widths_characters (c ∷ cs) = omega (arith, widths_characters cs)

widths_bytes : (cs : List ℕ) → widths Bytes cs ≡ length (encode_utf8_all cs)
widths_bytes [] = refl
widths_bytes (c ∷ cs) = omega (arith, widths_bytes cs, length-append (encode_utf8 c) (encode_utf8_all cs))

pub place_after-append : (u : Columns) (place : ℕ × ℕ) (ps qs : List Part) → place_after u place (ps ++ qs) ≡ place_after u (place_after u place ps) qs
place_after-append u place [] qs = refl
place_after-append u place (p ∷ ps) qs = place_after-append u (next_place u place p) ps qs

pub next_other : (u : Columns) (line column c : ℕ) → (c ≡ 10 → ⊥) → next_place u (line, column) (Character c) ≡ (line, column + width_of u (Character c))
next_other u line column c n =
    let no : nat_eq c 10 ≡ false = grind (arith, nat_tests) in ap (λ t. if t then (line + 1, 1) else (line, column + width_of u (Character c))) no

-- a part leads no further than by its bytes
next_bound : (u : Columns) (place : ℕ × ℕ) (p : Part) (n : ℕ) → length (bytes_of p) ≡ suc n
    → ((next_place u place p).0 ≤ place.0 + suc n) × ((next_place u place p).1 ≤ place.1 + suc n)
next_bound u (line, column) (Character c) n long = elim (cases_eq c 10) [
  | inl e ↦
      subst (λ k. ((next_place u (line, column) (Character k)).0 ≤ line + suc n) × ((next_place u (line, column) (Character k)).1 ≤ column + suc n)) (sym e)
      (omega arith, omega arith)
  | inr k ↦
      subst (λ next. (next.0 ≤ line + suc n) × (next.1 ≤ column + suc n)) (sym (next_other u line column c k))
      (omega arith, column_bound u)
]
  where
    column_bound : (v : Columns) → column + width_of v (Character c) ≤ column + suc n
    column_bound Characters = omega arith
    column_bound Bytes = omega (arith, long)
next_bound Characters (line, column) (IllFormed x) n long = (omega arith, omega arith)
next_bound Bytes (line, column) (IllFormed x) n long = (omega arith, omega (arith, long))

-- parts lead no further than by their bytes
pub place_bound : (u : Columns) (place : ℕ × ℕ) (bs : List ℕ) (ps : List Part) (rest : List ℕ) → StartsWith bs ps rest
    → ((place_after u place ps).0 + length rest ≤ place.0 + length bs) × ((place_after u place ps).1 + length rest ≤ place.1 + length bs)
place_bound u place bs [] rest e = (omega (arith, ap length e), omega (arith, ap length e))
place_bound u place bs (p ∷ ps) rest (after, f, s) =
    let bytes = part_bytes bs p after f in
    let n : ℕ = length (bytes_of p) - 1 in
    let long : length (bytes_of p) ≡ suc n = omega (arith, bytes.1) in
    let next = next_bound u place p n long in
    let more = place_bound u (next_place u place p) after ps rest s in
    let whole : length bs ≡ length (bytes_of p) + length after = ap length bytes.0 ∙ length-append (bytes_of p) after in
    (omega (arith, next.0, more.0, whole, long), omega (arith, next.1, more.1, whole, long))

-- there are no more parts than bytes
pub parts_few : (bs : List ℕ) (ps : List Part) (rest : List ℕ) → StartsWith bs ps rest → length ps + length rest ≤ length bs
parts_few bs [] rest e = omega (arith, ap length e)
parts_few bs (p ∷ ps) rest (after, f, s) =
    let bytes = part_bytes bs p after f in
    omega (arith, parts_few after ps rest s, ap length bytes.0, length-append (bytes_of p) after, bytes.1)

-- a text without a line feed
place_in_line : (u : Columns) (line column : ℕ) (cs : List ℕ) → line_feeds cs ≡ 0
    → place_after u (line, column) (map Character cs) ≡ (line, column + widths u cs)
place_in_line u line column [] none = ap (λ n. (line, n)) (omega arith)
place_in_line u line column (c ∷ cs) none = elim (cases_eq c 10) [
  | inl e ↦ absurd (let some : line_feeds (10 ∷ cs) ≡ 0 = subst (λ n. line_feeds (n ∷ cs) ≡ 0) e none in omega (arith, some, feed_here cs))
  | inr n ↦
      ap (λ p. place_after u p (map Character cs)) (next_other u line column c n)
      ∙ place_in_line u line (column + width_of u (Character c)) cs (sym (feed_other c cs n) ∙ none) ∙ ap (λ n. (line, n)) (omega arith)
]

-- a text whose last line feed is before these characters
place_after_feed : (u : Columns) (line column : ℕ) (before after : List ℕ) → line_feeds after ≡ 0
    → place_after u (line, column) (map Character (before ++ 10 ∷ after)) ≡ (line + line_feeds (before ++ 10 ∷ after), 1 + widths u after)
place_after_feed u line column [] after none =
    place_in_line u (line + 1) 1 after none ∙ ap (λ n. (n, 1 + widths u after)) (omega (arith, none, feed_here after))
place_after_feed u line column (c ∷ before) after none =
    let rest : List ℕ = before ++ 10 ∷ after in
    elim (cases_eq c 10) [
      | inl e ↦
          subst (λ n. place_after u (line, column) (map Character (n ∷ rest)) ≡ (line + line_feeds (n ∷ rest), 1 + widths u after)) (sym e)
          (place_after_feed u (line + 1) 1 before after none ∙ ap (λ n. (n, 1 + widths u after)) (omega (arith, feed_here rest)))
      | inr n ↦
          ap (λ p. place_after u p (map Character rest)) (next_other u line column c n)
          ∙ place_after_feed u line (column + width_of u (Character c)) before after none
          ∙ ap (λ n. (line + n, 1 + widths u after)) (sym (feed_other c rest n))
    ]

-- ---- line feeds among bytes and among characters
-- the UTF-8 of any other character has no line feed
encoded_other : (c : ℕ) → (c ≡ 10 → ⊥) → line_feeds (encode_utf8 c) ≡ 0
encoded_other c n = elim (cases_lt c 128) [
  | inl l ↦ ap line_feeds (one c l) ∙ feed_other c [] n
  | inr g ↦ elim (cases_lt c 2048) [
    | inl l ↦ ap line_feeds (two c g l) ∙ high (192 + c / 64) (next c ∷ []) (omega arith) (high (next c) [] (tail_high c) refl)
    | inr h ↦ elim (cases_lt c 65536) [
      | inl l ↦ ap line_feeds (three c h l)
          ∙ high (224 + c / 4096) (next (c / 64) ∷ next c ∷ []) (omega arith)
          (high (next (c / 64)) (next c ∷ []) (tail_high (c / 64)) (high (next c) [] (tail_high c) refl))
      | inr k ↦
          ap line_feeds (four c k)
          ∙ high (240 + c / 262144) (next (c / 4096) ∷ next (c / 64) ∷ next c ∷ []) (omega arith)
          (high (next (c / 4096)) (next (c / 64) ∷ next c ∷ []) (tail_high (c / 4096))
          (high (next (c / 64)) (next c ∷ []) (tail_high (c / 64)) (high (next c) [] (tail_high c) refl)))
    ]
  ]
]
  where
    high : (b : ℕ) (bs : List ℕ) → 10 < b → line_feeds bs ≡ 0 → line_feeds (b ∷ bs) ≡ 0
    high b bs h none = feed_other b bs (λ e. omega (arith, e, h)) ∙ none

    tail_high : (m : ℕ) → 10 < next m
    tail_high m = omega arith

text_feeds : (cs : List ℕ) → all_scalars cs ≡ true → line_feeds (encode_utf8_all cs) ≡ line_feeds cs
text_feeds [] h = refl
text_feeds (c ∷ cs) h = elim (cases_eq c 10) [
  | inl e ↦
      subst (λ n. line_feeds (encode_utf8 n ++ encode_utf8_all cs) ≡ line_feeds (n ∷ cs)) (sym e)
      (ap (λ xs. line_feeds (xs ++ encode_utf8_all cs)) (one 10 (omega arith)) ∙ omega (arith, text_feeds cs (and_parts _ _ h).1))
  | inr n ↦
      feeds-append (encode_utf8 c) (encode_utf8_all cs) ∙ omega (arith, encoded_other c n, text_feeds cs (and_parts _ _ h).1, feed_other c cs n)
]

-- a line feed among the bytes of a text is one of its characters
pub record IsCut (cs tail : List ℕ) : Type 0 where
  pub before : List ℕ
  pub after : List ℕ
  pub whole : cs ≡ before ++ 10 ∷ after
  pub scalars : all_scalars after ≡ true
  pub bytes : encode_utf8_all after ≡ tail

tail_of : (x y : ℕ) (xs ys : List ℕ) → x ∷ xs ≡ y ∷ ys → xs ≡ ys
tail_of x y xs ys e = ap (drop 1) e

-- bytes without a line feed end before it
skip_bytes : (e head rest tail : List ℕ) → line_feeds e ≡ 0 → e ++ rest ≡ head ++ 10 ∷ tail → (more : List ℕ) × (rest ≡ more ++ 10 ∷ tail)
skip_bytes [] head rest tail none same = (head, same)
skip_bytes (x ∷ e) [] rest tail none same =
    let first : x ≡ 10 = ap (λ xs. slice_index xs 0) same in
    let some : line_feeds (10 ∷ e) ≡ 0 = subst (λ n. line_feeds (n ∷ e) ≡ 0) first none in
    absurd (omega (arith, some, feed_here e))
skip_bytes (x ∷ e) (y ∷ head) rest tail none same = skip_bytes e head rest tail (omega (arith, none)) (tail_of x y _ _ same)

abbrev Cuts : List ℕ → List ℕ → Type 0
Cuts cs tail = (head : List ℕ) → encode_utf8_all cs ≡ head ++ 10 ∷ tail → IsCut cs tail

cut_later : (c : ℕ) (cs tail head : List ℕ) → Cuts cs tail → encode_utf8_all cs ≡ head ++ 10 ∷ tail → IsCut (c ∷ cs) tail
cut_later c cs tail head rest same =
    let cut = rest head same in
    record { before = c ∷ cut.before; after = cut.after; whole = ap (λ xs. c ∷ xs) cut.whole; scalars = cut.scalars; bytes = cut.bytes }

cut_here : (c : ℕ) (cs tail head : List ℕ) → all_scalars cs ≡ true → Cuts cs tail → c ≡ 10 → 10 ∷ encode_utf8_all cs ≡ head ++ 10 ∷ tail → IsCut (c ∷ cs) tail
cut_here c cs tail [] h rest e same =
    record { before = []; after = cs; whole = ap (λ n. n ∷ cs) e; scalars = h; bytes = tail_of 10 10 _ _ same }
cut_here c cs tail (y ∷ head) h rest e same = cut_later c cs tail head rest (tail_of 10 y _ _ same)

cut_text : (cs tail : List ℕ) → all_scalars cs ≡ true → Cuts cs tail
cut_text [] tail h [] same = absurd (omega (arith, ap length same))
cut_text [] tail h (y ∷ head) same = absurd (omega (arith, ap length same))
cut_text (c ∷ cs) tail h head same =
    let rest = cut_text cs tail (and_parts _ _ h).1 in
    elim (cases_eq c 10) [
      | inl e ↦
          cut_here c cs tail head (and_parts _ _ h).1 rest e
          (ap (λ xs. xs ++ encode_utf8_all cs) (sym (one 10 (omega arith))) ∙ ap (λ n. encode_utf8 n ++ encode_utf8_all cs) (sym e) ∙ same)
      | inr n ↦
          let more = skip_bytes (encode_utf8 c) head (encode_utf8_all cs) tail (encoded_other c n) same in
          cut_later c cs tail more.0 rest more.1
    ]

-- the parts of a text are its characters
text_parts : (cs text : List ℕ) (parts : List Part) → all_scalars cs ≡ true → encode_utf8_all cs ≡ text → ArePartsOf text parts → length parts ≡ length cs
text_parts cs text parts h e are =
    let all : ArePartsOf text (map Character cs) =
    subst (λ xs. ArePartsOf xs (map Character cs)) (append-nil (encode_utf8_all cs) ∙ e) (StartsWith-characters cs [] h) in
    ap length (same_parts text parts (map Character cs) are all) ∙ length-map cs Character

text_widths : (u : Columns) (cs text : List ℕ) (n : ℕ) → all_scalars cs ≡ true → encode_utf8_all cs ≡ text → CountsColumns u text n → n ≡ widths u cs
text_widths Characters cs text n h e (parts, are, count) = count ∙ text_parts cs text parts h e are ∙ sym (widths_characters cs)
text_widths Bytes cs text n h e count = count ∙ sym (ap length e) ∙ sym (widths_bytes cs)

-- ---- a text
pub place_without_feed : (u : Columns) (line column : ℕ) (text : List ℕ) (n : ℕ) → IsUtf8 text → line_feeds text ≡ 0 → CountsColumns u text n
    → (line, column + n) ≡ place_after u (line, column) (map Character (chars text))
place_without_feed u line column text n (cs, (h, e)) none counts =
    let characters : chars text ≡ cs = sym (ap chars e) ∙ chars-encodes cs h in
    ap (λ k. (line, column + k)) (text_widths u cs text n h e counts)
    ∙ sym (place_in_line u line column cs (sym (text_feeds cs h) ∙ ap line_feeds e ∙ none))
    ∙ ap (λ xs. place_after u (line, column) (map Character xs)) (sym characters)

pub place_with_feed : (u : Columns) (line column : ℕ) (text : List ℕ) (start n : ℕ) → IsUtf8 text → start ≤ length text
    → line_feeds (drop start text) ≡ 0 → (0 < start → slice_index text (start - 1) ≡ 10) → (line_feeds text ≡ 0 → ⊥) → CountsColumns u (drop start text) n
    → (line + line_feeds text, n + 1) ≡ place_after u (line, column) (map Character (chars text))
place_with_feed u line column text zero n is within none feed some counts = absurd (some none)
place_with_feed u line column text (suc k) n (cs, (h, e)) within none feed some counts =
    let before_is : suc k - 1 ≡ k = omega arith in
    let here : slice_index text k ≡ 10 = ap (slice_index text) (sym before_is) ∙ feed (omega arith) in
    let back : drop k text ≡ 10 ∷ drop (k + 1) text = drop_more text k 0 (omega (arith, within)) ∙ ap (λ y. y ∷ drop (k + 1) text) here in
    let next_is : k + 1 ≡ suc k = omega arith in
    let same : encode_utf8_all cs ≡ take k text ++ 10 ∷ drop (suc k) text =
    e ∙ sym (take-append-drop k text) ∙ ap (λ xs. take k text ++ xs) (back ∙ ap (λ n. 10 ∷ drop n text) next_is) in
    let cut = cut_text cs (drop (suc k) text) h (take k text) same in
    let characters : chars text ≡ cs = sym (ap chars e) ∙ chars-encodes cs h in
    let after : line_feeds cut.after ≡ 0 = sym (text_feeds cut.after cut.scalars) ∙ ap line_feeds cut.bytes ∙ none in
    let lines : line_feeds text ≡ line_feeds (cut.before ++ 10 ∷ cut.after) = ap line_feeds (sym e) ∙ text_feeds cs h ∙ ap line_feeds cut.whole in
    let columns : n + 1 ≡ 1 + widths u cut.after = omega (arith, text_widths u cut.after (drop (suc k) text) n cut.scalars cut.bytes counts) in
    (λ i. (line + lines i, columns i)) ∙ sym (place_after_feed u line column cut.before cut.after after)
    ∙ ap (λ xs. place_after u (line, column) (map Character xs)) (sym cut.whole ∙ sym characters)
