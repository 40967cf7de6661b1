-- Code units that are no surrogates: each is a character, and their UTF-8 is joined from what the stores write. What a
-- store changes after its own bytes is overwritten by later ones.
use Rattle.std.proofs.Common.{◌≡◌, ℕ, suc, ◌+◌, ◌-◌, ◌<◌, ◌≤◌, ◌⊎◌, inl, inr, List, [], ◌∷◌, ◌++◌, map, length, take, drop}
use Rattle.std.proofs.Common.{take-add, length-take-le, length-append, get_or, encode_utf8_all, refl, sym, ap, ◌∙◌, arith}
use Rattle.std.proofs.Common.{subst, drop-drop, take-append-drop, take-take, length-drop, append_assoc, ◌*◌, append-nil}
use Rattle.std.specs.List.{flat_map}
use Rattle.std.specs.Str.{IsAscii}
use Rattle.std.proofs.lemmas.Bool.{cases_lt}
use Rattle.std.proofs.lemmas.List.{take-append-drop, take_rest, get_or-drop, get_or-take, take_at, drop_all}
use Rattle.std.proofs.lemmas.Str.{encodes-append, encodes-IsAscii}
use Rattle.std.proofs.str.Utf16.{one_unit}
use borrow.Rule.Slice.PartMut.{put_mid}
use Rattle.encoding_definitions.specs.Prefixes.{WritesPrefix}
use Rattle.encoding_definitions.specs.Utf16.{AreCodeUnits, Character16, units_of_part16, utf8_of_part16, IsUtf8OfPrefix}
use Rattle.encoding_kernels.specs.Utf8Output.{AreBmpScalars, WritesBmp, Spills, StoresBlock, SpillsBmp, ConvertsDue}
use Rattle.encoding_kernels.proofs.ScanLemmas.{Each-take}
use Rattle.encoding_definitions.proofs.PrefixesLemmas.{WritesPrefix-same, WritesPrefix_put, WritesPrefix_after, written_is}
use Rattle.encoding_definitions.proofs.Utf16Lemmas.{parts_of, parts_of-first, first_unit}
use Rattle.encoding_definitions.proofs.Utf16PrefixLemmas.{Walked, walked_prefix}
use Rattle.std.proofs.lemmas.Simd.{length-put_chunk}
use Rattle.std.proofs.lemmas.Slice.{drop-append-drop}
use Rattle.std.specs.Simd.Lanes.{chunk, put_chunk}
use Rattle.encoding_kernels.proofs.VectorLemmas.{put_prefix, put_back}
use Rattle.std.proofs.Math.Seq.{take-append-add, drop-append-add}

-- ---- each is a character
abbrev IsBmpScalar : ℕ → Type 0
IsBmpScalar u = (0xD800 ≤ u) × (u ≤ 0xDFFF) → ⊥

apart : (u : ℕ) → IsBmpScalar u → (u < 0xD800) ⊎ (0xDFFF < u)
apart u p = grind arith

parts_of_plain : (us rest : List ℕ) → AreBmpScalars us → AreCodeUnits us → parts_of (us ++ rest) ≡ map Character16 us ++ parts_of rest
parts_of_plain [] rest p a = refl
parts_of_plain (u ∷ us) rest p a =
    parts_of-first (u ∷ us ++ rest) (Character16 u) (us ++ rest) (first_unit u (us ++ rest) (a 0) (apart u (p 0)))
    ∙ ap (λ ps. Character16 u ∷ ps) (parts_of_plain us rest (λ k. p (suc k)) (λ k. a (suc k)))

units_plain : (us : List ℕ) → AreCodeUnits us → length (flat_map units_of_part16 (map Character16 us)) ≡ length us
units_plain [] a = refl
units_plain (u ∷ us) a = omega (
  arith,
  length-append (units_of_part16 (Character16 u)) (flat_map units_of_part16 (map Character16 us)),
  ap length
      (one_unit u (a 0)),
  units_plain us (λ k. a (suc k)),
)

pub utf8_plain : (us : List ℕ) → flat_map utf8_of_part16 (map Character16 us) ≡ encode_utf8_all us
utf8_plain [] = refl
utf8_plain (u ∷ us) = ap (λ xs. utf8_of_part16 (Character16 u) ++ xs) (utf8_plain us)

-- a prefix without surrogates was converted
pub plain_walked : (us : List ℕ) (n : ℕ) → AreCodeUnits us → n ≤ length us → AreBmpScalars (take n us) → Walked us n (map Character16 (take n us))
plain_walked us n a within plain =
    let fit : AreCodeUnits (take n us) = Each-take (λ u. u < 0x10000) (omega arith) us n (λ k _. a k) in
    record {
      whole = ap parts_of (sym (take-append-drop n us)) ∙ parts_of_plain (take n us) (drop n us) plain fit;
      taken = omega (arith, units_plain (take n us) fit, length-take-le n us within);
    }

pub plain_written : {us old new : List ℕ} {n m : ℕ} → WritesBmp us old new n m → WritesPrefix old new m (flat_map utf8_of_part16 (map Character16 (take n us)))
plain_written {us} {old} {new} {n} {m} w = WritesPrefix-same _ _ _ _ _ _ w.written refl (sym (utf8_plain (take n us)))

pub plain_prefix : {us old new : List ℕ} {n m : ℕ} → AreCodeUnits us → WritesBmp us old new n m → IsUtf8OfPrefix us n (take m new)
plain_prefix {us} {old} {new} {n} {m} a w =
    subst (IsUtf8OfPrefix us n) (written_is _ _ _ _ (plain_written w)) (walked_prefix us n _ a (plain_walked us n a w.within w.plain))

-- ---- one more block
pub encodes_more : (us : List ℕ) (n m : ℕ) → encode_utf8_all (take n us) ++ encode_utf8_all (take m (drop n us)) ≡ encode_utf8_all (take (n + m) us)
encodes_more us n m = sym (encodes-append (take n us) (take m (drop n us))) ∙ ap encode_utf8_all (sym (take-add n m us))

module _ (us : List ℕ) (n : ℕ) (plain : AreBmpScalars (take n us)) where
  pub plain_more : (m : ℕ) → ((k : ℕ) → k < m → IsBmpScalar (get_or us (n + k) 0)) → AreBmpScalars (take (n + m) us)
  plain_more m more = Each-take IsBmpScalar (λ r. omega (arith, r.0)) us (n + m) (λ k l. elim (cases_lt k n) [
    | inl p ↦ rw (get_or-take n us k 0 p) at (plain k)
    | inr p ↦ let place : n + (k - n) ≡ k = omega arith in subst (λ j. IsBmpScalar (get_or us j 0)) place (more (k - n) (omega arith))
  ])

pub plain_then : (us : List ℕ) (n m : ℕ) → AreBmpScalars (take n us) → AreBmpScalars (take m (drop n us)) → AreBmpScalars (take (n + m) us)
plain_then us n m p q = plain_more us n p m (λ k l. let same = get_or-drop n us k 0 in let prefix = get_or-take m (drop n us) k 0 l in
    λ r. q k (omega (arith, same, prefix, r.0), omega (arith, same, prefix, r.1)))

module _ (us old new after : List ℕ) (n written : ℕ) (w : WritesPrefix old new written (encode_utf8_all (take n us))) where
  pub written_eight : (k m : ℕ) → m ≡ length (encode_utf8_all (take k (drop n us))) → written + m ≤ length new
      → after ≡ take written new ++ (encode_utf8_all (take k (drop n us)) ++ drop (written + m) new)
      → WritesPrefix old after (written + m) (encode_utf8_all (take (n + k) us))
  written_eight k m count room put = WritesPrefix-same _ _ _ _ _ _ (WritesPrefix_put old new after written m _ _ w count room put) refl (encodes_more us n k)

-- the k units from an index on, and m more
pub encodes_block : (us : List ℕ) (from k m : ℕ)
    → encode_utf8_all (take k (drop from us)) ++ encode_utf8_all (take m (drop (from + k) us)) ≡ encode_utf8_all (take (k + m) (drop from us))
encodes_block us from k m =
    ap (λ xs. encode_utf8_all (take k (drop from us)) ++ encode_utf8_all (take m xs)) (sym (drop-drop k from us)) ∙ encodes_more (drop from us) k m

-- n units of what is left were converted
pub written_left : (us : List ℕ) (read n : ℕ) {old new sub : List ℕ} {written m : ℕ} → WritesPrefix old new written (encode_utf8_all (take read us))
    → WritesPrefix (take (length new - written) (drop written new)) sub m (encode_utf8_all (take n (take (length us - read) (drop read us))))
    → WritesPrefix old (put_mid written (length new - written) new sub) (written + m) (encode_utf8_all (take (read + n) us))
written_left us read n {old} {new} {sub} {written} {m} w v =
    WritesPrefix-same _ _ _ _ _ _ (WritesPrefix_after old new written _ sub m _ w v) refl
    (ap (λ xs. encode_utf8_all (take read us) ++ encode_utf8_all (take n xs)) (take_rest us read) ∙ encodes_more us read n)

-- an ASCII prefix was copied
pub ascii_plain : {us old new : List ℕ} {n : ℕ} → n ≤ length us → IsAscii (take n us) → WritesPrefix old new n (take n us) → WritesBmp us old new n n
ascii_plain {us} {old} {new} {n} within ascii w = record {
  within = within;
  plain = λ k r. omega (arith, ascii k, r.0);
  written = WritesPrefix-same _ _ _ _ _ _ w refl (sym (encodes-IsAscii (take n us) ascii));
}

-- an ASCII prefix of what is left was copied
pub ascii_left : (us : List ℕ) (read n : ℕ) {old new sub : List ℕ} {written : ℕ} → WritesPrefix old new written (encode_utf8_all (take read us))
    → IsAscii (take n (take (length us - read) (drop read us)))
    → WritesPrefix (take (length new - written) (drop written new)) sub n (take n (take (length us - read) (drop read us)))
    → WritesPrefix old (put_mid written (length new - written) new sub) (written + n) (encode_utf8_all (take (read + n) us))
ascii_left us read n {old} {new} {sub} {written} w ascii v =
    written_left us read n w (WritesPrefix-same _ _ _ _ _ _ v refl (sym (encodes-IsAscii (take n (take (length us - read) (drop read us))) ascii)))

-- lists that are the same from an index on are so from a later one on
pub later : (n k m : ℕ) (xs ys : List ℕ) → drop n xs ≡ drop n ys → m ≡ n + k → drop m xs ≡ drop m ys
later n k m xs ys e place =
    let turned : k + n ≡ n + k = omega arith in
    ap (λ j. drop j xs) place ∙ sym (drop-drop k n xs) ∙ ap (drop k) e ∙ drop-drop k n ys ∙ ap (λ j. drop j ys) (sym place)

-- one vector
pub store_spills : (xs ys : List ℕ) (at n : ℕ) → length ys ≡ 16 → n ≤ 16 → at + 16 ≤ length xs → Spills xs (put_chunk at xs ys) at n 16 (take n ys)
store_spills xs ys at n long few room =
    let parts = put_prefix 16 xs ys at n long few room in
    record { counted = length-take-le n ys (omega arith); prefix = parts.0; following = parts.1; long = length-put_chunk at xs ys }

-- one vector changes no more than its own lanes
pub store_spills_rest : (xs ys : List ℕ) (at n : ℕ) → length ys ≡ 16 → n ≤ 16 → at + 16 ≤ length xs
    → Spills xs (put_chunk at xs ys) at n (16 - n) (take n ys)
store_spills_rest xs ys at n long few room =
    let last : at + n + (16 - n) ≡ at + 0 + 16 = omega arith in
    record {
      counted = length-take-le n ys (omega arith);
      prefix = (put_prefix 16 xs ys at n long few room).0;
      following = ap (λ k. drop k (put_chunk at xs ys)) last ∙ (put_prefix 16 xs ys at 0 long (omega arith) room).1 ∙ ap (λ k. drop k xs) (sym last);
      long = length-put_chunk at xs ys;
    }

-- one after the other
pub spills_then : (a b c : List ℕ) (at n m s t : ℕ) (xs ys : List ℕ) → Spills a b at n s xs → Spills b c (at + n) m t ys → s ≤ m + t
    → Spills a c at (n + m) t (xs ++ ys)
spills_then a b c at n m s t xs ys p q due =
    let place : at + (n + m) ≡ at + n + m = omega arith in
    let last : at + (n + m) + t ≡ at + n + m + t = omega arith in
    let over : at + n + m + t ≡ at + n + s + (m + t - s) = omega arith in
    record {
      counted = omega (arith, length-append xs ys, p.counted, q.counted);
      prefix = ap (λ k. take k c) place ∙ q.prefix ∙ ap (λ zs. zs ++ ys) p.prefix ∙ append_assoc (take at a) xs ys;
      following = ap (λ k. drop k c) last ∙ q.following ∙ later (at + n + s) (m + t - s) (at + n + m + t) b a p.following over ∙ ap (λ k. drop k a) (sym last);
      long = q.long ∙ p.long;
    }

pub spills_both : (old mid new : List ℕ) (at n place m all : ℕ) (xs ys out : List ℕ) → Spills old mid at n 16 xs → Spills mid new place m 16 ys → place ≡ at + n
    → n + m ≡ all → xs ++ ys ≡ out
    → Spills old new at all 16 out
spills_both old mid new at n place m all xs ys out p q here count e =
    let both = spills_then old mid new at n m 16 16 xs ys p (subst (λ j. Spills mid new j m 16 ys) here q) (omega arith) in
    subst (λ j. Spills old new at j 16 out) count (subst (Spills old new at (n + m) 16) e both)

-- the first `count` of n bytes at the start, if what was in place of the others is written back
pub spills_kept : (old mid out : List ℕ) (n count : ℕ) → Spills old mid 0 n 0 out → count ≤ n → n ≤ count + 16 → count + 16 ≤ length old
    → WritesPrefix old (put_chunk count mid (chunk count 16 old)) count (take count out)
spills_kept old mid out n count p few near room =
    let none : 0 + n ≡ n = omega arith in
    let start : take count mid ≡ take count out = sym (take-take count n mid few) ∙ ap (take count) (ap (λ k. take k mid) (sym none) ∙ p.prefix) in
    let over : count + 16 ≡ 0 + n + 0 + (count + 16 - n) = omega arith in
    record {
      count = sym (length-take-le count out (omega (arith, p.counted)));
      fits = omega arith;
      placed = put_back 16 old mid count room p.long (later (0 + n + 0) (count + 16 - n) (count + 16) mid old p.following over)
          ∙ ap (λ xs. xs ++ drop count old) start;
    }

-- a write that changes nothing after it
pub exact_spills : (old new out : List ℕ) (at n : ℕ) → length out ≡ n → at + n ≤ length old → new ≡ take at old ++ (out ++ drop (at + n) old)
    → Spills old new at n 0 out
exact_spills old new out at n count room put =
    let start : length (take at old) ≡ at = length-take-le at old (omega arith) in
    let both : length (take at old ++ out) ≡ at + n = omega (arith, length-append (take at old) out) in
    let is : new ≡ (take at old ++ out) ++ drop (at + n) old = put ∙ sym (append_assoc (take at old) out (drop (at + n) old)) in
    record {
      counted = count;
      prefix = ap (take (at + n)) is ∙ take_at (take at old ++ out) (drop (at + n) old) (at + n) both;
      following = ap (drop (at + n + 0)) is ∙ drop-append-drop (at + n) old (take at old ++ out) (at + n + 0) (omega arith) both;
      long = omega (arith, ap length is, length-append (take at old ++ out) (drop (at + n) old), length-drop (at + n) old);
    }

pub spills_exact : (old new out : List ℕ) (at n : ℕ) → Spills old new at n 0 out → new ≡ take at old ++ (out ++ drop (at + n) old)
spills_exact old new out at n p =
    let same : at + n + 0 ≡ at + n = omega arith in
    sym (take-append-drop (at + n) new) ∙ (λ i. p.prefix i ++ (ap (λ k. drop k new) (sym same) ∙ p.following ∙ ap (λ k. drop k old) same) i)
    ∙ append_assoc (take at old) out (drop (at + n) old)

-- what may have changed after the bytes is written back
pub spills_back : (old mid out : List ℕ) (at n s : ℕ) → Spills old mid at n s out → s ≤ 16 → at + n + 16 ≤ length old
    → put_chunk (at + n) mid (chunk (at + n) 16 old) ≡ take at old ++ (out ++ drop (at + n) old)
spills_back old mid out at n s p few room =
    let over : at + n + 16 ≡ at + n + s + (16 - s) = omega arith in
    put_back 16 old mid (at + n) room p.long (later (at + n + s) (16 - s) (at + n + 16) mid old p.following over)
    ∙ ap (λ xs. xs ++ drop (at + n) old) p.prefix ∙ append_assoc (take at old) out (drop (at + n) old)

-- what was read after the bytes is written back
pub spills_rest : (old mid out : List ℕ) (at n count : ℕ) → n ≡ count → Spills old mid at count 16 out → at + count + 16 ≤ length old
    → Spills old (put_chunk (at + n) mid (chunk (at + n) 16 old)) at count 0 out
spills_rest old mid out at n count same p room =
    subst (λ k. Spills old (put_chunk (at + k) mid (chunk (at + k) 16 old)) at count 0 out) (sym same)
    (exact_spills old _ out at count p.counted (omega arith) (spills_back old mid out at count 16 p (omega arith) room))

-- one more block: it has at least as many bytes as the one before it spilled
pub due_then : (us old d e : List ℕ) (read w s c t : ℕ) → SpillsBmp us old d read w s → read + 16 ≤ length us → s ≤ 16 → w + c ≤ length d
    → StoresBlock (take 16 (drop read us)) d e w c t → SpillsBmp us old e (read + 16) (w + c) t
due_then us old d e read w s c t p within few room b =
    let over : w + c + t ≡ w + s + (c + t - s) = omega (arith, b.bounds) in
    record {
      within = within;
      plain = plain_then us read 16 p.plain b.plain;
      counted = ap length (sym (encodes_more us read 16))
          ∙ omega (arith, length-append (encode_utf8_all (take read us)) (encode_utf8_all (take 16 (drop read us))), p.counted, b.stored.counted);
      fits = omega (arith, p.long);
      prefix = b.stored.prefix ∙ ap (λ xs. xs ++ encode_utf8_all (take 16 (drop read us))) p.prefix ∙ encodes_more us read 16;
      following = b.stored.following ∙ later (w + s) (c + t - s) (w + c + t) d old p.following over;
      long = b.stored.long ∙ p.long;
    }

-- nothing is spilled
pub due_none : (us old d : List ℕ) (read w : ℕ) → SpillsBmp us old d read w 0 → WritesPrefix old d w (encode_utf8_all (take read us))
due_none us old d read w p =
    let same : w + 0 ≡ w = omega arith in
    record {
      count = sym p.counted;
      fits = p.fits;
      placed = sym (take-append-drop w d) ∙ (λ i. p.prefix i ++ (ap (λ k. drop k d) (sym same) ∙ p.following ∙ ap (λ k. drop k old) same) i);
    }

-- what follows overwrites what was spilled
pub due_paid : (us old d sub more : List ℕ) (read w s m : ℕ) → SpillsBmp us old d read w s → s ≤ m → WritesPrefix (take (length d - w) (drop w d)) sub m more
    → WritesPrefix old (put_mid w (length d - w) d sub) (w + m) (encode_utf8_all (take read us) ++ more)
due_paid us old d sub more read w s m p due v =
    let start : length (take w d) ≡ w = length-take-le w d (omega (arith, p.fits, p.long)) in
    let here : WritesPrefix d d w (take w d) = record { count = sym start; fits = omega (arith, p.fits, p.long); placed = sym (take-append-drop w d) } in
    let both = WritesPrefix_after d d w (take w d) sub m more here v in
    let over : w + m ≡ w + s + (m - s) = omega arith in
    record {
      count = omega (arith, both.count, length-append (take w d) more, length-append (encode_utf8_all (take read us)) more, start, p.counted);
      fits = omega (arith, both.fits, p.long);
      placed = both.placed ∙ (λ i. (p.prefix i ++ more) ++ later (w + s) (m - s) (w + m) d old p.following over i);
    }

-- one more block
pub due_block : (us old d e : List ℕ) (due read w s c t : ℕ) → ConvertsDue us old d due read w s → read + 32 ≤ length us → 3 * length us ≤ length old
    → StoresBlock (take 16 (drop read us)) d e w c t
    → ConvertsDue us old e due (read + 16) (w + c) t
due_block us old d e due read w s c t p more room b = record {
  written = due_then us old d e read w s c t p.written (omega arith) p.few (omega (arith, p.bound, p.written.long, b.bounds)) b;
  covered = omega (arith, p.covered, p.few, b.bounds);
  few = b.few;
  fits = λ l. omega arith;
  bound = omega (arith, p.bound, b.bounds);
}

-- the same of units that are the next sixteen
pub due_block_from : (us block old d e : List ℕ) (due read w s c t : ℕ) → block ≡ take 16 (drop read us) → ConvertsDue us old d due read w s
    → read + 32 ≤ length us → 3 * length us ≤ length old → StoresBlock block d e w c t → ConvertsDue us old e due (read + 16) (w + c) t
due_block_from us block old d e due read w s c t same p more room b =
    due_block us old d e due read w s c t p more room (subst (λ xs. StoresBlock xs d e w c t) same b)

module _ {us old d sub : List ℕ} {due read w s n m t : ℕ} (p : ConvertsDue us old d due read w s)
    (q : ConvertsDue (take (length us - read) (drop read us)) (take (length d - w) (drop w d)) sub s n m t) where
  inside : w ≤ length d
  inside = omega (arith, p.written.fits, p.written.long)

  long : length (take w d) ≡ w
  long = length-take-le w d inside

  -- the whole, as its two parts
  parts : put_mid w (length d - w) d sub ≡ take w d ++ sub
  parts = let none : drop (length d - w) (drop w d) ≡ [] = drop_all (length d - w) (drop w d) (omega (arith, length-drop w d)) in
      rw (none, append-nil) (λ i. take w d ++ sub)

  prefix_of : (k : ℕ) → take (w + k) (put_mid w (length d - w) d sub) ≡ take w d ++ take k sub
  prefix_of k = ap (take (w + k)) parts ∙ ap (λ j. take (j + k) (take w d ++ sub)) (sym long) ∙ take-append-add (take w d) sub k

  rest_of : (k : ℕ) → drop (w + k) (put_mid w (length d - w) d sub) ≡ drop k sub
  rest_of k = ap (drop (w + k)) parts ∙ ap (λ j. drop (j + k) (take w d ++ sub)) (sym long) ∙ drop-append-add (take w d) sub k

  next : encode_utf8_all (take n (take (length us - read) (drop read us))) ≡ encode_utf8_all (take n (drop read us))
  next = ap (λ xs. encode_utf8_all (take n xs)) (take_rest us read)

  both : encode_utf8_all (take read us) ++ encode_utf8_all (take n (take (length us - read) (drop read us))) ≡ encode_utf8_all (take (read + n) us)
  both = ap (λ xs. encode_utf8_all (take read us) ++ xs) next ∙ encodes_more us read n

  -- more blocks, by a call on what is left
  pub due_more : ConvertsDue us old (put_mid w (length d - w) d sub) due (read + n) (w + m) t
  due_more =
      let units : length (take (length us - read) (drop read us)) ≡ length us - read = ap length (take_rest us read) ∙ length-drop read us in
      let bytes : length (take (length d - w) (drop w d)) ≡ length d - w = ap length (take_rest d w) ∙ length-drop w d in
      let place : w + m + t ≡ w + (m + t) = omega arith in
      let over : w + m + t ≡ w + s + (m + t - s) = omega (arith, q.covered) in
      record {
        written = record {
          within = omega (arith, p.written.within, q.written.within, units);
          plain = plain_then us read n p.written.plain (subst (λ xs. AreBmpScalars (take n xs)) (take_rest us read) q.written.plain);
          counted = ap length (sym both)
              ∙ omega (
                arith,
                length-append (encode_utf8_all (take read us))
                    (encode_utf8_all (take n (take (length us - read) (drop read us)))),
                p.written.counted,
                q.written.counted,
              );
          fits = omega (arith, inside, q.written.fits, bytes, p.written.long);
          prefix = prefix_of m ∙ (λ i. p.written.prefix i ++ q.written.prefix i) ∙ both;
          following = ap (λ k. drop k (put_mid w (length d - w) d sub)) place ∙ rest_of (m + t) ∙ q.written.following ∙ ap (drop (m + t)) (take_rest d w)
              ∙ drop-drop (m + t) w d
              ∙ ap (λ k. drop k d) (sym (place)) ∙ later (w + s) (m + t - s) (w + m + t) d old p.written.following over;
          long = ap length parts ∙ omega (arith, length-append (take w d) sub, long, q.written.long, bytes, inside, p.written.long);
        };
        covered = omega (arith, p.covered, q.covered);
        few = q.few;
        fits = λ l. omega (arith, q.fits l, units, p.written.within);
        bound = omega (arith, p.bound, q.bound);
      }

-- the same of units that are what is left
pub due_more_from : {us rest old d sub : List ℕ} {due read w s n m t : ℕ} → rest ≡ take (length us - read) (drop read us) → ConvertsDue us old d due read w s
    → ConvertsDue rest (take (length d - w) (drop w d)) sub s n m t → ConvertsDue us old (put_mid w (length d - w) d sub) due (read + n) (w + m) t
due_more_from {us} {rest} {old} {d} {sub} {due} {read} {w} {s} {n} {m} {t} e p q =
    due_more p (subst (λ xs. ConvertsDue xs (take (length d - w) (drop w d)) sub s n m t) e q)

-- blocks of the first units
pub due_of_first : {us old new : List ℕ} {due read w s : ℕ} (e : ℕ) → e ≤ length us → ConvertsDue (take e us) old new due read w s
    → SpillsBmp us old new read w s
due_of_first {us} {old} {new} {due} {read} {w} {s} e within p =
    let few : read ≤ e = omega (arith, p.written.within, length-take-le e us within) in
    let same : take read (take e us) ≡ take read us = take-take read e us few in
    record {
      within = omega arith;
      plain = subst AreBmpScalars same p.written.plain;
      counted = ap (λ xs. length (encode_utf8_all xs)) (sym same) ∙ p.written.counted;
      fits = p.written.fits;
      prefix = p.written.prefix ∙ ap encode_utf8_all same;
      following = p.written.following;
      long = p.written.long;
    }

pub due_of_first_from : {us first old new : List ℕ} {due read w s : ℕ} (e : ℕ) → first ≡ take e us → e ≤ length us → ConvertsDue first old new due read w s
    → SpillsBmp us old new read w s
due_of_first_from {us} {first} {old} {new} {due} {read} {w} {s} e same within p =
    due_of_first e within (subst (λ xs. ConvertsDue xs old new due read w s) same p)
