-- Steps of a call of the UTF-16 decoder: how one continues another, what a block of code units is, and what the first
-- bytes after the pending ones are.
use Rattle.std.proofs.Common.{◌≡◌, ◌≢◌, ℕ, zero, suc, ◌+◌, ◌-◌, ◌*◌, ◌<◌, ◌≤◌, inl, inr, Bool, true, List, [], ◌∷◌, ◌++◌, length, take, drop, refl, sym, ap}
use Rattle.std.proofs.Common.{◌∙◌, arith, subst, append_assoc, take-add, encode_utf8}
use Rattle.std.specs.Char.{IsScalar}
use Rattle.std.specs.Char.Escape.{encode_utf16}
use Rattle.std.specs.List.{flat_map}
use Rattle.std.specs.Str.{IsAscii, all_scalars}
use Rattle.std.proofs.lemmas.Bool.{and_parts, and_from, cases_lt}
use Rattle.std.proofs.lemmas.List.{append-nil, length-append, length-drop, length-take, take_at, take_all, take_rest, drop_at, drop-drop, take-append-drop}
use Rattle.std.proofs.lemmas.List.{take-take}
use Rattle.std.proofs.lemmas.List.Concat.{flat_map-append}
use Rattle.std.proofs.lemmas.Str.{encodes-IsAscii}
use Rattle.std.proofs.str.Utf16.{one_unit}
use Rattle.encoding_definitions.proofs.EncodingLemmas.{flat_map-encode_utf8}
use lib.Utf8.{low_scalar}
use borrow.Rule.Slice.PartMut.{put_mid}
use Rattle.encoding_text.specs.Parts.{IllFormed}
use Rattle.encoding_text.specs.Prefixes.{WritesPrefix}
use Rattle.encoding_text.specs.Utf16Bytes.{bytes_of_scalars, utf16_bytes}
use Rattle.encoding_text.specs.declared.utf_16.ByteOrder.{ByteOrder}
use Rattle.encoding_text.specs.declared.decoder.DecoderResult.{DecoderResult}
use Rattle.encoding_text.specs.declared.decoder.DecoderResult.TheVariants.{InputEmpty, OutputFull, Malformed}
use Rattle.encoding_text.proofs.PrefixesLemmas.{WritesPrefix-nil, WritesPrefix-length, WritesPrefix_after}
use Rattle.encoding_streams.specs.Utf16Parts.{IsPendingUtf16, IsMalformedUtf16, IsFirstPartUtf16}
use Rattle.encoding_streams.specs.Utf16Decoding.{NeedsMore, IsUtf16DecodeResult, DecodeUtf16StepInto}
use Rattle.encoding_streams.specs.Utf16Steps.{Advances, BeginsTooLong, WritesUnits}
use Rattle.encoding_streams.proofs.Utf16ByteLemmas.{length-utf16_bytes, utf16_bytes-append, bytes_of_scalars-append, pending_nil}
use Rattle.encoding_streams.proofs.Utf16PartLemmas.{part_bytes}

-- the characters of two lists
pub scalars_append : (cs ds : List ℕ) → all_scalars cs ≡ true → all_scalars ds ≡ true → all_scalars (cs ++ ds) ≡ true
scalars_append [] ds h k = k
scalars_append (c ∷ cs) ds h k = let parts = and_parts _ _ h in and_from _ _ parts.0 (scalars_append cs ds parts.1 k)

pub scalars_split : (cs ds : List ℕ) → all_scalars (cs ++ ds) ≡ true → (all_scalars cs ≡ true) × (all_scalars ds ≡ true)
scalars_split [] ds h = (refl, h)
scalars_split (c ∷ cs) ds h =
    let parts = and_parts _ _ h in let rest = scalars_split cs ds parts.1 in (and_from _ _ parts.0 rest.0, rest.1)

-- a malformed sequence has bytes
malformed_some : (order : ByteOrder) (x rest : List ℕ) (last : Bool) → IsMalformedUtf16 order x rest last → 0 < length x
malformed_some order x rest last m = (part_bytes order last (x ++ rest) (IllFormed x) rest (refl, m)).1

module _ {A : Type 0} (order : ByteOrder) (encode : ℕ → List A) where
  -- ---- nothing yet
  pub advance_none : (p src : List ℕ) (old : List A) → Advances order encode p src old old 0 0 p
  advance_none p src old = record { scalars = []; are_scalars = refl; within = omega arith; spelled = append-nil p; writes = WritesPrefix-nil old }

  -- ---- one after another
  joined_bytes : (p q src cs ds y : List ℕ) (read r : ℕ) → p ++ take read src ≡ bytes_of_scalars order cs ++ q
      → q ++ take r (take (length src - read) (drop read src)) ≡ bytes_of_scalars order ds ++ y
      → p ++ take (read + r) src ≡ bytes_of_scalars order (cs ++ ds) ++ y
  joined_bytes p q src cs ds y read r e f =
      ap (λ xs. p ++ xs) (take-add read r src) ∙ sym (append_assoc p (take read src) (take r (drop read src)))
      ∙ ap (λ xs. xs ++ take r (drop read src)) e ∙ append_assoc (bytes_of_scalars order cs) q (take r (drop read src))
      ∙ ap (λ xs. bytes_of_scalars order cs ++ (q ++ take r xs)) (sym (take_rest src read)) ∙ ap (λ xs. bytes_of_scalars order cs ++ xs) f
      ∙ sym (append_assoc (bytes_of_scalars order cs) (bytes_of_scalars order ds) y)
      ∙ ap (λ xs. xs ++ y) (sym (bytes_of_scalars-append order cs ds))

  joined_writes : (old mid sub : List A) (written w : ℕ) (cs ds : List ℕ) → WritesPrefix old mid written (flat_map encode cs)
      → WritesPrefix (take (length mid - written) (drop written mid)) sub w (flat_map encode ds)
      → WritesPrefix old (put_mid written (length mid - written) mid sub) (written + w) (flat_map encode (cs ++ ds))
  joined_writes old mid sub written w cs ds e f =
      subst (λ xs. WritesPrefix old (put_mid written (length mid - written) mid sub) (written + w) xs) (sym (flat_map-append encode cs ds))
      (WritesPrefix_after old mid written (flat_map encode cs) sub w (flat_map encode ds) e f)

  pub rest_length : (src : List ℕ) (read : ℕ) → length (take (length src - read) (drop read src)) ≡ length src - read
  rest_length src read = ap length (take_rest src read) ∙ length-drop read src

  rest_room : (old mid out : List A) (written : ℕ) → WritesPrefix old mid written out
      → length (take (length mid - written) (drop written mid)) ≡ length old - written
  rest_room old mid out written w = ap length (take_rest mid written) ∙ length-drop written mid
      ∙ ap (λ n. n - written) (WritesPrefix-length old mid written out w)

  pub advance_then : (p q q' src : List ℕ) (old mid sub : List A) (read written r w : ℕ) → Advances order encode p src old mid read written q
      → Advances order encode q (take (length src - read) (drop read src)) (take (length mid - written) (drop written mid)) sub r w q'
      → Advances order encode p src old (put_mid written (length mid - written) mid sub) (read + r) (written + w) q'
  advance_then p q q' src old mid sub read written r w a b = record {
    scalars = a.scalars ++ b.scalars;
    are_scalars = scalars_append a.scalars b.scalars a.are_scalars b.are_scalars;
    within = omega (arith, a.within, b.within, rest_length src read);
    spelled = joined_bytes p q src a.scalars b.scalars q' read r a.spelled b.spelled;
    writes = joined_writes old mid sub written w a.scalars b.scalars a.writes b.writes;
  }

  -- ---- the call ends after what was read
  -- all was read, and nothing is pending
  pub all_after : (need : ℕ) (p src : List ℕ) (old new : List A) (last : Bool) (read written : ℕ) → IsPendingUtf16 order p
      → Advances order encode p src old new read written [] → read ≡ length src
      → DecodeUtf16StepInto order encode need p src old new last InputEmpty read written []
  all_after need p src old new last read written before a e = (
    flat_map encode a.scalars,
    a.writes,
    record {
      scalars = a.scalars;
      are_scalars = a.are_scalars;
      out_is = refl;
      fits = omega (arith, a.writes.count, a.writes.fits);
      pending_before = before;
      pending = pending_nil order;
      answer = (e, ap (λ xs. p ++ xs) (sym (take_all read src (omega (arith, e)))) ∙ a.spelled, λ _. refl);
    },
  )

  -- the next step ends it
  module _ (need : ℕ) (p q src : List ℕ) (old mid sub : List A) (last : Bool) (read written r w : ℕ) (q' : List ℕ) where
    src' : List ℕ
    src' = take (length src - read) (drop read src)

    ended : (result : DecoderResult) (a : Advances order encode p src old mid read written q) (ds : List ℕ) (left left' : ℕ) → IsPendingUtf16 order q
        → (q ≢ [] → (read ≡ 0) × (q ≡ p))
        → left ≡ left' → IsUtf16DecodeResult order encode need q (take (length src - read) (drop read src)) last result r ds left q'
        → IsUtf16DecodeResult order encode need p src last result (read + r) (a.scalars ++ ds) left' q'
    ended InputEmpty a ds left left' pending kept e (all, whole, closes) =
        let total : read + r ≡ length src = omega (arith, all, a.within, rest_length src read) in
        let bytes = joined_bytes p q src a.scalars ds q' read r a.spelled
        (ap (λ xs. q ++ xs) (take_all r (take (length src - read) (drop read src)) (omega (arith, all))) ∙ whole) in
        (total, ap (λ xs. p ++ xs) (sym (take_all (read + r) src (omega (arith, total)))) ∙ bytes, closes)
    ended OutputFull a ds left left' pending kept e (some, within, whole, same, part, after, first, more) =
        let rest : drop r (take (length src - read) (drop read src)) ≡ drop (read + r) src = ap (drop r) (take_rest src read) ∙ drop-drop r read src in (
          omega (arith, some, rest_length src read),
          omega (arith, within, a.within, rest_length src read),
          joined_bytes p q src a.scalars ds q' read r a.spelled whole,
          (λ some. let now = same some in let had = kept (λ n. some (now.1 ∙ n)) in (omega (arith, now.0, had.0), now.1 ∙ had.1)),
          part,
          after,
          subst (λ xs. IsFirstPartUtf16 order last (q' ++ xs) part after) rest first,
          subst (λ n. NeedsMore encode need n part) e more,
        )
    ended (Malformed k second) a ds left left' pending kept e (x, within, whole, size, more, stayed, malformed, room) =
        let rest : drop r (take (length src - read) (drop read src)) ≡ drop (read + r) src = ap (drop r) (take_rest src read) ∙ drop-drop r read src in (
          x,
          omega (arith, within, a.within, rest_length src read),
          joined_bytes p q src a.scalars ds (x ++ q') read r a.spelled whole,
          size,
          more,
          (λ some. let none = stayed some in omega (arith, none, (kept (λ n. no_sequence none n)).0)),
          subst (λ xs. IsMalformedUtf16 order x (q' ++ xs) last) rest malformed,
          (λ some. elim (cases_lt 0 (length (take (length src - read) (drop read src)))) [
            | inl h ↦ subst (λ n. need ≤ n) e (room h)
            | inr h ↦ absurd (nothing q (λ xs. kept xs) whole some (omega arith))
          ]),
        )
      where
        -- with nothing read and nothing pending there is none
        no_sequence : r ≡ 0 → q ≡ [] → ⊥
        no_sequence none n =
            omega (
              arith,
              ap length whole,
              length-append q (take r (take (length src - read) (drop read src))),
              length-take r (take (length src - read) (drop read src)),
              none,
              ap length n,
              length-append (bytes_of_scalars order ds) (x ++ q'),
              length-append x q',
              malformed_some order x _ last malformed,
            )

        -- with nothing unread, a malformed sequence was pending, and so nothing was read
        nothing : (ys : List ℕ) → (ys ≢ [] → (read ≡ 0) × (ys ≡ p))
            → ys ++ take r (take (length src - read) (drop read src)) ≡ bytes_of_scalars order ds ++ (x ++ q')
            → 0 < length src → length (take (length src - read) (drop read src)) ≡ 0 → ⊥
        nothing [] kept f some none =
            omega (
              arith,
              ap length f,
              length-take r (take (length src - read) (drop read src)),
              none,
              length-append (bytes_of_scalars order ds) (x ++ q'),
              length-append x q',
              malformed_some order x _ last malformed,
            )
        nothing (y ∷ ys) kept f some none = omega (arith, (kept (λ n. omega (arith, ap length n))).0, none, rest_length src read)

    pub ends_after : (result : DecoderResult) → IsPendingUtf16 order p → Advances order encode p src old mid read written q → (q ≢ [] → (read ≡ 0) × (q ≡ p))
        → DecodeUtf16StepInto order encode need q (take (length src - read) (drop read src))
        (take (length mid - written) (drop written mid)) sub last result r w q'
        → DecodeUtf16StepInto order encode need p src old (put_mid written (length mid - written) mid sub) last result (read + r) (written + w) q'
    ends_after result before a kept (out, writes, call) =
        let room = rest_room old mid (flat_map encode a.scalars) written a.writes in
        let total : length (flat_map encode (a.scalars ++ call.scalars)) ≡ written + length out =
        omega (
          arith,
          ap length (flat_map-append encode a.scalars call.scalars),
          length-append (flat_map encode a.scalars) (flat_map encode call.scalars),
          a.writes.count,
          ap length call.out_is,
        ) in (
          flat_map encode (a.scalars ++ call.scalars),
          joined_writes old mid sub written w a.scalars call.scalars a.writes
              (subst (λ xs. WritesPrefix (take (length mid - written) (drop written mid)) sub w xs) call.out_is writes),
          record {
            scalars = a.scalars ++ call.scalars;
            are_scalars = scalars_append a.scalars call.scalars a.are_scalars call.are_scalars;
            out_is = refl;
            fits = omega (arith, total, call.fits, room, a.writes.fits);
            pending_before = before;
            pending = call.pending;
            answer = ended result a call.scalars _ _ call.pending_before kept (omega (arith, total, room)) call.answer;
          },
        )

  -- ---- a block of code units
  -- the characters of valid code units are read and written, and the next doesn't fit
  module _ (src units : List ℕ) (old new : List A) (taken written : ℕ) (w : WritesUnits encode units old new taken written)
      (spelled : utf16_bytes order units ≡ take (2 * length units) src) where
    units_split : units ≡ flat_map encode_utf16 w.done ++ flat_map encode_utf16 w.more
    units_split = w.units_are ∙ flat_map-append encode_utf16 w.done w.more

    bytes_split : bytes_of_scalars order w.done ++ bytes_of_scalars order w.more ≡ take (2 * length units) src
    bytes_split = sym (utf16_bytes-append order (flat_map encode_utf16 w.done) (flat_map encode_utf16 w.more))
        ∙ ap (utf16_bytes order) (sym units_split) ∙ spelled

    done_length : length (bytes_of_scalars order w.done) ≡ 2 * taken
    done_length = length-utf16_bytes order (flat_map encode_utf16 w.done) ∙ ap (λ n. 2 * n) (sym w.taken_is)

    whole_length : length (bytes_of_scalars order w.done) + length (bytes_of_scalars order w.more) ≡ 2 * length units
    whole_length = sym (length-append (bytes_of_scalars order w.done) (bytes_of_scalars order w.more))
        ∙ ap length (bytes_split ∙ sym spelled) ∙ length-utf16_bytes order units

    pub within_units : taken ≤ length units
    within_units = omega (arith, whole_length, done_length)

    within_src : 2 * length units ≤ length src
    within_src = omega (arith, ap length spelled, length-utf16_bytes order units, length-take (2 * length units) src)

    pub done_bytes : bytes_of_scalars order w.done ≡ take (2 * taken) src
    done_bytes = sym (take_at (bytes_of_scalars order w.done) (bytes_of_scalars order w.more) (2 * taken) done_length) ∙ ap (take (2 * taken)) bytes_split
        ∙ take-take (2 * taken) (2 * length units) src (omega (arith, within_units))

    -- the bytes from the first that isn't written
    following : drop (2 * taken) src ≡ bytes_of_scalars order w.more ++ drop (2 * length units) src
    following = ap (drop (2 * taken)) (sym (take-append-drop (2 * length units) src) ∙ ap (λ xs. xs ++ drop (2 * length units) src) (sym bytes_split)
        ∙ append_assoc (bytes_of_scalars order w.done) (bytes_of_scalars order w.more) (drop (2 * length units) src))
        ∙ drop_at (bytes_of_scalars order w.done) (bytes_of_scalars order w.more ++ drop (2 * length units) src) (2 * taken) done_length

    pub block_advances : Advances order encode [] src old new (2 * taken) written []
    block_advances = record {
      scalars = w.done;
      are_scalars = (scalars_split w.done w.more w.are_scalars).0;
      within = omega (arith, within_units, within_src);
      spelled = sym done_bytes ∙ sym (append-nil (bytes_of_scalars order w.done));
      writes = w.writes;
    }

    pub too_long : taken < length units → BeginsTooLong order encode (drop (2 * taken) src) (length old - written)
    too_long l = start w.more refl
      where
        start : (more : List ℕ) → w.more ≡ more → BeginsTooLong order encode (drop (2 * taken) src) (length old - written)
        start [] e = absurd (omega (arith, whole_length, done_length, ap (λ cs. length (bytes_of_scalars order cs)) e))
        start (c ∷ rest) e = (
          c,
          bytes_of_scalars order rest ++ drop (2 * length units) src,
          (and_parts _ _ (subst (λ cs. all_scalars cs ≡ true) e (scalars_split w.done w.more w.are_scalars).1)).0,
          following ∙ ap (λ cs. bytes_of_scalars order cs ++ drop (2 * length units) src) e
              ∙ ap (λ xs. xs ++ drop (2 * length units) src) (bytes_of_scalars-append order (c ∷ []) rest
              ∙ ap (λ us. utf16_bytes order us ++ bytes_of_scalars order rest) (append-nil (encode_utf16 c)))
              ∙ append_assoc (utf16_bytes order (encode_utf16 c)) (bytes_of_scalars order rest) (drop (2 * length units) src),
          w.stops c rest e,
        )

-- characters are read and written
pub scalars_advance : (order : ByteOrder) (src : List ℕ) {old new : List ℕ} {read written : ℕ} → read ≤ length src
    → (scalars : List ℕ) × (all_scalars scalars ≡ true)
    × (utf16_bytes order (flat_map encode_utf16 scalars) ≡ take read src) × WritesPrefix old new written (flat_map encode_utf8 scalars)
    → Advances order encode_utf8 [] src old new read written []
scalars_advance order src within (scalars, are, spelled, writes) = record {
  scalars = scalars;
  are_scalars = are;
  within = within;
  spelled = sym spelled ∙ sym (append-nil (utf16_bytes order (flat_map encode_utf16 scalars)));
  writes = writes;
}

-- ASCII is the same in UTF-16 and in UTF-8
ascii_units : (us : List ℕ) → IsAscii us → (all_scalars us ≡ true) × (flat_map encode_utf16 us ≡ us)
ascii_units [] h = (refl, refl)
ascii_units (u ∷ us) h =
    let rest = ascii_units us (λ i. h (suc i)) in
    let small : u < 0x80 = h zero in
    (and_from _ _ (low_scalar u (omega arith)) rest.0, (λ i. one_unit u (omega arith) i ++ rest.1 i))

-- it is read and written
pub ascii_advance : (order : ByteOrder) (src : List ℕ) {old new : List ℕ} {count : ℕ} → 2 * count ≤ length src
    → (units : List ℕ) × (utf16_bytes order units ≡ take (2 * count) src) × IsAscii units × WritesPrefix old new count units
    → Advances order encode_utf8 [] src old new (2 * count) count []
ascii_advance order src {old} {new} {count} within (units, spelled, ascii, writes) =
    let same = ascii_units units ascii in
    scalars_advance order src within (
      units,
      same.0,
      ap (utf16_bytes order) same.1 ∙ spelled,
      subst (λ xs. WritesPrefix old new count xs) (sym (flat_map-encode_utf8 units ∙ encodes-IsAscii units ascii)) writes,
    )

-- one character is read and written
pub character_advance : (order : ByteOrder) (src : List ℕ) {old new : List ℕ} {read written : ℕ} (c : ℕ) → IsScalar c → read ≤ length src
    → utf16_bytes order (encode_utf16 c) ≡ take read src → WritesPrefix old new written (encode_utf8 c)
    → Advances order encode_utf8 [] src old new read written []
character_advance order src {old} {new} {read} {written} c s within spelled writes =
    scalars_advance order src within (
      c ∷ [],
      and_from _ _ s refl,
      ap (utf16_bytes order) (append-nil (encode_utf16 c)) ∙ spelled,
      subst (WritesPrefix old new written) (sym (append-nil (encode_utf8 c))) writes,
    )
