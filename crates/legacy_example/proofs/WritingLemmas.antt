-- Runs of bytes, written after what was written for those before.
use Rattle.std.proofs.Common.{◌≡◌, ℕ, ◌+◌, ◌-◌, ◌*◌, ◌<◌, ◌≤◌, List, [], ◌∷◌, ◌++◌, length, take, drop, take-add, map, slice_index, encode_utf8_all, refl, sym, ap, ◌∙◌, arith}
use Rattle.std.specs.Str.{IsAscii}
use Rattle.std.proofs.lemmas.List.{map-append, map_more, take_rest, length-take-le, length-drop}
use Rattle.std.proofs.lemmas.Str.{encodes-append, encodes-IsAscii}
use borrow.Rule.Slice.PartMut.{put_mid}
use Rattle.encoding_text.specs.Prefixes.{WritesPrefix}
use Rattle.encoding_text.proofs.PrefixesLemmas.{WritesPrefix-length, WritesPrefix-same, WritesPrefix_after}
use Rattle.legacy_example.specs.Windows1252.{scalar_of, AreBytes}
use Rattle.legacy_example.proofs.IndexLemmas.{ascii_same, bytes_within}

-- a run of bytes that have the same characters in Latin1
run_after : (src : List ℕ) (at run : ℕ) → map scalar_of (take run (drop at src)) ≡ take run (drop at src)
    → map scalar_of (take at src) ++ take run (drop at src) ≡ map scalar_of (take (at + run) src)
run_after src at run same = sym (ap (map scalar_of) (take-add at run src) ∙ map-append scalar_of (take at src) (take run (drop at src))
    ∙ ap (λ xs. map scalar_of (take at src) ++ xs) same)

run_bytes_after : (src : List ℕ) (at run : ℕ) → map scalar_of (take run (drop at src)) ≡ take run (drop at src)
    → encode_utf8_all (map scalar_of (take at src)) ++ encode_utf8_all (take run (drop at src)) ≡ encode_utf8_all (map scalar_of (take (at + run) src))
run_bytes_after src at run same = sym (encodes-append (map scalar_of (take at src)) (take run (drop at src))) ∙ ap encode_utf8_all (run_after src at run same)

-- one byte more
pub byte_after : (src : List ℕ) (at : ℕ) → at < length src
    → map scalar_of (take at src) ++ scalar_of (slice_index src at) ∷ [] ≡ map scalar_of (take (at + 1) src)
byte_after src at l = sym (map_more scalar_of src at 0 l)

pub byte_bytes_after : (src : List ℕ) (at : ℕ) → at < length src
    → encode_utf8_all (map scalar_of (take at src)) ++ encode_utf8_all (scalar_of (slice_index src at) ∷ []) ≡ encode_utf8_all
    (map scalar_of (take (at + 1) src))
byte_bytes_after src at l = sym (encodes-append (map scalar_of (take at src)) (scalar_of (slice_index src at) ∷ [])) ∙ ap encode_utf8_all (byte_after src at l)

-- the ASCII prefix
pub ascii_bytes : (bs : List ℕ) → IsAscii bs → bs ≡ encode_utf8_all (map scalar_of bs)
ascii_bytes bs h = sym (encodes-IsAscii bs h) ∙ ap encode_utf8_all (ascii_same bs h)

-- ---- into a destination
-- a run after what was written for the bytes before it
pub units_run : (src old dst sub : List ℕ) (at run : ℕ) → WritesPrefix old dst at (map scalar_of (take at src))
    → run ≤ length (take (length src - at) (drop at src))
    → map scalar_of (take run (take (length src - at) (drop at src))) ≡ take run (take (length src - at) (drop at src))
    → WritesPrefix (take (length dst - at) (drop at dst)) sub (length (take (at + run - at) (drop at src))) (take (at + run - at) (drop at src))
    → WritesPrefix old (put_mid at (length dst - at) dst sub) (at + run) (map scalar_of (take (at + run) src))
units_run src old dst sub at run w within same v =
    let n : at + run - at ≡ run = omega arith in
    let more = rw n at v in
    let long : length (take run (drop at src)) ≡ run = length-take-le run (drop at src) (omega (arith, within, ap length (take_rest src at))) in
    WritesPrefix-same _ _ _ _ _ _ (WritesPrefix_after old dst at _ sub _ _ w more) (omega (arith, long)) (run_after src at run (rw (take_rest src at) at same))

pub bytes_run : (src old dst sub : List ℕ) (read run written m : ℕ) → WritesPrefix old dst written (encode_utf8_all (map scalar_of (take read src)))
    → map scalar_of (take run (take (length src - read) (drop read src))) ≡ take run (take (length src - read) (drop read src))
    → WritesPrefix (take (length dst - written) (drop written dst)) sub m (encode_utf8_all (take (read + run - read) (drop read src)))
    → WritesPrefix old (put_mid written (length dst - written) dst sub) (written + m) (encode_utf8_all (map scalar_of (take (read + run) src)))
bytes_run src old dst sub read run written m w same v =
    let n : read + run - read ≡ run = omega arith in
    let more = rw n at v in
    WritesPrefix-same _ _ _ _ _ _ (WritesPrefix_after old dst written _ sub m _ w more) refl (run_bytes_after src read run (rw (take_rest src read) at same))

-- three bytes are left for each byte that is left
pub room_left : (src old dst : List ℕ) (read written : ℕ) → AreBytes src → 3 * length src ≤ length old → read ≤ length src
    → WritesPrefix old dst written (encode_utf8_all (map scalar_of (take read src)))
    → 3 * (length src - read) ≤ length (take (length dst - written) (drop written dst))
room_left src old dst read written h room within w =
    omega (arith, w.count, bytes_within read src h, WritesPrefix-length _ _ _ _ w, ap length (take_rest dst written), length-drop written dst)
