-- Lengths of results: a repaired text is at most three times as long as its bytes, and Latin1 whose UTF-8 fits as a
-- whole.
use Rattle.std.proofs.Common.{◌≡◌, ◌≢◌, ℕ, ◌*◌, ◌<◌, ◌≤◌, List, [], ◌∷◌, length, refl, ap, arith, encode_utf8, ◌+◌, inl, inr, take, encode_utf8_all, ◌∙◌}
use Rattle.std.proofs.lemmas.List.{length-append, take_all}
use Rattle.encoding_definitions.specs.Parts.{Part, Character, IllFormed, ArePartsOf, lossy_utf8}
use Rattle.encoding_definitions.proofs.PartsLemmas.{part_bytes}
use Rattle.encoding_runs.specs.Repairs.{IsLossyDecodeOf, IsProperPrefix}
use Rattle.std.proofs.lemmas.Bool.{cases_lt}
use Rattle.encoding_definitions.specs.Prefixes.{IsLongestFittingPrefix}
use Rattle.encoding_definitions.proofs.PrefixesLemmas.{length-prefix}
use Rattle.encoding_definitions.proofs.EncodingLemmas.{flat_map-encode_utf8}

pub length-repaired : (bs : List ℕ) (parts : List Part) → ArePartsOf bs parts → length (lossy_utf8 parts) ≤ 3 * length bs
unfolding lib.Utf8.encode
length-repaired bs [] e = omega arith
length-repaired bs (Character c ∷ parts) (after, f, more) =
    let h = part_bytes bs (Character c) after f in
    omega (arith, ap length h.0, length-append (encode_utf8 c) after, length-append (encode_utf8 c) (lossy_utf8 parts), length-repaired after parts more)
length-repaired bs (IllFormed x ∷ parts) (after, f, more) =
    let h = part_bytes bs (IllFormed x) after f in
    let three : length (encode_utf8 0xFFFD) ≡ 3 = refl in
    omega (arith, ap length h.0, h.1, length-append x after, length-append (encode_utf8 0xFFFD) (lossy_utf8 parts), three, length-repaired after parts more)

-- a proper prefix of it is shorter than that
pub stops_short : (bs text out : List ℕ) → IsLossyDecodeOf bs text → IsProperPrefix out text → length out < 3 * length bs
stops_short bs text out (parts, are, e) (rest, some, whole) =
    omega (arith, ap length e, length-repaired bs parts are, ap length whole, length-append out rest, not_empty rest some)
  where
    not_empty : (xs : List ℕ) → xs ≢ [] → 0 < length xs
    not_empty [] n = absurd (n refl)
    not_empty (x ∷ xs) n = omega arith

-- the longest prefix that fits is then all of it
pub latin1_fits_all : (xs : List ℕ) (room read : ℕ) (out : List ℕ) → length (encode_utf8_all xs) ≤ room
    → IsLongestFittingPrefix (λ b. b ∷ []) encode_utf8 xs room read out → out ≡ encode_utf8_all xs
latin1_fits_all xs room read out l f =
    let all : take (length xs) xs ≡ xs = take_all (length xs) xs (omega arith) in
    let whole : f.count ≡ length xs = elim (cases_lt f.count (length xs)) [
      | inl p ↦ absurd (omega (arith, f.longest p, length-prefix encode_utf8 xs (f.count + 1), ap length (flat_map-encode_utf8 xs), l))
      | inr p ↦ omega (arith, f.within)
    ] in
    f.written ∙ flat_map-encode_utf8 (take f.count xs) ∙ ap (λ n. encode_utf8_all (take n xs)) whole ∙ ap encode_utf8_all all
