-- Longest fitting prefixes, one after the other.
use Rattle.std.proofs.Common.{◌≡◌, ℕ, ◌<◌, ◌≤◌, List, [], ◌∷◌, ◌++◌, length, take, drop, encode_utf8_all, sym, ap, ◌∙◌, arith, subst}
use Rattle.std.specs.Prelude.{map}
use Rattle.std.specs.List.{flat_map}
use Rattle.std.proofs.lemmas.List.{take-append-drop}
use Rattle.std.proofs.lemmas.List.Concat.{flat_map-append}
use Rattle.encoding_definitions.specs.Utf16.{Part16, units_of_part16, utf8_of_part16, scalar_of_part16, ArePartsOf16, IsUtf8OfLongestPrefix}
use Rattle.encoding_definitions.proofs.Utf16Lemmas.{parts_unique, rest_parts, none_left}
use Rattle.encoding_definitions.proofs.Utf16LawLemmas.{utf8_of_all}
use Rattle.encoding_definitions.proofs.FirstPartsLemmas.{first_fits}
use Rattle.encoding_runs.specs.Calls.{WritesInTurn}

repeated : (rooms us out : List ℕ) (parts : List Part16) → ArePartsOf16 us parts → WritesInTurn us rooms out → out ≡ flat_map utf8_of_part16 parts
repeated [] us out parts a (none, empty) = empty ∙ sym (ap (flat_map utf8_of_part16) (none_left parts (ap length (a.1 ∙ none))))
repeated (room ∷ rooms) us out parts a (read, first, others, f, r, joined) =
    let same : f.parts ≡ parts = parts_unique us f.parts parts f.are_parts a in
    let n : ℕ = f.longest.count in
    let written : first ≡ flat_map utf8_of_part16 (take n parts) = f.longest.written ∙ ap (λ ps. flat_map utf8_of_part16 (take n ps)) same in
    let taken : read ≡ length (flat_map units_of_part16 (take n parts)) = f.longest.taken ∙ ap (λ ps. length (flat_map units_of_part16 (take n ps))) same in
    let rest : ArePartsOf16 (drop read us) (drop n parts) = subst (λ k. ArePartsOf16 (drop k us) (drop n parts)) (sym taken) (rest_parts us parts n a) in
    joined ∙ ap (λ xs. first ++ xs) (repeated rooms (drop read us) others (drop n parts) rest r)
    ∙ ap (λ xs. xs ++ flat_map utf8_of_part16 (drop n parts)) written
    ∙ sym (flat_map-append utf8_of_part16 (take n parts) (drop n parts)) ∙ ap (flat_map utf8_of_part16) (take-append-drop n parts)

pub joined : (us : List ℕ) (parts : List Part16) (rooms out : List ℕ) → ArePartsOf16 us parts → WritesInTurn us rooms out
    → out ≡ encode_utf8_all (map scalar_of_part16 parts)
joined us parts rooms out a r = repeated rooms us out parts a r ∙ utf8_of_all parts

pub progress : (us out : List ℕ) (room read : ℕ) → 0 < length us → 4 ≤ room → IsUtf8OfLongestPrefix us room read out → 0 < read
progress us out room read s l f = first_fits f.parts room read out (omega (arith, s, ap length f.are_parts.1)) l f.longest
