-- The UTF-8 of characters: the longest well-formed prefix, character by character, and writing one at the start of a
-- destination.
use Rattle.std.proofs.Common.{◌≡◌, ℕ, ◌+◌, ◌<◌, ◌≤◌, inl, inr, List, length, take, drop, encode_utf8, refl}
use Rattle.std.proofs.Common.{sym, ap, ◌∙◌, arith, subst, take-add, ◌/◌, ◌%◌, [], set, bit_and, bit_or}
use Rattle.std.specs.Str.{IsUtf8, StartsWithNoChar}
use Rattle.std.proofs.lemmas.Bool.{cases_lt}
use Rattle.std.proofs.lemmas.List.{take_at, length-append, length-drop}
use Rattle.std.proofs.lemmas.Str.{IsUtf8-append, IsUtf8-encode}
use Rattle.std.proofs.str.Faults.{valid_to}
use Rattle.encoding_definitions.specs.Sequence.{IsSequence}
use Rattle.encoding_definitions.specs.Parts.{BeginsWithNoCharacter}
use Rattle.encoding_definitions.specs.Prefixes.{IsLongestPrefix, WritesPrefix}
use Rattle.encoding_definitions.proofs.SequenceLemmas.{IsSequence-some}
use Rattle.encoding_definitions.proofs.EncodingLemmas.{decode_utf8_scalar, IsSequence-encode}
use Rattle.std.proofs.lemmas.Grind.{common_steps}
use Rattle.std.specs.Char.{len_utf8}
use Rattle.std.proofs.lemmas.Bool.Decides.{nat_tests}
use Rattle.std.proofs.str.Laws.{two, three, four}
use Rattle.encoding_definitions.proofs.PrefixesLemmas.{WritesPrefix-nil, WritesPrefix-same, WritesPrefix_push_two}
use Rattle.encoding_definitions.proofs.PrefixesLemmas.{WritesPrefix_push_three, WritesPrefix_push_four}

pub IsUtf8-sequence : (bs : List ℕ) → IsSequence bs → IsUtf8 bs
IsUtf8-sequence bs s = let c = decode_utf8_scalar bs s in subst IsUtf8 c.2 (IsUtf8-encode c.0 c.1)

-- one more character
pub IsUtf8_more : (bs : List ℕ) (at n : ℕ) → IsUtf8 (take at bs) → IsSequence (take n (drop at bs)) → IsUtf8 (take (at + n) bs)
IsUtf8_more bs at n u s = subst IsUtf8 (sym (take-add at n bs)) (IsUtf8-append _ _ u (IsUtf8-sequence _ s))

pub starts_with_none : (bs : List ℕ) → BeginsWithNoCharacter bs → StartsWithNoChar bs
starts_with_none bs n = λ c rest s e. n (encode_utf8 c) rest e (IsSequence-encode c s)

-- the prefix is the longest if the rest starts with no character
pub IsLongestPrefix-utf8 : (bs : List ℕ) (at : ℕ) → at ≤ length bs → IsUtf8 (take at bs) → BeginsWithNoCharacter (drop at bs) → IsLongestPrefix IsUtf8 bs at
IsLongestPrefix-utf8 bs at l u n = record { within = l; kind = u; longest = longest }
  where
    longest : (m : ℕ) → m ≤ length bs → IsUtf8 (take m bs) → m ≤ at
    longest m h v = elim (cases_lt at m) [
      | inl p ↦ absurd ((valid_to bs at (omega arith) u (starts_with_none _ n)).longest m p v)
      | inr p ↦ p
    ]

-- the rest after the longest prefix starts with no character
pub no_character_after : (bs : List ℕ) (n : ℕ) → IsLongestPrefix IsUtf8 bs n → BeginsWithNoCharacter (drop n bs)
no_character_after bs n l prefix rest e s =
    let long : 0 < length prefix = omega (arith, IsSequence-some prefix s) in
    let next : take (length prefix) (drop n bs) ≡ prefix = ap (take (length prefix)) e ∙ take_at prefix rest (length prefix) refl in
    let total : n + length prefix ≤ length bs = omega (arith, l.within, ap length e, length-append prefix rest, length-drop n bs) in
    let more = l.longest (n + length prefix) total (IsUtf8_more bs n (length prefix) l.kind (subst IsSequence (sym next) s)) in
    omega arith

last_six : (n : ℕ) → bit_or 128 (bit_and n 63) ≡ 128 + n % 64
last_six n = grind (arith, common_steps)

lead_two : (n : ℕ) → n < 32 → bit_or 192 n ≡ 192 + n
lead_two n l = grind (arith, common_steps)

lead_three : (n : ℕ) → n < 16 → bit_or 224 n ≡ 224 + n
lead_three n l = grind (arith, common_steps)

lead_four : (n : ℕ) → n < 8 → bit_or 240 n ≡ 240 + n
lead_four n l = grind (arith, common_steps)

pub writes_two : (old : List ℕ) (c a b : ℕ) → 128 ≤ c → c < 2048 → 1 < length old → a ≡ 192 + c / 64 → b ≡ 128 + c % 64
    → WritesPrefix old (set (set old 0 a) 1 b) 2 (encode_utf8 c)
writes_two old c a b l h room e f =
    WritesPrefix-same _ _ _ _ _ _ (WritesPrefix_push_two old old 0 [] a b (WritesPrefix-nil old) room) refl (rw (e, f) (sym (two c l h)))

pub writes_three : (old : List ℕ) (c x a b : ℕ) → 2048 ≤ c → c < 65536 → 2 < length old → x ≡ 224 + c / 4096 → a ≡ 128 + c / 64 % 64 → b ≡ 128 + c % 64
    → WritesPrefix old (set (set (set old 0 x) 1 a) 2 b) 3 (encode_utf8 c)
writes_three old c x a b l h room e f g =
    WritesPrefix-same _ _ _ _ _ _ (WritesPrefix_push_three old old 0 [] x a b (WritesPrefix-nil old) room) refl (rw (e, f, g) (sym (three c l h)))

pub writes_four : (old : List ℕ) (c x y a b : ℕ) → 65536 ≤ c → 3 < length old → x ≡ 240 + c / 262144 → y ≡ 128 + c / 4096 % 64
    → a ≡ 128 + c / 64 % 64 → b ≡ 128 + c % 64
    → WritesPrefix old (set (set (set (set old 0 x) 1 y) 2 a) 3 b) 4 (encode_utf8 c)
writes_four old c x y a b l room e f g h =
    WritesPrefix-same _ _ _ _ _ _ (WritesPrefix_push_four old old 0 [] x y a b (WritesPrefix-nil old) room) refl (rw (e, f, g, h) (sym (four c l)))

pub two_bytes : (c : ℕ) → 128 ≤ c → c < 2048 → (bit_or 192 (c / 64) ≡ 192 + c / 64) × (bit_or 128 (bit_and c 63) ≡ 128 + c % 64)
two_bytes c l h = (lead_two (c / 64) (omega arith), last_six c)

pub three_bytes : (c : ℕ) → c < 65536 → (bit_or 224 (c / 4096) ≡ 224 + c / 4096) × (bit_or 128 (bit_and (c / 64) 63) ≡ 128 + c / 64 % 64)
    × (bit_or 128 (bit_and c 63) ≡ 128 + c % 64)
three_bytes c h = (lead_three (c / 4096) (omega arith), last_six (c / 64), last_six c)

pub four_bytes : (c : ℕ) → c < 1114112 → (bit_or 240 (c / 262144) ≡ 240 + c / 262144) × (bit_or 128 (bit_and (c / 4096) 63) ≡ 128 + c / 4096 % 64)
    × (bit_or 128 (bit_and (c / 64) 63) ≡ 128 + c / 64 % 64) × (bit_or 128 (bit_and c 63) ≡ 128 + c % 64)
four_bytes c h = (lead_four (c / 262144) (omega arith), last_six (c / 4096), last_six (c / 64), last_six c)

-- the space that the length of the UTF-8 needs
pub room_two : (c n : ℕ) → 128 ≤ c → len_utf8 c ≤ n → 1 < n
room_two c n l h = grind (arith, nat_tests)

pub room_three : (c n : ℕ) → 2048 ≤ c → len_utf8 c ≤ n → 2 < n
room_three c n l h = grind (arith, nat_tests)

pub room_four : (c n : ℕ) → 65536 ≤ c → len_utf8 c ≤ n → 3 < n
room_four c n l h = grind (arith, nat_tests)
