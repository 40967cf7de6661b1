-- Digits of numbers, and what the pieces of a line add to its text.
use Rattle.std.proofs.Common.{◌≡◌, ℕ, ◌+◌, ◌/◌, ◌%◌, ◌^◌, ◌<◌, ◌≤◌, inl, inr, List, [], ◌∷◌, ◌++◌, length, take, drop, refl, sym, ap, ◌∙◌, arith, Option}
use Rattle.std.proofs.Common.{Result, Ok, Err, OnErr}
use Rattle.std.specs.Fmt.{decimal}
use Rattle.std.specs.Io.KnownBytes.{Appends, Keeps}
use Rattle.std.proofs.KnownBytes.{Appends-kept, Appends-trans}
use Rattle.utf8_check_library.specs.Checks.{WritesPrefixOf}
use Rattle.std.proofs.Math.ListN.{set}
use Rattle.std.proofs.lemmas.Bool.{cases_lt}
use Rattle.std.proofs.lemmas.Fmt.{decimal_digit, decimal_step, length-decimal-le}
use Rattle.std.proofs.lemmas.List.{append-nil, append_assoc, drop-set, length-append, length-drop, take-append-drop}

-- a number has digits
decimal_some : (n : ℕ) → n < 2 ^ 64 → 0 < length (decimal n)
decimal_some n small = elim (cases_lt n 10) [
  | inl l ↦ omega (arith, ap length (decimal_digit n l))
  | inr g ↦ omega (arith, ap length (decimal_step n g small), length-append (decimal (n / 10)) ((48 + n % 10) ∷ []))
]

-- one more digit is put before those that an array ends with
pub one_digit : (rest start digit : ℕ) (text digits : List ℕ) → start < length text → 10 ≤ rest → rest < 2 ^ 64 → digit ≡ 48 + rest % 10
    → decimal rest ++ drop (start + 1) text ≡ digits
    → decimal (rest / 10) ++ drop start (set text start digit) ≡ digits
one_digit rest start digit text digits within several small is before =
    ap (λ xs. decimal (rest / 10) ++ xs) (drop-set text start digit within)
    ∙ ap (λ d. decimal (rest / 10) ++ d ∷ drop (start + 1) text) is
    ∙ sym (append_assoc (decimal (rest / 10)) ((48 + rest % 10) ∷ []) (drop (start + 1) text))
    ∙ ap (λ xs. xs ++ drop (start + 1) text) (sym (decimal_step rest several small)) ∙ before

-- the first digit
pub first_digit : (rest start digit : ℕ) (text digits : List ℕ) → start < length text → rest < 10 → digit ≡ 48 + rest % 10
    → decimal rest ++ drop (start + 1) text ≡ digits → drop start (set text start digit) ≡ digits
first_digit rest start digit text digits within small is before =
    drop-set text start digit within ∙ ap (λ d. d ∷ drop (start + 1) text) (is ∙ omega arith)
    ∙ ap (λ xs. xs ++ drop (start + 1) text) (sym (decimal_digit rest small)) ∙ before

-- twenty digits are enough
pub start_some : (rest start number : ℕ) (text : List ℕ) → length text ≡ 20 → rest < 2 ^ 64 → number < 2 ^ 64 → 10 ≤ rest
    → decimal rest ++ drop (start + 1) text ≡ decimal number → 0 < start
start_some rest start number text long small fits several before = omega (
  arith,
  long,
  ap length before,
  length-append (decimal rest) (drop (start + 1) text),
  length-drop (start + 1) text,
  length-decimal-le 20 number (omega arith) (omega (arith, fits)) fits,
  ap length (decimal_step rest several small),
  length-append (decimal (rest / 10)) ((48 + rest % 10) ∷ []),
  decimal_some (rest / 10) (omega (arith, small)),
)

-- ---- prefixes of what is to be written
pub on_err : {T E P : Type 0} (r : Result T E) → P → OnErr r P
on_err (Ok x) p = tt
on_err (Err e) p = p

pub prefix_start : (a b : List ℕ) (old new : Option (List ℕ)) → WritesPrefixOf a old new → WritesPrefixOf (a ++ b) old new
prefix_start a b old new (front, rest, e, w) = (front, rest ++ b, ap (λ xs. xs ++ b) e ∙ append_assoc front rest b, w)

pub prefix_after : (a b : List ℕ) (old mid new : Option (List ℕ)) → Appends old mid a → WritesPrefixOf b mid new → WritesPrefixOf (a ++ b) old new
prefix_after a b old mid new first (front, rest, e, w) =
    (a ++ front, rest, ap (λ xs. a ++ xs) e ∙ sym (append_assoc a front rest), Appends-trans old mid new a front first w)

pub prefix_all : (a : List ℕ) (old new : Option (List ℕ)) → Appends old new a → WritesPrefixOf a old new
prefix_all a old new w = (a, [], sym (append-nil a), w)

pub prefix_taken : (at : ℕ) (a : List ℕ) (old new after : Option (List ℕ)) → Appends old new (take at a) → Keeps new after → WritesPrefixOf a old after
prefix_taken at a old new after w kept = (take at a, drop at a, sym (take-append-drop at a), Appends-kept old new after (take at a) w kept)

pub prefix_by_length : (at : ℕ) (a : List ℕ) (old new : Option (List ℕ)) → Appends old new (take at a) → WritesPrefixOf a old new
prefix_by_length at a old new w = (take at a, drop at a, sym (take-append-drop at a), w)
