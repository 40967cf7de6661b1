use Rattle.std.proofs.Common.{ℕ, ◌+◌, ◌-◌, ◌≤◌, List, length, drop, take, arith, subst, sym, take-add}
use Rattle.std.specs.Str.{IsUtf8}
use Rattle.std.proofs.lemmas.List.{take_rest, length-drop}
use Rattle.std.proofs.lemmas.Str.{IsUtf8-append}
use Rattle.encoding_definitions.proofs.Utf8Lemmas.{IsUtf8_more, IsLongestPrefix-utf8}
use Rattle.encoding_text.proofs.utf_8.validate.valid_after.Goals as goal

-- a well-formed prefix of the rest after a well-formed prefix
longer : (src : List ℕ) (at n : ℕ) → at ≤ length src → IsUtf8 (take at src)
    → (n ≤ length (take (length src - at) (drop at src))) × IsUtf8 (take n (take (length src - at) (drop at src)))
    → (at + n ≤ length src) × IsUtf8 (take (at + n) src)
longer src at n inside text more =
    let rest = rw take_rest at more in
    (omega (arith, rest.0, inside, length-drop at src), subst IsUtf8 (sym (take-add at n src)) (IsUtf8-append _ _ text rest.1))

pub loop-length-preserved : goal.loop-length-preserved
loop-length-preserved c =
    let src = c.args.src.now in
    let had = c.loop-length.invariant in
    let found = rw take_rest at c.in-Some.ensures.length in
    let done = longer src (c.loop-length.at + c.in-Some.length) _ (omega (arith, had.within, found.1, length-drop c.loop-length.at src))
    (IsUtf8_more src _ c.in-Some.length had.text found.2) c.well_formed_prefix-at.ensures in
    record { within = done.0; text = done.1 }

pub returns-in_default : goal.returns-in_default
returns-in_default c = let had = c.loop-length.invariant in IsLongestPrefix-utf8 _ _ had.within had.text (rw take_rest at c.in_default.ensures.no_character)
