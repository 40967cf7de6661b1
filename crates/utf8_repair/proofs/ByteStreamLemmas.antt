-- What a writer has buffered, if the last bytes are a piece and some of these are removed.
use Rattle.std.proofs.Common.{◌≡◌, ℕ, ◌+◌, ◌-◌, ◌≤◌, List, ◌++◌, None, Some, Result, Ok, Err, IfOk, OnErr, Option, length, take, arith, sym, ap, ◌∙◌, subst}
use Rattle.std.proofs.Common.{append_assoc, append-nil}
use Rattle.std.proofs.Math.Seq.{take-append-add}
use Rattle.std.proofs.lemmas.List.{length-append}
use Rattle.std.proofs.KnownBytes.{Keeps-trans}
use Rattle.std.specs.Io.KnownBytes.{Keeps, Appends, WriteAppends, append_known}

-- a list without its last items, all of the second half
pub less_the_last : (xs ys : List ℕ) (left : ℕ) → left ≤ length ys → take (length (xs ++ ys) - left) (xs ++ ys) ≡ xs ++ take (length ys - left) ys
less_the_last xs ys left small =
    let count : length (xs ++ ys) - left ≡ length xs + (length ys - left) = omega (arith, length-append xs ys, small) in
    ap (λ n. take n (xs ++ ys)) count ∙ take-append-add xs ys (length ys - left)

kept_less_the_last : (a b : Option (List ℕ)) (old new : List ℕ) (left : ℕ) → left ≤ length old → left ≤ length new
    → Keeps (append_known a old) (append_known b new)
    → Keeps (append_known a (take (length old - left) old)) (append_known b (take (length new - left) new))
kept_less_the_last None b old new left was is kept = tt
kept_less_the_last (Some x) None old new left was is kept = absurd kept
kept_less_the_last (Some x) (Some y) old new left was is kept =
    sym (less_the_last y new left is) ∙ ap (λ l. take (length l - left) l) kept ∙ less_the_last x old left was

-- ---- the last buffered bytes are removed
pub taken_back : (a b : Option (List ℕ)) (old waits now : List ℕ) (count left : ℕ) → count ≡ left → left ≤ length old → left ≤ length waits
    → now ≡ take (length waits - left) waits → Keeps (append_known a old) (append_known b waits)
    → Keeps (append_known a (take (length old - count) old)) (append_known b now)
taken_back a b old waits now count left same was is back kept =
    subst (λ n. Keeps (append_known a (take (length old - n) old)) (append_known b now)) (sym same)
    (subst (λ l. Keeps (append_known a (take (length old - left) old)) (append_known b l)) (sym back) (kept_less_the_last a b old waits left was is kept))

-- ---- a piece after the buffered bytes
appended : (a b new : Option (List ℕ)) (prefix bs : List ℕ) → Keeps a (append_known b prefix) → Keeps (append_known b (prefix ++ bs)) new → Appends a new bs
appended None b new prefix bs kept sent = tt
appended (Some x) None new prefix bs kept sent = absurd kept
appended (Some x) (Some y) None prefix bs kept sent = absurd sent
appended (Some x) (Some y) (Some z) prefix bs kept sent = sent ∙ sym (append_assoc y prefix bs) ∙ ap (λ l. l ++ bs) kept

-- what was sent of the piece is appended
pub sent_piece : {E : Type 0} (result : Result ℕ E) (a b new : Option (List ℕ)) (prefix piece held : List ℕ) → held ≡ prefix ++ piece
    → Keeps a (append_known b prefix)
    → IfOk result (λ n. (n ≤ length piece) × Keeps (append_known b (take (length held - (length piece - n)) held)) new)
    → OnErr result (Keeps (append_known b (take (length held - length piece) held)) new) → WriteAppends a new result piece
sent_piece (Ok n) a b new prefix piece held is kept (small, sent) err =
    let rest : length piece - (length piece - n) ≡ n = omega arith in
    let bytes = ap (λ l. take (length l - (length piece - n)) l) is ∙ less_the_last prefix piece (length piece - n) (omega arith)
    ∙ ap (λ k. prefix ++ take k piece) rest in
    appended a b new prefix (take n piece) kept (subst (λ l. Keeps (append_known b l) new) bytes sent)
sent_piece (Err e) a b new prefix piece held is kept ok err =
    let none : length piece - length piece ≡ 0 = omega arith in
    let bytes = ap (λ l. take (length l - length piece) l) is ∙ less_the_last prefix piece (length piece) (omega arith) ∙ ap (λ k. prefix ++ take k piece) none
    ∙ append-nil prefix in
    Keeps-trans a _ new kept (subst (λ l. Keeps (append_known b l) new) bytes err)
