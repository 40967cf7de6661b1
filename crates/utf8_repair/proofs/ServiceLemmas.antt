-- The clauses of a run: what is written for any result of the engine, and after the flush.
use Rattle.std.proofs.Common.{◌≡◌, ◌≢◌, ℕ, ◌<◌, ◌≤◌, Bool, true, false, List, [], length, Option, Result, Ok, Err, IfOk, OnOk, OnErr, refl, sym, append-nil}
use Rattle.std.specs.Result.{IsOkAnd}
use Rattle.std.specs.Io.KnownBytes.{Keeps, IsAtEnd}
use Rattle.std.proofs.KnownBytes.{Appends-kept}
use Rattle.encoding_runs.specs.declared.repair.engine.Repaired.{Repaired}
use Rattle.encoding_runs.specs.declared.repair.engine.RepairFault.{RepairFault}
use Rattle.encoding_runs.specs.declared.repair.engine.RepairFault.TheVariants.{Read, Write, Limit}
use Rattle.encoding_runs.specs.Repairs.{WritesRepaired, WritesFinal, StopsReading, RepairsAll, RepairsFinal, RepairsProperPrefix}
use Rattle.encoding_runs.proofs.RepairLemmas.{holds_repaired, holds_final}
use Rattle.utf8_repair.specs.Service.{RepairsPrefix, WritesPrefixOfPendingOutput}

-- ---- what the engine returned
-- two facts of one Ok
pub both : (P : ℕ → Type 0) (Q : Repaired → Type 0) (outcome : Result Repaired RepairFault) → IfOk outcome Q
    → IsOkAnd outcome (λ (repaired : Repaired). P repaired.replaced)
    → (repaired : Repaired) × P repaired.replaced × Q repaired
both P Q (Ok repaired) q p = (repaired, p, q)
both P Q (Err fault) q p = absurd p

-- ---- a prefix of the text due: all of it, or less
repaired_due : (bs : List ℕ) (old new : Option (List ℕ)) (n : ℕ) → WritesRepaired bs old new n → WritesPrefixOfPendingOutput bs true old new
repaired_due bs old new n (text, (parts, are, is, malformed), a) =
    let (rounds, all) = holds_repaired bs text (parts, are, is) in
    (text, text, ((λ _. (parts, are, is)), λ e. absurd (let no : true ≡ false = e in cc)), ([], sym (append-nil text)), a, rounds, λ _. all)

final_due : (bs : List ℕ) (old new : Option (List ℕ)) → WritesFinal bs old new → WritesPrefixOfPendingOutput bs false old new
final_due bs old new (text, final_text, a) =
    let (rounds, all) = holds_final bs text final_text in
    (text, text, ((λ e. absurd (let no : false ≡ true = e in cc)), λ _. final_text), ([], sym (append-nil text)), a, rounds, λ _. all)

stopped_due : (bs : List ℕ) (ended : Bool) (old new : Option (List ℕ)) → StopsReading bs ended old new → WritesPrefixOfPendingOutput bs ended old new
stopped_due bs ended old new (text, out, due, less, bytes, rounds, at_end) = (text, out, due, (less.0, less.2), bytes, rounds, at_end)

unseen : (left : Option (List ℕ)) → false ≡ true → IsAtEnd left
unseen left e = absurd (let no : false ≡ true = e in cc)

-- a prefix of the text due is written for any result
pub prefix_written : (outcome : Result Repaired RepairFault) (most : ℕ) (ended : Bool) (unread left old new : Option (List ℕ))
    → IfOk outcome (λ (repaired : Repaired). (bs : List ℕ) × (repaired.read ≡ length bs) × (length bs < most)
    × RepairsAll bs unread left old new repaired.replaced × (ended ≡ true))
    → (outcome ≡ Err Read → (bs : List ℕ) × (length bs < most) × RepairsFinal bs unread left old new)
    → (outcome ≡ Err Write → (bs : List ℕ) × (length bs ≤ most) × RepairsProperPrefix bs ended unread left old new)
    → (outcome ≡ Err Limit → (bs : List ℕ) × (length bs ≡ most) × RepairsFinal bs unread left old new)
    → (bs : List ℕ) × (seen : Bool) × RepairsPrefix bs seen unread left old new
prefix_written (Ok repaired) most ended unread left old new (bs, size, less, (consumed, end, w), is) read write limit = (
  bs,
  true,
  (consumed, (λ _. end), repaired_due bs old new repaired.replaced w),
)
prefix_written (Err Read) most ended unread left old new all read write limit = let (bs, less, (consumed, w)) = read refl in
    (bs, false, (consumed, unseen left, final_due bs old new w))
prefix_written (Err Write) most ended unread left old new all read write limit = let (bs, less, (consumed, end, s)) = write refl in
    (bs, ended, (consumed, end, stopped_due bs ended old new s))
prefix_written (Err Limit) most ended unread left old new all read write limit = let (bs, size, (consumed, w)) = limit refl in
    (bs, false, (consumed, unseen left, final_due bs old new w))

-- the same, of streams with the same known bytes
pub prefix_of : (a b c d unread left old new : Option (List ℕ)) → unread ≡ a → left ≡ b → old ≡ c → new ≡ d
    → ((bs : List ℕ) × (ended : Bool) × RepairsPrefix bs ended a b c d) → (bs : List ℕ) × (ended : Bool) × RepairsPrefix bs ended unread left old new
prefix_of a b c d unread left old new first second third fourth (bs, ended, prefix) = (bs, ended, rw (first, second, third, fourth) prefix)

-- ---- after a flush
pub all_kept : (bs : List ℕ) (unread left old new now : Option (List ℕ)) (n : ℕ) → RepairsAll bs unread left old new n → Keeps new now
    → RepairsAll bs unread left old now n
all_kept bs unread left old new now n (consumed, end, (text, is, a)) k = (consumed, end, (text, is, Appends-kept _ _ _ _ a k))

pub final_kept : (bs : List ℕ) (unread left old new now : Option (List ℕ)) → RepairsFinal bs unread left old new → Keeps new now
    → RepairsFinal bs unread left old now
final_kept bs unread left old new now (consumed, (text, is, a)) k = (consumed, (text, is, Appends-kept _ _ _ _ a k))

pub prefix_kept : (bs : List ℕ) (ended : Bool) (unread left old new now : Option (List ℕ)) → RepairsPrefix bs ended unread left old new → Keeps new now
    → RepairsPrefix bs ended unread left old now
prefix_kept bs ended unread left old new now (consumed, end, (text, out, due, start, bytes, rounds, at_end)) k = (
  consumed,
  end,
  (text, out, due, start, Appends-kept _ _ _ _ bytes k, rounds, at_end),
)

-- a status other than 4 is the one before the flush
pub before_flush : {T E : Type 0} (flushed : Result T E) (status now : ℕ) → OnErr flushed (now ≡ 4) → OnOk flushed (now ≡ status) → now ≢ 4 → now ≡ status
before_flush (Ok x) status now failed same other = same
before_flush (Err e) status now failed same other = absurd (other failed)
