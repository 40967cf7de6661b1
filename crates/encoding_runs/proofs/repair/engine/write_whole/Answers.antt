use Rattle.std.proofs.Common.{◌≡◌, ℕ, ◌+◌, ◌<◌, ◌≤◌, List, Option, Result, Ok, Err, IfErr, drop, length, take, take-add, arith}
use Rattle.std.specs.Io.KnownBytes.{Appends}
use Rattle.std.proofs.KnownBytes.{Appends-trans}
use Rattle.std.proofs.lemmas.List.{length-drop, take_rest}
use Rattle.encoding_runs.proofs.repair.engine.write_whole.Goals as goal

-- the first bytes and a prefix of the others are a prefix of all bytes
stopped : {A F : Type 0} (write : F) (failed : Type 0) (bytes : List ℕ) (count : ℕ) (old mid new : Option (List ℕ)) (r : Result A F) → count ≤ length bytes
    → Appends old mid (take count bytes)
    → IfErr r (λ fault. (fault ≡ write) × failed × (n : ℕ) × (n < length (drop count bytes)) × Appends mid new (take n (drop count bytes)))
    → IfErr r (λ fault. (fault ≡ write) × failed × (n : ℕ) × (n < length bytes) × Appends old new (take n bytes))
stopped write failed bytes count old mid new (Ok u) within a e = e
stopped write failed bytes count old mid new (Err f) within a (is, has, n, less, more) = (
  is,
  has,
  count +
      n,
  omega (arith, less, length-drop count bytes),
  rw take-add (Appends-trans _ _ _ _ _ a more),
)

pub returns-then-count-bytes-clause-err : goal.returns-then-count-bytes-clause-err
returns-then-count-bytes-clause-err g c =
    stopped _ _ c.args.bytes.now c.in-Some.count _ _ _ c.write_by_parts.result (omega (arith, c.if-count-bytes.true)) c.in-Some.ensures.bytes
    (rw take_rest at c.write_by_parts.ensures.err)
