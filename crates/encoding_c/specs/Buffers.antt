-- The buffer that a repair fills.
use Rattle.std.specs.Prelude.{◌≡◌, ◌≤◌, Bool, List, ℕ, Option, Some, take, drop}
use Rattle.encoding_c.specs.declared.repair.Buffer.{Buffer}

-- the bytes that were written
abbrev pub buffer_contents : Buffer → Option (List ℕ)
buffer_contents b = Some (take b.written b.room.now)

-- whether a write found no space
abbrev pub buffer_failed : Buffer → Bool
buffer_failed b = b.failed

-- the same memory, with at least as much written, and the rest unchanged
pub record BufferKeeps (old new : Buffer) : Type 0 where
  pub memory : new.room.ghost_name ≡ old.room.ghost_name
  pub further : old.written ≤ new.written
  pub following : (n : ℕ) → new.written ≤ n → drop n new.room.now ≡ drop n old.room.now
