-- What a call that writes into a text clears after its output, so that the destination stays well-formed.
use Rattle.std.specs.Prelude.{◌≡◌, ℕ, ◌≤◌, List, [], ◌∷◌, ◌++◌, length, drop, nat_le, ◌&&◌, if◌then◌else◌, replicate, min}

-- the bytes, with the continuation bytes at their start set to zero
abbrev pub clear_continuation : List ℕ → List ℕ
clear_continuation [] = []
clear_continuation (b ∷ bs) = if nat_le 0x80 b && nat_le b 0xBF then 0 ∷ clear_continuation bs else b ∷ bs

-- the bytes, with the first n set to zero, or all if there are fewer, and then the continuation bytes after these
abbrev pub cleared_prefix : ℕ → List ℕ → List ℕ
cleared_prefix n bs = replicate (min n (length bs)) 0 ++ clear_continuation (drop n bs)

-- The first `written` bytes of a text are `out`. After them the first n bytes are set to zero and then the continuation
-- bytes, and the rest is unchanged.
pub record WritesAndClears (n : ℕ) (old new : List ℕ) (written : ℕ) (out : List ℕ) : Type 0 where
  pub count : written ≡ length out
  pub fits : written ≤ length old
  pub placed : new ≡ out ++ cleared_prefix n (drop written old)
