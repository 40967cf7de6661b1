-- How many unpaired surrogates a call of the encoder replaced.
use Rattle.std.specs.Prelude.{◌≡◌, ℕ, List, ◌++◌, take}
use Rattle.encoding_definitions.specs.Surrogates.{HasUnpaired}

-- The units that the call wrote are those pending before it and those that it read, without those pending after it.
-- `count` of them are unpaired surrogates.
pub record ReplacesIn (surrogate src : List ℕ) (read : ℕ) (after : List ℕ) (count : ℕ) : Type 0 where
  pub units : List ℕ
  pub written : surrogate ++ take read src ≡ units ++ after
  pub unpaired : HasUnpaired units count
