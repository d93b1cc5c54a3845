-- A side of a call as plain words and numbers.
use Rattle.std.specs.Prelude.{List, ℕ}
use Rattle.defs.specs.Outcome.{Side}

-- a pool, and a root by its key and length
abbrev pub side : List ℕ → ℕ → ℕ → Side
side pool key len = record { pool = pool; root = record { key = key; len = len } }
