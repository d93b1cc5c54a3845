-- A side as the definitions see it.
use Rattle.defs.specs.Outcome.{Side}
use Rattle.view.specs.declared.side.Side as code

-- the pool and the root of a side
abbrev pub seen : code.Side → Side
seen s = record { pool = s.words.now; root = s.root }
