use native.Mathlib.Omega.{arith}
use Rattle.walk.specs.Moves as moves
use Rattle.walk.proofs.Job.data_step.Goals as goal

pub returns-in-None : goal.returns-in-None
returns-in-None c = moves.data_none c.requires.0 (omega arith) c.requires.1 c.requires.2 c.place_prefix-q.ensures c.value_at-a.ensures c.value_at-b.ensures c.covers_shown.ensures c.item.ensures c.in-None.is

pub returns-in-Some : goal.returns-in-Some
returns-in-Some c = moves.data_one c.requires.0 (omega arith) c.requires.1 c.requires.2 c.place_prefix-q.ensures c.value_at-a.ensures c.value_at-b.ensures c.covers_shown.ensures c.item.ensures c.in-Some.is
