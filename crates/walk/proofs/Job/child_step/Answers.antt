use native.Mathlib.Omega.{arith}
use Rattle.walk.specs.Moves as moves
use Rattle.walk.proofs.Job.child_step.Goals as goal

pub down_to-requires-clause-entering : goal.down_to-requires-clause-entering
down_to-requires-clause-entering c = moves.child_entering c.requires.0 (omega arith) c.requires.1 c.requires.2 c.if-f-ge60.false c.place_prefix-q.ensures c.child_at-left.ensures c.child_at-right.ensures c.covers_for.ensures

pub returns : goal.returns
returns c = moves.child_step c.requires.0 (omega arith) c.requires.1 c.requires.2 c.if-f-ge60.false c.place_prefix-q.ensures c.child_at-left.ensures c.child_at-right.ensures c.covers_for.ensures c.down_to.ensures
