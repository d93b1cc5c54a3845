-- `view::climbed` meets its contract. At each turn nothing between the place and `up` has a value; the measure is `up`.
use Rattle.view.specs.Climb.{Climbing}
use Rattle.view.proofs.side.Side.climbed.Given as goal
use Rattle.std.specs.Prelude.{Some}

abbrev pub invariant-loop-up : goal.invariant-loop-up
invariant-loop-up l = Climbing (record { pool = l.self.words.now; root = l.self.root }) (Some l.i) l.p l.above l.h l.up

abbrev pub decreases-loop-up : goal.decreases-loop-up
decreases-loop-up l = l.up
