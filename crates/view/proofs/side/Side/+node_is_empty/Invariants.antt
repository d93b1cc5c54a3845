-- The measure of the calls is the levels left; at each turn the first j children are empty.
use Rattle.std.proofs.Common.{◌≡◌, ◌+◌, ◌-◌, true}
use Rattle.view.specs.Spreads.{below_all}
use Rattle.view.specs.Emptiness.{empty_at}
use Rattle.view.proofs.side.Side.+node_is_empty.Given as goal

abbrev pub decreases-node_is_empty : goal.decreases-node_is_empty
decreases-node_is_empty l = l.levels

abbrev pub invariant-loop-j : goal.invariant-loop-j
invariant-loop-j l = below_all (λ x. empty_at l.self.words.now (l.levels - 1) (l.first + x)) l.j ≡ true
