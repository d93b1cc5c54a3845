-- A pair asks its children with its own levels, and a child asks its pair with one level less. In the loop the pairs of the children passed hold the same prefixes.
use Rattle.std.proofs.Common.{◌+◌, ◌*◌}
use Rattle.view.specs.Seen.{seen}
use Rattle.sets.specs.Equality.{Comparing}
use Rattle.sets.proofs.sides.Sides.+child_equal_pair_equal.Given as goal

abbrev pub decreases-child_equal : goal.decreases-child_equal
decreases-child_equal l = 2 * l.levels

abbrev pub decreases-pair_equal : goal.decreases-pair_equal
decreases-pair_equal l = 2 * l.levels + 1

abbrev pub invariant-pair_equal-loop-c : goal.invariant-pair_equal-loop-c
invariant-pair_equal-loop-c l = Comparing (seen l.self.left) (seen l.self.right) l.p l.left l.right l.levels l.c-iterator.left
