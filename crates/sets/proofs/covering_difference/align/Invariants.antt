-- so many levels down, with a node of the right side.
use Rattle.std.specs.Prelude.{◌≤◌, ◌-◌}
use Rattle.std.proofs.Common.{◌/◌}
use Rattle.view.specs.Seen.{seen}
use Rattle.sets.specs.Aligned as al
use Rattle.sets.proofs.covering_difference.align.Given as goal

abbrev pub invariant-loop-level : goal.invariant-loop-level
invariant-loop-level l = al.Aligning (seen l.right) l.path (l.depth / 5) l.node l.level × (l.level ≤ l.depth / 5)

abbrev pub decreases-loop-level : goal.decreases-loop-level
decreases-loop-level l = l.depth / 5 - l.level
