-- `pool::check_nodes` meets its contract. Before each node, what is still to be found from the counts is the whole pool's first fault.
use Rattle.pool.specs.CheckLaws.{Kept}
use Rattle.pool.proofs.check_nodes.Given as goal

abbrev pub invariant-loop-node : goal.invariant-loop-node
invariant-loop-node l = Kept l.width l.words l.node-counter l.count
