-- After k turns the node is the one k levels down.
use Rattle.std.proofs.Common.{◌≡◌}
use Rattle.view.specs.Descent.{node_down}
use Rattle.view.proofs.side.Side.at_depth.Given as goal

abbrev pub invariant-loop-k : goal.invariant-loop-k
invariant-loop-k l = l.node ≡ node_down l.self.words.now l.self.root l.k
