-- What is written and what the bits left would give make up the whole.
use Rattle.view.specs.Spreads.{Spreading}
use Rattle.view.proofs.spread.Given as goal

abbrev pub invariant-loop-z : goal.invariant-loop-z
invariant-loop-z l = Spreading l.both l.z-iterator.left l.word
