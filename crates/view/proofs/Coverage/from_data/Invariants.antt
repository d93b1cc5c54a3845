-- What is covered so far and what the entries left cover make up the whole.
use Rattle.view.specs.Covered.{Covering}
use Rattle.view.proofs.Coverage.from_data.Given as goal

abbrev pub invariant-loop-z : goal.invariant-loop-z
invariant-loop-z l = Covering l.entries l.z-iterator.left l.covered
