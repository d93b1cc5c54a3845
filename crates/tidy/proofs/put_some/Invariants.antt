-- `tidy::put_some` meets its contract. The values of the first b data bits stand at the front; the measure is the bits left.
use Rattle.tidy.specs.Chosen as chosen
use Rattle.tidy.proofs.put_some.Given as goal

abbrev pub invariant-loop-b : goal.invariant-loop-b
invariant-loop-b l = chosen.Listing l.held l.first l.kept l.initial.values l.values l.at l.b
