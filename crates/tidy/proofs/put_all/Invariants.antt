-- `tidy::put_all` meets its contract. The first `at` values stand at the front; the measure is the values left.
use Rattle.tidy.specs.Chosen as chosen
use Rattle.tidy.proofs.put_all.Given as goal

abbrev pub invariant-loop-at : goal.invariant-loop-at
invariant-loop-at l = chosen.Numbering l.first l.count l.initial.values l.values l.at
