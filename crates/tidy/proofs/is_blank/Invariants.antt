-- `tidy::is_blank` meets its contract. No node before i has a value; the measure is the nodes left.
use Rattle.tidy.specs.Blank as blank
use Rattle.tidy.proofs.is_blank.Given as goal

abbrev pub invariant-loop-i : goal.invariant-loop-i
invariant-loop-i l = blank.Blank l.words l.from l.to l.i
