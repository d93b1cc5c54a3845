-- `tidy::used_kids` meets its contract. The word of the first c children; the measure is the children left.
use Rattle.tidy.specs.Kept as kept
use Rattle.tidy.proofs.used_kids.Given as goal

abbrev pub invariant-loop-c : goal.invariant-loop-c
invariant-loop-c l = kept.Gathering l.side.words.now l.side.root l.p l.word l.c
