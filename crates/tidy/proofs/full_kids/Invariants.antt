-- The word of the children asked so far.
use Rattle.tidy.specs.Full as full
use Rattle.tidy.proofs.full_kids.Given as goal

abbrev pub invariant-loop-c : goal.invariant-loop-c
invariant-loop-c l = full.Asking l.side.words.now l.levels l.i l.c-iterator.left l.node l.word
