use Rattle.text.proofs.NumberLaws.{Reading}
use Rattle.text.proofs.digits.numeral.Given as goal

abbrev pub invariant-loop-c : goal.invariant-loop-c
invariant-loop-c l = Reading l.s l.base l.most l.n l.c-index
