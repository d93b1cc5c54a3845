use Rattle.text.proofs.SpellLaws.{Spelling}
use Rattle.text.proofs.digits.spell.Given as goal

abbrev pub invariant-loop-i : goal.invariant-loop-i
invariant-loop-i l = Spelling l.n l.base l.k l.initial.out l.out l.i l.left
