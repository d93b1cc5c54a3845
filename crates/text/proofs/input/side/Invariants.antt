use Rattle.std.proofs.Common.{◌-◌}
use Rattle.text.proofs.InputLaws.{Filling}
use Rattle.text.proofs.input.side.Given as goal

abbrev pub invariant-loop : goal.invariant-loop
invariant-loop l = Filling l.input l.initial.pool l.letter l.pool l.rest (l.end - l.counter) l.words l.child l.value
