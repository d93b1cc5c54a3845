use Rattle.std.proofs.Common.{◌≡◌}
use Rattle.text.specs.Bytes.{skip}
use Rattle.text.proofs.input.skip.Given as goal

abbrev pub invariant-loop : goal.invariant-loop
invariant-loop l = l.rest ≡ skip l.counter l.input
