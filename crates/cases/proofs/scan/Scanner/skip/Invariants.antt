use Rattle.std.proofs.Common.{◌≤◌, length}
use Rattle.cases.proofs.scan.Scanner.skip.Given as goal

abbrev pub invariant-loop-self : goal.invariant-loop-self
invariant-loop-self l = length l.self-inside.rest.now ≤ length l.fn.self

abbrev pub decreases-loop-self : goal.decreases-loop-self
decreases-loop-self l = length l.self-inside.rest.now
