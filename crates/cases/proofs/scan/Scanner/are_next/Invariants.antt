use Rattle.std.proofs.Common.{◌≤◌, length}
use Rattle.cases.proofs.scan.Scanner.are_next.Given as goal

abbrev pub invariant-loop-word : goal.invariant-loop-word
invariant-loop-word g l = length l.self ≤ length l.fn.self
