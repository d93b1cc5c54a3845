use Rattle.std.proofs.Common.{◌≤◌, length}
use Rattle.cases.proofs.replay.part.Given as goal

abbrev pub invariant-loop : goal.invariant-loop
invariant-loop l = (l.left ≤ length l.text) × (length l.scanner ≤ length l.text)
