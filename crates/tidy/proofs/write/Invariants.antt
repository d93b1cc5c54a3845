-- `tidy::write` meets its contract. The words and values of the first i nodes stand at the front; the measure is the nodes left.
use Rattle.std.proofs.Common.{◌/◌, length}
use Rattle.tidy.specs.Runs as runs
use Rattle.tidy.specs.Call as call
use Rattle.tidy.proofs.write.Given as goal

abbrev pub invariant-loop-i : goal.invariant-loop-i
invariant-loop-i l = call.Copying l.side.words.now l.side.root (length l.side.words.now / 4) l.initial.out l.initial.values l.out l.values l.at l.children l.count l.i × runs.Standing l.side.words.now l.side.root l.run l.i
