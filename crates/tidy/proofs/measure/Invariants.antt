-- `tidy::measure` meets its contract. The nodes and entries of the first i nodes; the measure is the nodes left.
use Rattle.std.proofs.Common.{◌/◌, length}
use Rattle.tidy.specs.Runs as runs
use Rattle.tidy.specs.Chosen as chosen
use Rattle.tidy.specs.Kept as kept
use Rattle.tidy.proofs.measure.Given as goal

abbrev pub invariant-loop-i : goal.invariant-loop-i
invariant-loop-i l = chosen.Counting (kept.data_on l.side.words.now l.side.root) (kept.kids_on l.side.words.now l.side.root) (length l.side.words.now / 4) l.nodes l.entries l.i × runs.Standing l.side.words.now l.side.root l.run l.i
