-- The run of a level decides, all levels above it being blank.
use Rattle.std.proofs.Common.{◌-◌}
use Rattle.tidy.specs.Blank as blank
use Rattle.tidy.proofs.is_full.Given as goal

abbrev pub invariant-loop-level : goal.invariant-loop-level
invariant-loop-level l = blank.Sinking l.side.words.now l.levels l.node l.from l.to (l.levels - l.level)
