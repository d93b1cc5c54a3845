use Rattle.std.specs.Prelude.{take}
use Rattle.walk.specs.Loops as loops
use Rattle.walk.specs.Ready.{job_of}
use Rattle.walk.proofs.Job.run.Given as goal

abbrev pub invariant-loop-height : goal.invariant-loop-height
invariant-loop-height l = loops.Stacked (job_of l.self) l.fn.start l.writes l.fn.out l.stack l.height l.out l.at l.count

abbrev pub decreases-loop-height : goal.decreases-loop-height
decreases-loop-height l = loops.steps_left (take l.height l.stack)
