-- What the walk's functions ask of the places at which they stand.
use Rattle.std.specs.Prelude.{◌≡◌, ◌%◌, ◌≤◌}
use Rattle.defs.specs.declared.Prefix.{Prefix}
use Rattle.defs.specs.PrefixLaws.{Whole}
use Rattle.theory.specs.declared.Level.{Level}
use Rattle.theory.specs.Steps.{Job, carried}
use Rattle.theory.specs.Walk.{LevelOk}
use Rattle.view.specs.Standing.{Sane, NodeIn}
use Rattle.view.specs.Seen.{seen}
use Rattle.walk.specs.declared.Job as code
use Rattle.theory.specs.Kinds.{Node}

-- a walk's list and its two sides, as the definitions see them
abbrev pub job_of : code.Job → Job
job_of j = record { op = j.op; left = seen j.left; right = seen j.right }

-- two nodes of prefix p, in pools without faults
pub record Entering (j : Job) (p : Prefix) (l r : Node) : Type 0 where
  pub sane_left : Sane j.left.pool
  pub sane_right : Sane j.right.pool
  pub in_left : NodeIn j.left.pool l
  pub in_right : NodeIn j.right.pool r
  pub whole : Whole p
  pub short : p.len ≤ 60
  pub fives : p.len % 5 ≡ 0

-- a level from which covers are carried on
pub record Passing (j : Job) (f : Level) : Type 0 where
  pub at : Entering j f.prefix f.left f.right
  pub carries : carried j.op f.above ≡ f.above

-- a level at which a step may be taken
pub record Ready (j : Job) (f : Level) : Type 0 where
  pub at : Entering j f.prefix f.left f.right
  pub ok : LevelOk j f
