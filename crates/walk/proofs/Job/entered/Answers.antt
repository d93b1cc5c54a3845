use Rattle.walk.specs.Ready.{job_of}
use Rattle.walk.specs.Maps.{entered_is}
use Rattle.walk.proofs.Job.entered.Goals as goal

pub returns : goal.returns
returns c = entered_is (job_of c.args.self) _ _ _ c.requires.above_value c.maps.ensures c.spread.ensures
