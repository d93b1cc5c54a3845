-- `tidy::below_run` meets its contract. Both ends are read from the words.
use Rattle.tidy.specs.Runs as runs
use Rattle.tidy.proofs.below_run.Goals as goal

pub returns : goal.returns
returns c = runs.below_is c.args.words.now c.args.run _ _ c.first_child.ensures c.first_child-2.ensures
