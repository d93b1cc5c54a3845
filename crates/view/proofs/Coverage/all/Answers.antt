-- `view::Coverage::all` meets its contract. The constant is the words of all places.
use Rattle.view.specs.Covered.{all_is}
use Rattle.view.proofs.Coverage.all.Goals as goal

pub returns : goal.returns
returns c = all_is
