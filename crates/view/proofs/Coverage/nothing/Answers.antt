-- `view::Coverage::nothing` meets its contract. The constant is the words of no place.
use Rattle.view.specs.Covered.{nothing_is}
use Rattle.view.proofs.Coverage.nothing.Goals as goal

pub returns : goal.returns
returns c = nothing_is
