-- `view::position` meets its contract. One computed test over the table gives its rule at each row.
use Rattle.std.proofs.Common.{refl}
use Rattle.defs.specs.Entries.{places}
use Rattle.view.specs.declared.TheConstants.{POSITIONS}
use Rattle.view.specs.Spreads.{stands_right, position_right}
use Rattle.view.proofs.position.Goals as goal

pub returns : goal.returns
unfolding stands_right places
returns c = position_right POSITIONS refl c.args.z c.requires _ c.from.ensures
