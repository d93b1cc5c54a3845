-- `view::Side::value_at` meets its contract. Place h has data bit h - 1.
use mathlib.Core.Path.{◌∙◌}
use Rattle.view.specs.Standing.{value_of_lem}
use Rattle.view.proofs.side.Side.value_at.Goals as goal

pub returns : goal.returns
returns c = c.held_value.ensures ∙ value_of_lem _ _ _ _ _ c.args.q c.in_ok-node.was c.requires.1 c.requires.2
