-- `view::Side::next_down` meets its contract. The root's next 5 bits are the child's place.
use mathlib.Core.Path.{ap₂, ◌∙◌}
use Rattle.theory.specs.Sides.{child_in}
use Rattle.view.proofs.side.Side.next_down.Goals as goal

pub returns : goal.returns
returns c = c.child_at.ensures ∙ ap₂ (child_in c.args.self.words.now c.args.self.root c.args.node) c.next_five-c.ensures c.shortened.ensures
