-- `views::View::equal_keys` meets its contract. Each root is that of its view.
use Rattle.std.proofs.Common.{ap₂, ◌∙◌}
use Rattle.defs.specs.declared.Prefix.{Prefix}
use Rattle.defs.specs.Outcome.{equal_outcome}
use Rattle.views.proofs.View.equal_keys.Goals as goal

pub returns : goal.returns
returns c =
    c.equal_keys.ensures
    ∙ ap₂ (λ (l r : Prefix). equal_outcome c.args.self.width (record { pool = c.args.self.words.now; root = l }) (record { pool = c.args.right.words.now; root = r })) c.root.ensures c.root-2.ensures
