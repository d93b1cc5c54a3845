-- `view::place_at` meets its contract. The table is the numbers of the places in prefix order.
use Rattle.std.proofs.Common.{◌≡◌, List, ℕ, refl, map, get_or, ap, ◌∙◌}
use Rattle.defs.specs.Entries.{places}
use Rattle.view.specs.declared.TheConstants.{IN_ORDER}
use Rattle.view.specs.Numbers.{number_of, number_at}
use Rattle.view.proofs.place_at.Goals as goal

pub returns : goal.returns
unfolding places
returns c =
    let table : IN_ORDER ≡ map number_of places = refl in
    c.from.ensures ∙ ap (λ (t : List ℕ). get_or t c.args.z 0) table ∙ number_at c.args.z c.requires
