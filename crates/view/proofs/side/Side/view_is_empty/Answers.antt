-- `view::Side::view_is_empty` meets its contract. By the cases of the root's place.
use native.Mathlib.Omega.{arith}
use mathlib.Core.Path.{sym, ◌∙◌}
use Rattle.view.specs.Standing.{sane_formed}
use Rattle.view.specs.EmptyViews.{known_none, known_at}
use Rattle.view.proofs.side.Side.view_is_empty.Goals as goal

pub returns-in_default : goal.returns-in_default
returns-in_default c = known_none c.args.self.words.now (sane_formed _ c.args.self.formed) c.args.self.root (omega arith) c.requires _ c.find.ensures c.in_default.is

pub place_is_empty-requires : goal.place_is_empty-requires
place_is_empty-requires c = let k = known_at c.args.self.words.now (sane_formed _ c.args.self.formed) c.args.self.root (omega arith) c.requires _ c.find.ensures _ c.in-Some.is in (k.0, k.1)

pub returns : goal.returns
returns c = c.place_is_empty.ensures ∙ sym (known_at c.args.self.words.now (sane_formed _ c.args.self.formed) c.args.self.root (omega arith) c.requires _ c.find.ensures _ c.in-Some.is).2
