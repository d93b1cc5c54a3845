-- `tidy::kids_from` meets its contract. After the last node all children are counted.
use Rattle.view.specs.Standing.{sane_formed}
use Rattle.tidy.specs.Blank as blank
use native.Mathlib.Omega.{arith}
use Rattle.tidy.proofs.kids_from.Goals as goal

pub returns-then-i-side : goal.returns-then-i-side
returns-then-i-side c = blank.kids_last c.args.side.words.now (sane_formed _ c.args.side.formed) _ c.if-i-side.true

pub returns : goal.returns
returns c = blank.kids_first c.args.side.words.now (sane_formed _ c.args.side.formed) _ _ (omega (arith, c.if-i-side.false)) c.first_child.ensures
