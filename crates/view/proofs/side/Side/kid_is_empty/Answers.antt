-- `view::Side::kid_is_empty` meets its contract. By the cases of the child.
use mathlib.Core.Path.{◌∙◌}
use Rattle.view.specs.Standing.{sane_formed}
use Rattle.view.specs.EmptyViews.{kid_none, kid_in, kid_absent, kid_at_lem}
use Rattle.view.proofs.side.Side.kid_is_empty.Goals as goal

pub returns-then-levels-eq0 : goal.returns-then-levels-eq0
returns-then-levels-eq0 c = kid_none c.args.self.words.now c.args.self.root c.args.node c.args.p c.args.levels c.args.c c.requires.1 c.requires.2 c.if-levels-eq0.true

pub node_is_empty-requires : goal.node_is_empty-requires
node_is_empty-requires c = (kid_in c.args.self.words.now c.args.self.root c.args.node c.args.p c.args.levels c.args.c c.requires.1 c.requires.2 c.if-levels-eq0.false _ c.place_prefix.ensures _ c.child_at.ensures (sane_formed _ c.args.self.formed) c.requires.0 _ c.in-Some.is)

pub returns-in-None : goal.returns-in-None
returns-in-None c = kid_absent c.args.self.words.now c.args.self.root c.args.node c.args.p c.args.levels c.args.c c.requires.1 c.requires.2 c.if-levels-eq0.false _ c.place_prefix.ensures _ c.child_at.ensures c.in-None.is

pub returns-in-Some : goal.returns-in-Some
returns-in-Some c = c.node_is_empty.ensures ∙ kid_at_lem c.args.self.words.now c.args.self.root c.args.node c.args.p c.args.levels c.args.c c.requires.1 c.requires.2 c.if-levels-eq0.false _ c.place_prefix.ensures _ c.child_at.ensures _ c.in-Some.is
