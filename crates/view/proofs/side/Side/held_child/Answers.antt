-- `view::held_child` meets its contract. By the two tests; the sum fits since a child is a node of the pool.
use mathlib.Core.Path.{sym, ◌∙◌}
use Rattle.view.specs.Standing.{sane_formed, child_unset, child_outside, child_held, child_room}
use Rattle.view.proofs.side.Side.held_child.Goals as goal

pub returns-then-not-bit : goal.returns-then-not-bit
returns-then-not-bit c = child_unset c.args.self.words.now c.args.self.root c.args.i c.args.c c.args.q _ c.child_bits-held.ensures (sym c.bit.ensures ∙ c.if-not-bit.true)

pub returns-then-not-on_path : goal.returns-then-not-on_path
returns-then-not-on_path c = child_outside c.args.self.words.now c.args.self.root c.args.i c.args.c c.args.q 0 (sym c.on_path.ensures ∙ c.if-not-on_path.true)

pub overflow_add-result : goal.overflow_add-result
overflow_add-result c = record { fits = child_room _ (sane_formed _ c.args.self.formed) c.args.i c.args.c c.requires.0 c.requires.1 _ _ _ c.child_bits-held.ensures (sym c.bit.ensures ∙ c.if-not-bit.false) c.first_child.ensures c.rank.ensures }

pub returns : goal.returns
returns c = child_held c.args.self.words.now c.args.self.root c.args.i c.args.c c.args.q _ c.child_bits-held.ensures (sym c.bit.ensures ∙ c.if-not-bit.false) (sym c.on_path.ensures ∙ c.if-not-on_path.false) _ _ c.first_child.ensures c.rank.ensures
