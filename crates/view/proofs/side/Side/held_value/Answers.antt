-- `view::held_value` meets its contract. By the two tests; the sum fits since every value index is below 31 times the nodes.
use mathlib.Core.Path.{sym, ◌∙◌}
use Rattle.view.specs.Standing.{sane_formed, value_unset, value_outside, value_held, value_room}
use Rattle.view.proofs.side.Side.held_value.Goals as goal

pub returns-then-not-bit : goal.returns-then-not-bit
returns-then-not-bit c = value_unset c.args.self.words.now c.args.self.root c.args.i c.args.b c.args.q _ c.data_bits-held.ensures (sym c.bit.ensures ∙ c.if-not-bit.true)

pub returns-then-not-leads : goal.returns-then-not-leads
returns-then-not-leads c = value_outside c.args.self.words.now c.args.self.root c.args.i c.args.b c.args.q 0 (sym c.leads.ensures ∙ c.if-not-leads.true)

pub overflow_add-result : goal.overflow_add-result
overflow_add-result c = record { fits = value_room _ (sane_formed _ c.args.self.formed) c.args.i c.args.b c.requires.0 c.requires.1 _ _ _ c.data_bits-held.ensures (sym c.bit.ensures ∙ c.if-not-bit.false) c.first_value.ensures c.rank.ensures }

pub returns : goal.returns
returns c = value_held c.args.self.words.now c.args.self.root c.args.i c.args.b c.args.q _ c.data_bits-held.ensures (sym c.bit.ensures ∙ c.if-not-bit.false) (sym c.leads.ensures ∙ c.if-not-leads.false) _ _ c.first_value.ensures c.rank.ensures
