-- `view::Side::node_is_empty` meets its contract. The measure of the calls is the levels left; at each turn the first j children are empty.
use Rattle.std.proofs.Common.{◌≡◌, ◌+◌, ◌-◌, ◌<◌, ℕ, true, sym, ◌∙◌, subst, arith}
use Rattle.view.specs.Spreads.{below_all}
use Rattle.view.specs.Standing.{sane_formed}
use Rattle.view.specs.Emptiness.{empty_at, below_next, read, asking_fails, asking_ends, kid_there}
use Rattle.view.proofs.side.Side.+node_is_empty.Goals as goal

one_less : {n : ℕ} → (n ≡ 0 → ⊥) → n - 1 < n
one_less h = omega arith

pub overflow_add-first : goal.overflow_add-first
overflow_add-first t c = record { fits = (kid_there c.args.self.words.now c.args.levels c.args.node _ _ _ (read c.if-levels-eq0.false c.data_bits.ensures c.first_child-first.ensures c.ones-count.ensures c.child_bits.ensures) (sane_formed _ c.args.self.formed) c.requires _ (omega arith)).1 }

pub node_is_empty-requires : goal.node_is_empty-requires
node_is_empty-requires t c = (subst (λ (x : ℕ). c.args.levels - 1 < x) c.decreases (one_less c.if-levels-eq0.false), (kid_there c.args.self.words.now c.args.levels c.args.node _ _ _ (read c.if-levels-eq0.false c.data_bits.ensures c.first_child-first.ensures c.ones-count.ensures c.child_bits.ensures) (sane_formed _ c.args.self.formed) c.requires _ (omega arith)).0)

pub returns-then-not-node_is_empty : goal.returns-then-not-node_is_empty
returns-then-not-node_is_empty t c = asking_fails c.args.self.words.now c.args.levels c.args.node _ _ _ (read c.if-levels-eq0.false c.data_bits.ensures c.first_child-first.ensures c.ones-count.ensures c.child_bits.ensures) _ (omega arith) (omega arith) (sym c.node_is_empty.ensures ∙ c.if-not-node_is_empty.true)

pub returns : goal.returns
returns t c = asking_ends c.args.self.words.now c.args.levels c.args.node _ _ _ (read c.if-levels-eq0.false c.data_bits.ensures c.first_child-first.ensures c.ones-count.ensures c.child_bits.ensures) (omega arith) (subst (λ x. below_all (λ j. empty_at c.args.self.words.now (c.args.levels - 1) (c.first_child-first.result + j)) x ≡ true) (omega arith) c.loop-j.invariant)

pub loop-j-preserved : goal.loop-j-preserved
loop-j-preserved t c = below_next (λ x. empty_at c.args.self.words.now (c.args.levels - 1) (c.first_child-first.result + x)) _ c.loop-j.invariant (sym c.node_is_empty.ensures ∙ c.if-not-node_is_empty.false)
