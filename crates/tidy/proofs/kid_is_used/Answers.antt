-- `tidy::kid_is_used` meets its contract. By the cases of the child: none, inside the view, on the way to the root, elsewhere.
use Rattle.tidy.specs.Kept as kept
use mathlib.Core.Path.{refl, sym, ◌∙◌}
use native.Mathlib.Omega.{arith}
use Rattle.tidy.proofs.kid_is_used.Goals as goal

pub returns-then-not-bit : goal.returns-then-not-bit
returns-then-not-bit c = kept.kid_unset c.args.side.words.now c.args.side.root c.args.i c.args.p c.requires.0 c.args.c c.requires.1 _ c.child_bits-child.ensures (sym c.bit.ensures ∙ c.if-not-bit.true)

pub overflow_add-k : goal.overflow_add-k
overflow_add-k c = record { fits = (kept.kid_in c.args.side.words.now c.args.side.root c.args.i c.args.p c.requires.0 c.args.c c.requires.1 _ c.child_bits-child.ensures (sym c.bit.ensures ∙ c.if-not-bit.false) _ _ c.first_child.ensures c.rank.ensures).1 }

pub overflow_sub-p : goal.overflow_sub-p
overflow_sub-p c = kept.here_levels c.args.side.words.now c.args.side.root c.args.i c.args.p c.requires.0

pub is_full-requires : goal.is_full-requires
is_full-requires c = (kept.kid_in c.args.side.words.now c.args.side.root c.args.i c.args.p c.requires.0 c.args.c c.requires.1 _ c.child_bits-child.ensures (sym c.bit.ensures ∙ c.if-not-bit.false) _ _ c.first_child.ensures c.rank.ensures).0

pub returns-then-leads : goal.returns-then-leads
returns-then-leads c = c.is_full.ensures ∙ kept.kid_inside c.args.side.words.now c.args.side.root c.args.i c.args.p c.requires.0 c.args.c c.requires.1 _ c.child_bits-child.ensures (sym c.bit.ensures ∙ c.if-not-bit.false) _ (kept.kid_prefix c.args.side.words.now c.args.side.root c.args.i c.args.p c.requires.0 c.args.c c.requires.1 _ c.child_bits-child.ensures (sym c.bit.ensures ∙ c.if-not-bit.false) (omega arith) _ c.place_prefix-q.ensures) (sym c.leads.ensures ∙ c.if-leads.true) _ _ c.first_child.ensures c.rank.ensures _ refl

pub returns-then-leads-2 : goal.returns-then-leads-2
returns-then-leads-2 c = kept.kid_above c.args.side.words.now c.args.side.root c.args.i c.args.p c.requires.0 c.args.c c.requires.1 _ c.child_bits-child.ensures (sym c.bit.ensures ∙ c.if-not-bit.false) _ (kept.kid_prefix c.args.side.words.now c.args.side.root c.args.i c.args.p c.requires.0 c.args.c c.requires.1 _ c.child_bits-child.ensures (sym c.bit.ensures ∙ c.if-not-bit.false) (omega arith) _ c.place_prefix-q.ensures) (sym c.leads-2.ensures ∙ c.if-leads-2.true) _ c.view_is_empty.ensures

pub returns-else-leads-2 : goal.returns-else-leads-2
returns-else-leads-2 c = c.if-leads-2.false ∙ kept.kid_outside c.args.side.words.now c.args.side.root c.args.i c.args.p c.requires.0 c.args.c c.requires.1 _ c.child_bits-child.ensures (sym c.bit.ensures ∙ c.if-not-bit.false) _ (kept.kid_prefix c.args.side.words.now c.args.side.root c.args.i c.args.p c.requires.0 c.args.c c.requires.1 _ c.child_bits-child.ensures (sym c.bit.ensures ∙ c.if-not-bit.false) (omega arith) _ c.place_prefix-q.ensures) (sym c.leads.ensures ∙ c.if-leads.false) (sym c.leads-2.ensures ∙ c.if-leads-2.false)
