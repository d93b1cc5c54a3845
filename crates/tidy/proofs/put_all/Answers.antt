-- `tidy::put_all` meets its contract. The first `at` values stand at the front; the measure is the values left.
use Rattle.tidy.specs.Chosen as chosen
use native.Mathlib.Omega.{arith}
use mathlib.Core.Path.{refl}
use Rattle.tidy.proofs.put_all.Goals as goal

pub loop-at-init : goal.loop-at-init
loop-at-init c = chosen.numbering_start c.args.first c.args.count c.args.values.now c.requires.0

pub overflow_add-values : goal.overflow_add-values
overflow_add-values c = omega arith

pub offset_bounds-values-at : goal.offset_bounds-values-at
offset_bounds-values-at c = omega (arith, chosen.numbering_same c.args.first c.args.count c.args.values.now c.requires.0 _ _ c.loop-at.invariant)

pub bounds-values-at : goal.bounds-values-at
bounds-values-at c = omega (arith, chosen.numbering_same c.args.first c.args.count c.args.values.now c.requires.0 _ _ c.loop-at.invariant)

pub loop-at-preserved : goal.loop-at-preserved
loop-at-preserved c = chosen.numbering_on c.args.first c.args.count c.args.values.now c.requires.0 _ _ c.loop-at.invariant c.loop-at-test.true _ refl

pub returns : goal.returns
returns c = chosen.numbering_end c.args.first c.args.count c.args.values.now c.requires.0 _ _ c.loop-at.invariant c.loop-at-test.false
