-- `sets::covering_difference::align` meets its contract. By what one level down comes to.
use native.Mathlib.Omega.{arith}
use Rattle.std.proofs.Common.{◌/◌, ap, ◌∙◌}
use Rattle.std.specs.Prelude.{Some}
use Rattle.view.specs.Seen.{seen}
use Rattle.view.specs.Standing.{sane_formed}
use Rattle.sets.specs.Aligned as al
use Rattle.sets.proofs.covering_difference.align.Goals as goal

pub returns-in-None : goal.returns-in-None
returns-in-None c = al.aligned_covered (seen c.args.right) c.args.path (c.args.depth / 5) _ _ c.loop-level.invariant.0 (omega (arith, c.loop-level.invariant.1, c.if-level-depth.false)) _ c.down.ensures c.in-None.is

pub returns-in-Some-None : goal.returns-in-Some-None
returns-in-Some-None c = al.aligned_missing (seen c.args.right) c.args.path (c.args.depth / 5) _ _ c.loop-level.invariant.0 (omega (arith, c.loop-level.invariant.1, c.if-level-depth.false)) _ c.down.ensures (c.in-Some-None.is ∙ ap Some c.in-Some-None.field-0-is)

pub loop-level-preserved : goal.loop-level-preserved
loop-level-preserved c = (
  al.aligning_on (seen c.args.right) c.args.path (c.args.depth / 5) _ _ c.loop-level.invariant.0 (omega (arith, c.loop-level.invariant.1, c.if-level-depth.false)) _ c.down.ensures (sane_formed _ c.args.right.formed) _ (c.in-Some-Some.is ∙ ap Some c.in-Some-Some.field-0-is),
  omega (arith, c.loop-level.invariant.1, c.if-level-depth.false),
)
