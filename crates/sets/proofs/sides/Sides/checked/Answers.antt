-- `sets::Sides::checked` meets its contract. The refusals in their order; what passed them has no fault.
use Rattle.std.proofs.Common.{sym, ap, ◌∙◌}
use Rattle.defs.specs.Refusals.{checked}
use Rattle.view.specs.Standing.{formed_sane}
use Rattle.sets.specs.Listing.{side_of, passed_left, passed_right, both_passed}
use Rattle.sets.proofs.sides.Sides.checked.Goals as goal

pub invariant_of-result : goal.invariant_of-result
invariant_of-result c = record { formed = formed_sane _ (passed_left c.args.width (side_of c.args.left.now c.args.left_root) (side_of c.args.right.now c.args.right_root) (both_passed c.args.width (side_of c.args.left.now c.args.left_root) (side_of c.args.right.now c.args.right_root) _ (ap checked (sym c.in_default.is) ∙ c.check.ensures) _ (ap checked (sym c.in_default-check.is) ∙ c.check-2.ensures) c.if-width-left_root.false c.if-width-right_root.false)) }

pub invariant_of-result-2 : goal.invariant_of-result-2
invariant_of-result-2 c = record { formed = formed_sane _ (passed_right c.args.width (side_of c.args.left.now c.args.left_root) (side_of c.args.right.now c.args.right_root) (both_passed c.args.width (side_of c.args.left.now c.args.left_root) (side_of c.args.right.now c.args.right_root) _ (ap checked (sym c.in_default.is) ∙ c.check.ensures) _ (ap checked (sym c.in_default-check.is) ∙ c.check-2.ensures) c.if-width-left_root.false c.if-width-right_root.false)) }
