-- `tidy::checked` meets its contract. What passed the tests has no fault.
use Rattle.std.proofs.Common.{sym, ap, ◌∙◌}
use Rattle.defs.specs.Refusals.{checked}
use Rattle.view.specs.Standing.{formed_sane}
use Rattle.tidy.specs.Call.{side_of, passed_sane, all_passed}
use Rattle.tidy.proofs.checked.Goals as goal

pub invariant_of-result : goal.invariant_of-result
invariant_of-result c = record {
  formed =
      formed_sane _
      (passed_sane c.args.width (side_of c.args.words.now c.args.root)
      (all_passed c.args.width (side_of c.args.words.now c.args.root) _ (ap checked (sym c.in_default.is) ∙ c.check.ensures) c.if-width-root.false));
}
