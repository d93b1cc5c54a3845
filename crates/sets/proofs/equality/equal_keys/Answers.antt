-- `sets::equality::equal_keys` meets its contract. The refusals first, then the comparison.
use Rattle.std.proofs.Common.{ap₂, ◌∙◌}
use Rattle.defs.specs.Outcome.{equal_outcome}
use Rattle.view.specs.Seen.{seen}
use Rattle.sets.specs.Equality.{equal_passed}
use Rattle.sets.proofs.equality.equal_keys.Goals as goal

pub returns : goal.returns
returns c =
    let o = c.in_ok-both.ensures.opened in
    equal_passed c.args.width (seen c.in_ok-both.both.left) (seen c.in_ok-both.both.right) o.passed _ c.views_equal.ensures ∙ ap₂ (equal_outcome c.args.width) o.left_is o.right_is
