-- `tidy::tidy` meets its contract. By the rows of the table, and then by what is written.
use mathlib.Core.Path.{refl, ap, ◌∙◌}
use Rattle.defs.specs.Outcome.{tidy_outcome}
use Rattle.view.specs.Seen.{seen}
use Rattle.tidy.specs.Call as call
use Rattle.tidy.proofs.tidy.Goals as goal

pub returns-then-out-size : goal.returns-then-out-size
returns-then-out-size c = call.tidy_no_room c.args.width (seen c.in_ok-side.side) c.args.out.now c.args.values.now c.in_ok-side.ensures.opened.passed _ c.measure-size.ensures.0 c.if-out-size.true ∙ ap (λ s. tidy_outcome c.args.width s c.args.out.now c.args.values.now) c.in_ok-side.ensures.opened.side_is

pub returns-then-values-size : goal.returns-then-values-size
returns-then-values-size c = call.tidy_no_space c.args.width (seen c.in_ok-side.side) c.args.out.now c.args.values.now c.in_ok-side.ensures.opened.passed _ c.measure-size.ensures.0 c.if-out-size.false _ c.measure-size.ensures.1 c.if-values-size.true ∙ ap (λ s. tidy_outcome c.args.width s c.args.out.now c.args.values.now) c.in_ok-side.ensures.opened.side_is

pub returns : goal.returns
returns c = call.tidy_wrote c.args.width (seen c.in_ok-side.side) c.args.out.now c.args.values.now c.in_ok-side.ensures.opened.passed _ c.measure-size.ensures.0 c.if-out-size.false _ c.measure-size.ensures.1 c.if-values-size.false _ _ _ refl c.write.ensures.0 c.write.ensures.1 ∙ ap (λ s. tidy_outcome c.args.width s c.args.out.now c.args.values.now) c.in_ok-side.ensures.opened.side_is
