-- `sets::call::list` meets its contract. The refusals first, then the room decides.
use Rattle.std.proofs.Common.{sym, ap, ap₂, ◌∙◌, List}
use Rattle.defs.specs.Lists.{Record}
use Rattle.defs.specs.Outcome.{list_outcome}
use Rattle.view.specs.Seen.{seen}
use Rattle.sets.specs.Listing as listing
use Rattle.sets.proofs.call.list.Goals as goal

pub listed-requires : goal.listed-requires
listed-requires c = (
  c.start.ensures.0,
  listing.list_few c.args.op c.args.width (seen c.in_ok-both.both.left) (seen c.in_ok-both.both.right) c.in_ok-both.ensures.opened.passed c.start.result c.start.ensures.1,
)

pub returns : goal.returns
returns c =
    let o = c.in_ok-both.ensures.opened in
    c.listed.ensures ∙ ap (λ (rs : List Record). listing.room_outcome rs c.args.out.now) (sym c.start.ensures.1)
    ∙ listing.list_passed c.args.op c.args.width (seen c.in_ok-both.both.left) (seen c.in_ok-both.both.right) c.args.out.now o.passed
    ∙ ap₂ (λ l r. list_outcome c.args.op c.args.width l r c.args.out.now) o.left_is o.right_is
