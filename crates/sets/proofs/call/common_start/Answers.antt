-- `sets::call::common_start` meets its contract. Both views lie in the node pair at the depth of the common length.
use native.Mathlib.Omega.{arith}
use Rattle.view.specs.Seen.{seen}
use Rattle.view.specs.Standing.{sane_formed}
use Rattle.sets.specs.Listing as listing
use Rattle.sets.proofs.call.common_start.Goals as goal

pub at_depth-left-requires : goal.at_depth-left-requires
at_depth-left-requires c = (omega arith, listing.depth_short c.args.job.op (seen c.args.job.left) (seen c.args.job.right) (omega arith) (omega arith) c.requires.0 c.requires.1 (sane_formed _ c.args.job.left.formed) (sane_formed _ c.args.job.right.formed) _ c.common_len.ensures)

pub at_depth-right-requires : goal.at_depth-right-requires
at_depth-right-requires c = (omega arith, listing.depth_short c.args.job.op (seen c.args.job.left) (seen c.args.job.right) (omega arith) (omega arith) c.requires.0 c.requires.1 (sane_formed _ c.args.job.left.formed) (sane_formed _ c.args.job.right.formed) _ c.common_len.ensures)

pub entered-requires-clause-entering : goal.entered-requires-clause-entering
entered-requires-clause-entering c =
    listing.common_entering c.args.job.op (seen c.args.job.left) (seen c.args.job.right) (omega arith) (omega arith) c.requires.0 c.requires.1 (sane_formed _ c.args.job.left.formed) (sane_formed _ c.args.job.right.formed) _ c.common_len.ensures
    _ _ c.at_depth-left.ensures c.at_depth-right.ensures _ c.shortened-prefix.ensures

pub returns : goal.returns
returns c = (
  listing.common_ready c.args.job.op (seen c.args.job.left) (seen c.args.job.right) (omega arith) (omega arith) c.requires.0 c.requires.1 (sane_formed _ c.args.job.left.formed) (sane_formed _ c.args.job.right.formed) _ c.common_len.ensures
      _ _ c.at_depth-left.ensures c.at_depth-right.ensures _ c.shortened-prefix.ensures _ c.no_covers.ensures _ c.entered.ensures,
  listing.common_list c.args.job.op (seen c.args.job.left) (seen c.args.job.right) (omega arith) (omega arith) c.requires.0 c.requires.1 (sane_formed _ c.args.job.left.formed) (sane_formed _ c.args.job.right.formed) _ c.common_len.ensures
      _ _ c.at_depth-left.ensures c.at_depth-right.ensures _ c.shortened-prefix.ensures _ c.no_covers.ensures _ c.entered.ensures,
)
