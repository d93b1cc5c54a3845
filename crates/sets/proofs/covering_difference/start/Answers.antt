-- `sets::covering_difference::start` meets its contract. By what aligning found.
use native.Mathlib.Omega.{arith}
use Rattle.view.specs.Seen.{seen}
use Rattle.view.specs.Standing.{sane_formed}
use Rattle.sets.specs.Beginning as beg
use Rattle.sets.proofs.covering_difference.start.Goals as goal

pub returns-in_default : goal.returns-in_default
returns-in_default c = (
  beg.covered_ready (seen c.args.left) (seen c.args.right) (omega arith) (omega arith) c.requires.0 c.requires.1 (sane_formed _ c.args.left.formed) (sane_formed _ c.args.right.formed) _ c.shortened-prefix.ensures _ c.align.ensures c.in_default.is _ c.nothing.ensures,
  beg.covered_list (seen c.args.left) (seen c.args.right) (omega arith) (omega arith) c.requires.0 c.requires.1 (sane_formed _ c.args.left.formed) (sane_formed _ c.args.right.formed) _ c.shortened-prefix.ensures _ c.align.ensures c.in_default.is _ c.nothing.ensures,
)

pub entered-requires-clause-entering : goal.entered-requires-clause-entering
entered-requires-clause-entering c = beg.start_entering (seen c.args.left) (seen c.args.right) (omega arith) (omega arith) c.requires.0 c.requires.1 (sane_formed _ c.args.left.formed) (sane_formed _ c.args.right.formed) _ c.shortened-prefix.ensures _ c.align.ensures _ (beg.reached (seen c.args.left) (seen c.args.right) (omega arith) (omega arith) c.requires.0 c.requires.1 (sane_formed _ c.args.left.formed) (sane_formed _ c.args.right.formed) _ c.shortened-prefix.ensures _ c.align.ensures _ c.in-Some.is) _ c.at_depth.ensures

pub returns : goal.returns
returns c = (
  beg.start_ready (seen c.args.left) (seen c.args.right) (omega arith) (omega arith) c.requires.0 c.requires.1 (sane_formed _ c.args.left.formed) (sane_formed _ c.args.right.formed) _ c.shortened-prefix.ensures _ c.align.ensures _ (beg.reached (seen c.args.left) (seen c.args.right) (omega arith) (omega arith) c.requires.0 c.requires.1 (sane_formed _ c.args.left.formed) (sane_formed _ c.args.right.formed) _ c.shortened-prefix.ensures _ c.align.ensures _ c.in-Some.is) _ c.at_depth.ensures _ c.no_covers.ensures _ c.entered.ensures,
  beg.there_list (seen c.args.left) (seen c.args.right) (omega arith) (omega arith) c.requires.0 c.requires.1 (sane_formed _ c.args.left.formed) (sane_formed _ c.args.right.formed) _ c.shortened-prefix.ensures _ c.align.ensures _ (beg.reached (seen c.args.left) (seen c.args.right) (omega arith) (omega arith) c.requires.0 c.requires.1 (sane_formed _ c.args.left.formed) (sane_formed _ c.args.right.formed) _ c.shortened-prefix.ensures _ c.align.ensures _ c.in-Some.is) _ c.at_depth.ensures _ c.no_covers.ensures _ c.entered.ensures c.in-Some.is,
)
