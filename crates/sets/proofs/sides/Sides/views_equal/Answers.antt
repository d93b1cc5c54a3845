-- `sets::Sides::views_equal` meets its contract. The two nodes are those at which a list's walk starts.
use native.Mathlib.Omega.{arith}
use Rattle.view.specs.Seen.{seen}
use Rattle.view.specs.Standing.{sane_formed}
use Rattle.sets.specs.Equality.{start_short, start_paired, start_equal}
use Rattle.sets.proofs.sides.Sides.views_equal.Goals as goal

pub at_depth-left-requires : goal.at_depth-left-requires
at_depth-left-requires c = (omega arith, start_short (seen c.args.self.left) (seen c.args.self.right) (omega arith) (omega arith) c.requires.0 c.requires.1 (sane_formed _ c.args.self.left.formed) (sane_formed _ c.args.self.right.formed) _ c.common_len.ensures)

pub at_depth-right-requires : goal.at_depth-right-requires
at_depth-right-requires c = (omega arith, start_short (seen c.args.self.left) (seen c.args.self.right) (omega arith) (omega arith) c.requires.0 c.requires.1 (sane_formed _ c.args.self.left.formed) (sane_formed _ c.args.self.right.formed) _ c.common_len.ensures)

pub overflow_sub-depth : goal.overflow_sub-depth
overflow_sub-depth c = omega (arith, start_short (seen c.args.self.left) (seen c.args.self.right) (omega arith) (omega arith) c.requires.0 c.requires.1 (sane_formed _ c.args.self.left.formed) (sane_formed _ c.args.self.right.formed) _ c.common_len.ensures)

pub pair_equal-requires : goal.pair_equal-requires
pair_equal-requires c = start_paired (seen c.args.self.left) (seen c.args.self.right) (omega arith) (omega arith) c.requires.0 c.requires.1 (sane_formed _ c.args.self.left.formed) (sane_formed _ c.args.self.right.formed) _ c.common_len.ensures _ _ c.at_depth-left.ensures c.at_depth-right.ensures _ c.shortened-prefix.ensures

pub returns : goal.returns
returns c = start_equal (seen c.args.self.left) (seen c.args.self.right) (omega arith) (omega arith) c.requires.0 c.requires.1 (sane_formed _ c.args.self.left.formed) (sane_formed _ c.args.self.right.formed) _ c.common_len.ensures _ _ c.at_depth-left.ensures c.at_depth-right.ensures _ c.shortened-prefix.ensures _ c.pair_equal.ensures
