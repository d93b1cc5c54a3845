-- `tidy::kept_node` meets its contract. By where the node stands: before the run, on the way to the root, or under it.
use Rattle.view.specs.Standing.{sane_formed}
use Rattle.tidy.specs.Runs as runs
use Rattle.tidy.proofs.kept_node.Goals as goal

pub returns-then-i-run : goal.returns-then-i-run
returns-then-i-run c = runs.node_before c.args.side.words.now c.args.side.root c.args.run c.args.i (sane_formed _ c.args.side.formed) c.requires.0 c.requires.1 c.requires.2 c.requires.3 c.if-i-run.true

pub way_node-requires : goal.way_node-requires
way_node-requires c = runs.node_on_way c.args.side.words.now c.args.side.root c.args.run c.args.i (sane_formed _ c.args.side.formed) c.requires.0 c.requires.1 c.requires.2 c.requires.3 c.if-i-run.false c.if-run-side.true _ c.shortened.ensures

pub returns-then-run-side : goal.returns-then-run-side
returns-then-run-side c = c.way_node.ensures

pub overflow_sub-run : goal.overflow_sub-run
overflow_sub-run c = runs.run_levels c.args.side.words.now c.args.side.root c.args.run c.args.i (sane_formed _ c.args.side.formed) c.requires.0 c.requires.1 c.requires.2 c.requires.3 c.if-i-run.false

pub full_kids-requires : goal.full_kids-requires
full_kids-requires c = (c.requires.1)

pub returns : goal.returns
returns c = runs.node_in_view c.args.side.words.now c.args.side.root c.args.run c.args.i (sane_formed _ c.args.side.formed) c.requires.0 c.requires.1 c.requires.2 c.requires.3 c.if-i-run.false c.if-run-side.false _ _ c.data_bits.ensures c.full_kids.ensures
