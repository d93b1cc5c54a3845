-- `tidy::below_node` meets its contract. The children of one node that lie on one path with the root stand one after the other.
use Rattle.tidy.specs.Runs as runs
use native.Mathlib.Omega.{arith}
use Rattle.tidy.proofs.below_node.Goals as goal

pub open_span-places-requires : goal.open_span-places-requires
open_span-places-requires c = (c.requires.2, c.requires.0.long)

pub overflow_add-from : goal.overflow_add-from
overflow_add-from c = record { fits = runs.sum_small c.args.side.words.now c.args.side.root c.args.run c.requires.0 _ _ _ _ c.first_child-first.ensures c.rank.ensures (omega (arith, c.open_span-places.ensures.ordered, c.open_span-places.ensures.inside)) }

pub overflow_add-to : goal.overflow_add-to
overflow_add-to c = record { fits = runs.sum_small c.args.side.words.now c.args.side.root c.args.run c.requires.0 _ _ _ _ c.first_child-first.ensures c.rank-2.ensures c.open_span-places.ensures.inside }

pub overflow_add-result : goal.overflow_add-result
overflow_add-result c = record { fits = runs.depth_small c.args.side.words.now c.args.side.root c.args.run c.requires.0 }

pub returns-then-from-to : goal.returns-then-from-to
returns-then-from-to c = runs.next_none_is c.args.side.words.now c.args.side.root c.args.run c.requires.0 c.requires.1 c.requires.2 _ _ c.open_span-places.ensures _ _ _ _ c.child_bits-child.ensures c.first_child-first.ensures c.rank.ensures c.rank-2.ensures c.if-from-to.true _ c.first_child-end.ensures

pub overflow_add-result-2 : goal.overflow_add-result-2
overflow_add-result-2 c = record { fits = runs.depth_small c.args.side.words.now c.args.side.root c.args.run c.requires.0 }

pub returns : goal.returns
returns c = runs.next_node_is c.args.side.words.now c.args.side.root c.args.run c.requires.0 c.requires.1 c.requires.2 _ _ c.open_span-places.ensures _ _ _ _ c.child_bits-child.ensures c.first_child-first.ensures c.rank.ensures c.rank-2.ensures c.if-from-to.false
