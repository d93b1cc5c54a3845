-- `tidy::write` meets its contract. The words and values of the first i nodes stand at the front; the measure is the nodes left.
use Rattle.tidy.specs.Runs as runs
use Rattle.tidy.specs.Call as call
use Rattle.tidy.specs.Chosen as chosen
use Rattle.tidy.specs.Kept as kept
use Rattle.view.specs.declared.Bitmaps.{Bitmaps}
use Rattle.view.specs.Standing.{sane_formed, nodes_few}
use Rattle.bits.specs.WordLaws.{ones_le}
use Rattle.defs.specs.Pool.{ones}
use lib.ListN.{length-take, length-drop}
use mathlib.Core.Path.{ap, ◌∙◌}
use native.Mathlib.Omega.{arith}
use Rattle.tidy.proofs.write.Goals as goal
use Rattle.tidy.proofs.write.Goals.{then-is_kept, else-is_kept}

pub loop-i-init : goal.loop-i-init
loop-i-init c = (chosen.writing_start (kept.data_on c.args.side.words.now c.args.side.root) (kept.kids_on c.args.side.words.now c.args.side.root) (call.values_on c.args.side.words.now c.args.side.root) _ _ _, runs.standing_start c.args.side.words.now (sane_formed _ c.args.side.formed) c.args.side.root (omega arith))

pub run_at-run-requires : goal.run_at-run-requires
run_at-run-requires c = (c.requires.short, c.loop-i-test.true, c.loop-i.invariant.1)

pub kept_node-b-requires : goal.kept_node-b-requires
kept_node-b-requires c = (c.requires.short, c.loop-i-test.true, c.run_at-run.ensures.0, c.run_at-run.ensures.1)

pub is_kept-requires : goal.is_kept-requires
is_kept-requires c = tt

pub offset_bounds-out-at : goal.offset_bounds-out-at
offset_bounds-out-at c = let r = chosen.writing_small (kept.data_on c.args.side.words.now c.args.side.root) (kept.kids_on c.args.side.words.now c.args.side.root) (call.values_on c.args.side.words.now c.args.side.root) _ _ _ _ _ _ _ _ _ c.loop-i.invariant.0 in omega (arith, c.loop-i-test.true, nodes_few c.args.side.words.now (sane_formed _ c.args.side.formed), r.0)

pub slice_bounds-put_node-count : goal.slice_bounds-put_node-count
slice_bounds-put_node-count c = let r = call.copy_room c.args.side.words.now c.args.side.root (sane_formed _ c.args.side.formed) c.args.out.now c.args.values.now c.requires.room _ _ _ _ _ _ c.loop-i-test.true c.loop-i.invariant.0 (call.kept_says c.args.side.words.now c.args.side.root (sane_formed _ c.args.side.formed) _ _ c.kept_node-b.ensures _ c.is_kept.ensures ∙ c.if-is_kept.true) in omega (arith, r.0)

pub slice_bounds-put_node-start : goal.slice_bounds-put_node-start
slice_bounds-put_node-start c = let r = call.copy_room c.args.side.words.now c.args.side.root (sane_formed _ c.args.side.formed) c.args.out.now c.args.values.now c.requires.room _ _ _ _ _ _ c.loop-i-test.true c.loop-i.invariant.0 (call.kept_says c.args.side.words.now c.args.side.root (sane_formed _ c.args.side.formed) _ _ c.kept_node-b.ensures _ c.is_kept.ensures ∙ c.if-is_kept.true) in omega (arith, r.0)

pub slice_bounds-put_node-end : goal.slice_bounds-put_node-end
slice_bounds-put_node-end c = let r = call.copy_room c.args.side.words.now c.args.side.root (sane_formed _ c.args.side.formed) c.args.out.now c.args.values.now c.requires.room _ _ _ _ _ _ c.loop-i-test.true c.loop-i.invariant.0 (call.kept_says c.args.side.words.now c.args.side.root (sane_formed _ c.args.side.formed) _ _ c.kept_node-b.ensures _ c.is_kept.ensures ∙ c.if-is_kept.true) in omega (arith, r.0)

pub put_node-requires : goal.put_node-requires
put_node-requires c = let s = chosen.writing_small (kept.data_on c.args.side.words.now c.args.side.root) (kept.kids_on c.args.side.words.now c.args.side.root) (call.values_on c.args.side.words.now c.args.side.root) _ _ _ _ _ _ _ _ _ c.loop-i.invariant.0 in let r = call.copy_room c.args.side.words.now c.args.side.root (sane_formed _ c.args.side.formed) c.args.out.now c.args.values.now c.requires.room _ _ _ _ _ _ c.loop-i-test.true c.loop-i.invariant.0 (call.kept_says c.args.side.words.now c.args.side.root (sane_formed _ c.args.side.formed) _ _ c.kept_node-b.ensures _ c.is_kept.ensures ∙ c.if-is_kept.true) in (rw (length-take, length-drop) (omega (arith, r.0)), omega (arith, c.loop-i-test.true, nodes_few c.args.side.words.now (sane_formed _ c.args.side.formed), s.1))

pub data_bits-held-requires : goal.data_bits-held-requires
data_bits-held-requires c = c.loop-i-test.true

pub first_value-first-requires : goal.first_value-first-requires
first_value-first-requires c = c.loop-i-test.true

pub offset_bounds-values-count : goal.offset_bounds-values-count
offset_bounds-values-count c = let r = chosen.writing_small (kept.data_on c.args.side.words.now c.args.side.root) (kept.kids_on c.args.side.words.now c.args.side.root) (call.values_on c.args.side.words.now c.args.side.root) _ _ _ _ _ _ _ _ _ c.loop-i.invariant.0 in omega (arith, c.loop-i-test.true, nodes_few c.args.side.words.now (sane_formed _ c.args.side.formed), r.2)

pub slice_bounds-put_values-count : goal.slice_bounds-put_values-count
slice_bounds-put_values-count c = let r = call.copy_room c.args.side.words.now c.args.side.root (sane_formed _ c.args.side.formed) c.args.out.now c.args.values.now c.requires.room _ _ _ _ _ _ c.loop-i-test.true c.loop-i.invariant.0 (call.kept_says c.args.side.words.now c.args.side.root (sane_formed _ c.args.side.formed) _ _ c.kept_node-b.ensures _ c.is_kept.ensures ∙ c.if-is_kept.true) in omega (arith, r.1)

pub slice_bounds-put_values-start : goal.slice_bounds-put_values-start
slice_bounds-put_values-start c = let r = call.copy_room c.args.side.words.now c.args.side.root (sane_formed _ c.args.side.formed) c.args.out.now c.args.values.now c.requires.room _ _ _ _ _ _ c.loop-i-test.true c.loop-i.invariant.0 (call.kept_says c.args.side.words.now c.args.side.root (sane_formed _ c.args.side.formed) _ _ c.kept_node-b.ensures _ c.is_kept.ensures ∙ c.if-is_kept.true) in omega (arith, r.1)

pub slice_bounds-put_values-end : goal.slice_bounds-put_values-end
slice_bounds-put_values-end c = let r = call.copy_room c.args.side.words.now c.args.side.root (sane_formed _ c.args.side.formed) c.args.out.now c.args.values.now c.requires.room _ _ _ _ _ _ c.loop-i-test.true c.loop-i.invariant.0 (call.kept_says c.args.side.words.now c.args.side.root (sane_formed _ c.args.side.formed) _ _ c.kept_node-b.ensures _ c.is_kept.ensures ∙ c.if-is_kept.true) in omega (arith, r.1)

pub put_values-requires : goal.put_values-requires
put_values-requires c = let r = call.copy_room c.args.side.words.now c.args.side.root (sane_formed _ c.args.side.formed) c.args.out.now c.args.values.now c.requires.room _ _ _ _ _ _ c.loop-i-test.true c.loop-i.invariant.0 (call.kept_says c.args.side.words.now c.args.side.root (sane_formed _ c.args.side.formed) _ _ c.kept_node-b.ensures _ c.is_kept.ensures ∙ c.if-is_kept.true) in (call.held_small c.args.side.words.now c.args.side.root (sane_formed _ c.args.side.formed) _ c.loop-i-test.true _ c.data_bits-held.ensures, rw (length-take, length-drop) (omega (arith, r.1, ap (λ (x : Bitmaps). ones x.data) c.kept_node-b.ensures)), omega (arith, c.first_value-first.ensures, call.value_fits c.args.side.words.now c.args.side.root (sane_formed _ c.args.side.formed) _ c.loop-i-test.true))

pub overflow_add-at : goal.overflow_add-at
overflow_add-at c = let r = chosen.writing_small (kept.data_on c.args.side.words.now c.args.side.root) (kept.kids_on c.args.side.words.now c.args.side.root) (call.values_on c.args.side.words.now c.args.side.root) _ _ _ _ _ _ _ _ _ c.loop-i.invariant.0 in omega (arith, c.loop-i-test.true, nodes_few c.args.side.words.now (sane_formed _ c.args.side.formed), r.0)

pub ones-children-requires : goal.ones-children-requires
ones-children-requires c = tt

pub overflow_add-children : goal.overflow_add-children
overflow_add-children c = let r = chosen.writing_small (kept.data_on c.args.side.words.now c.args.side.root) (kept.kids_on c.args.side.words.now c.args.side.root) (call.values_on c.args.side.words.now c.args.side.root) _ _ _ _ _ _ _ _ _ c.loop-i.invariant.0 in omega (arith, c.loop-i-test.true, nodes_few c.args.side.words.now (sane_formed _ c.args.side.formed), r.1, c.ones-children.ensures, ones_le c.kept_node-b.result.child)

pub ones-requires : goal.ones-requires
ones-requires c = tt

pub overflow_add-count : goal.overflow_add-count
overflow_add-count c = let r = chosen.writing_small (kept.data_on c.args.side.words.now c.args.side.root) (kept.kids_on c.args.side.words.now c.args.side.root) (call.values_on c.args.side.words.now c.args.side.root) _ _ _ _ _ _ _ _ _ c.loop-i.invariant.0 in omega (arith, c.loop-i-test.true, nodes_few c.args.side.words.now (sane_formed _ c.args.side.formed), r.2, c.ones.ensures, ones_le c.kept_node-b.result.«data»)

pub returns : goal.returns
returns c = call.copy_end c.args.side.words.now c.args.side.root (sane_formed _ c.args.side.formed) c.args.out.now c.args.values.now c.requires.room _ _ _ _ _ _ (omega (arith, c.loop-i-test.false)) c.loop-i.invariant.0

pub loop-i-preserved : goal.loop-i-preserved
loop-i-preserved c =
    elim c.if-is_kept.branch [
      | then-is_kept w ↦ rw (w.out-is, w.values-is, w.at-is, w.children-is, w.count-is) ((call.copy_on c.args.side.words.now c.args.side.root (sane_formed _ c.args.side.formed) c.args.out.now c.args.values.now c.requires.room _ _ _ _ _ _ c.loop-i-test.true c.loop-i.invariant.0 (call.kept_says c.args.side.words.now c.args.side.root (sane_formed _ c.args.side.formed) _ _ c.kept_node-b.ensures _ c.is_kept.ensures ∙ w.if-is_kept.true) _ c.kept_node-b.ensures _ _ w.data_bits-held.ensures w.first_value-first.ensures _ _ w.put_node.ensures w.put_values.ensures _ _ w.ones-children.ensures w.ones.ensures, runs.standing_on c.args.side.words.now (sane_formed _ c.args.side.formed) c.args.side.root _ _ c.run_at-run.ensures.0 c.run_at-run.ensures.1))
      | else-is_kept w ↦ rw (w.out-is, w.values-is, w.at-is, w.children-is, w.count-is) ((call.copy_off c.args.side.words.now c.args.side.root (sane_formed _ c.args.side.formed) c.args.out.now c.args.values.now c.requires.room _ _ _ _ _ _ c.loop-i-test.true c.loop-i.invariant.0 (call.kept_says c.args.side.words.now c.args.side.root (sane_formed _ c.args.side.formed) _ _ c.kept_node-b.ensures _ c.is_kept.ensures ∙ w.if-is_kept.false), runs.standing_on c.args.side.words.now (sane_formed _ c.args.side.formed) c.args.side.root _ _ c.run_at-run.ensures.0 c.run_at-run.ensures.1))
    ]

pub overflow_cast-count : goal.overflow_cast-count
overflow_cast-count c = let r = chosen.writing_small (kept.data_on c.args.side.words.now c.args.side.root) (kept.kids_on c.args.side.words.now c.args.side.root) (call.values_on c.args.side.words.now c.args.side.root) _ _ _ _ _ _ _ _ _ c.loop-i.invariant.0 in omega (arith, c.loop-i-test.true, nodes_few c.args.side.words.now (sane_formed _ c.args.side.formed), r.2)
