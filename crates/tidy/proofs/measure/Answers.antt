-- `tidy::measure` meets its contract. The nodes and entries of the first i nodes; the measure is the nodes left.
use Rattle.tidy.specs.Runs as runs
use Rattle.tidy.specs.Call as call
use Rattle.tidy.specs.Chosen as chosen
use Rattle.tidy.specs.Kept as kept
use Rattle.view.specs.declared.Bitmaps.{Bitmaps}
use Rattle.view.specs.Standing.{sane_formed, nodes_few}
use Rattle.bits.specs.WordLaws.{ones_le}
use Rattle.defs.specs.Pool.{ones}
use mathlib.Core.Path.{ap, ◌∙◌}
use native.Mathlib.Omega.{arith}
use Rattle.tidy.proofs.measure.Goals as goal
use Rattle.tidy.proofs.measure.Goals.{then-is_kept, else-is_kept}

pub loop-i-init : goal.loop-i-init
loop-i-init c = (chosen.counting_start (kept.data_on c.args.side.words.now c.args.side.root) (kept.kids_on c.args.side.words.now c.args.side.root) _, runs.standing_start c.args.side.words.now (sane_formed _ c.args.side.formed) c.args.side.root (omega arith))

pub run_at-run-requires : goal.run_at-run-requires
run_at-run-requires c = (c.requires, c.loop-i-test.true, c.loop-i.invariant.1)

pub kept_node-b-requires : goal.kept_node-b-requires
kept_node-b-requires c = (c.requires, c.loop-i-test.true, c.run_at-run.ensures.0, c.run_at-run.ensures.1)

pub is_kept-requires : goal.is_kept-requires
is_kept-requires c = tt

pub overflow_add-nodes : goal.overflow_add-nodes
overflow_add-nodes c = omega (arith, (chosen.counting_small (kept.data_on c.args.side.words.now c.args.side.root) (kept.kids_on c.args.side.words.now c.args.side.root) _ _ _ _ c.loop-i.invariant.0).0, c.loop-i-test.true, nodes_few c.args.side.words.now (sane_formed _ c.args.side.formed))

pub ones-entries-requires : goal.ones-entries-requires
ones-entries-requires c = tt

pub overflow_add-entries : goal.overflow_add-entries
overflow_add-entries c = omega (arith, (chosen.counting_small (kept.data_on c.args.side.words.now c.args.side.root) (kept.kids_on c.args.side.words.now c.args.side.root) _ _ _ _ c.loop-i.invariant.0).1, c.loop-i-test.true, nodes_few c.args.side.words.now (sane_formed _ c.args.side.formed), c.ones-entries.ensures, ones_le c.kept_node-b.result.«data»)

pub returns : goal.returns
returns c = call.measured c.args.side.words.now c.args.side.root (sane_formed _ c.args.side.formed) _ _ _ (omega (arith, c.loop-i-test.false)) c.loop-i.invariant.0

pub loop-i-preserved : goal.loop-i-preserved
loop-i-preserved c =
    elim c.if-is_kept.branch [
      | then-is_kept w ↦ rw (w.nodes-is, w.entries-is) ((chosen.counting_on (kept.data_on c.args.side.words.now c.args.side.root) (kept.kids_on c.args.side.words.now c.args.side.root) _ _ _ _ c.loop-i-test.true c.loop-i.invariant.0 (call.kept_says c.args.side.words.now c.args.side.root (sane_formed _ c.args.side.formed) _ _ c.kept_node-b.ensures _ c.is_kept.ensures ∙ w.if-is_kept.true) _ (w.ones-entries.ensures ∙ ap (λ (x : Bitmaps). ones x.data) c.kept_node-b.ensures), runs.standing_on c.args.side.words.now (sane_formed _ c.args.side.formed) c.args.side.root _ _ c.run_at-run.ensures.0 c.run_at-run.ensures.1))
      | else-is_kept w ↦ rw (w.nodes-is, w.entries-is) ((chosen.counting_off (kept.data_on c.args.side.words.now c.args.side.root) (kept.kids_on c.args.side.words.now c.args.side.root) _ _ _ _ c.loop-i-test.true c.loop-i.invariant.0 (call.kept_says c.args.side.words.now c.args.side.root (sane_formed _ c.args.side.formed) _ _ c.kept_node-b.ensures _ c.is_kept.ensures ∙ w.if-is_kept.false), runs.standing_on c.args.side.words.now (sane_formed _ c.args.side.formed) c.args.side.root _ _ c.run_at-run.ensures.0 c.run_at-run.ensures.1))
    ]
