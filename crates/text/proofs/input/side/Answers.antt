use Rattle.std.proofs.Common.{◌≡◌, suc, ◌+◌, ◌-◌, sym, ◌∙◌, ap, refl, arith}
use Rattle.text.specs.Input.{node_line}
use Rattle.text.proofs.InputLaws.{fill_on, fill_bad, fill_no_room}
use Rattle.text.proofs.input.side.Goals as goal
use Rattle.text.proofs.input.side.Goals.{else-loop-test, then-loop-test+in_default}

pub loop-preserved : goal.loop-preserved
loop-preserved c =
    fill_on _ _ _ _ _ _ _ _ _ c.loop.invariant _ (let m : suc (c.most_nodes-end.result - (c.loop.counter + 1)) ≡ c.most_nodes-end.result - c.loop.counter = omega arith in m)
    c.in-Some.node _ (sym c.in-Some.is ∙ c.node_line.ensures ∙ ap (node_line _) c.split_line.ensures.first) c.split_line.ensures.others _ (omega arith) _ c.copy_from_slice.ensures.after

pub returns : goal.returns
returns c =
    let i = c.loop.invariant in
    elim c.loop-test.branch [
      | else-loop-test w ↦ fill_no_room _ _ _ _ _ _ _ _ _ i _ refl refl (omega arith)
      | then-loop-test+in_default w ↦
          fill_bad _ _ _ _ _ _ _ _ _ i (c.most_nodes-end.result - (c.loop.counter + 1)) (omega arith) _ refl refl
          (sym w.in_default.is ∙ w.node_line.ensures ∙ ap (node_line _) w.split_line.ensures.first)
    ]
