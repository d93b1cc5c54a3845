use Rattle.std.proofs.Common.{rules}
use Rattle.std.proofs.lemmas.Result.{err_from_is_err_and, MatchResult-at_ok, MatchResult-at_err}
use Rattle.pool.specs.CheckLaws.{kept_step}
use Rattle.pool.proofs.check_nodes.Goals as goal

pub returns-in_err-map_err : goal.returns-in_err-map_err
returns-in_err-map_err c =
    let step = kept_step _ _ _ _ c.loop-node-test.true c.loop-node.invariant _ _ _ _ c.at_level-due.ensures c.check_node.ensures c.map_err.ensures.cases (λ f e q. search rules) in
    let p = err_from_is_err_and c.from_residual.result c.from_residual.ensures.1 in
    rw (p.1, p.2) (MatchResult-at_err _ _ _ c.in_err-map_err.was step)

pub loop-node-preserved : goal.loop-node-preserved
loop-node-preserved c =
    let step = kept_step _ _ _ _ c.loop-node-test.true c.loop-node.invariant _ _ _ _ c.at_level-due.ensures c.check_node.ensures c.map_err.ensures.cases (λ f e q. search rules) in
    rw c.after-count.ensures (MatchResult-at_ok _ _ _ c.in_ok-map_err.was step)
