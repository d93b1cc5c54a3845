-- `tidy::next_run` meets its contract. By the depth of the run, and whether it is empty.
use native.Mathlib.Omega.{arith}
use Rattle.tidy.specs.Runs as runs
use Rattle.tidy.proofs.next_run.Goals as goal
use Rattle.tidy.proofs.next_run.Goals.{then-side-run-via-then-side-run, then-side-run-via-else-side-run+then-run}

pub returns-then-side-run : goal.returns-then-side-run
returns-then-side-run c =
    runs.next_run_is c.args.side.words.now c.args.side.root c.args.run c.requires
    (λ l. elim c.then-side-run.branch [ then-side-run-via-then-side-run w ↦ absurd (omega (arith, w.if-side-run.true)) | then-side-run-via-else-side-run+then-run w ↦ w.if-run.true ])
    _ c.below_run.ensures
