-- `tidy::run_at` meets its contract. The next run, or the same one.
use Rattle.view.specs.Standing.{sane_formed}
use Rattle.tidy.specs.Runs as runs
use Rattle.tidy.proofs.run_at.Goals as goal

pub next_run-requires : goal.next_run-requires
next_run-requires c = runs.run_passed c.args.side.words.now c.args.side.root c.args.run c.args.i (sane_formed _ c.args.side.formed) c.requires.0 c.requires.1 c.requires.2 c.if-i-run.true

pub returns-then-i-run : goal.returns-then-i-run
returns-then-i-run c = runs.run_moved c.args.side.words.now c.args.side.root c.args.run c.args.i (sane_formed _ c.args.side.formed) c.requires.0 c.requires.1 c.requires.2 c.if-i-run.true _ c.next_run.ensures

pub returns : goal.returns
returns c = runs.run_kept c.args.side.words.now c.args.side.root c.args.run c.args.i (sane_formed _ c.args.side.formed) c.requires.0 c.requires.1 c.requires.2 c.if-i-run.false
