use native.Mathlib.Omega.{arith}
use lib.ListN.{length-take, length-drop}
use Rattle.std.proofs.Common.{refl}
use Rattle.walk.specs.Loops as loops
use Rattle.walk.proofs.Job.run.Goals as goal

pub loop-height-init : goal.loop-height-init
loop-height-init c = record { size = refl; low = omega arith; runs = loops.run_start c.requires.ready c.args.writes c.args.out.now }

pub step-requires : goal.step-requires
step-requires c = loops.highest_ready c.loop-height.invariant c.loop-height-test.true _

pub loop-height-smaller-in-Up : goal.loop-height-smaller-in-Up
loop-height-smaller-in-Up c = loops.up_fewer c.loop-height.invariant c.loop-height-test.true _ c.step.ensures c.in-Up.is

pub loop-height-preserved-in-Up : goal.loop-height-preserved-in-Up
loop-height-preserved-in-Up c = loops.up_stays c.loop-height.invariant c.loop-height-test.true _ c.step.ensures c.in-Up.is

pub loop-height-smaller-in-Skip : goal.loop-height-smaller-in-Skip
loop-height-smaller-in-Skip c = loops.skip_fewer c.loop-height.invariant c.loop-height-test.true _ c.step.ensures c.in-Skip.is

pub loop-height-preserved-in-Skip : goal.loop-height-preserved-in-Skip
loop-height-preserved-in-Skip c = loops.skip_stays c.loop-height.invariant c.loop-height-test.true _ c.step.ensures c.in-Skip.is

pub put_if-at-requires : goal.put_if-at-requires
put_if-at-requires c = rw (length-take, length-drop) (let r = loops.record_space c.loop-height.invariant c.loop-height-test.true _ c.step.ensures c.in-Record.is c.requires.room in omega arith)

pub overflow_add-count : goal.overflow_add-count
overflow_add-count c = let r = loops.record_more c.loop-height.invariant c.loop-height-test.true _ c.step.ensures c.in-Record.is in omega (arith, c.loop-height.invariant.runs.placed.counted, c.requires.count_fits)

pub loop-height-smaller-in-Record : goal.loop-height-smaller-in-Record
loop-height-smaller-in-Record c = loops.record_fewer c.loop-height.invariant c.loop-height-test.true _ c.step.ensures c.in-Record.is

pub loop-height-preserved-in-Record : goal.loop-height-preserved-in-Record
loop-height-preserved-in-Record c = loops.record_stays c.loop-height.invariant c.loop-height-test.true _ c.step.ensures c.in-Record.is c.requires.room c.put_if-at.ensures.1 c.put_if-at.ensures.0

pub bounds-stack-height : goal.bounds-stack-height
bounds-stack-height c = loops.down_room c.loop-height.invariant c.loop-height-test.true _ c.step.ensures c.in-Down.is

pub loop-height-smaller : goal.loop-height-smaller
loop-height-smaller c = loops.down_fewer c.loop-height.invariant c.loop-height-test.true _ c.step.ensures c.in-Down.is

pub loop-height-preserved : goal.loop-height-preserved
loop-height-preserved c = loops.down_stays c.loop-height.invariant c.loop-height-test.true _ c.step.ensures c.in-Down.is

pub returns : goal.returns
returns c = loops.ended c.loop-height.invariant (omega arith)
