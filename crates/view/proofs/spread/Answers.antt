-- `view::spread` meets its contract. What is written and what the bits left would give make up the whole.
use Rattle.std.proofs.Common.{arith}
use Rattle.view.specs.Spreads.{spread_end, bit_inside, turn}
use Rattle.view.proofs.spread.Goals as goal

pub position-requires : goal.position-requires
position-requires c = bit_inside _ _ _ _ _ c.loop-z.invariant c.in-Some.ensures.steps

pub overflow_add-word : goal.overflow_add-word
overflow_add-word c = let t = turn _ _ _ _ _ c.loop-z.invariant c.in-Some.ensures.steps _ c.position.ensures.0 c.position.ensures.1 in omega (arith, t.shift_word, t.room)

pub loop-z-preserved : goal.loop-z-preserved
loop-z-preserved c = let t = turn _ _ _ _ _ c.loop-z.invariant c.in-Some.ensures.steps _ c.position.ensures.0 c.position.ensures.1 in rw t.shift_word t.again

pub returns : goal.returns
returns c = spread_end _ _ _ c.args.b.«data» c.args.b.child c.loop-z.invariant c.in-None.ensures.steps.0 (omega arith)
