use Rattle.walk.specs.Moves as moves
use Rattle.walk.proofs.Job.step.Goals as goal

pub overflow_sub-f : goal.overflow_sub-f
overflow_sub-f c = moves.bit_there c.requires c.if-top-eq0.false

pub place_at-h-requires : goal.place_at-h-requires
place_at-h-requires c = moves.place_below c.requires c.if-top-eq0.false

pub child_step-requires : goal.child_step-requires
child_step-requires c = (moves.passing c.requires c.if-top-eq0.false _, c.if-h-lt32.false, moves.number_below c.requires c.if-top-eq0.false c.place_at-h.ensures)

pub returns-then-h-lt32 : goal.returns-then-h-lt32
returns-then-h-lt32 c = moves.step_data c.requires c.if-top-eq0.false c.place_at-h.ensures c.if-h-lt32.true c.data_step.ensures

pub returns-else-h-lt32 : goal.returns-else-h-lt32
returns-else-h-lt32 c = moves.step_child c.requires c.if-top-eq0.false c.place_at-h.ensures c.if-h-lt32.false c.child_step.ensures
