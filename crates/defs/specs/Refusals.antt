-- Why words are no pool and why a call is refused, as answers: a number, what stands beside it, and a second number.
use Rattle.std.specs.Prelude.{Bool, ℕ, Result, Ok, Err}
use Rattle.defs.specs.declared.Answer.{Answer}
use Rattle.defs.specs.declared.refusals.Fault.{Fault}
use Rattle.defs.specs.declared.refusals.Fault.TheVariants.{NoWholeNodes, TooManyNodes, NoParent, DataBits, ChildBits, FirstChild, ChildrenPastEnd, FirstValue}
use Rattle.defs.specs.declared.refusals.PoolError.{PoolError}
use Rattle.defs.specs.declared.refusals.PoolError.TheVariants as NoPool
use Rattle.defs.specs.declared.refusals.Refusal.{Refusal}
use Rattle.defs.specs.declared.refusals.Refusal.TheVariants.{Width, LeftPool, RightPool, LeftRoot, RightRoot, Room, ValueRoom, Line}
use Rattle.defs.specs.Basics.{if◌then◌otherwise◌}
use Rattle.defs.specs.Outcome.{answer}

-- the number of a fault
abbrev pub fault_number : Fault → ℕ
fault_number NoWholeNodes = 1
fault_number TooManyNodes = 2
fault_number NoParent = 3
fault_number DataBits = 4
fault_number ChildBits = 5
fault_number FirstChild = 6
fault_number ChildrenPastEnd = 7
fault_number FirstValue = 8

-- the answer of the check alone: 0 with the number of nodes, or why the words are no pool
abbrev pub checked : Result ℕ PoolError → Answer
checked (Ok nodes) = answer 0 nodes 0
checked (Err NoPool.Width) = answer 1 0 0
checked (Err (NoPool.Fault fault node)) = answer 2 node (fault_number fault)

-- the refusal of a call whose left pool, or only one, is none
abbrev pub on_left : PoolError → Refusal
on_left NoPool.Width = Width
on_left (NoPool.Fault fault node) = LeftPool node

-- the refusal of a call whose right pool is none
abbrev pub on_right : PoolError → Refusal
on_right NoPool.Width = Width
on_right (NoPool.Fault fault node) = RightPool node

-- the answer of a call that is refused: the number in the table, and what stands beside it
abbrev pub answer_for : Refusal → Answer
answer_for Width = answer 1 0 0
answer_for (LeftPool node) = answer 2 node 0
answer_for (RightPool node) = answer 3 node 0
answer_for LeftRoot = answer 4 0 0
answer_for RightRoot = answer 5 0 0
answer_for (Room needed) = answer 6 needed 0
answer_for (ValueRoom needed) = answer 7 needed 0
answer_for (Line line) = answer 9 line 0

-- the answer of a call: 0 with the number of what was done, or the refusal's
abbrev pub answer_of : Result ℕ Refusal → Answer
answer_of (Ok done) = answer 0 done 0
answer_of (Err refusal) = answer_for refusal

-- the answer of a call that asks whether something is so: 1 for yes and 0 for no, or the refusal's
abbrev pub answer_whether : Result Bool Refusal → Answer
answer_whether (Ok so) = answer 0 (if so then 1 otherwise 0) 0
answer_whether (Err refusal) = answer_for refusal
