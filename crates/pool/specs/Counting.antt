-- The check's counts, which stand for the queue of depths of the definition: document 01 has nodes level by level.
use Rattle.std.specs.Prelude.{Result, Ok, Err, List, ◌++◌, ℕ, ◌+◌, ◌-◌, ◌*◌, ◌≤◌, ltb, eqb, replicate}
use Rattle.defs.specs.declared.Answer.{Answer}
use Rattle.defs.specs.declared.refusals.Fault.{Fault as FaultKind}
use Rattle.defs.specs.Basics.{if◌then◌otherwise◌}
use Rattle.defs.specs.Pool.{data_of, child_of, ones}
use Rattle.defs.specs.Check.{Fault, fault_at}
use Rattle.defs.specs.Outcome.{answer}
use Rattle.defs.specs.Refusals.{fault_number}
use Rattle.pool.specs.declared.Count.{Count}

-- the depths that are due
abbrev pub queue : Count → List ℕ
queue c = replicate c.here c.depth ++ replicate c.next (c.depth + 5)

-- the counts at the level of the next node
abbrev pub level_of : Count → Count
level_of c =
    if ltb 0 c.here then c
    otherwise record { depth = c.depth + 5; here = c.next; next = 0; children = c.children; values = c.values }

-- the counts after node i
abbrev pub after_of : List ℕ → ℕ → Count → Count
after_of w i c = record {
  depth = c.depth;
  here = c.here - 1;
  next = c.next + ones (child_of w i);
  children = c.children + ones (child_of w i);
  values = c.values + ones (data_of w i);
}

-- the number of a fault that is found, or 0
abbrev pub number_found : Result Unit FaultKind → ℕ
number_found (Ok none) = 0
number_found (Err fault) = fault_number fault

-- the number of the first fault of node i, or 0, from the counts at its level
abbrev pub found_at : ℕ → List ℕ → ℕ → Count → ℕ
found_at width w i c = if eqb c.here 0 then 3 otherwise fault_at width w i c.depth c.children c.values

-- the check's answer once the width is right: the first fault, or the number of nodes
abbrev pub fault_answer : ℕ → Fault → Answer
fault_answer nodes f = if ltb 0 f.number then answer 2 f.node f.number otherwise answer 0 nodes 0

-- the counts are no larger than i nodes allow, and the depth no larger than that of j levels
pub record Bounded (j i : ℕ) (c : Count) : Type 0 where
  pub deep : c.depth ≤ 5 * j
  pub due : c.here + c.next ≤ 1 + 32 * i
  pub kids : c.children ≤ 32 * i
  pub held : c.values ≤ 32 * i
