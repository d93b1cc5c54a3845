-- The walk's stack: its levels, the highest first. What it still has to give, and what a step at the highest does to it.
use Rattle.std.specs.Prelude.{◌≡◌, refl, List, [], ◌∷◌, ◌++◌, ℕ, ◌+◌, ◌<◌}
use Rattle.std.proofs.Common.{append_assoc, arith}
use Rattle.defs.specs.Lists.{Record}
use Rattle.theory.specs.declared.Level.{Level}
use Rattle.theory.specs.declared.Step.{Step}
use Rattle.theory.specs.declared.Step.TheVariants as step
use Rattle.theory.specs.Steps
use Rattle.theory.specs.Walk.{level_cost, step_cost}

-- the records given so far, after a step
abbrev pub given_after : Step → List Record → List Record
given_after step.Up done = done
given_after (step.Skip f) done = done
given_after (step.Record i f) done = done ++ (Steps.item_record i ∷ [])
given_after (step.Down f g) done = done

-- the stack after a step at a level that stood on the levels ls
abbrev pub stack_after : Step → List Level → List Level
stack_after step.Up ls = ls
stack_after (step.Skip f) ls = f ∷ ls
stack_after (step.Record i f) ls = f ∷ ls
stack_after (step.Down f g) ls = g ∷ f ∷ ls

-- P holds of the levels that a step leaves
abbrev pub Leaves : (Level → Type 0) → Step → Type 0
Leaves P step.Up = Unit {0}
Leaves P (step.Skip f) = P f
Leaves P (step.Record i f) = P f
Leaves P (step.Down f g) = P f × P g

-- what the levels still have to give, the highest first
abbrev pub stack_rest : Steps.Job → List Level → List Record
stack_rest j [] = []
stack_rest j (f ∷ ls) = Steps.level_rest j f ++ stack_rest j ls

-- the steps that they may still take
abbrev pub stack_cost : List Level → ℕ
stack_cost [] = 0
stack_cost (f ∷ ls) = level_cost f + stack_cost ls

-- what is given and what the stack has to give stay the same list
pub after_rest : (j : Steps.Job) (f : Level) (ls : List Level) (done : List Record) (s : Step) → Steps.level_rest j f ≡ Steps.step_rest j s
    → given_after s done ++ stack_rest j (stack_after s ls) ≡ done ++ stack_rest j (f ∷ ls)
after_rest j f ls done step.Up e = rw e refl
after_rest j f ls done (step.Skip g) e = rw e refl
after_rest j f ls done (step.Record i g) e = rw e (append_assoc done (Steps.item_record i ∷ []) (Steps.level_rest j g ++ stack_rest j ls))
after_rest j f ls done (step.Down g h) e = rw (e, append_assoc (Steps.level_rest j h) (Steps.level_rest j g) (stack_rest j ls)) refl

-- there are fewer steps to come
pub after_cost : (f : Level) (ls : List Level) (s : Step) → step_cost s < level_cost f → stack_cost (stack_after s ls) < stack_cost (f ∷ ls)
after_cost f ls step.Up h = omega arith
after_cost f ls (step.Skip g) h = omega arith
after_cost f ls (step.Record i g) h = omega arith
after_cost f ls (step.Down g e) h = omega arith
