-- Where a walk starts: at two nodes of one prefix under which both views lie. What it has to give there is the whole list.
use Rattle.std.specs.Prelude.{◌≡◌, refl, suc, ◌+◌, ◌*◌, ◌-◌, ◌/◌}
use Rattle.std.proofs.Common.{sym, ◌∙◌}
use Rattle.std.proofs.Math.Option.{none}
use Rattle.defs.specs.declared.Prefix.{Prefix}
use Rattle.defs.specs.declared.Operation.{Operation}
use Rattle.defs.specs.declared.Operation.TheVariants.{Union, Intersection, Difference, CoveringDifference, CoveringUnion}
use Rattle.defs.specs.Lists.{records_of}
use Rattle.defs.specs.Outcome.{entries_of}
use Rattle.defs.specs.PrefixLaws.{Whole}
use Rattle.theory.specs.declared.Level.{Level}
use Rattle.theory.specs.Picks.{view_good, list_picks}
use Rattle.theory.specs.Sides.{side_entries}
use Rattle.theory.specs.Steps
use Rattle.theory.specs.Walk.{LevelOk, by_places, enter_rest, enter_ok}
use Rattle.theory.specs.Kinds.{Node}

carried_none : (op : Operation) → Steps.carried op Steps.no_covers ≡ Steps.no_covers
carried_none Union = refl
carried_none Intersection = refl
carried_none Difference = refl
carried_none CoveringDifference = refl
carried_none CoveringUnion = refl

module _ (j : Steps.Job) (p : Prefix) (w : Whole p) (e : p.len + 5 * suc ((60 - p.len) / 5) ≡ 65) (a b : Node) where
  -- the level at which a walk starts
  abbrev pub first : Level
  first = Steps.enter j p a b Steps.no_covers

  pub start_ok : LevelOk j first
  start_ok = enter_ok j p a b Steps.no_covers w e tt tt (carried_none j.op)

  -- it has the whole list to give, where both views lie under the two nodes
  pub start_list : entries_of j.left ≡ side_entries j.left.pool j.left.root (suc ((60 - p.len) / 5)) a p
      → entries_of j.right ≡ side_entries j.right.pool j.right.root (suc ((60 - p.len) / 5)) b p
      → records_of j.op (entries_of j.left) (entries_of j.right) ≡ Steps.level_rest j first
  start_list l r =
      list_picks (entries_of j.left) (entries_of j.right) (view_good j.left.pool j.left.root) (view_good j.right.pool j.right.root) j.op
      ∙ rw (l, r) (by_places j.op j.left j.right ((60 - p.len) / 5) a b p w e none none)
      ∙ sym (enter_rest j p a b Steps.no_covers w e tt tt)
