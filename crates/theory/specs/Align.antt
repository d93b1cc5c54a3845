-- Aligning the right view with the left root: on the way down to it nothing is listed, and where the right side covers the way nothing is
-- listed at all.
use Rattle.std.specs.Prelude.{◌≡◌, true, [], ℕ, suc, ◌+◌, ◌*◌, ◌-◌, ◌/◌, ◌≤◌, ◌<◌, None}
use Rattle.std.proofs.Common.{◌∙◌, arith}
use Rattle.std.proofs.Math.Bool.{and-false}
use Rattle.defs.specs.declared.Prefix.{Prefix}
use Rattle.defs.specs.declared.Operation.TheVariants.{CoveringDifference}
use Rattle.defs.specs.Prefix.{leads, deeper}
use Rattle.defs.specs.Entries.{data_place, child_place}
use Rattle.defs.specs.PrefixLaws.{Whole}
use Rattle.defs.proofs.DeeperLaws.{whole_deeper}
use Rattle.theory.specs.declared.Level.{Level}
use Rattle.theory.specs.Sides.{child_in, side_data, side_child}
use Rattle.theory.specs.Down.{only_child, short, no_data, no_child}
use Rattle.theory.specs.Steps
use Rattle.theory.specs.StepLaws.{Free}
use Rattle.theory.specs.Unwanted.{left_list, left_empty, unwanted}
use Rattle.theory.specs.Walk.{enter_rest, child_rest}
use Rattle.theory.specs.Start.{first, start_ok}
use Rattle.theory.specs.Kinds.{Node}

module _ (j : Steps.Job) (is-left : left_list j.op ≡ true) (p : Prefix) (w : Whole p) (e : p.len + 5 * suc ((60 - p.len) / 5) ≡ 65) (a b : Node)
    (c : ℕ) (child : c < 32) (fits : j.left.root.len ≤ 64) (h : leads (deeper p 5 c) j.left.root ≡ true) where
  abbrev q : Prefix
  q = deeper p 5 c

  abbrev lv : ℕ
  lv = (60 - p.len) / 5

  abbrev f : Level
  f = first j p w e a b

  deep : p.len < 60
  deep = omega (arith, short j.left.pool j.left.root lv a p w e fits c h)

  no_left_data : (n v : ℕ) → n ≤ 4 → Steps.place_list j f (data_place n v) ≡ []
  no_left_data n v l =
      left_empty j lv p w e a b Steps.no_covers tt tt (data_place n v) is-left
      (side_data j.left.pool j.left.root lv a p n v ∙ rw (no_data j.left.pool j.left.root lv a p w e fits c h n v l))

  no_left_child : (d : ℕ) → (c ≡ d → ⊥) → Steps.place_list j f (child_place d) ≡ []
  no_left_child d n =
      left_empty j lv p w e a b Steps.no_covers tt tt (child_place d) is-left
      (side_child j.left.pool j.left.root lv a p d (whole_deeper p w 5 (let k = deep in omega arith) d) e ∙ no_child j.left.pool j.left.root lv a p w e fits c h d n)

  -- on the way to the left root only one child has something to give
  one_child : Steps.level_rest j f ≡ Steps.place_list j f (child_place c)
  one_child = enter_rest j p a b Steps.no_covers w e tt tt ∙ only_child (Steps.place_list j f) no_left_data c no_left_child child

  -- where the right side covers that child there is nothing to list
  pub align_covered : j.op ≡ CoveringDifference → Steps.is_cover (Steps.cover_bits j.right b p None 5 c) ≡ true → Steps.level_rest j f ≡ []
  align_covered o k = one_child ∙ unwanted j lv p w e a b Steps.no_covers tt tt (child_place c) child (rw (o, k) (and-false (Steps.marked j.left.pool a (child_place c))))

  -- and otherwise all lies below it
  pub align_down_lem : Free j.op (Steps.is_cover (Steps.cover_bits j.right b p None 5 c))
      → Steps.level_rest j f
      ≡ Steps.level_rest j (Steps.enter j q (child_in j.left.pool j.left.root a c q) (child_in j.right.pool j.right.root b c q) (Steps.carried j.op (Steps.covers_at j f 5 c)))
  align_down_lem k = one_child ∙ child_rest j f (start_ok j p w e a b) c deep k
