-- Where the walk of a covering difference starts: at the left root's node, with what aligning the right view found.
use Rattle.std.specs.Prelude.{◌≡◌, refl, ℕ, ◌+◌, ◌*◌, ◌/◌, ◌^◌, ◌≤◌, ◌<◌, None, Some}
use Rattle.std.proofs.Common.{sym, ◌∙◌, ap, subst, arith}
use Rattle.defs.specs.declared.Prefix.{Prefix}
use Rattle.defs.specs.declared.Operation.TheVariants.{CoveringDifference}
use Rattle.defs.specs.Basics.{each}
use Rattle.defs.specs.Entries.{places}
use Rattle.defs.specs.Lists.{records_of}
use Rattle.defs.specs.Lemmas.{nil}
use Rattle.defs.specs.Outcome.{Side, entries_of}
use Rattle.theory.specs.declared.Covers.{Covers}
use Rattle.theory.specs.declared.Level.{Level}
use Rattle.theory.specs.Sides.{side_entries}
use Rattle.theory.specs.Steps.{Job, enter, no_covers, level_rest, place_list}
use Rattle.theory.specs.Todo.{picked_none}
use Rattle.theory.specs.Start.{start_ok, start_list}
use Rattle.view.specs.Standing.{Sane, NodeIn}
use Rattle.view.specs.Descent.{cut_to, node_down, whole_cut, cut_top, view_down, node_down_in}
use Rattle.walk.specs.Ready.{Entering, Ready}
use Rattle.sets.specs.Aligned.{Aligned, align_down, aligned_rest, aligns, align_inside, depth_at}
use Rattle.theory.specs.Kinds.{Node}

-- a level that has nothing to give
abbrev pub empty_level : Prefix → Level
empty_level p = record { prefix = p; left = None; right = None; above = no_covers; todo = 0 }

module _ (L R : Side) (fl : L.root.key < 2 ^ 64) (fr : R.root.key < 2 ^ 64)
    (ll : L.root.len ≤ 64) (lr : R.root.len ≤ 64) (sl : Sane L.pool) (sr : Sane R.pool) where
  abbrev j : Job
  j = record { op = CoveringDifference; left = L; right = R }

  abbrev K : ℕ
  K = L.root.len / 5

  abbrev p : Prefix
  p = cut_to L.root (5 * K)

  small : K ≤ 12
  small = omega arith

  -- the whole list lies below the two root nodes
  from_top : records_of CoveringDifference (entries_of L) (entries_of R) ≡ level_rest j (enter j (cut_to L.root (5 * 0)) (node_down L.pool L.root 0) (Some 0) no_covers)
  from_top =
      start_list j (cut_to L.root 0) (whole_cut L.root 0) (depth_at 0 (omega arith)) (Some 0) (Some 0)
      (view_down L.pool L.root fl ll 0 13 refl (omega arith))
      (view_down R.pool R.root fr lr 0 13 refl (omega arith) ∙ ap (side_entries R.pool R.root 13 (Some 0)) (cut_top R.root fr ∙ sym (cut_top L.root fl)))

  list_aligned : records_of CoveringDifference (entries_of L) (entries_of R) ≡ aligned_rest L R ll K (align_down R L.root K 0 (Some 0))
  list_aligned =
      let e : K + 0 ≡ K = omega arith in
      from_top ∙ aligns L R ll K 0 (omega arith) (omega arith) (Some 0) ∙ ap (λ (n : ℕ). aligned_rest L R ll n (align_down R L.root K 0 (Some 0))) e

  entering_at : (b : Node) → NodeIn R.pool b → Entering j p (node_down L.pool L.root K) b
  entering_at b h =
      record {
        sane_left = sl;
        sane_right = sr;
        in_left = node_down_in L.pool L.root sl K;
        in_right = h;
        whole = whole_cut L.root (5 * K);
        short = let s = small in omega arith;
        fives = omega arith;
      }

  -- as code works it out: the depth of the left root's node
  depth_is : L.root.len / 5 * 5 ≡ 5 * K
  depth_is = omega arith

  down_is : L.root.len / 5 * 5 / 5 ≡ K
  down_is = omega arith

  pub depth_short : L.root.len / 5 * 5 ≤ 60
  depth_short = let s = small in omega arith

  module _ (q : Prefix) (eq : q ≡ cut_to L.root (L.root.len / 5 * 5)) (a : Aligned)
      (ea : a ≡ align_down R L.root (L.root.len / 5 * 5 / 5) 0 (Some 0)) where
    prefix_is : q ≡ p
    prefix_is = eq ∙ ap (cut_to L.root) depth_is

    found : records_of CoveringDifference (entries_of L) (entries_of R) ≡ aligned_rest L R ll K a
    found = list_aligned ∙ ap (aligned_rest L R ll K) (sym (ea ∙ ap (λ (n : ℕ). align_down R L.root n 0 (Some 0)) down_is))

    -- covered: nothing is listed
    module _ (h : a ≡ None) (f : Level) (ef : f ≡ empty_level q) where
      covered_at : Ready j (empty_level p)
      covered_at =
          record {
            at = record { sane_left = sl; sane_right = sr; in_left = tt; in_right = tt; whole = whole_cut L.root (5 * K); short = (let s = small in omega arith); fives = omega arith };
            ok = record { whole = whole_cut L.root (5 * K); depth = depth_at K small; short_left = tt; short_right = tt; carries = refl; small = omega arith; wants_all = rw (picked_none places) nil };
          }

      pub covered_ready : Ready j f
      covered_ready = subst (Ready j) (sym (ef ∙ ap empty_level prefix_is)) covered_at

      pub covered_list : records_of CoveringDifference (entries_of L) (entries_of R) ≡ level_rest j f
      covered_list = found ∙ ap (aligned_rest L R ll K) h ∙ sym (ap (level_rest j) ef ∙ ap (each (place_list j (empty_level q))) (picked_none places))

    -- a child missing, or the node reached: the walk starts there
    module _ (b : Node) (inside : NodeIn R.pool b) (left : Node) (el : left ≡ node_down L.pool L.root (L.root.len / 5 * 5 / 5)) where
      left_is : left ≡ node_down L.pool L.root K
      left_is = el ∙ ap (node_down L.pool L.root) down_is

      pub start_entering : Entering j q left b
      start_entering = subst (λ (x : Prefix). Entering j x left b) (sym prefix_is) (subst (λ (x : Node). Entering j p x b) (sym left_is) (entering_at b inside))

      module _ (c : Covers) (ec : c ≡ no_covers) (f : Level) (ef : f ≡ enter j q left b c) where
        first_is : f ≡ enter j p (node_down L.pool L.root K) b no_covers
        first_is = ef ∙ ap (λ (x : Prefix). enter j x left b c) prefix_is ∙ ap (λ (x : Node). enter j p x b c) left_is ∙ ap (enter j p (node_down L.pool L.root K) b) ec

        pub start_ready : Ready j f
        start_ready = subst (Ready j) (sym first_is) (record { at = entering_at b inside; ok = start_ok j p (whole_cut L.root (5 * K)) (depth_at K small) (node_down L.pool L.root K) b })

        pub there_list : a ≡ Some b → records_of CoveringDifference (entries_of L) (entries_of R) ≡ level_rest j f
        there_list h = found ∙ ap (aligned_rest L R ll K) h ∙ there b ∙ ap (level_rest j) (sym first_is)
          where
            there : (b : Node) → aligned_rest L R ll K (Some b) ≡ level_rest j (enter j p (node_down L.pool L.root K) b no_covers)
            there None = refl
            there (Some i) = refl

    -- the node reached, where there is one, is a node of the pool
    pub reached : (b : Node) → a ≡ Some b → NodeIn R.pool b
    reached None h = tt
    reached (Some i) h = align_inside R sr L.root (L.root.len / 5 * 5 / 5) 0 0 sr.formed.some i (sym h ∙ ea)
