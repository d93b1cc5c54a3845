-- The places that a list visits in two nodes, as bitmaps: they are what the walk's definition wants.
use Rattle.std.specs.Prelude.{◌≡◌, not, ◌&&◌, ℕ}
use Rattle.std.proofs.Common.{◌∙◌, ap}
use Rattle.defs.specs.declared.Prefix.{Prefix}
use Rattle.defs.specs.declared.Operation.{Operation}
use Rattle.defs.specs.declared.Operation.TheVariants.{Union, Intersection, Difference, CoveringDifference, CoveringUnion}
use Rattle.defs.specs.Entries.{Place, places}
use Rattle.defs.specs.Tidy.{word_of}
use Rattle.theory.specs.declared.Covers.{Covers}
use Rattle.theory.specs.declared.Level.{Level}
use Rattle.theory.specs.Steps.{Job, enter, marked, wants, wanted, is_cover, cover_on, carried}
use Rattle.theory.specs.Unwanted.{InNode, places_in_node}
use Rattle.view.specs.declared.Bitmaps.{Bitmaps}
use Rattle.view.specs.Standing.{bitmaps_of, bitmaps_marked}
use Rattle.view.specs.Covered.{coverage_of}
use Rattle.view.specs.Kept.{kept_of, coverage_covers}
use Rattle.rules.specs.Wanted.{either_of, both_of, less_of, place_in, either_bit, both_bit, less_bit, word_on}
use Rattle.theory.specs.Kinds.{Node}

-- the bitmaps of the places that a list visits
abbrev pub maps_for : Operation → Job → Prefix → Bitmaps → Bitmaps → Node → Bitmaps
maps_for Union j p a b r = either_of a b
maps_for Intersection j p a b r = both_of a b
maps_for Difference j p a b r = a
maps_for CoveringDifference j p a b r = less_of a (coverage_of (kept_of j.right.pool j.right.root r p))
maps_for CoveringUnion j p a b r = either_of a b

abbrev pub maps_of : Job → Prefix → Node → Node → Bitmaps
maps_of j p l r = maps_for j.op j p (bitmaps_of j.left.pool l) (bitmaps_of j.right.pool r) r

module _ (j : Job) (p : Prefix) (l r : Node) where
  abbrev a : Bitmaps
  a = bitmaps_of j.left.pool l

  abbrev b : Bitmaps
  b = bitmaps_of j.right.pool r

  -- a place's bit is set exactly where the list wants it
  maps_bit : (op : Operation) (above : Covers) → carried op above ≡ above → (x : Place) → InNode x
      → place_in (maps_for op j p a b r) x ≡ wants op (marked j.left.pool l x) (marked j.right.pool r x) (is_cover (cover_on j.right r p above.right x))
  maps_bit Union above c x i = either_bit a b x ∙ rw (bitmaps_marked j.left.pool l x, bitmaps_marked j.right.pool r x)
  maps_bit CoveringUnion above c x i = either_bit a b x ∙ rw (bitmaps_marked j.left.pool l x, bitmaps_marked j.right.pool r x)
  maps_bit Intersection above c x i = both_bit a b x ∙ rw (bitmaps_marked j.left.pool l x, bitmaps_marked j.right.pool r x)
  maps_bit Difference above c x i = bitmaps_marked j.left.pool l x
  maps_bit CoveringDifference above c x i =
      let k = kept_of j.right.pool j.right.root r p in
      less_bit a (coverage_of k) x
      ∙ rw (bitmaps_marked j.left.pool l x, coverage_covers j.right r p x i)
      (ap (λ (n : Covers). marked j.left.pool l x && not (is_cover (cover_on j.right r p n.right x))) c)

  -- the level of two nodes, from the map of their places
  pub entered_is : {above : Covers} → carried j.op above ≡ above → {m : Bitmaps} → m ≡ maps_of j p l r → {t : ℕ} → t ≡ word_of (place_in m) places
      → ◌≡◌ {A = Level} (record { prefix = p; left = l; right = r; above = above; todo = t }) (enter j p l r above)
  entered_is {above} c {m} e {t} h =
      let k : t ≡ word_of (wanted j p l r above) places = h ∙ ap (λ (n : Bitmaps). word_of (place_in n) places) e ∙ word_on _ _ (maps_bit j.op above c) places_in_node in
      ap (λ (n : ℕ). record { prefix = p; left = l; right = r; above = above; todo = n }) k
