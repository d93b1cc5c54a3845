-- What a step means: what a level has to give is what the step gives and what is left after it.
use Rattle.std.specs.Prelude.{◌≡◌, refl, Bool, true, false, not, List, [], ◌∷◌, ℕ, zero, suc, ◌+◌, ◌/◌, ◌≤◌, ◌<◌, None, Some}
use Rattle.std.proofs.Common.{◌∙◌, ap, subst, arith, eq-eqb}
use Rattle.std.proofs.Math.Option.{Option, none, some}
use Rattle.std.proofs.lemmas.Bool.{not-true}
use Rattle.defs.specs.declared.Prefix.{Prefix}
use Rattle.defs.specs.declared.Operation.{Operation}
use Rattle.defs.specs.declared.Operation.TheVariants.{Union, Intersection, Difference, CoveringDifference, CoveringUnion}
use Rattle.defs.specs.Prefix.{deeper}
use Rattle.defs.specs.Entries.{Entry, Place}
use Rattle.defs.specs.Lists.{Record, put, longest, value_of, cover_of, no_cover}
use Rattle.defs.specs.Lemmas.{not_both, and_right}
use Rattle.defs.specs.Outcome.{Side}
use Rattle.defs.proofs.PrefixLaws.{leads_self, before_irrefl}
use Rattle.theory.specs.declared.Item.TheVariants.{Left, Right}
use Rattle.theory.specs.Covering.{own, covering}
use Rattle.theory.specs.Picks.{picks}
use Rattle.theory.specs.Nodes.{above_bits}
use Rattle.theory.specs.Sides.{side_held, value_in, entry_at, side_data}
use Rattle.theory.specs.Contexts.{cover_for, entry_for, cover_entry, Shorter}
use Rattle.theory.specs.Steps
use Rattle.theory.specs.Kinds.{Cover, Emit, Node, Value}

-- ---- covers: what code works out is what stands above

-- a cover is shorter than n
abbrev pub ShortCover : Cover → ℕ → Type 0
ShortCover None n = Unit {0}
ShortCover (Some a) n = a.len < n

pub shorter_of : (o : Option Entry) (n : ℕ) → ShortCover (cover_for o) n → Shorter o n
shorter_of none n h = h
shorter_of (some e) n h = h

short_more : (c : Cover) (m n : ℕ) → m ≤ n → ShortCover c m → ShortCover c n
short_more None m n l h = h
short_more (Some a) m n l h = omega arith

short_nearer : (x : Value) (m : ℕ) (c : Cover) → ShortCover c m → ShortCover (Steps.nearer x m c) (suc m)
short_nearer None m c h = short_more c m (suc m) (omega arith) h
short_nearer (Some v) m c h = omega arith

pub longest_entry : (c : Option Entry) (q : Prefix) (x : Value) → cover_for (longest c (entry_at q x) q) ≡ Steps.nearer x q.len (cover_for c)
longest_entry c q None = refl
longest_entry c q (Some v) = rw (leads_self q, longest)

module _ (s : Side) (lv : ℕ) (o : Node) (p : Prefix) (c : Cover) where
  abbrev held : Place → List Entry
  held = side_held s.pool s.root lv o p

  pub cover_above : (n v : ℕ) → cover_for (above_bits p held (entry_for c) n v) ≡ Steps.cover_bits s o p c n v
  cover_above zero v = cover_entry c
  cover_above (suc n) v =
      rw (side_data s.pool s.root lv o p n (v / 2))
      (longest_entry (above_bits p held (entry_for c) n (v / 2)) (deeper p n (v / 2)) (value_in s.pool s.root o n (v / 2) (deeper p n (v / 2)))
      ∙ ap (Steps.nearer (value_in s.pool s.root o n (v / 2) (deeper p n (v / 2))) (p.len + n)) (cover_above n (v / 2)))

  pub short_bits : ShortCover c p.len → (n v : ℕ) → ShortCover (Steps.cover_bits s o p c n v) (p.len + n)
  short_bits h zero v = short_more c p.len (p.len + 0) (omega arith) h
  short_bits h (suc n) v =
      let e : suc (p.len + n) ≡ p.len + suc n = omega arith in
      subst (ShortCover (Steps.cover_bits s o p c (suc n) v)) e
      (short_nearer (value_in s.pool s.root o n (v / 2) (deeper p n (v / 2))) (p.len + n) (Steps.cover_bits s o p c n (v / 2)) (short_bits h n (v / 2)))

  pub shorter_above : ShortCover c p.len → (n v : ℕ) → Shorter (above_bits p held (entry_for c) n v) (p.len + n)
  shorter_above h n v = shorter_of (above_bits p held (entry_for c) n v) (p.len + n) (rw (cover_above n v) (short_bits h n v))

-- ---- a data place

-- what a data place gives, as records
abbrev pub emitted : Emit → List Record
emitted None = []
emitted (Some i) = Steps.item_record i ∷ []

-- a place that a covering difference visits is not covered
abbrev pub Free : Operation → Bool → Type 0
Free CoveringDifference c = c ≡ false
Free Union c = Unit {0}
Free Intersection c = Unit {0}
Free Difference c = Unit {0}
Free CoveringUnion c = Unit {0}

pub free_of : (op : Operation) (l r c : Bool) → Steps.wants op l r c ≡ true → Free op c
free_of CoveringDifference l r c h = not-true c (and_right l (not c) h)
free_of Union l r c h = tt
free_of Intersection l r c h = tt
free_of Difference l r c h = tt
free_of CoveringUnion l r c h = tt

module _ (q : Prefix) (cl cr : Option Entry) (ol : own q cl ≡ false) (or : own q cr ≡ false) where
  own_here : (a : ℕ) → own q (some (record { at = q; value = a })) ≡ true
  own_here a = eq-eqb q.len q.len refl

  put_again : put q (q ∷ []) ≡ q ∷ []
  put_again = rw (before_irrefl q, put)

  at_left : (a : ℕ) → covering cl cr (entry_at q (Some a)) [] ≡ record { key = q.key; len = q.len; tag = 1; left = a; right = value_of cr; cover = cover_of cr } ∷ []
  at_left a = rw (leads_self q, longest, own_here a, or)

  at_right : (b : ℕ) → covering cl cr [] (entry_at q (Some b)) ≡ record { key = q.key; len = q.len; tag = 2; left = value_of cl; right = b; cover = cover_of cl } ∷ []
  at_right b = rw (leads_self q, longest, own_here b, ol)

  at_both : (a b : ℕ) → covering cl cr (entry_at q (Some a)) (entry_at q (Some b)) ≡ record { key = q.key; len = q.len; tag = 3; left = a; right = b; cover = no_cover } ∷ []
  at_both a b = rw put_again (rw (leads_self q, longest, own_here a))

  left_cover : (a : ℕ) (c : Option Entry) → record { key = q.key; len = q.len; tag = 1; left = a; right = value_of c; cover = cover_of c } ≡ Steps.item_record (Left q a (cover_for c))
  left_cover a none = refl
  left_cover a (some e) = refl

  right_cover : (b : ℕ) (c : Option Entry) → record { key = q.key; len = q.len; tag = 2; left = value_of c; right = b; cover = cover_of c } ≡ Steps.item_record (Right q b (cover_for c))
  right_cover b none = refl
  right_cover b (some e) = refl

  uncovered : (c : Option Entry) → Steps.is_cover (cover_for c) ≡ false → cover_of c ≡ no_cover
  uncovered none h = refl
  uncovered (some e) h = not_both refl h

  -- a data place gives its item, or nothing
  pub emits : (op : Operation) (x y : Value) → Free op (Steps.is_cover (Steps.nearer y q.len (cover_for cr)))
      → picks op (covering cl cr (entry_at q x) (entry_at q y)) ≡ emitted (Steps.emit_of op q x y (cover_for cl) (cover_for cr))
  emits Union None None h = refl
  emits Union (Some a) None h = ap (picks Union) (at_left a)
  emits Union None (Some b) h = ap (picks Union) (at_right b)
  emits Union (Some a) (Some b) h = ap (picks Union) (at_both a b)
  emits Intersection None None h = refl
  emits Intersection (Some a) None h = ap (picks Intersection) (at_left a)
  emits Intersection None (Some b) h = ap (picks Intersection) (at_right b)
  emits Intersection (Some a) (Some b) h = ap (picks Intersection) (at_both a b)
  emits Difference None None h = refl
  emits Difference (Some a) None h = ap (picks Difference) (at_left a)
  emits Difference None (Some b) h = ap (picks Difference) (at_right b)
  emits Difference (Some a) (Some b) h = ap (picks Difference) (at_both a b)
  emits CoveringDifference None None h = refl
  emits CoveringDifference (Some a) None h = ap (picks CoveringDifference) (at_left a) ∙ rw (uncovered cr h)
  emits CoveringDifference None (Some b) h = ap (picks CoveringDifference) (at_right b)
  emits CoveringDifference (Some a) (Some b) h = ap (picks CoveringDifference) (at_both a b)
  emits CoveringUnion None None h = refl
  emits CoveringUnion (Some a) None h = ap (picks CoveringUnion) (at_left a) ∙ ap (λ (r : Record). r ∷ []) (left_cover a cr)
  emits CoveringUnion None (Some b) h = ap (picks CoveringUnion) (at_right b) ∙ ap (λ (r : Record). r ∷ []) (right_cover b cl)
  emits CoveringUnion (Some a) (Some b) h = ap (picks CoveringUnion) (at_both a b)
