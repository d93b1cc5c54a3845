-- Places that a list does not want give it nothing.
use Rattle.std.specs.Prelude.{◌≡◌, refl, Bool, true, false, ◌||◌, List, [], map, ℕ, zero, suc, ◌+◌, ◌*◌, ◌^◌, ◌≤◌, ◌<◌, leb, None, Some}
use Rattle.std.proofs.Common.{◌∙◌, ap, arith, ne_eqb, leb-true, leb-false}
use Rattle.std.proofs.Math.Option.{Option, none, some}
use Rattle.defs.specs.declared.Prefix.{Prefix}
use Rattle.defs.specs.declared.Operation.{Operation}
use Rattle.defs.specs.declared.Operation.TheVariants.{Union, Intersection, Difference, CoveringDifference, CoveringUnion}
use Rattle.defs.specs.Prefix.{deeper}
use Rattle.defs.specs.Entries.{Entry, Place, data_place, child_place, places_at, places, prefixes}
use Rattle.defs.specs.Lists.{Record, cover_of, no_cover, longest}
use Rattle.defs.specs.Lemmas.{All, nil, more, split, not_both, all_imp, all_append}
use Rattle.defs.specs.PrefixLaws.{Whole}
use Rattle.defs.proofs.PrefixLaws.{leads_len}
use Rattle.defs.proofs.OrderLaws.{all_merge}
use Rattle.defs.specs.NodeLaws.{Real, Fits}
use Rattle.defs.proofs.DeeperLaws.{whole_deeper}
use Rattle.theory.specs.declared.Covers.{Covers}
use Rattle.theory.specs.Covering.{own, record_at, covering}
use Rattle.theory.specs.Picks.{picks, pick, has, has_longest, longest_short}
use Rattle.theory.specs.Nodes.{above_place, place_records}
use Rattle.theory.specs.Sides.{side_held, value_in, side_data, side_fits}
use Rattle.theory.specs.Contexts.{cover_for, entry_for, Shorter, not_own}
use Rattle.theory.specs.Steps
use Rattle.theory.specs.StepLaws.{ShortCover, longest_entry, cover_above, shorter_above}
use Rattle.theory.specs.Kinds.{Node}

-- a place of a node: of n bits of value v, n up to 4, or a child up to 31
abbrev pub InNode : Place → Type 0
InNode (data_place n v) = (n ≤ 4) × (v < 2 ^ n)
InNode (child_place c) = c < 32

in_node : (k n v : ℕ) → n + k ≡ 5 → v < 2 ^ n → All InNode (places_at k n v)
in_node zero n v e l = let f : n ≡ 5 = omega arith in more {x = child_place v} (rw f at l) nil
in_node (suc k) n v e l =
    more {x = data_place n v} (omega arith, l)
    (all_append (in_node k (suc n) (2 * v) (omega arith) (omega arith)) (in_node k (suc n) (2 * v + 1) (omega arith) (omega arith)))

pub places_in_node : All InNode places
unfolding places
places_in_node = in_node 5 0 0 refl (omega arith)

-- the bits that a place adds
abbrev pub place_bits : Place → ℕ
place_bits (data_place n v) = n
place_bits (child_place c) = 5

picks_none : (op : Operation) (f : Prefix → Record) {ps : List Prefix} → All (λ p. pick op (f p) ≡ []) ps → picks op (map f ps) ≡ []
picks_none op f nil = refl
picks_none op f (more h hs) = rw h (picks_none op f hs)

module _ (cl cr : Option Entry) (n : ℕ) (sl : Shorter cl n) (sr : Shorter cr n) (l r : List Entry)
    (hl : All (λ p. n ≤ p.len) (prefixes l)) (hr : All (λ p. n ≤ p.len) (prefixes r)) where
  -- with nothing on the left there is no record of the left or of both
  no_left : (op : Operation) → ((p : Prefix) (u : Option Entry) → own p cl ≡ false → pick op (record_at p cl u) ≡ []) → l ≡ [] → picks op (covering cl cr l r) ≡ []
  no_left op h e = rw e (picks_none op _ (all_imp (λ p k. h p (longest cr r p) (not_own cl n p sl k)) hr))

  no_right : (op : Operation) → ((p : Prefix) (o : Option Entry) → own p cr ≡ false → pick op (record_at p o cr) ≡ []) → r ≡ [] → picks op (covering cl cr l r) ≡ []
  no_right op h e = rw e (picks_none op _ (all_merge (all_imp (λ p k. h p (longest cl l p) (not_own cr n p sr k)) hl) nil))

  -- what the right side covers is not in a covering difference
  all_covered : (has cr ≡ true → cover_of cr ≤ 64) → All Real (prefixes r)
      → All (λ p. has (longest cr r p) ≡ true) (prefixes l) → All (λ p. has (longest cr r p) ≡ true) (prefixes r) → picks CoveringDifference (covering cl cr l r) ≡ []
  all_covered short rr kl kr = picks_none CoveringDifference _ (all_merge (all_imp one kl) (all_imp one kr))
    where
      one : (p : Prefix) → has (longest cr r p) ≡ true → pick CoveringDifference (record_at p (longest cl l p) (longest cr r p)) ≡ []
      one p k =
          split (own p (longest cl l p))
          (λ i.
          split (own p (longest cr r p)) (λ u. rw (i, u))
          (λ u. rw (i, u, ne_eqb (cover_of (longest cr r p)) no_cover (λ q. omega (arith, longest_short cr r p short rr k)))))
          (λ i. rw i)

unmarked : (w : List ℕ) (root : Prefix) (lv : ℕ) (o : Node) (p : Prefix) (x : Place) → Steps.marked w o x ≡ false → side_held w root lv o p x ≡ []
unmarked w root lv None p x h = refl
unmarked w root lv (Some i) p (data_place n v) h = rw h
unmarked w root lv (Some i) p (child_place c) h = rw h

has_cover : (o : Option Entry) → has o ≡ Steps.is_cover (cover_for o)
has_cover none = refl
has_cover (some e) = refl

short_cover : (c : Option Entry) (n : ℕ) → n ≤ 65 → Shorter c n → has c ≡ true → cover_of c ≤ 64
short_cover none n l s h = not_both h refl
short_cover (some e) n l s h = omega arith

-- a list whose records are all of the left side's entries
abbrev pub left_list : Operation → Bool
left_list Intersection = true
left_list Difference = true
left_list CoveringDifference = true
left_list Union = false
left_list CoveringUnion = false

module _ (j : Steps.Job) (lv : ℕ) (p : Prefix) (wp : Whole p) (e : p.len + 5 * suc lv ≡ 65) (l r : Node) (above : Covers)
    (sl : ShortCover above.left p.len) (sr : ShortCover above.right p.len) where
  abbrev held_l : Place → List Entry
  held_l = side_held j.left.pool j.left.root lv l p

  abbrev held_r : Place → List Entry
  held_r = side_held j.right.pool j.right.root lv r p

  fits_l : Fits p held_l
  fits_l = side_fits j.left.pool j.left.root lv l p e

  fits_r : Fits p held_r
  fits_r = side_fits j.right.pool j.right.root lv r p e

  -- what a place holds is as long as its prefix
  long : (held : Place → List Entry) → Fits p held → (x : Place) → All (λ y. p.len + place_bits x ≤ y.len) (prefixes (held x))
  long held f (data_place n v) = all_imp (λ y q. rw q (omega arith)) (f.data_at n v)
  long held f (child_place c) =
      split (leb 60 p.len) (λ t. rw (f.child_none (leb-true _ _ t) c) nil)
      (λ t. let h : p.len < 60 = leb-false _ _ t in all_imp (λ y k. leads_len (deeper p 5 c) y k) (f.child_led c (whole_deeper p wp 5 (omega arith) c)))

  abbrev above_l : Place → Option Entry
  above_l = above_place p held_l (entry_for above.left)

  abbrev above_r : Place → Option Entry
  above_r = above_place p held_r (entry_for above.right)

  short_l : (x : Place) → Shorter (above_l x) (p.len + place_bits x)
  short_l (data_place n v) = shorter_above j.left lv l p above.left sl n v
  short_l (child_place c) = shorter_above j.left lv l p above.left sl 5 c

  short_r : (x : Place) → Shorter (above_r x) (p.len + place_bits x)
  short_r (data_place n v) = shorter_above j.right lv r p above.right sr n v
  short_r (child_place c) = shorter_above j.right lv r p above.right sr 5 c

  real_r : (x : Place) → InNode x → All Real (prefixes (held_r x))
  real_r (data_place n v) h = all_imp (λ y q. rw q (whole_deeper p wp n (omega arith) v, omega arith)) (fits_r.data_at n v)
  real_r (child_place c) h =
      split (leb 60 p.len) (λ t. rw (fits_r.child_none (leb-true _ _ t) c) nil)
      (λ t. let k : p.len < 60 = leb-false _ _ t in fits_r.child_real c (whole_deeper p wp 5 (omega arith) c))

  -- the right side covers all that a covered place holds
  covered_held : (x : Place) → Steps.is_cover (Steps.cover_on j.right r p above.right x) ≡ true → (held : Place → List Entry) → Fits p held
      → All (λ y. has (longest (above_r x) (held_r x) y) ≡ true) (prefixes (held x))
  covered_held (data_place n v) h held f = all_imp (λ y q. rw q here) (f.data_at n v)
    where
      here : has (longest (above_r (data_place n v)) (held_r (data_place n v)) (deeper p n v)) ≡ true
      here =
          has_cover (longest (above_r (data_place n v)) (held_r (data_place n v)) (deeper p n v))
          ∙ ap (λ (a : List Entry). Steps.is_cover (cover_for (longest (above_r (data_place n v)) a (deeper p n v)))) (side_data j.right.pool j.right.root lv r p n v)
          ∙ ap Steps.is_cover (longest_entry (above_r (data_place n v)) (deeper p n v) (value_in j.right.pool j.right.root r n v (deeper p n v)) ∙ ap (Steps.nearer (value_in j.right.pool j.right.root r n v (deeper p n v)) (p.len + n)) (cover_above j.right lv r p above.right n v))
          ∙ h
  covered_held (child_place c) h held f = all_imp (λ y q. has_longest (above_r (child_place c)) (held_r (child_place c)) y ∙ rw here) (long held f (child_place c))
    where
      here : has (above_r (child_place c)) ≡ true
      here = has_cover (above_r (child_place c)) ∙ ap Steps.is_cover (cover_above j.right lv r p above.right 5 c) ∙ h

  abbrev gives : Place → List Record
  gives x = picks j.op (place_records p held_l held_r (entry_for above.left) (entry_for above.right) x)

  -- with nothing on the left there is nothing for a list of the left side
  pub left_empty : (x : Place) → left_list j.op ≡ true → held_l x ≡ [] → gives x ≡ []
  left_empty x h e = go j.op h
    where
      none_left : (op : Operation) → ((y : Prefix) (u : Option Entry) → own y (above_l x) ≡ false → pick op (record_at y (above_l x) u) ≡ [])
          → picks op (place_records p held_l held_r (entry_for above.left) (entry_for above.right) x) ≡ []
      none_left op k = no_left (above_l x) (above_r x) (p.len + place_bits x) (short_l x) (short_r x) (held_l x) (held_r x) (long held_l fits_l x) (long held_r fits_r x) op k e

      go : (op : Operation) → left_list op ≡ true → picks op (place_records p held_l held_r (entry_for above.left) (entry_for above.right) x) ≡ []
      go Intersection q = none_left Intersection (λ y u o. rw o)
      go Difference q = none_left Difference (λ y u o. rw o)
      go CoveringDifference q = none_left CoveringDifference (λ y u o. rw o)
      go Union q = not_both q refl
      go CoveringUnion q = not_both q refl

  -- a place that is not wanted gives nothing
  pub unwanted : (x : Place) → InNode x → Steps.wanted j p l r above x ≡ false → gives x ≡ []
  unwanted x i h = go j.op h
    where
      no_l : Steps.marked j.left.pool l x ≡ false → held_l x ≡ []
      no_l = unmarked j.left.pool j.left.root lv l p x

      no_r : Steps.marked j.right.pool r x ≡ false → held_r x ≡ []
      no_r = unmarked j.right.pool j.right.root lv r p x

      none_left : (op : Operation) → ((y : Prefix) (u : Option Entry) → own y (above_l x) ≡ false → pick op (record_at y (above_l x) u) ≡ [])
          → Steps.marked j.left.pool l x ≡ false → picks op (place_records p held_l held_r (entry_for above.left) (entry_for above.right) x) ≡ []
      none_left op k m = no_left (above_l x) (above_r x) (p.len + place_bits x) (short_l x) (short_r x) (held_l x) (held_r x) (long held_l fits_l x) (long held_r fits_r x) op k (no_l m)

      neither : (op : Operation) (a b : Bool) → Steps.marked j.left.pool l x ≡ a → Steps.marked j.right.pool r x ≡ b → (a || b) ≡ false
          → picks op (place_records p held_l held_r (entry_for above.left) (entry_for above.right) x) ≡ []
      neither op true b m k q = not_both refl q
      neither op false true m k q = not_both refl q
      neither op false false m k q = rw (no_l m, no_r k)

      go : (op : Operation) → Steps.wants op (Steps.marked j.left.pool l x) (Steps.marked j.right.pool r x) (Steps.is_cover (Steps.cover_on j.right r p above.right x)) ≡ false
          → picks op (place_records p held_l held_r (entry_for above.left) (entry_for above.right) x) ≡ []
      go Union q = neither Union _ _ refl refl q
      go CoveringUnion q = neither CoveringUnion _ _ refl refl q
      go Difference q = none_left Difference (λ y u o. rw o) q
      go Intersection q =
          split (Steps.marked j.left.pool l x)
          (λ m.
          no_right (above_l x) (above_r x) (p.len + place_bits x) (short_l x) (short_r x) (held_l x) (held_r x) (long held_l fits_l x) (long held_r fits_r x) Intersection
          (λ y o k. split (own y o) (λ t. rw (k, t)) (λ t. rw t)) (no_r (rw m at q)))
          (λ m. none_left Intersection (λ y u o. rw o) m)
      go CoveringDifference q =
          split (Steps.marked j.left.pool l x)
          (λ m.
          split (Steps.is_cover (Steps.cover_on j.right r p above.right x))
          (λ c.
          all_covered (above_l x) (above_r x) (p.len + place_bits x) (short_l x) (short_r x) (held_l x) (held_r x) (long held_l fits_l x) (long held_r fits_r x)
          (short_cover (above_r x) (p.len + place_bits x) (short_place x i) (short_r x)) (real_r x i) (covered_held x c held_l fits_l) (covered_held x c held_r fits_r))
          (λ c. not_both refl (rw (m, c) at q)))
          (λ m. none_left CoveringDifference (λ y u o. rw o) m)
        where
          short_place : (x : Place) → InNode x → p.len + place_bits x ≤ 65
          short_place (data_place n v) k = omega arith
          short_place (child_place c) k = omega arith
