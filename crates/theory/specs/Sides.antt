-- One side of a walk: a pool, a root, and a node or none. What its places hold, and what lies below a child.
use Rattle.std.specs.Prelude.{◌≡◌, Bool, true, false, ◌&&◌, ◌||◌, List, [], ◌∷◌, ◌++◌, ℕ, suc, ◌+◌, ◌*◌, None, Some}
use Rattle.std.proofs.Math.Path.{refl}
use Rattle.std.proofs.Common.{◌∙◌, ap, ⊎_elim, arith}
use Rattle.defs.specs.declared.Prefix.{Prefix}
use Rattle.defs.specs.Basics.{if◌then◌otherwise◌, keep, each}
use Rattle.defs.specs.Prefix.{leads, deeper}
use Rattle.defs.specs.Pool.{data_of, child_of, first_child, first_value, bit, rank, data_bit}
use Rattle.defs.specs.Entries.{Entry, Place, data_place, child_place, places, held_at, entries_at, under}
use Rattle.defs.specs.Lemmas.{nil, split, not_both, all_imp, all_keep, all_unmap, keep_append, keep_true, keep_false}
use Rattle.defs.specs.PrefixLaws.{Whole}
use Rattle.defs.proofs.PrefixLaws.{comparable, leads_trans}
use Rattle.defs.specs.OrderLaws.{end}
use Rattle.defs.proofs.OrderLaws.{ascends_keep}
use Rattle.defs.specs.NodeLaws.{Led, Fits}
use Rattle.defs.proofs.EntryLaws.{sound, held_fits, prefixes_under}
use Rattle.theory.specs.Kinds.{Node, Value}

-- what a place of a side's node of prefix p holds of the view at the root, `levels` nodes below
abbrev pub side_held : List ℕ → Prefix → ℕ → Node → Prefix → Place → List Entry
side_held w root levels None p x = []
side_held w root levels (Some i) p x = under root (held_at w (entries_at w levels) i p x)

-- the entries of the view at the root in a side's node and below it
abbrev pub side_entries : List ℕ → Prefix → ℕ → Node → Prefix → List Entry
side_entries w root levels None p = []
side_entries w root levels (Some i) p = under root (entries_at w levels i p)

-- root and q lie on one path: one leads the other
abbrev pub on_path : Prefix → Prefix → Bool
on_path root q = leads root q || leads q root

-- the child of a side's node at place c, of prefix q, where there is one and it lies on one path with the root
abbrev pub child_in : List ℕ → Prefix → Node → ℕ → Prefix → Node
child_in w root None c q = None
child_in w root (Some i) c q = if bit c (child_of w i) && on_path root q then Some (first_child w i + rank c (child_of w i)) otherwise None

-- the value at the data place of n bits of value v, of prefix q, where there is one and the root leads it
abbrev pub value_in : List ℕ → Prefix → Node → ℕ → ℕ → Prefix → Value
value_in w root None n v q = None
value_in w root (Some i) n v q =
    if bit (data_bit n v) (data_of w i) && leads root q then Some (first_value w i + rank (data_bit n v) (data_of w i)) otherwise None

-- the entry of prefix q with a value, or none
abbrev pub entry_at : Prefix → Value → List Entry
entry_at q None = []
entry_at q (Some v) = record { at = q; value = v } ∷ []

under_each : (root : Prefix) (f : Place → List Entry) (xs : List Place) → under root (each f xs) ≡ each (λ x. under root (f x)) xs
under_each root f [] = refl
under_each root f (x ∷ xs) = keep_append (λ e. leads root e.at) (f x) (each f xs) ∙ ap (under root (f x) ++◌) (under_each root f xs)

-- a place is kept whole where the root leads it
pub under_inside : (root q : Prefix) (a : List Entry) → leads root q ≡ true → Led q a → under root a ≡ a
under_inside root q a e h = keep_true _ (all_unmap (λ (x : Entry). x.at) a (all_imp (λ x k. leads_trans root q x e k) h))

-- and holds nothing where root and q do not lie on one path
pub under_outside : (root q : Prefix) (a : List Entry) → on_path root q ≡ false → Led q a → under root a ≡ []
under_outside root q a e h = keep_false _ (all_unmap (λ (x : Entry). x.at) a (all_imp out h))
  where
    apart : (x : Prefix) → leads q x ≡ true → leads root x ≡ true → on_path root q ≡ true
    apart x k l = ⊎_elim (λ u. rw u) (λ u. split (leads root q) (λ i. rw i) (λ i. rw i u)) (comparable root q x l k)

    out : (x : Prefix) → leads q x ≡ true → leads root x ≡ false
    out x k = split (leads root x) (λ l. not_both (apart x k l) e) (λ l. l)

module _ (w : List ℕ) (root : Prefix) where
  -- a node's entries, place by place
  pub side_places : (levels : ℕ) (o : Node) (p : Prefix) → side_entries w root (suc levels) o p ≡ each (side_held w root levels o p) places
  unfolding places
  side_places levels None p = refl
  side_places levels (Some i) p = under_each root (held_at w (entries_at w levels) i p) places

  -- what the places of a side's node hold fits them
  pub side_fits : (levels : ℕ) (o : Node) (p : Prefix) → p.len + 5 * suc levels ≡ 65 → Fits p (side_held w root levels o p)
  side_fits levels None p e =
      record { data_at = λ n v. nil; data_asc = λ n v. end; child_led = λ c u. nil; child_asc = λ c u. end; child_real = λ c u. nil; child_none = λ l c. refl }
  side_fits levels (Some i) p e =
      let held = held_at w (entries_at w levels) i p in
      let f : Fits p held = held_fits w levels (sound w levels) i p e in
      record {
        data_at = λ n v. rw (prefixes_under root (held (data_place n v))) (all_keep (leads root) (f.data_at n v));
        data_asc = λ n v. rw (prefixes_under root (held (data_place n v))) (ascends_keep (leads root) (f.data_asc n v));
        child_led = λ c u. rw (prefixes_under root (held (child_place c))) (all_keep (leads root) (f.child_led c u));
        child_asc = λ c u. rw (prefixes_under root (held (child_place c))) (ascends_keep (leads root) (f.child_asc c u));
        child_real = λ c u. rw (prefixes_under root (held (child_place c))) (all_keep (leads root) (f.child_real c u));
        child_none = λ l c. rw (f.child_none l c);
      }

  -- what a data place holds
  pub side_data : (levels : ℕ) (o : Node) (p : Prefix) (n v : ℕ) → side_held w root levels o p (data_place n v) ≡ entry_at (deeper p n v) (value_in w root o n v (deeper p n v))
  side_data levels None p n v = refl
  side_data levels (Some i) p n v =
      split (bit (data_bit n v) (data_of w i))
      (λ b. split (leads root (deeper p n v)) (λ l. rw (b, value_in) (rw (l, keep))) (λ l. rw (b, value_in) (rw (l, keep))))
      (λ b. rw (b, value_in))

  -- what a child place holds is what the child's node holds
  pub side_child : (levels : ℕ) (o : Node) (p : Prefix) (c : ℕ) → Whole (deeper p 5 c) → p.len + 5 * suc levels ≡ 65
      → side_held w root levels o p (child_place c) ≡ side_entries w root levels (child_in w root o c (deeper p 5 c)) (deeper p 5 c)
  side_child levels None p c u e = refl
  side_child levels (Some i) p c u e =
      let q = deeper p 5 c in
      let j = first_child w i + rank c (child_of w i) in
      split (bit c (child_of w i))
      (λ b. split (on_path root q) (λ l. rw (b, l, child_in)) (λ l. rw (b, l, child_in) (under_outside root q (entries_at w levels j q) l (sound w levels j q u (omega arith)).led_by)))
      (λ b. rw (b, child_in))
