-- An empty view: what lies under a root's place, and when that is nothing.
use Rattle.std.specs.Prelude.{◌≡◌, refl, Bool, true, false, ◌&&◌, List, ℕ, zero, suc, ◌+◌, ◌-◌, ◌*◌, ◌/◌, ◌^◌, ◌≤◌, ◌<◌, eqb, None, Some}
use Rattle.std.proofs.Common.{sym, ap, ap₂, ◌∙◌, subst, arith, add-one, eqb-true, eq-eqb, ne_eqb}
use Rattle.std.proofs.lemmas.Bool.{false≢true}
use Rattle.defs.specs.declared.Prefix.{Prefix}
use Rattle.defs.specs.Basics.{every}
use Rattle.defs.specs.Prefix.{leads, deeper}
use Rattle.defs.specs.Pool.{node_count, child_of, bit, data_bit}
use Rattle.defs.specs.PrefixLaws.{Whole, whole_long, cut_le}
use Rattle.defs.proofs.PrefixLaws.{leads_len}
use Rattle.defs.specs.Entries.{Entry, Place, data_place, child_place, places, entries_at, under, view}
use Rattle.defs.proofs.EntryLaws.{sound}
use Rattle.defs.specs.Lemmas.{both_ways, All, all_imp, split, and_left, and_right}
use Rattle.defs.proofs.DeeperLaws.{whole_deeper}
use Rattle.bits.specs.Places.{place_prefix}
use Rattle.bits.specs.PlaceLaws.{child_place_lem, place_prefix_lem}
use Rattle.bits.specs.WordLaws.{bit_none}
use Rattle.theory.specs.Sides.{side_held, side_entries, on_path, child_in, value_in, entry_at, under_inside, side_places, side_data, side_child}
use Rattle.theory.specs.Unwanted.{InNode, places_in_node}
use Rattle.view.specs.declared.RootPlace.{RootPlace}
use Rattle.view.specs.Standing.{Sane, NodeIn, in_at, child_in_lem, child_inside}
use Rattle.view.specs.Spreads.{below_all, below_at}
use Rattle.view.specs.Covered.{words_zero}
use Rattle.view.specs.Kept.{is_value, kept_of, kept_bit_lem}
use Rattle.view.specs.Emptiness.{is_nil, empty_at, empty_says, both_true, nil_each, every_all, all_every, below_of, below_fails, place_all}
use Rattle.view.specs.Descent.{Found, cut_to, whole_cut, node_down, node_down_in, found_at, found_of, found_entries, view_found}
use Rattle.theory.specs.Kinds.{Node, Value}

-- a root that ends in its node of prefix p, with so many levels below the node
pub record Ending (root p : Prefix) (levels : ℕ) : Type 0 where
  pub whole : Whole p
  pub fits : p.key < 2 ^ 64
  pub depth : p.len + 5 * suc levels ≡ 65
  pub ends : root.len ≤ p.len + 4

-- a child of a side holds nothing
abbrev pub empty_kid : List ℕ → ℕ → Node → Bool
empty_kid w levels None = true
empty_kid w levels (Some k) = empty_at w levels k

-- a root's node holds nothing of the view: no value is kept, and no child holds anything
abbrev pub empty_under : List ℕ → Prefix → ℕ → ℕ → Prefix → Bool
empty_under w root levels i p =
    eqb (kept_of w root (Some i) p) 0 && below_all (λ c. empty_kid w levels (child_in w root (Some i) c (deeper p 5 c))) 32

nil_entry : (q : Prefix) (x : Value) → is_nil (entry_at q x) ≡ true → is_value x ≡ false
nil_entry q None h = refl
nil_entry q (Some v) h = absurd (false≢true h)

entry_nil : (q : Prefix) (x : Value) → is_value x ≡ false → is_nil (entry_at q x) ≡ true
entry_nil q None h = refl
entry_nil q (Some v) h = absurd (false≢true (sym h))

module _ (w : List ℕ) (s : Sane w) (root : Prefix) (i : ℕ) (h : i < node_count w) (p : Prefix) (levels : ℕ) (k : Ending root p levels) where
  whole_kid : (c : ℕ) → Whole (deeper p 5 c)
  whole_kid c = go levels k.depth
    where
      go : (l : ℕ) → p.len + 5 * suc l ≡ 65 → Whole (deeper p 5 c)
      go zero e = whole_long (deeper p 5 c) (omega arith)
      go (suc l) e = whole_deeper p k.whole 5 (omega arith) c

  -- a child on the root's path is led by the root
  led_kid : (c : ℕ) → on_path root (deeper p 5 c) ≡ true → leads root (deeper p 5 c) ≡ true
  led_kid c e =
      split (leads root (deeper p 5 c)) (λ t. t)
      (λ t. absurd (let l = leads_len (deeper p 5 c) root (rw t at e) in let m = k.ends in let z : ⊥ = omega arith in z))

  -- what a child holds of the view is all that it holds
  kid_nil : (c : ℕ) → c < 32 → is_nil (side_held w root levels (Some i) p (child_place c)) ≡ empty_kid w levels (child_in w root (Some i) c (deeper p 5 c))
  kid_nil c l =
      ap is_nil (side_child w root levels (Some i) p c (whole_kid c) k.depth)
      ∙ split (bit c (child_of w i) && on_path root (deeper p 5 c))
      (λ t. rw t (inside _ (and_right (bit c (child_of w i)) _ t) (child_inside w s i c h l (and_left _ _ t))))
      (λ t. rw t)
    where
      inside : (j : ℕ) → on_path root (deeper p 5 c) ≡ true → j < node_count w → is_nil (under root (entries_at w levels j (deeper p 5 c))) ≡ empty_at w levels j
      inside j t n =
          ap is_nil (under_inside root (deeper p 5 c) (entries_at w levels j (deeper p 5 c)) (led_kid c t) (sound w levels j (deeper p 5 c) (whole_kid c) (omega (arith, k.depth))).led_by)
          ∙ empty_says w s levels j (deeper p 5 c) n

  abbrev held : Place → List Entry
  held = side_held w root levels (Some i) p

  no_kept : All (λ x. is_nil (held x) ≡ true) places → kept_of w root (Some i) p ≡ 0
  no_kept a = words_zero _ (λ n v l m. nil_entry (deeper p n v) (value_in w root (Some i) n v (deeper p n v)) (sym (ap is_nil (side_data w root levels (Some i) p n v)) ∙ place_all a (data_place n v) (l, m)))

  holds_none : empty_under w root levels i p ≡ true → (x : Place) → InNode x → is_nil (held x) ≡ true
  holds_none e (data_place n v) m =
      let z = eqb-true (kept_of w root (Some i) p) 0 (and_left _ _ e) in
      ap is_nil (side_data w root levels (Some i) p n v)
      ∙ entry_nil (deeper p n v) (value_in w root (Some i) n v (deeper p n v)) (sym (kept_bit_lem w root (Some i) p n v m.0 m.1) ∙ ap (bit (data_bit n v)) z ∙ bit_none 0 (data_bit n v) 0 (omega arith) (omega arith))
  holds_none e (child_place c) m =
      kid_nil c m ∙ below_at (λ c. empty_kid w levels (child_in w root (Some i) c (deeper p 5 c))) 32 (and_right (eqb (kept_of w root (Some i) p) 0) _ e) c m

  -- FOR CALLERS: what a side holds in the root's node is nothing exactly where nothing is kept and no child holds anything
  pub under_says : is_nil (side_entries w root (suc levels) (Some i) p) ≡ empty_under w root levels i p
  under_says =
      ap is_nil (side_places w root levels (Some i) p) ∙ nil_each held places
      ∙ both_ways (every (λ x. is_nil (held x)) places) (empty_under w root levels i p)
      (λ e.
      let a = every_all (λ x. is_nil (held x)) places e in
      both_true (eq-eqb _ 0 (no_kept a)) (below_of _ 32 (λ c l. sym (kid_nil c l) ∙ place_all a (child_place c) l)))
      (λ e. all_every (λ x. is_nil (held x)) (all_imp (holds_none e) places_in_node))

-- ---- how the code finds it

module _ (w : List ℕ) (root : Prefix) (i : ℕ) (p : Prefix) (levels c : ℕ) (k : Ending root p levels) (l : c < 32) where
  abbrev kid : Node
  kid = child_in w root (Some i) c (deeper p 5 c)

  pub kid_none : levels ≡ 0 → true ≡ empty_kid w levels kid
  kid_none e = go kid
    where
      go : (o : Node) → true ≡ empty_kid w levels o
      go None = refl
      go (Some j) = ap (λ (n : ℕ). empty_at w n j) (sym e)

  module _ (deep : levels ≡ 0 → ⊥) (q : Prefix) (eq : q ≡ place_prefix p (32 + c)) (o : Node) (eo : o ≡ child_in w root (Some i) c q) where
    is_kid : o ≡ kid
    is_kid =
        let e = child_place_lem (32 + c) (omega arith) (omega arith) in
        let v : 32 + c - 32 ≡ c = omega arith in
        let short : p.len + 5 ≤ 64 = (let d = k.depth in omega arith) in
        eo
        ∙ ap (child_in w root (Some i) c)
        (eq ∙ place_prefix_lem p (32 + c) (omega arith) (omega arith) k.whole k.fits (omega (arith, e.0)) ∙ ap₂ (deeper p) e.0 (e.1 ∙ v))

    pub kid_absent : o ≡ None → true ≡ empty_kid w levels kid
    kid_absent e = ap (empty_kid w levels) (sym e ∙ is_kid)

    pub kid_at_lem : (j : ℕ) → o ≡ Some j → empty_at w levels j ≡ empty_kid w levels kid
    kid_at_lem j e = ap (empty_kid w levels) (sym e ∙ is_kid)

    pub kid_in : Sane w → i < node_count w → (j : ℕ) → o ≡ Some j → j < node_count w
    kid_in s h j e = in_at w o j e (subst (NodeIn w) (sym eo) (child_in_lem w s root (Some i) c q l h))

module _ (w : List ℕ) (root : Prefix) (levels i : ℕ) (p : Prefix) where
  -- child c holds nothing of the view
  abbrev pub asked : ℕ → Bool
  asked c = empty_kid w levels (child_in w root (Some i) c (deeper p 5 c))

  pub under_kept : (held : ℕ) → held ≡ kept_of w root (Some i) p → (held ≡ 0 → ⊥) → false ≡ empty_under w root levels i p
  under_kept held e n = rw (ne_eqb (kept_of w root (Some i) p) 0 (λ z. n (e ∙ z)))

  module _ (held : ℕ) (e : held ≡ kept_of w root (Some i) p) (z : held ≡ 0) where
    by_kids : empty_under w root levels i p ≡ below_all asked 32
    by_kids = rw (eq-eqb (kept_of w root (Some i) p) 0 (sym e ∙ z))

    pub searching_fails : (c : ℕ) → c < 32 → asked c ≡ false → false ≡ empty_under w root levels i p
    searching_fails c l f = sym (by_kids ∙ below_fails asked 32 c l f)

    pub searching_ends : below_all asked 32 ≡ true → true ≡ empty_under w root levels i p
    searching_ends k = sym (by_kids ∙ k)

-- what is known of a root's place
module _ (w : List ℕ) (s : Sane w) (root : Prefix) (fits : root.key < 2 ^ 64) (long : root.len ≤ 64) where
  abbrev Known : Found → Type 0
  Known None = is_nil (view w root) ≡ true
  Known (Some f) =
      (f.node < node_count w) × Ending f.root f.prefix (12 - f.prefix.len / 5) × (is_nil (view w root) ≡ empty_under w f.root (12 - f.prefix.len / 5) f.node f.prefix)

  known : (f : Found) → f ≡ found_of w root → Known f
  known f e = subst Known (sym e) (go (node_down w root (root.len / 5)) (node_down_in w root s (root.len / 5)) (view_found w root fits long))
    where
      go : (o : Node) → NodeIn w o → view w root ≡ found_entries w (found_at root o) → Known (found_at root o)
      go None n v = ap is_nil v
      go (Some i) n v =
          let d = root.len / 5 * 5 in
          let p = cut_to root d in
          let m : 12 - d / 5 + 1 ≡ 13 - d / 5 = omega arith in
          let k : Ending (cut_to root root.len) p (12 - d / 5) =
          record { whole = whole_cut root d; fits = omega (arith, cut_le d root.key); depth = omega arith; ends = omega arith } in (
            n,
            k,
            ap is_nil v ∙ ap (λ (x : ℕ). is_nil (under (cut_to root root.len) (entries_at w x i p))) (sym m ∙ add-one (12 - d / 5))
                ∙ under_says w s (cut_to root root.len) i n p (12 - d / 5) k,
          )

  pub known_none : (f : Found) → f ≡ found_of w root → f ≡ None → true ≡ is_nil (view w root)
  known_none f e t = sym (subst Known t (known f e))

  pub known_at : (f : Found) → f ≡ found_of w root → (p : RootPlace) → f ≡ Some p → Known (Some p)
  known_at f e p t = subst Known t (known f e)
