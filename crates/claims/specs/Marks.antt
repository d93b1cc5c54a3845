-- The values and lengths of the entries of a well-formed pool are no marks.
use Rattle.std.specs.Prelude.{◌≡◌, Bool, true, false, not, ◌||◌, List, [], ◌∷◌, ◌↔◌, eqb}
use Rattle.std.proofs.Math.Path.{refl}
use Rattle.std.proofs.Common.{sym, ap, ◌∙◌, subst, arith, lit<, pow_mono, eqb-true, eq-eqb, ne_eqb}
use Rattle.std.proofs.Math.Option.{Option, none, some}
use Prim.Native.Nat.{ℕ, zero, suc, ◌+◌, ◌*◌, ◌^◌, ◌≤◌, ◌<◌}
use Rattle.std.proofs.Math.Nat.{pow-succ'}
use Rattle.std.proofs.lemmas.Bool.{not-true}
use Rattle.defs.specs.declared.Prefix.{Prefix}
use Rattle.defs.specs.declared.Operation.{Operation}
use Rattle.defs.specs.declared.Operation.TheVariants.{CoveringUnion}
use Rattle.defs.specs.Basics.{if◌then◌otherwise◌, each}
use Rattle.defs.specs.Prefix.{leads, same, deeper, top}
use Rattle.defs.specs.Pool.{node_count, data_of, child_of, bit, data_bit}
use Rattle.defs.specs.Entries.{Entry, Place, data_place, child_place, places_at, places, held_at, entries_at, view, prefixes}
use Rattle.defs.specs.Check.{pool_limit, fault_of}
use Rattle.defs.specs.Lists.{Record, missing, no_cover, value_of, cover_of, covered, find, is_in, is_led, longest, records_of}
use Rattle.defs.specs.Lemmas.{All, nil, more, split, not_both, is_false, all_imp, all_both, all_append, all_keep, all_unmap, each_append}
use Rattle.defs.specs.OrderLaws.{Ascends}
use Rattle.defs.proofs.EntryLaws.{view_real}
use Rattle.defs.specs.ListLaws.{prefix_of}
use Rattle.pool.specs.Sound.{Formed, formed, values_before, values_small, child_node, value_node}
use Rattle.claims.specs.Terms.{HasEntry, HasLeading}
use Rattle.claims.specs.Members.{entry_says, entry_of, led_says, led_of}
use Rattle.claims.specs.Says.{has, has_find, led_in, values, records_say, records_belong}

module _ (width : ℕ) (w : List ℕ) (ok : Formed width w) where
  -- a value that is the index of one of the pool's values
  abbrev Low : Entry → Type 0
  Low e = e.value < values_before w (node_count w)

  module _ (below : ℕ → Prefix → List Entry) (i : ℕ) (p : Prefix) (h : i < node_count w)
      (child : (c : ℕ) → c < 32 → All Low (held_at w below i p (child_place c))) where
    abbrev held : Place → List Entry
    held = held_at w below i p

    low_data : (n v : ℕ) → n < 5 → v < 2 ^ n → All Low (held (data_place n v))
    low_data n v l m =
        let two = pow-succ' 2 n in
        let most : 2 ^ suc n ≤ 2 ^ 5 = pow_mono l in
        split (bit (data_bit n v) (data_of w i)) (λ b. rw b (more (value_node width w ok i (data_bit n v) h (omega arith) b) nil)) (λ b. rw b nil)

    low_places : (k n v : ℕ) → n + k ≡ 5 → v < 2 ^ n → All Low (each held (places_at k n v))
    low_places zero n v e l = let f : n ≡ 5 = omega arith in all_append (child v (subst (λ (x : ℕ). v < 2 ^ x) f l)) nil
    low_places (suc k) n v e l =
        let two = pow-succ' 2 n in
        all_append (low_data n v (omega arith) l)
        (rw (each_append held (places_at k (suc n) (2 * v)) (places_at k (suc n) (2 * v + 1)))
        (all_append (low_places k (suc n) (2 * v) (omega arith) (omega arith)) (low_places k (suc n) (2 * v + 1) (omega arith) (omega arith))))

  low_entries : (levels i : ℕ) (p : Prefix) → i < node_count w → All Low (entries_at w levels i p)
  unfolding places
  low_entries zero i p h = nil
  low_entries (suc levels) i p h =
      low_places (entries_at w levels) i p h
      (λ c l.
      split (bit c (child_of w i)) (λ b. rw b (low_entries levels _ (deeper p 5 c) (child_node width w ok i c h l b).0)) (λ b. rw b nil))
      5 0 0 refl (lit< tt)

-- a value below all marks, and a length below all marks
abbrev pub LowValue : Entry → Type 0
LowValue e = e.value < 31 * pool_limit

abbrev pub LowLength : Entry → Type 0
LowLength e = e.at.len ≤ 64

-- every value of a view is the index of one of the pool's values
counted : (width : ℕ) (w : List ℕ) (root : Prefix) (f : Formed width w) → All (Low width w f) (view w root)
counted width w root f = all_keep (λ e. leads root e.at) (low_entries width w f 13 0 top f.some)

-- in a well-formed pool every value of a view is below 31 * 65,536, so it is not the mark
pub values_low : (width : ℕ) (w : List ℕ) (root : Prefix) → (fault_of width w).number ≡ 0 → All (λ e. e.value < 31 * pool_limit) (view w root)
values_low width w root h =
    let f = formed width w h in
    let s = values_small width w f (node_count w) (omega arith) in
    all_imp (λ e l. omega (arith, f.most)) (counted width w root f)

-- the same for those who cite it: the statement above is what a must-fail edit changes, and no theorem of specs/ rests on that
pub low_view : (width : ℕ) (w : List ℕ) (root : Prefix) → (fault_of width w).number ≡ 0 → All LowValue (view w root)
low_view width w root h =
    let f = formed width w h in
    let s = values_small width w f (node_count w) (omega arith) in
    all_imp (λ e l. omega (arith, f.most)) (counted width w root f)

-- no entry of a view is longer than 64, so its length is not the mark
pub lengths_low : (w : List ℕ) (root : Prefix) → All (λ e. e.at.len ≤ 64) (view w root)
lengths_low w root = all_imp (λ e h. h.1) (all_unmap (λ (e : Entry). e.at) (view w root) (view_real w root))

-- ---- marks and tests
-- P holds of the entry, where there is one
abbrev pub Holds : (Entry → Type 0) → Option Entry → Type 0
Holds P none = Unit {0}
Holds P (some e) = P e

module _ {P : Entry → Type 0} (p : Prefix) where
  pub find_holds : {es : List Entry} → All P es → Holds P (find p es)
  find_holds nil = tt
  find_holds (more {x = e} h k) = split (same p e.at) (λ t. rw t h) (λ t. rw t (find_holds k))

  longest_from : (c : Option Entry) → Holds P c → {es : List Entry} → All P es → Holds P (longest c es p)
  longest_from c h nil = h
  longest_from c h (more {x = e} k ks) = longest_from (if leads e.at p then some e otherwise c) (split (leads e.at p) (λ t. rw t k) (λ t. rw t h)) ks

  pub longest_holds : {es : List Entry} → All P es → Holds P (longest none es p)
  longest_holds k = longest_from none tt k

pub value_mark : (o : Option Entry) → Holds LowValue o → eqb (value_of o) missing ≡ not (has o)
value_mark none h = refl
value_mark (some e) h = ne_eqb e.value missing (λ q. omega arith)

pub cover_mark : (o : Option Entry) → Holds LowLength o → eqb (cover_of o) no_cover ≡ not (has o)
cover_mark none h = refl
cover_mark (some e) h = ne_eqb e.at.len no_cover (λ q. omega arith)

-- there is a longest entry that leads p where there is one that leads p
has_longest : (c : Option Entry) (es : List Entry) (p : Prefix) → has (longest c es p) ≡ (has c || is_led p es)
has_longest none [] p = refl
has_longest (some c) [] p = refl
has_longest c (e ∷ es) p =
    split (leads e.at p) (λ t. rw t (has_longest (some e) es p ∙ yes (has c))) (λ t. rw t (has_longest c es p))
  where
    yes : (b : Bool) → true ≡ (b || true)
    yes true = refl
    yes false = refl

pub has_cover : (es : List Entry) (p : Prefix) → has (longest none es p) ≡ is_led p es
has_cover es p = has_longest none es p

-- an entry of prefix p leads p
pub in_led : (p : Prefix) (es : List Entry) → (is_in p es || is_led p es) ≡ is_led p es
in_led p es = split (is_led p es) (λ t. rw t (or_true (is_in p es))) (λ t. rw (t, led_in p es t))
  where
    or_true : (b : Bool) → (b || true) ≡ true
    or_true true = refl
    or_true false = refl

-- the words of a record of the covering union
module _ (p : Prefix) where
  pub left_mark : (l r c d : Option Entry) → Holds LowValue l → Holds LowValue c → eqb (covered p l r c d).left missing ≡ not (has l || has c)
  left_mark none r c d h k = value_mark c k
  left_mark (some l) none c d h k = value_mark (some l) h
  left_mark (some l) (some r) c d h k = value_mark (some l) h

  pub right_mark : (l r c d : Option Entry) → (has l || has r) ≡ true → Holds LowValue r → Holds LowValue d → eqb (covered p l r c d).right missing ≡ not (has r || has d)
  right_mark none none c d o h k = not_both o refl
  right_mark none (some r) c d o h k = value_mark (some r) h
  right_mark (some l) none c d o h k = value_mark d k
  right_mark (some l) (some r) c d o h k = value_mark (some r) h

  -- no cover for a record of both; for one of a side alone, the other side's
  abbrev pub Cover : Bool → Bool → Record → Type 0
  Cover led-l led-r x =
      (x.tag ≡ 3 → x.cover ≡ no_cover) × (x.tag ≡ 1 → eqb x.cover no_cover ≡ not led-r) × (x.tag ≡ 2 → eqb x.cover no_cover ≡ not led-l)

  pub cover_words : (l r c d : Option Entry) → Holds LowLength c → Holds LowLength d → Cover (has c) (has d) (covered p l r c d)
  cover_words none r c d h k = (λ e. omega arith, λ e. absurd (omega arith), λ e. cover_mark c h)
  cover_words (some l) none c d h k = (λ e. omega arith, λ e. cover_mark d k, λ e. absurd (omega arith))
  cover_words (some l) (some r) c d h k = (λ e. refl, λ e. absurd (omega arith), λ e. absurd (omega arith))

-- a word is its mark exactly when there is nothing
pub mark_says : (n m : ℕ) (b : Bool) (C : Type 0) → eqb n m ≡ not b → (b ≡ true → C) → (C → b ≡ true) → (n ≡ m) ↔ (C → ⊥)
mark_says n m b C e f g =
    (λ q c. not_both (g c) (not-true b (sym e ∙ eq-eqb n m q)), λ k. eqb-true n m (e ∙ ap not (is_false b (λ t. k (f t)))))

-- ---- all records of a list
module _ (L R : List Entry) (a : Ascends (prefixes L)) where
  module _ (vl : All LowValue L) (vr : All LowValue R) where
    pub plain_marks : (op : Operation) → (op ≡ CoveringUnion → ⊥)
        → All (λ x. ((x.left ≡ missing) ↔ (HasEntry (prefix_of x) L → ⊥)) × ((x.right ≡ missing) ↔ (HasEntry (prefix_of x) R → ⊥))) (records_of op L R)
    plain_marks op n = all_imp (λ x h. (word x.left (prefix_of x) L vl h.0, word x.right (prefix_of x) R vr h.1)) (values L R a op n)
      where
        word : (n : ℕ) (p : Prefix) (es : List Entry) → All LowValue es → n ≡ value_of (find p es) → (n ≡ missing) ↔ (HasEntry p es → ⊥)
        word n p es v e =
            mark_says n missing (is_in p es) (HasEntry p es)
            (ap (λ (k : ℕ). eqb k missing) e ∙ value_mark (find p es) (find_holds p v) ∙ ap not (has_find p es)) (entry_says p es) (entry_of p es)

    pub union_marks : All (λ x. ((x.left ≡ missing) ↔ (HasLeading (prefix_of x) L → ⊥)) × ((x.right ≡ missing) ↔ (HasLeading (prefix_of x) R → ⊥))) (records_of CoveringUnion L R)
    union_marks =
        all_imp
        (λ x h.
        let p = prefix_of x in (
          mark_says x.left missing (is_led p L) (HasLeading p L)
              (ap (λ (y : Record). eqb y.left missing) h.0
              ∙ left_mark p (find p L) (find p R) (longest none L p) (longest none R p) (find_holds p vl) (longest_holds p vl) ∙ led p L)
              (led_says p L) (led_of p L),
          mark_says x.right missing (is_led p R) (HasLeading p R)
              (ap (λ (y : Record). eqb y.right missing) h.0
              ∙ right_mark p (find p L) (find p R) (longest none L p) (longest none R p) (rw (has_find p L, has_find p R) h.1) (find_holds p vr) (longest_holds p vr) ∙ led p R)
              (led_says p R) (led_of p R),
        ))
        (all_both (records_say L R a CoveringUnion) (records_belong L R CoveringUnion))
      where
        led : (p : Prefix) (es : List Entry) → not (has (find p es) || has (longest none es p)) ≡ not (is_led p es)
        led p es = rw (has_find p es, has_cover es p) (ap not (in_led p es))

  pub union_covers : All LowLength L → All LowLength R
      → All (λ x. (x.tag ≡ 3 → x.cover ≡ no_cover) × (x.tag ≡ 1 → (x.cover ≡ no_cover) ↔ (HasLeading (prefix_of x) R → ⊥)) × (x.tag ≡ 2 → (x.cover ≡ no_cover) ↔ (HasLeading (prefix_of x) L → ⊥)))
      (records_of CoveringUnion L R)
  union_covers kl kr =
      all_imp
      (λ x h.
      let p = prefix_of x in
      let c : Cover p (is_led p L) (is_led p R) x =
      subst (λ (y : Record). Cover p (is_led p L) (is_led p R) y) (sym h)
      (rw (← has_cover L p, ← has_cover R p) (cover_words p (find p L) (find p R) (longest none L p) (longest none R p) (longest_holds p kl) (longest_holds p kr))) in (
        c.0,
        λ t. mark_says x.cover no_cover (is_led p R) (HasLeading p R) (c.1 t) (led_says p R) (led_of p R),
        λ t. mark_says x.cover no_cover (is_led p L) (HasLeading p L) (c.2 t) (led_says p L) (led_of p L),
      ))
      (records_say L R a CoveringUnion)
