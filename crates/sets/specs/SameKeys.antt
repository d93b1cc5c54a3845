-- Key equality, level by level: two nodes of one prefix hold the same prefixes exactly where they keep the same data bits and the children of each place do.
use Rattle.std.specs.Prelude.{◌≡◌, refl, Bool, true, false, not, ◌&&◌, List, [], ◌∷◌, map, ℕ, zero, suc, ◌+◌, ◌*◌, ◌^◌, ◌≤◌, ◌<◌, eqb, None, Some}
use Rattle.std.proofs.Common.{sym, ◌∙◌, ap, ap₂, arith, eqb-true, eq-eqb}
use Rattle.std.proofs.lemmas.Bool.{false≢true}
use Rattle.std.proofs.Math.Option.{none}
use Rattle.defs.specs.declared.Prefix.{Prefix}
use Rattle.defs.specs.declared.Operation.TheVariants.{Difference}
use Rattle.defs.specs.Basics.{keep, each, every}
use Rattle.defs.specs.Prefix.{deeper}
use Rattle.defs.specs.Pool.{bit, data_bit}
use Rattle.defs.specs.Entries.{Entry, Place, data_place, child_place, places, prefixes, entries_at}
use Rattle.defs.specs.Lists.{is_in, left_only, records_of, same_keys}
use Rattle.defs.specs.Lemmas.{both_ways, All, nil, all_imp, split, and_left, and_right, each_on}
use Rattle.defs.specs.PrefixLaws.{Whole, whole_long, same_self}
use Rattle.defs.proofs.PrefixLaws.{leads_len}
use Rattle.defs.specs.OrderLaws.{end}
use Rattle.defs.specs.NodeLaws.{Fits}
use Rattle.defs.proofs.EntryLaws.{sound, sound_under}
use Rattle.defs.specs.Outcome.{Side}
use Rattle.defs.proofs.DeeperLaws.{whole_deeper}
use Rattle.bits.specs.Places.{place_len, place_value}
use Rattle.bits.specs.PlaceLaws.{made, place_len_below}
use Rattle.theory.specs.Picks.{Good, picks, list_picks}
use Rattle.theory.specs.Nodes.{above_place, place_records}
use Rattle.theory.specs.Sides.{side_held, side_entries, child_in, value_in, entry_at, side_fits, side_data, side_child}
use Rattle.theory.specs.Contexts.{Shorter, context}
use Rattle.theory.specs.StepLaws.{shorter_above}
use Rattle.theory.specs.Unwanted.{InNode, place_bits, places_in_node}
use Rattle.theory.specs.Walk.{by_places}
use Rattle.view.specs.Spreads.{below_all, below_at, word_on}
use Rattle.view.specs.Covered.{words_of, data_place_at, up_below}
use Rattle.view.specs.Kept.{is_value, held_by, kept_of, kept_bit_lem}
use Rattle.view.specs.Emptiness.{is_nil, both_true, nil_each, every_all, all_every, below_of, place_all}
use Rattle.theory.specs.Kinds.{Node, Value}

-- the data bits that a side's node of prefix p keeps
abbrev pub kept : Side → Node → Prefix → ℕ
kept s o p = kept_of s.pool s.root o p

-- the child of a side's node of prefix p at place c
abbrev pub child_on : Side → Node → Prefix → ℕ → Node
child_on s o p c = child_in s.pool s.root o c (deeper p 5 c)

-- two nodes of prefix p hold the same prefixes, so many levels deep
abbrev pub equal_at : Side → Side → ℕ → Node → Node → Prefix → Bool
equal_at l r zero a b p = true
equal_at l r (suc levels) a b p =
    eqb (kept l a p) (kept r b p) && below_all (λ c. equal_at l r levels (child_on l a p c) (child_on r b p c) (deeper p 5 c)) 32

-- ---- tests over lists

-- nothing is left of a list where all of it passes
nil_less : (f : Entry → Bool) (L : List Entry) → is_nil (map left_only (keep (λ e. not (f e)) L)) ≡ every f L
nil_less f [] = refl
nil_less f (e ∷ L) = split (f e) (λ t. rw (t, keep) (nil_less f L)) (λ t. rw (t, keep))

-- the same keys: neither difference has a record
by_differences : (L R : List Entry) → same_keys L R ≡ (is_nil (records_of Difference L R) && is_nil (records_of Difference R L))
by_differences L R = ap₂ ◌&&◌ (sym (nil_less (λ e. is_in e.at R) L)) (sym (nil_less (λ e. is_in e.at L) R))

every_both : {A : Type 0} (f g : A → Bool) (xs : List A) → (every f xs && every g xs) ≡ every (λ x. f x && g x) xs
every_both f g [] = refl
every_both f g (x ∷ xs) = swap (f x) (g x) (every f xs) (every g xs) ∙ ap ((f x && g x) &&◌) (every_both f g xs)
  where
    swap : (a b c d : Bool) → ((a && c) && (b && d)) ≡ ((a && b) && (c && d))
    swap true true c d = refl
    swap true false true d = refl
    swap true false false d = refl
    swap false b c d = refl

every_same : {A : Type 0} (f g : A → Bool) → ((x : A) → f x ≡ g x) → (xs : List A) → every f xs ≡ every g xs
every_same f g h [] = refl
every_same f g h (x ∷ xs) = ap₂ ◌&&◌ (h x) (every_same f g h xs)

-- one entry or none of one prefix on each side
entries_same : (q : Prefix) (u v : Value) → same_keys (entry_at q u) (entry_at q v) ≡ true → is_value u ≡ is_value v
entries_same q None None e = refl
entries_same q None (Some v) e = absurd (false≢true e)
entries_same q (Some u) None e = absurd (false≢true e)
entries_same q (Some u) (Some v) e = refl

same_entries : (q : Prefix) (u v : Value) → is_value u ≡ is_value v → same_keys (entry_at q u) (entry_at q v) ≡ true
same_entries q None None e = refl
same_entries q None (Some v) e = absurd (false≢true e)
same_entries q (Some u) None e = absurd (false≢true (sym e))
same_entries q (Some u) (Some v) e = rw (same_self q)

-- ---- the places of two nodes

pub whole_child : (p : Prefix) → Whole p → (lv : ℕ) → p.len + 5 * suc lv ≡ 65 → (c : ℕ) → Whole (deeper p 5 c)
whole_child p w zero e c = whole_long (deeper p 5 c) (omega arith)
whole_child p w (suc lv) e c = whole_deeper p w 5 (omega arith) c

side_good : (s : Side) (lv : ℕ) (o : Node) (p : Prefix) → Whole p → p.len + 5 * lv ≡ 65 → Good (side_entries s.pool s.root lv o p)
side_good s lv None p w e = record { asc = end; real = nil }
side_good s lv (Some i) p w e =
    let k = sound_under s.root p (entries_at s.pool lv i p) (sound s.pool lv i p w e) in
    record { asc = k.ascend; real = k.all_real }

module _ (lv : ℕ) (p : Prefix) (w : Whole p) (e : p.len + 5 * suc lv ≡ 65) where
  -- what the places of a side's node hold
  abbrev held : Side → Node → Place → List Entry
  held s o = side_held s.pool s.root lv o p

  fits : (s : Side) (o : Node) → Fits p (held s o)
  fits s o = side_fits s.pool s.root lv o p e

  held_good : (s : Side) (o : Node) (x : Place) → InNode x → Good (held s o x)
  held_good s o (data_place n v) i =
      record { asc = (fits s o).data_asc n v; real = all_imp (λ y q. rw q (whole_deeper p w n (omega (arith, i.0)) v, omega (arith, i.0))) ((fits s o).data_at n v) }
  held_good s o (child_place c) i = record { asc = (fits s o).child_asc c (whole_child p w lv e c); real = (fits s o).child_real c (whole_child p w lv e c) }

  held_long : (s : Side) (o : Node) (x : Place) → All (λ y. p.len + place_bits x ≤ y.len) (prefixes (held s o x))
  held_long s o (data_place n v) = all_imp (λ y q. rw q (omega arith)) ((fits s o).data_at n v)
  held_long s o (child_place c) = all_imp (λ y k. leads_len (deeper p 5 c) y k) ((fits s o).child_led c (whole_child p w lv e c))

  above_short : (s : Side) (o : Node) (x : Place) → Shorter (above_place p (held s o) none x) (p.len + place_bits x)
  above_short s o (data_place n v) = shorter_above s lv o p None tt n v
  above_short s o (child_place c) = shorter_above s lv o p None tt 5 c

  -- the difference of two nodes is that of their places
  node_less : (s t : Side) (a b : Node)
      → records_of Difference (side_entries s.pool s.root (suc lv) a p) (side_entries t.pool t.root (suc lv) b p) ≡ each (λ x. records_of Difference (held s a x) (held t b x)) places
  node_less s t a b =
      list_picks _ _ (side_good s (suc lv) a p w e) (side_good t (suc lv) b p w e) Difference ∙ by_places Difference s t lv a b p w e none none
      ∙ each_on (λ x. picks Difference (place_records p (held s a) (held t b) none none x)) (λ x. records_of Difference (held s a x) (held t b x)) at_place places_in_node
    where
      at_place : (x : Place) → InNode x → picks Difference (place_records p (held s a) (held t b) none none x) ≡ records_of Difference (held s a x) (held t b x)
      at_place x i =
          context Difference (held s a x) (held t b x) (held_good s a x i) (held_good t b x i) (p.len + place_bits x) (above_place p (held s a) none x) (above_place p (held t b) none x) none none
          (above_short s a x) (above_short t b x) tt tt refl refl (held_long s a x) (held_long t b x)
          ∙ sym (list_picks (held s a x) (held t b x) (held_good s a x i) (held_good t b x i) Difference)

  nil_places : (s t : Side) (a b : Node)
      → is_nil (records_of Difference (side_entries s.pool s.root (suc lv) a p) (side_entries t.pool t.root (suc lv) b p))
      ≡ every (λ x. is_nil (records_of Difference (held s a x) (held t b x))) places
  nil_places s t a b = ap is_nil (node_less s t a b) ∙ nil_each (λ x. records_of Difference (held s a x) (held t b x)) places

  -- two nodes hold the same prefixes where each place does
  by_every : (s t : Side) (a b : Node)
      → same_keys (side_entries s.pool s.root (suc lv) a p) (side_entries t.pool t.root (suc lv) b p) ≡ every (λ x. same_keys (held s a x) (held t b x)) places
  by_every s t a b =
      by_differences (side_entries s.pool s.root (suc lv) a p) (side_entries t.pool t.root (suc lv) b p) ∙ ap₂ ◌&&◌ (nil_places s t a b) (nil_places t s b a)
      ∙ every_both (λ x. is_nil (records_of Difference (held s a x) (held t b x))) (λ x. is_nil (records_of Difference (held t b x) (held s a x))) places
      ∙ every_same _ _ (λ x. sym (by_differences (held s a x) (held t b x))) places

-- the kept data bits are the same where each data place has a value on both sides or on none
kept_same : (l r : Side) (a b : Node) (p : Prefix) → ((n v : ℕ) → n ≤ 4 → v < 2 ^ n → held_by l.pool l.root a p (data_place n v) ≡ held_by r.pool r.root b p (data_place n v))
    → kept l a p ≡ kept r b p
unfolding words_of
kept_same l r a b p h = word_on (λ x. held_by l.pool l.root a p (data_place_at x)) (λ x. held_by r.pool r.root b p (data_place_at x)) here (up_below 31)
  where
    here : (x : ℕ) → x < 31 → held_by l.pool l.root a p (data_place_at x) ≡ held_by r.pool r.root b p (data_place_at x)
    here x i =
        let m = made (x + 1) (omega arith) (omega arith) in
        let k = place_len_below (x + 1) (omega arith) (omega arith) 5 (omega arith) in
        h (place_len (x + 1)) (place_value (x + 1)) (omega arith) m.value

-- ---- the law

module _ (l r : Side) where
  -- the same prefixes in what the two sides hold, so many levels deep
  abbrev same : ℕ → Node → Node → Prefix → Bool
  same lv a b p = same_keys (side_entries l.pool l.root lv a p) (side_entries r.pool r.root lv b p)

  module _ (lv : ℕ) (a b : Node) (p : Prefix) (w : Whole p) (e : p.len + 5 * suc lv ≡ 65)
      (below : (c : ℕ) → same lv (child_on l a p c) (child_on r b p c) (deeper p 5 c) ≡ equal_at l r lv (child_on l a p c) (child_on r b p c) (deeper p 5 c)) where
    abbrev at : Place → Bool
    at x = same_keys (side_held l.pool l.root lv a p x) (side_held r.pool r.root lv b p x)

    at_data : (n v : ℕ) → at (data_place n v) ≡ same_keys (entry_at (deeper p n v) (value_in l.pool l.root a n v (deeper p n v))) (entry_at (deeper p n v) (value_in r.pool r.root b n v (deeper p n v)))
    at_data n v = ap₂ same_keys (side_data l.pool l.root lv a p n v) (side_data r.pool r.root lv b p n v)

    at_child : (c : ℕ) → at (child_place c) ≡ equal_at l r lv (child_on l a p c) (child_on r b p c) (deeper p 5 c)
    at_child c =
        let k = whole_child p w lv e c in
        ap₂ same_keys (side_child l.pool l.root lv a p c k e) (side_child r.pool r.root lv b p c k e) ∙ below c

    all_kept : All (λ x. at x ≡ true) places → kept l a p ≡ kept r b p
    all_kept h =
        kept_same l r a b p
        (λ n v i k. entries_same (deeper p n v) (value_in l.pool l.root a n v (deeper p n v)) (value_in r.pool r.root b n v (deeper p n v)) (sym (at_data n v) ∙ place_all h (data_place n v) (i, k)))

    each_place : equal_at l r (suc lv) a b p ≡ true → (x : Place) → InNode x → at x ≡ true
    each_place h (data_place n v) i =
        let k = eqb-true (kept l a p) (kept r b p) (and_left _ _ h) in
        at_data n v
        ∙ same_entries (deeper p n v) (value_in l.pool l.root a n v (deeper p n v)) (value_in r.pool r.root b n v (deeper p n v))
        (sym (kept_bit_lem l.pool l.root a p n v i.0 i.1) ∙ ap (bit (data_bit n v)) k ∙ kept_bit_lem r.pool r.root b p n v i.0 i.1)
    each_place h (child_place c) i =
        at_child c
        ∙ below_at (λ c. equal_at l r lv (child_on l a p c) (child_on r b p c) (deeper p 5 c)) 32 (and_right (eqb (kept l a p) (kept r b p)) _ h) c i

    one_level : same (suc lv) a b p ≡ equal_at l r (suc lv) a b p
    one_level =
        by_every lv p w e l r a b
        ∙ both_ways (every at places) (equal_at l r (suc lv) a b p)
        (λ h.
        let k = every_all at places h in
        both_true (eq-eqb _ _ (all_kept k)) (below_of _ 32 (λ c i. sym (at_child c) ∙ place_all k (child_place c) i)))
        (λ h. all_every at (all_imp (each_place h) places_in_node))

  -- FOR CALLERS: two nodes hold the same prefixes exactly where they are equal level by level
  pub equal_says : (lv : ℕ) (a b : Node) (p : Prefix) → Whole p → p.len + 5 * lv ≡ 65 → same lv a b p ≡ equal_at l r lv a b p
  equal_says zero None None p w e = refl
  equal_says zero None (Some j) p w e = refl
  equal_says zero (Some i) None p w e = refl
  equal_says zero (Some i) (Some j) p w e = refl
  equal_says (suc lv) a b p w e =
      one_level lv a b p w e (λ c. equal_says lv (child_on l a p c) (child_on r b p c) (deeper p 5 c) (whole_child p w lv e c) (omega arith))
