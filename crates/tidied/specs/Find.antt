-- Where an entry stands in a pool, whatever its words are: what has a place's prefix is what the place holds.
use Rattle.std.specs.Prelude.{◌≡◌, refl, Bool, true, false, ◌&&◌, List, [], ◌∷◌, ◌++◌, ℕ, zero, suc, ◌+◌, ◌^◌, ◌≤◌, ◌<◌, ltb, eqb, length}
use Rattle.std.proofs.Common.{sym, ap, ap₂, ◌∙◌, append-nil, arith, not-suc-le-zero, ltb-true, ltb-false, eqb-true, eq-eqb, ⊎_elim, le_of_suc-le-suc, eq-or-lt_of_le}
use Rattle.defs.specs.declared.Prefix.{Prefix}
use Rattle.defs.specs.Basics.{if◌then◌otherwise◌, keep, every, each, up_to}
use Rattle.defs.specs.Prefix.{leads, same, deeper}
use Rattle.defs.specs.Pool.{data_of, child_of, first_child, first_value, bit, rank, data_bit}
use Rattle.defs.specs.Entries.{Entry, Place, data_place, child_place, places, held_at, entries_at, all_entries, under, prefixes}
use Rattle.defs.specs.Lemmas.{All, nil, more, split, not_both, is_false, and_left, and_right, all_imp, all_kept, all_unmap, keep_true, keep_false, keep_append}
use Rattle.defs.specs.PrefixLaws.{Whole, same_self, same_says}
use Rattle.defs.proofs.PrefixLaws.{leads_len, leads_self, leads_trans}
use Rattle.defs.specs.NodeLaws.{Fits}
use Rattle.defs.proofs.EntryLaws.{sound, sound_all, held_fits}
use Rattle.defs.proofs.DeeperLaws.{deeper_apart, leads_deeper}
use Rattle.tidied.specs.ListFacts.{keep_within}
use Rattle.tidied.specs.Halving.{onto, under_none}
use Rattle.tidied.specs.Count.{Deep, deep_child}

-- ---- places

-- the same place
abbrev same_place : Place → Place → Bool
same_place (data_place n v) (data_place m u) = eqb n m && eqb v u
same_place (data_place n v) (child_place d) = false
same_place (child_place c) (data_place m u) = false
same_place (child_place c) (child_place d) = eqb c d

-- a place as a node has it
abbrev pub is_place : Place → Bool
is_place (data_place n v) = ltb n 5 && ltb v (2 ^ n)
is_place (child_place c) = ltb c 32

place_says : (x y : Place) → same_place x y ≡ true → y ≡ x
place_says (data_place n v) (data_place m u) h = ap₂ data_place (sym (eqb-true n m (and_left _ _ h))) (sym (eqb-true v u (and_right (eqb n m) _ h)))
place_says (data_place n v) (child_place d) h = not_both h refl
place_says (child_place c) (data_place m u) h = not_both h refl
place_says (child_place c) (child_place d) h = ap child_place (sym (eqb-true c d h))

every_all : {A : Type 0} (f : A → Bool) (a : List A) → every f a ≡ true → All (λ x. f x ≡ true) a
every_all f [] h = nil
every_all f (x ∷ a) h = more (and_left _ _ h) (every_all f a (and_right (f x) _ h))

every_join : {A : Type 0} (f : A → Bool) (a : List A) (x : A) → every f (a ++ (x ∷ [])) ≡ true → (every f a ≡ true) × (f x ≡ true)
every_join f [] x h = (refl, and_left _ _ h)
every_join f (y ∷ a) x h = let r = every_join f a x (and_right (f y) _ h) in (ap₂ ◌&&◌ (and_left (f y) _ h) r.0, r.1)

pub every_up_to : (f : ℕ → Bool) (n i : ℕ) → every f (up_to n) ≡ true → i < n → f i ≡ true
every_up_to f zero i h l = absurd (not-suc-le-zero l)
every_up_to f (suc n) i h l =
    let r = every_join f (up_to n) n h in
    ⊎_elim (λ e. ap f e ∙ r.1) (λ k. every_up_to f n i r.0 k) (eq-or-lt_of_le (le_of_suc-le-suc l))

-- a place is one of the places, once
abbrev once : Place → Bool
once y = eqb (length (keep (same_place y) places)) 1

pub are_places : All (λ x. is_place x ≡ true) places
unfolding places
are_places = every_all is_place places refl

once_data : (n v : ℕ) → n < 5 → v < 2 ^ n → once (data_place n v) ≡ true
unfolding places
once_data n v h l = every_up_to (λ v. once (data_place n v)) (2 ^ n) v (every_up_to (λ n. every (λ v. once (data_place n v)) (up_to (2 ^ n))) 5 n refl h) l

once_child : (c : ℕ) → c < 32 → once (child_place c) ≡ true
unfolding places
once_child c h = every_up_to (λ c. once (child_place c)) 32 c refl h

-- where only place y gives something
module _ {B : Type 0} (g : Place → List B) (y : Place) (others : (x : Place) → is_place x ≡ true → same_place y x ≡ false → g x ≡ []) where
  only_kept : {xs : List Place} → All (λ x. is_place x ≡ true) xs → each g xs ≡ each g (keep (same_place y) xs)
  only_kept nil = refl
  only_kept (more {x = x} {xs = xs} h hs) =
      split (same_place y x) (λ e. rw (e, keep) (ap (g x ++◌) (only_kept hs))) (λ e. rw (e, keep) (ap (◌++ each g xs) (others x h e) ∙ only_kept hs))

  only_one : (l : List Place) → All (λ x. x ≡ y) l → length l ≡ 1 → each g l ≡ g y
  only_one [] h e = absurd (let z : ⊥ = omega arith in z)
  only_one (x ∷ []) (more h nil) e = append-nil (g x) ∙ ap g h
  only_one (x ∷ z ∷ l) h e = absurd (let z : ⊥ = omega arith in z)

  only_at : once y ≡ true → each g places ≡ g y
  only_at h =
      only_kept are_places
      ∙ only_one (keep (same_place y) places) (all_imp (λ x t. place_says y x t) (all_kept (same_place y) places)) (eqb-true (length (keep (same_place y) places)) 1 h)

keep_each : {A : Type 0} (t : Entry → Bool) (f : A → List Entry) (xs : List A) → keep t (each f xs) ≡ each (λ x. keep t (f x)) xs
keep_each t f [] = refl
keep_each t f (x ∷ xs) = keep_append t (f x) (each f xs) ∙ ap (keep t (f x) ++◌) (keep_each t f xs)

-- ---- one node
module _ (p : Prefix) (held : Place → List Entry) (f : Fits p held) (wp : Whole p) (small : p.len ≤ 60)
    (kids : (c : ℕ) → Whole (deeper p 5 c)) where
  entries_of_lem : {P : Prefix → Type 0} (x : Place) → All P (prefixes (held x)) → All (λ e. P e.at) (held x)
  entries_of_lem x h = all_unmap (λ (e : Entry). e.at) (held x) h

  -- what has the prefix of a data place is what the place holds
  node_data : (n v : ℕ) → n < 5 → v < 2 ^ n → onto (each held places) (deeper p n v) ≡ held (data_place n v)
  node_data n v h l =
      keep_each (λ e. same q e.at) held places
      ∙ only_at (λ x. onto (held x) q) (data_place n v) others (once_data n v h l)
      ∙ keep_true (λ e. same q e.at) (all_imp (λ (e : Entry) i. ap (same q) i ∙ same_self q) (entries_of_lem (data_place n v) (f.data_at n v)))
    where
      q : Prefix
      q = deeper p n v

      others : (x : Place) → is_place x ≡ true → same_place (data_place n v) x ≡ false → onto (held x) q ≡ []
      others (data_place m u) i t = keep_false (λ e. same q e.at) (all_imp (λ (e : Entry) j. ap (same q) j ∙ is_false (same q (deeper p m u)) no) (entries_of_lem (data_place m u) (f.data_at m u)))
        where
          no : same q (deeper p m u) ≡ true → ⊥
          no k =
              let e = same_says q (deeper p m u) k in
              let a : n ≡ m = omega (arith, ap (λ (x : Prefix). x.len) e) in
              let b : deeper p n u ≡ q = ap (λ (x : ℕ). deeper p x u) a ∙ sym e in
              let d : v ≡ u = deeper_apart p wp n (omega arith) v u q (leads_self q) (ap (λ (x : Prefix). leads x q) b ∙ leads_self q) in
              let z : same_place (data_place n v) (data_place m u) ≡ true = ap₂ ◌&&◌ (eq-eqb n m a) (eq-eqb v u d) in
              not_both z t
      others (child_place c) i t =
          keep_false (λ e. same q e.at)
          (all_imp (λ (e : Entry) j. is_false _ (λ k. omega (arith, leads_len (deeper p 5 c) e.at j, ap (λ (x : Prefix). x.len) (same_says q e.at k))))
          (entries_of_lem (child_place c) (f.child_led c (kids c))))

  -- what is below the prefix of a child place is what the place holds
  node_child : (c : ℕ) → c < 32 → p.len + 5 ≤ 64 → under (deeper p 5 c) (each held places) ≡ held (child_place c)
  node_child c l short =
      keep_each (λ e. leads q e.at) held places
      ∙ only_at (λ x. under q (held x)) (child_place c) others (once_child c l)
      ∙ keep_true (λ e. leads q e.at) (entries_of_lem (child_place c) (f.child_led c (kids c)))
    where
      q : Prefix
      q = deeper p 5 c

      others : (x : Place) → is_place x ≡ true → same_place (child_place c) x ≡ false → under q (held x) ≡ []
      others (data_place m u) i t =
          let k : m < 5 = ltb-true m 5 (and_left _ _ i) in
          keep_false (λ e. leads q e.at)
          (all_imp (λ (e : Entry) j. is_false _ (λ h. omega (arith, leads_len q e.at h, ap (λ (x : Prefix). x.len) j))) (entries_of_lem (data_place m u) (f.data_at m u)))
      others (child_place d) i t =
          keep_false (λ e. leads q e.at)
          (all_imp (λ (e : Entry) j. is_false _ (λ h. not_both (eq-eqb c d (deeper_apart p wp 5 short c d e.at h j)) t)) (entries_of_lem (child_place d) (f.child_led d (kids d))))

-- ---- all entries of a pool
module _ (w : List ℕ) where
  -- node i has prefix p, with so many levels left: it holds what is below p
  pub record Seen (levels i : ℕ) (p : Prefix) : Type 0 where
    pub deep : Deep levels p
    pub held : under p (all_entries w) ≡ entries_at w levels i p

  module _ (levels i : ℕ) (p : Prefix) (s : Seen (suc levels) i p) where
    abbrev held_in : Place → List Entry
    held_in = held_at w (entries_at w levels) i p

    fit : Fits p held_in
    fit = held_fits w levels (sound w levels) i p s.deep.1

    small : p.len ≤ 60
    small = omega (arith, s.deep.1)

    kids : (c : ℕ) → Whole (deeper p 5 c)
    kids c = (deep_child levels p s.deep c).0

    -- the entry of a data place's prefix
    pub seen_data : (n v : ℕ) → n < 5 → v < 2 ^ n
        → onto (all_entries w) (deeper p n v)
        ≡ (if bit (data_bit n v) (data_of w i) then record { at = deeper p n v; value = first_value w i + rank (data_bit n v) (data_of w i) } ∷ [] otherwise [])
    seen_data n v h l =
        sym (keep_within (λ e. same q e.at) (λ e. leads p e.at) (all_entries w)
        (λ (e : Entry) t. ap (leads p) (sym (same_says q e.at t)) ∙ leads_deeper p s.deep.0 n (omega (arith, small)) v l))
        ∙ ap (λ (x : List Entry). onto x q) s.held
        ∙ node_data p held_in fit s.deep.0 small kids n v h l
      where
        q : Prefix
        q = deeper p n v

    -- what is below a child's prefix
    pub seen_child : (c : ℕ) → c < 32
        → under (deeper p 5 c) (all_entries w) ≡ (if bit c (child_of w i) then entries_at w levels (first_child w i + rank c (child_of w i)) (deeper p 5 c) otherwise [])
    seen_child c l = split (ltb 64 (p.len + 5)) last inside
      where
        q : Prefix
        q = deeper p 5 c

        last : ltb 64 (p.len + 5) ≡ true → under q (all_entries w) ≡ held_in (child_place c)
        last t = under_none (all_entries w) (sound_all w) q (ltb-true 64 (p.len + 5) t) ∙ sym (fit.child_none (omega (arith, ltb-true 64 (p.len + 5) t)) c)

        inside : ltb 64 (p.len + 5) ≡ false → under q (all_entries w) ≡ held_in (child_place c)
        inside t =
            let short : p.len + 5 ≤ 64 = ltb-false 64 (p.len + 5) t in
            sym (keep_within (λ e. leads q e.at) (λ e. leads p e.at) (all_entries w)
            (λ (e : Entry) k. leads_trans p q e.at (leads_deeper p s.deep.0 5 short c l) k))
            ∙ ap (under q) s.held
            ∙ node_child p held_in fit s.deep.0 small kids c l short

    -- so its child is seen too
    pub seen_kid : (c : ℕ) → c < 32 → bit c (child_of w i) ≡ true → Seen levels (first_child w i + rank c (child_of w i)) (deeper p 5 c)
    seen_kid c l b = record { deep = deep_child levels p s.deep c; held = seen_child c l ∙ rw b refl }
