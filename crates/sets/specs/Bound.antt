-- A pool without a fault has at most as many entries as values, so that its last node says how many records a list may have.
use Rattle.std.specs.Prelude.{◌≡◌, refl, Bool, true, false, not, List, [], ◌∷◌, ◌++◌, ℕ, zero, suc, ◌+◌, ◌*◌, ◌-◌, ◌/◌, ◌%◌, ◌^◌, ◌≤◌, length}
use Rattle.std.proofs.Common.{sym, ◌∙◌, ap, le_trans, mod-lt, zero-add, mul-add, add-mul, mul_assoc, eqb-true, length-append}
use Rattle.std.proofs.Math.Option.{none, some}
use native.Mathlib.Omega.{arith}
use Rattle.std.proofs.lemmas.Bool.{eqb-false}
use Rattle.std.proofs.lemmas.List.{length-map}
use Rattle.defs.specs.declared.Prefix.{Prefix}
use Rattle.defs.specs.declared.Operation.{Operation}
use Rattle.defs.specs.declared.Operation.TheVariants.{Union, Intersection, Difference, CoveringDifference, CoveringUnion}
use Rattle.defs.specs.Basics.{if◌then◌otherwise◌, keep, each}
use Rattle.defs.specs.Prefix.{leads, before, deeper, top}
use Rattle.defs.specs.Pool.{node_count, data_of, child_of, first_child, bit, rank, ones, data_bit}
use Rattle.defs.specs.Entries.{Entry, Place, data_place, child_place, places_at, places, held_at, entries_at, all_entries, prefixes}
use Rattle.defs.specs.Check.{pool_limit}
use Rattle.defs.specs.Lists.{put, merge, all_of, find, is_in, is_led, longest, plain, covered, left_only, records_of}
use Rattle.defs.specs.Outcome.{Side, entries_of}
use Rattle.defs.specs.Lemmas.{length_keep, split, each_append}
use Rattle.bits.specs.WordLaws.{rank_le, rank_suc}
use Rattle.pool.specs.Sound.{Formed, children_before, values_before, children_mono, children_all, values_mono, values_small}
use Rattle.view.specs.Spreads.{one}

-- f at `count` numbers from a on, added up
abbrev pub sum_from : (ℕ → ℕ) → ℕ → ℕ → ℕ
sum_from f a zero = 0
sum_from f a (suc n) = sum_from f a n + f (a + n)

sum_join : (f : ℕ → ℕ) (a m n : ℕ) → sum_from f a (m + n) ≡ sum_from f a m + sum_from f (a + m) n
sum_join f a m zero = let e : m + 0 ≡ m = omega arith in rw e (omega arith)
sum_join f a m (suc n) =
    let e : m + suc n ≡ suc (m + n) = omega arith in
    let g : a + (m + n) ≡ a + m + n = omega arith in
    rw e (omega (arith, sum_join f a m n, ap f g))

-- at most so many entries lie in node i and below it
abbrev pub most : List ℕ → ℕ → ℕ → ℕ
most w zero i = 0
most w (suc lv) i = ones (data_of w i) + sum_from (most w lv) (first_child w i) (ones (child_of w i))

-- the set data bits of a bitmap at the place of n bits of value v and k levels down from it
abbrev bits_in : ℕ → ℕ → ℕ → ℕ → ℕ
bits_in d zero n v = 0
bits_in d (suc k) n v = one (bit (data_bit n v) d) + (bits_in d k (suc n) (2 * v) + bits_in d k (suc n) (2 * v + 1))

one_more : (b d : ℕ) → rank (suc b) d ≡ rank b d + one (bit b d)
one_more b d =
    split (bit b d) (λ e. rw e (omega (arith, rank_suc b d, eqb-true (d / 2 ^ b % 2) 1 e)))
    (λ e. let n : d / 2 ^ b % 2 ≡ 1 → ⊥ = eqb-false (d / 2 ^ b % 2) 1 e in rw e (omega (arith, rank_suc b d, mod-lt (d / 2 ^ b) {m = 2} (omega arith))))

-- the bits of the first four levels, and those of the fifth
low_bits : (d : ℕ) → one (bit 0 d) + one (bit 1 d) + one (bit 2 d) + one (bit 3 d) + one (bit 4 d) + one (bit 5 d) + one (bit 6 d) + one (bit 7 d) + one (bit 8 d) + one (bit 9 d) + one (bit 10 d) + one (bit 11 d) + one (bit 12 d) + one (bit 13 d) + one (bit 14 d) ≤ rank 15 d
low_bits d = omega (arith, one_more 0 d, one_more 1 d, one_more 2 d, one_more 3 d, one_more 4 d, one_more 5 d, one_more 6 d, one_more 7 d, one_more 8 d, one_more 9 d, one_more 10 d, one_more 11 d, one_more 12 d, one_more 13 d, one_more 14 d)

high_bits : (d : ℕ) → one (bit 15 d) + one (bit 16 d) + one (bit 17 d) + one (bit 18 d) + one (bit 19 d) + one (bit 20 d) + one (bit 21 d) + one (bit 22 d) + one (bit 23 d) + one (bit 24 d) + one (bit 25 d) + one (bit 26 d) + one (bit 27 d) + one (bit 28 d) + one (bit 29 d) + one (bit 30 d) + rank 15 d ≤ ones d
high_bits d = omega (arith, one_more 15 d, one_more 16 d, one_more 17 d, one_more 18 d, one_more 19 d, one_more 20 d, one_more 21 d, one_more 22 d, one_more 23 d, one_more 24 d, one_more 25 d, one_more 26 d, one_more 27 d, one_more 28 d, one_more 29 d, one_more 30 d, one_more 31 d)

-- all 31 places are counted once
bits_in_lem : (d : ℕ) → bits_in d 5 0 0 ≤ ones d
bits_in_lem d = omega (arith, low_bits d, high_bits d)

-- what a child place may hold
abbrev kid : List ℕ → ℕ → ℕ → ℕ → ℕ
kid w lv i c = if bit c (child_of w i) then most w lv (first_child w i + rank c (child_of w i)) otherwise 0

module _ (w : List ℕ) (lv : ℕ) (i : ℕ) where
  kids_sum : (m : ℕ) → sum_from (kid w lv i) 0 m ≡ sum_from (most w lv) (first_child w i) (rank m (child_of w i))
  kids_sum zero = let z : rank 0 (child_of w i) ≡ 0 = omega (arith, rank_le 0 (child_of w i)) in rw z
  kids_sum (suc m) =
      split (bit m (child_of w i))
      (λ b.
      let e : rank (suc m) (child_of w i) ≡ suc (rank m (child_of w i)) = omega (arith, rank_suc m (child_of w i), eqb-true (child_of w i / 2 ^ m % 2) 1 b) in
      let k : kid w lv i (0 + m) ≡ most w lv (first_child w i + rank m (child_of w i)) = ap (kid w lv i) (zero-add m) ∙ rw b in
      rw e (omega (arith, kids_sum m)))
      (λ b.
      let n : child_of w i / 2 ^ m % 2 ≡ 1 → ⊥ = eqb-false (child_of w i / 2 ^ m % 2) 1 b in
      let e : rank (suc m) (child_of w i) ≡ rank m (child_of w i) = omega (arith, rank_suc m (child_of w i), mod-lt (child_of w i / 2 ^ m) {m = 2} (omega arith)) in
      let k : kid w lv i (0 + m) ≡ 0 = ap (kid w lv i) (zero-add m) ∙ rw b in
      rw e (omega (arith, kids_sum m)))

  module _ (p : Prefix) (below : (j : ℕ) (q : Prefix) → length (entries_at w lv j q) ≤ most w lv j) where
    abbrev held : Place → List Entry
    held = held_at w (entries_at w lv) i p

    data_most : (n v : ℕ) → length (held (data_place n v)) ≤ one (bit (data_bit n v) (data_of w i))
    data_most n v = split (bit (data_bit n v) (data_of w i)) (λ b. rw b (omega arith)) (λ b. rw b (omega arith))

    child_most : (c : ℕ) → length (held (child_place c)) ≤ kid w lv i c
    child_most c = split (bit c (child_of w i)) (λ b. rw b (below _ (deeper p 5 c))) (λ b. rw b (omega arith))

    tree_most : (k n v : ℕ) → length (each held (places_at k n v)) ≤ bits_in (data_of w i) k n v + sum_from (kid w lv i) (v * 2 ^ k) (2 ^ k)
    tree_most zero n v =
        let e : v * 1 + 0 ≡ v = omega arith in
        let h = child_most v in
        omega (arith, length-append (held (child_place v)) [], ap (kid w lv i) e)
    tree_most (suc k) n v =
        let u = 2 ^ k in
        let s : 2 ^ suc k ≡ u + u = omega arith in
        let a : v * (u + u) ≡ 2 * v * u = omega (arith, mul-add v u u, mul_assoc 2 v u) in
        let b : 2 * v * u + u ≡ (2 * v + 1) * u = omega (arith, add-mul (2 * v) 1 u) in
        let A = each held (places_at k (suc n) (2 * v)) in
        let B = each held (places_at k (suc n) (2 * v + 1)) in
        let h = tree_most k (suc n) (2 * v) in
        let g = tree_most k (suc n) (2 * v + 1) in
        let t = data_most n v in
        rw (s, each_append held (places_at k (suc n) (2 * v)) (places_at k (suc n) (2 * v + 1)))
        (omega (arith, length-append (held (data_place n v)) (A ++ B), length-append A B, ap (λ (x : ℕ). sum_from (kid w lv i) x (u + u)) a, sum_join (kid w lv i) (2 * v * u) u u, ap (λ (x : ℕ). sum_from (kid w lv i) x u) b))

    node_most : length (entries_at w (suc lv) i p) ≤ most w (suc lv) i
    unfolding places
    node_most = both _ _ _ _ _ (tree_most 5 0 0) (bits_in_lem (data_of w i)) (kids_sum 32)
      where
        both : (x a b c d : ℕ) → x ≤ a + b → a ≤ c → b ≡ d → x ≤ c + d
        both x a b c d h k e = omega arith

entries_most : (w : List ℕ) (lv i : ℕ) (p : Prefix) → length (entries_at w lv i p) ≤ most w lv i
entries_most w zero i p = omega arith
entries_most w (suc lv) i p = node_most w lv i p (entries_most w lv)

module _ (width : ℕ) (w : List ℕ) (formed : Formed width w) where
  -- the children of m nodes from node a on are d nodes from the first child of node a on
  range : (lv a m d : ℕ) → a + m ≤ node_count w → children_before w (a + m) ≡ children_before w a + d
      → sum_from (most w (suc lv)) a m + values_before w a ≡ values_before w (a + m) + sum_from (most w lv) (1 + children_before w a) d
  range lv a zero d h e =
      let y : a + 0 ≡ a = omega arith in
      let z : d ≡ 0 = omega (arith, ap (children_before w) y) in
      rw z (omega (arith, ap (values_before w) y))
  range lv a (suc m) d h e =
      let k = a + m in
      let s : a + suc m ≡ suc k = omega arith in
      let c : children_before w (suc k) ≡ children_before w a + d = ap (children_before w) (sym s) ∙ e in
      let g = children_mono width w formed a k (omega arith) in
      let d' = children_before w k - children_before w a in
      let split-d : d ≡ d' + ones (child_of w k) = omega arith in
      let first : first_child w k ≡ 1 + children_before w a + d' = omega (arith, (formed.node k (omega arith)).child) in
      rw (split-d, sum_join (most w lv) (1 + children_before w a) d' (ones (child_of w k)), ← first)
      (omega (arith, range lv a m d' (omega arith) (omega arith), ap (values_before w) s))

  level_most : (lv a m : ℕ) → a + m ≤ node_count w → a + m ≤ 1 + children_before w a → sum_from (most w lv) a m + values_before w a ≤ values_before w (node_count w)
  level_most zero a m h g = omega (arith, none a m, values_mono width w formed a (node_count w) (omega arith))
    where
      none : (a m : ℕ) → sum_from (most w 0) a m ≡ 0
      none a zero = refl
      none a (suc m) = rw (none a m)
  level_most (suc lv) a m h g =
      let mono = children_mono width w formed a (a + m) (omega arith) in
      let d = children_before w (a + m) - children_before w a in
      let up = children_mono width w formed (a + m) (node_count w) h in
      let next = children_mono width w formed (a + m) (1 + children_before w a) g in
      let r = range lv a m d h (omega arith) in
      let more = values_mono width w formed (a + m) (1 + children_before w a) g in
      let ih = level_most lv (1 + children_before w a) d (omega (arith, children_all width w formed)) (omega arith) in
      omega arith

  -- at most as many entries as values
  pub all_most : length (all_entries w) ≤ values_before w (node_count w)
  all_most = omega (arith, entries_most w 13 0 top, level_most 13 0 1 formed.some (omega arith))

put_most : (p : Prefix) (a : List Prefix) → length (put p a) ≤ suc (length a)
put_most p [] = omega arith
put_most p (q ∷ a) = go (before p q) (before q p) (put_most p a)
  where
    go : (b c : Bool) → length (put p a) ≤ suc (length a) → length (if b then p ∷ q ∷ a otherwise if c then q ∷ put p a otherwise q ∷ a) ≤ suc (suc (length a))
    go true c h = omega arith
    go false true h = omega arith
    go false false h = omega arith

merge_most : (a b : List Prefix) → length (merge a b) ≤ length a + length b
merge_most [] b = omega arith
merge_most (p ∷ a) b = omega (arith, put_most p (merge a b), merge_most a b)

-- the most records of a list of sides with a and b entries: those of the left one, or of both
abbrev pub most_from : Operation → ℕ → ℕ → ℕ
most_from Union a b = a + b
most_from Intersection a b = a
most_from Difference a b = a
most_from CoveringDifference a b = a
most_from CoveringUnion a b = a + b

records_most : (op : Operation) (L R : List Entry) → length (records_of op L R) ≤ most_from op (length L) (length R)
records_most Union L R =
    rw (length-map (all_of L R) (λ p. plain p (find p L) (find p R)))
    (omega (arith, merge_most (prefixes L) (prefixes R), length-map L (λ (e : Entry). e.at), length-map R (λ (e : Entry). e.at)))
records_most Intersection L R = rw (length-map (keep (λ e. is_in e.at R) L) (λ e. plain e.at (some e) (find e.at R))) (length_keep (λ e. is_in e.at R) L)
records_most Difference L R = rw (length-map (keep (λ e. not (is_in e.at R)) L) left_only) (length_keep (λ e. not (is_in e.at R)) L)
records_most CoveringDifference L R = rw (length-map (keep (λ e. not (is_led e.at R)) L) left_only) (length_keep (λ e. not (is_led e.at R)) L)
records_most CoveringUnion L R =
    rw (length-map (all_of L R) (λ p. covered p (find p L) (find p R) (longest none L p) (longest none R p)))
    (omega (arith, merge_most (prefixes L) (prefixes R), length-map L (λ (e : Entry). e.at), length-map R (λ (e : Entry). e.at)))

most_grows : (op : Operation) (a b c d : ℕ) → a ≤ c → b ≤ d → most_from op a b ≤ most_from op c d
most_grows Union a b c d h k = omega arith
most_grows Intersection a b c d h k = h
most_grows Difference a b c d h k = h
most_grows CoveringDifference a b c d h k = h
most_grows CoveringUnion a b c d h k = omega arith

-- the values of a pool
abbrev pub values_of : List ℕ → ℕ
values_of w = values_before w (node_count w)

-- a list of two pools without faults has at most as many records as they have values
module _ (op : Operation) (width : ℕ) (l r : Side) (f : Formed width l.pool) (g : Formed width r.pool) where
  pub list_most : length (records_of op (entries_of l) (entries_of r)) ≤ most_from op (values_of l.pool) (values_of r.pool)
  list_most =
      le_trans (records_most op (entries_of l) (entries_of r))
      (most_grows op _ _ _ _
      (omega (arith, length_keep (λ e. leads l.root e.at) (all_entries l.pool), all_most width l.pool f))
      (omega (arith, length_keep (λ e. leads r.root e.at) (all_entries r.pool), all_most width r.pool g)))

-- a pool has at most 31 values for each node
pub values_fit : (width : ℕ) (w : List ℕ) → Formed width w → values_of w ≤ 31 * pool_limit
values_fit width w f = omega (arith, values_small width w f (node_count w) (omega arith), f.most)
