-- The nodes of a pool level by level, each with its prefix, and which of them a tidy pool has.
use Rattle.std.specs.Prelude.{◌≡◌, refl, Bool, true, ℕ, zero, suc, ◌+◌, ◌*◌, ◌/◌, ◌%◌, ◌^◌, ◌≤◌, ◌<◌, ltb, length}
use Rattle.std.proofs.Math.Path.{sym, ap}
use Rattle.std.proofs.Common.{ap₂, ◌∙◌, subst, arith, le_refl, add-zero, ltb-true, ltb-false, eqb-true, length-append}
use Rattle.std.proofs.Math.Bool.{false}
use mathlib.Core.List.{List, [], ◌∷◌, ◌++◌, map, append-nil}
use Rattle.std.proofs.Math.Decide.{le_ind}
use Rattle.std.proofs.lemmas.Bool.{eqb-false}
use Rattle.std.specs.Int.Count.{ones_in}
use Rattle.std.proofs.lemmas.List.{length-map}
use Rattle.defs.specs.declared.Prefix.{Prefix}
use Rattle.defs.specs.Basics.{if◌then◌otherwise◌, keep, each, up_to}
use Rattle.defs.specs.Prefix.{leads, deeper, top}
use Rattle.defs.specs.Pool.{node_count, data_of, child_of, first_child, first_value, bit, rank, ones}
use Rattle.defs.specs.Entries.{Entry, all_entries, under, view}
use Rattle.defs.specs.Tidy.{child_prefixes, is_under, children_of, nodes_from, nodes_of}
use Rattle.defs.specs.Lemmas.{length_keep, All, nil, more, split, not_both, is_false, all_append, all_imp, keep_append, keep_false, map_append, each_append}
use Rattle.defs.specs.PrefixLaws.{whole_top}
use Rattle.defs.proofs.PrefixLaws.{leads_trans}
use Rattle.defs.proofs.EntryLaws.{sound_all}
use Rattle.defs.proofs.DeeperLaws.{leads_deeper}
use Rattle.bits.specs.WordLaws.{rank_suc}
use Rattle.pool.specs.Sound.{Formed, children_before, values_before, depth, depth_60, data_small, children_all, child_node}
use Rattle.tidied.specs.ListFacts.{run, length_run, run_append, up_to_run, any_imp, any_full, full, keep_swap, each_ext, all_each, all_up_to, map_each}
use Rattle.tidied.specs.Halving.{under_top, under_none}
use Rattle.tidied.specs.Holds.{view_sound}
use Rattle.tidied.specs.Count.{Deep}
use Rattle.tidied.specs.Find.{Seen, seen_child, seen_kid}

-- a node and its prefix
pub record Spot : Type 0 where
  pub node : ℕ
  pub at : Prefix

-- the root
abbrev pub root_spot : Spot
root_spot = record { node = 0; at = top }

-- the child in place c of a node
abbrev pub kid_at : List ℕ → Spot → ℕ → Spot
kid_at w s c = record { node = first_child w s.node + rank c (child_of w s.node); at = deeper s.at 5 c }

-- the same where there is one
abbrev pub kids_at : List ℕ → Spot → ℕ → List Spot
kids_at w s c = if bit c (child_of w s.node) then kid_at w s c ∷ [] otherwise []

-- the children of a node
unfoldable pub spots_under : List ℕ → Spot → List Spot
spots_under w s = each (kids_at w s) (up_to 32)

-- the nodes from one level on, level by level
abbrev pub spots_from : List ℕ → ℕ → List Spot → List Spot
spots_from w zero ss = []
spots_from w (suc k) ss = ss ++ spots_from w k (each (spots_under w) ss)

-- the nodes of a pool but the root
unfoldable pub inner_spots : List ℕ → List Spot
inner_spots w = spots_from w 12 (spots_under w root_spot)

-- the nodes of a pool, level by level
abbrev pub spots : List ℕ → List Spot
spots w = root_spot ∷ inner_spots w

-- the numbers of nodes
abbrev pub ids : List Spot → List ℕ
ids = map (λ s. s.node)

-- ---- their numbers

-- a bit, as 0 or 1
bit_of : (b x : ℕ) → (if bit b x then 1 otherwise 0) ≡ x / 2 ^ b % 2
bit_of b x =
    split (bit b x) (λ e. rw e (sym (eqb-true (x / 2 ^ b % 2) 1 e)))
    (λ e. let n = eqb-false (x / 2 ^ b % 2) 1 e in rw e (let z : 0 ≡ x / 2 ^ b % 2 = small (x / 2 ^ b) n in z))
  where
    small : (y : ℕ) → (y % 2 ≡ 1 → ⊥) → 0 ≡ y % 2
    small y n = omega arith

-- the numbers that a word's bits give, one after the other
pub rank_run : (f x m : ℕ) → each (λ c. if bit c x then (f + rank c x) ∷ [] otherwise []) (up_to m) ≡ run f (rank m x)
unfolding ones_in
rank_run f x zero = refl
rank_run f x (suc m) =
    each_append g (up_to m) (m ∷ [])
    ∙ ap₂ ◌++◌ (rank_run f x m) (append-nil (g m))
    ∙ go (bit m x)
    ∙ ap (run f) (ap (rank m x +◌) (bit_of m x) ∙ sym (rank_suc m x))
  where
    g : ℕ → List ℕ
    g c = if bit c x then (f + rank c x) ∷ [] otherwise []

    go : (b : Bool) → run f (rank m x) ++ (if b then (f + rank m x) ∷ [] otherwise []) ≡ run f (rank m x + (if b then 1 otherwise 0))
    go true = run_append f (rank m x) 1
    go false = append-nil (run f (rank m x)) ∙ ap (run f) (sym (add-zero (rank m x)))

pub ids_under : (w : List ℕ) (s : Spot) → ids (spots_under w s) ≡ run (first_child w s.node) (ones (child_of w s.node))
unfolding spots_under
ids_under w s =
    map_each (λ (t : Spot). t.node) (kids_at w s) (up_to 32)
    ∙ each_ext (λ c. ids (kids_at w s c)) (λ c. if bit c x then (f + rank c x) ∷ [] otherwise []) (λ c. split (bit c x) (λ b. rw b) (λ b. rw b)) (up_to 32)
    ∙ rank_run f x 32
  where
    x : ℕ
    x = child_of w s.node

    f : ℕ
    f = first_child w s.node

-- the words of a pool are laid out as its bits say
pub record Laid (w : List ℕ) : Type 0 where
  pub some : 0 < node_count w
  pub child : (i : ℕ) → i < node_count w → first_child w i ≡ 1 + children_before w i
  pub value : (i : ℕ) → i < node_count w → first_value w i ≡ values_before w i
  pub short : (i : ℕ) → i < node_count w → data_of w i < 2 ^ 31
  pub room : 1 + children_before w (node_count w) ≤ node_count w

pub formed_laid : (width : ℕ) (w : List ℕ) → Formed width w → Laid w
formed_laid width w ok =
    record {
      some = ok.some;
      child = λ i h. (ok.node i h).child;
      value = λ i h. (ok.node i h).value;
      short = data_small width w ok;
      room = omega (arith, children_all width w ok);
    }

module _ (w : List ℕ) where
  -- the children of nodes a, a + 1, .. are such a run too: their numbers, and how many they are
  pub record Below (a : ℕ) (ss : List Spot) : Type 0 where
    pub numbers : ids (each (spots_under w) ss) ≡ run (1 + children_before w a) (length (each (spots_under w) ss))
    pub count : children_before w (a + length ss) ≡ children_before w a + length (each (spots_under w) ss)

  -- a level that starts at node a
  pub record Level (a : ℕ) (ss : List Spot) : Type 0 where
    pub numbers : ids ss ≡ run a (length ss)
    pub fits : a + length ss ≤ node_count w
    pub start : 1 + children_before w a ≡ a + length ss

module _ (w : List ℕ) (ok : Laid w) where
  abbrev n : ℕ
  n = node_count w

  before_mono : (i j : ℕ) → i ≤ j → children_before w i ≤ children_before w j
  before_mono i j h = le_ind (λ (k : ℕ). children_before w i ≤ children_before w k) (le_refl _) (λ k l e. omega arith) j h

  below_cons : (s : Spot) (ss : List Spot) (a : ℕ) → s.node ≡ a → a < n → Below w (suc a) ss → Below w a (s ∷ ss)
  below_cons s ss a at_a h r = record {
    numbers =
        map_append (λ (t : Spot). t.node) (spots_under w s) (each (spots_under w) ss)
        ∙ ap₂ ◌++◌ here (r.numbers ∙ ap (λ (x : ℕ). run x L) (let z : 1 + (children_before w a + cnt) ≡ 1 + children_before w a + cnt = omega arith in z))
        ∙ run_append (1 + children_before w a) cnt L
        ∙ ap (run (1 + children_before w a)) (sym both);
    count = ap (children_before w) (let z : a + suc (length ss) ≡ suc a + length ss = omega arith in z) ∙ omega (arith, r.count, both);
  }
    where
      cnt : ℕ
      cnt = ones (child_of w a)

      L : ℕ
      L = length (each (spots_under w) ss)

      here : ids (spots_under w s) ≡ run (1 + children_before w a) cnt
      here = ids_under w s ∙ ap₂ run (ap (first_child w) at_a ∙ ok.child a h) (ap (λ (x : ℕ). ones (child_of w x)) at_a)

      both : length (spots_under w s ++ each (spots_under w) ss) ≡ cnt + L
      both =
          length-append (spots_under w s) (each (spots_under w) ss)
          ∙ ap (◌+ L) (sym (length-map (spots_under w s) (λ t. t.node)) ∙ ap length here ∙ length_run (1 + children_before w a) cnt)

  pub below_run_lem : (ss : List Spot) (a : ℕ) → ids ss ≡ run a (length ss) → a + length ss ≤ n → Below w a ss
  below_run_lem [] a e h = record { numbers = refl; count = ap (children_before w) (add-zero a) ∙ sym (add-zero (children_before w a)) }
  below_run_lem (s ∷ ss) a e h = below_cons s ss a (cc e) (omega arith) (below_run_lem ss (suc a) (cc e) (omega arith))

  pub next_level : (a : ℕ) (ss : List Spot) → Level w a ss → Level w (a + length ss) (each (spots_under w) ss)
  next_level a ss l =
      let b = below_run_lem ss a l.numbers l.fits in
      let e : 1 + children_before w (a + length ss) ≡ a + length ss + length (each (spots_under w) ss) = omega (arith, b.count, l.start) in
      record {
        numbers = b.numbers ∙ ap (λ (x : ℕ). run x (length (each (spots_under w) ss))) l.start;
        fits = omega (arith, before_mono (a + length ss) n l.fits, ok.room);
        start = e;
      }

  levels_run : (k a : ℕ) (ss : List Spot) → Level w a ss → (ids (spots_from w k ss) ≡ run a (length (spots_from w k ss))) × (a + length (spots_from w k ss) ≤ n)
  levels_run zero a ss l = (refl, omega (arith, l.fits))
  levels_run (suc k) a ss l =
      let r = levels_run k (a + length ss) (each (spots_under w) ss) (next_level a ss l) in
      let rest = spots_from w k (each (spots_under w) ss) in
      let m = length-append ss rest in
      (map_append (λ (t : Spot). t.node) ss rest ∙ ap₂ ◌++◌ l.numbers r.0 ∙ run_append a (length ss) (length rest) ∙ ap (run a) (sym m), omega (arith, r.1))

  root_level : Level w 0 (root_spot ∷ [])
  root_level = record { numbers = refl; fits = omega (arith, ok.some); start = refl }

  pub first_level : Level w 1 (spots_under w root_spot)
  first_level = subst (Level w 1) (append-nil (spots_under w root_spot)) (next_level 0 (root_spot ∷ []) root_level)

  -- the nodes are numbered in order
  pub spots_run : ids (spots w) ≡ run 0 (length (spots w))
  unfolding inner_spots
  spots_run = ap (0 ∷◌) (levels_run 12 1 (spots_under w root_spot) first_level).0

  pub spots_fit : length (spots w) ≤ n
  unfolding inner_spots
  spots_fit = omega (arith, (levels_run 12 1 (spots_under w root_spot) first_level).1)

-- in a pool without a fault they are all its nodes
module _ (width : ℕ) (w : List ℕ) (ok : Formed width w) (most : width ≤ 64) where
  abbrev Placed : ℕ → Spot → Type 0
  Placed k s = (s.node < node_count w) × (depth w s.node ≡ s.at.len) × (s.at.len + 5 * k ≡ 65)

  placed_under : (k : ℕ) (s : Spot) → Placed (suc k) s → All (Placed k) (spots_under w s)
  unfolding spots_under
  placed_under k s p =
      all_each (kids_at w s)
      (λ c l.
      split (bit c (child_of w s.node))
      (λ b. let m = child_node width w ok s.node c p.0 l b in let t : Placed k (kid_at w s c) = (m.0, m.2 ∙ ap (◌+ 5) p.1, omega (arith, p.2)) in rw b (more t nil)) (λ b. rw b nil))
      (all_up_to 32)

  cover : (k a : ℕ) (ss : List Spot) → All (Placed k) ss → Level w a ss → a + length (spots_from w k ss) ≡ node_count w
  cover zero a [] h l =
      split (ltb a (node_count w))
      (λ t. let i = ltb-true a (node_count w) t in absurd (let z : ⊥ = omega (arith, (ok.node a i).later, (ok.node a i).child, l.start) in z))
      (λ t. omega (arith, ltb-false a (node_count w) t, l.fits))
  cover zero a (s ∷ ss) (more p h) l = absurd (let z : ⊥ = omega (arith, depth_60 width w most ok s.node p.0, p.1, p.2) in z)
  cover (suc k) a ss h l =
      omega (
        arith,
        cover k (a + length ss) (each (spots_under w) ss) (all_each (spots_under w) (placed_under k) h) (next_level w (formed_laid width w ok) a ss l),
        length-append ss (spots_from w k (each (spots_under w) ss)),
      )

  pub spots_count : length (spots w) ≡ node_count w
  unfolding inner_spots
  spots_count =
      let p : Placed 13 root_spot = (ok.some, ok.root, refl) in
      omega (arith, cover 12 1 (spots_under w root_spot) (placed_under 12 root_spot p) (first_level w (formed_laid width w ok)))

  placed_levels : (k : ℕ) {ss : List Spot} → All (Placed k) ss → All (λ s. (s.node < node_count w) × (depth w s.node ≡ s.at.len)) (spots_from w k ss)
  placed_levels zero h = nil
  placed_levels (suc k) h = all_append (all_imp (λ s p. (p.0, p.1)) h) (placed_levels k (all_each (spots_under w) (placed_under k) h))

  -- the depth of each is the length of its prefix
  pub spots_placed : All (λ s. (s.node < node_count w) × (depth w s.node ≡ s.at.len)) (spots w)
  unfolding inner_spots
  spots_placed = more (ok.some, ok.root) (placed_levels 12 (placed_under 12 root_spot (ok.some, ok.root, refl)))

  pub spots_all : ids (spots w) ≡ up_to (node_count w)
  spots_all = spots_run w (formed_laid width w ok) ∙ ap (run 0) spots_count ∙ sym (up_to_run (node_count w))

  -- the children of a level are the nodes of the next
  spots_next : (k : ℕ) (ss : List Spot) → each (spots_under w) (spots_from w k ss) ≡ spots_from w k (each (spots_under w) ss)
  spots_next zero ss = refl
  spots_next (suc k) ss =
      each_append (spots_under w) ss (spots_from w k (each (spots_under w) ss)) ∙ ap (each (spots_under w) ss ++◌) (spots_next k (each (spots_under w) ss))

  spots_stop : (k : ℕ) (ss : List Spot) → All (Placed k) ss → spots_from w (suc k) ss ≡ spots_from w k ss
  spots_stop zero [] h = refl
  spots_stop zero (s ∷ ss) (more p h) = absurd (let z : ⊥ = omega (arith, depth_60 width w most ok s.node p.0, p.1, p.2) in z)
  spots_stop (suc k) ss h = ap (ss ++◌) (spots_stop k (each (spots_under w) ss) (all_each (spots_under w) (placed_under k) h))

  -- every node but the root is the child of a node
  pub spots_fix : inner_spots w ≡ each (spots_under w) (spots w)
  unfolding inner_spots
  spots_fix =
      sym (spots_stop 12 (spots_under w root_spot) (placed_under 12 root_spot (ok.some, ok.root, refl)))
      ∙ ap (spots_under w root_spot ++◌) (sym (spots_next 12 (spots_under w root_spot)))

-- ---- what they hold
module _ (w : List ℕ) where
  abbrev pub SeenAt : ℕ → Spot → Type 0
  SeenAt k s = Seen w k s.node s.at

  pub seen_under : (k : ℕ) (s : Spot) → SeenAt (suc k) s → All (SeenAt k) (spots_under w s)
  unfolding spots_under
  seen_under k s p =
      all_each (kids_at w s)
      (λ c l. split (bit c (child_of w s.node)) (λ b. let t : SeenAt k (kid_at w s c) = seen_kid w k s.node s.at p c l b in rw b (more t nil)) (λ b. rw b nil))
      (all_up_to 32)

  pub root_seen : SeenAt 13 root_spot
  root_seen = record { deep = (whole_top, refl); held = under_top (all_entries w) (sound_all w) }

  -- so many levels from its own on, for some number
  abbrev pub SeenSome : Spot → Type 0
  SeenSome s = (k : ℕ) × SeenAt (suc k) s

  seen_levels : (k : ℕ) {ss : List Spot} → All (SeenAt k) ss → All SeenSome (spots_from w k ss)
  seen_levels zero h = nil
  seen_levels (suc k) h = all_append (all_imp (λ s p. (k, p)) h) (seen_levels k (all_each (spots_under w) (seen_under k) h))

  -- each holds what is below its prefix
  pub spots_seen : All SeenSome (spots w)
  unfolding inner_spots
  spots_seen = more (12, root_seen) (seen_levels 12 (seen_under 12 root_spot root_seen))

-- ---- which of them the tidy pool of a view has
module _ (w : List ℕ) (root : Prefix) where
  abbrev es : List Entry
  es = view w root

  -- an entry of the view lies in the node or below it
  abbrev pub used : Spot → Bool
  used s = is_under es s.at

  -- the entries of the view below a node's prefix are those of the node that the root leads
  pub under_view : (q : Prefix) → under q es ≡ under root (under q (all_entries w))
  under_view q = keep_swap (λ e. leads q e.at) (λ e. leads root e.at) (all_entries w)

  pub child_used : (k : ℕ) (s : Spot) → SeenAt w (suc k) s → (c : ℕ) → c < 32 → is_under es (deeper s.at 5 c) ≡ true → bit c (child_of w s.node) ≡ true
  child_used k s p c l t =
      split (bit c (child_of w s.node)) (λ b. b)
      (λ b.
      let q = deeper s.at 5 c in
      let none : under q (all_entries w) ≡ [] = seen_child w k s.node s.at p c l ∙ rw b refl in
      let f : is_under es q ≡ false = any_full (λ e. leads q e.at) es ∙ ap full (under_view q ∙ ap (under root) none) in
      not_both t f)

  list_used : (s : Spot) {cs : List ℕ} → All (λ c. is_under es (deeper s.at 5 c) ≡ true → bit c (child_of w s.node) ≡ true) cs
      → keep (is_under es) (map (deeper s.at 5) cs) ≡ map (λ t. t.at) (keep used (each (kids_at w s) cs))
  list_used s nil = refl
  list_used s (more {x = c} {xs = cs} h hs) = go (is_under es q) (bit c (child_of w s.node)) refl h (list_used s hs)
    where
      q : Prefix
      q = deeper s.at 5 c

      go : (a b : Bool) → is_under es q ≡ a → (a ≡ true → b ≡ true)
          → keep (is_under es) (map (deeper s.at 5) cs) ≡ map (λ t. t.at) (keep used (each (kids_at w s) cs))
          → (if a then q ∷ keep (is_under es) (map (deeper s.at 5) cs) otherwise keep (is_under es) (map (deeper s.at 5) cs))
          ≡ map (λ t. t.at) (keep used ((if b then kid_at w s c ∷ [] otherwise []) ++ each (kids_at w s) cs))
      go true true e f r = rw e (ap (q ∷◌) r)
      go true false e f r = not_both (f refl) refl
      go false true e f r = rw e r
      go false false e f r = r

  -- the children of a tidy node are those of the source's that are used
  pub kids_used : (k : ℕ) (s : Spot) → SeenAt w (suc k) s → children_of es s.at ≡ map (λ t. t.at) (keep used (spots_under w s))
  unfolding child_prefixes spots_under
  kids_used k s p = list_used s (all_imp (child_used k s p) (all_up_to 32))

  -- the children of an unused node are unused
  pub used_up : (k : ℕ) (p : Prefix) → Deep (suc k) p → (c : ℕ) → c < 32 → is_under es (deeper p 5 c) ≡ true → is_under es p ≡ true
  used_up k p d c l t =
      let q = deeper p 5 c in
      split (ltb 64 (p.len + 5))
      (λ g. not_both t (any_full (λ e. leads q e.at) es ∙ ap full (under_none es (view_sound w root) q (ltb-true 64 (p.len + 5) g))))
      (λ g. any_imp (λ e. leads q e.at) (λ e. leads p e.at) (λ (e : Entry) h. leads_trans p q e.at (leads_deeper p d.0 5 (ltb-false 64 (p.len + 5) g) c l) h) es t)

  unused_kids : (k : ℕ) (s : Spot) → SeenAt w (suc k) s → used s ≡ false → keep used (spots_under w s) ≡ []
  unfolding spots_under
  unused_kids k s p u =
      keep_false used
      (all_each (kids_at w s)
      (λ c l.
      split (bit c (child_of w s.node))
      (λ b. let t : used (kid_at w s c) ≡ false = is_false _ (λ h. not_both (used_up k s.at p.deep c l h) u) in rw b (more t nil)) (λ b. rw b nil))
      (all_up_to 32))

  -- one level: the used nodes of a run of nodes have as children the used ones among its children
  pub level_used : {ss : List Spot} → All (SeenSome w) ss
      → each (children_of es) (map (λ t. t.at) (keep used ss)) ≡ map (λ t. t.at) (keep used (each (spots_under w) ss))
  level_used nil = refl
  level_used (more {x = s} {xs = ss} p h) =
      let rest = each (spots_under w) ss in
      let r = level_used h in
      split (used s)
      (λ u.
      rw (u, keep)
      (ap₂ ◌++◌ (kids_used p.0 s p.1) r
      ∙ sym (map_append (λ (t : Spot). t.at) (keep used (spots_under w s)) (keep used rest))
      ∙ ap (map (λ (t : Spot). t.at)) (sym (keep_append used (spots_under w s) rest))))
      (λ u.
      rw (u, keep)
      (r ∙ ap (map (λ (t : Spot). t.at)) (sym (keep_append used (spots_under w s) rest ∙ ap (◌++ keep used rest) (unused_kids p.0 s p.1 u)))))

  levels_used : (k : ℕ) {ss : List Spot} → All (SeenAt w k) ss → nodes_from es k (map (λ t. t.at) (keep used ss)) ≡ map (λ t. t.at) (keep used (spots_from w k ss))
  levels_used zero h = refl
  levels_used (suc k) {ss} h =
      ap (map (λ (t : Spot). t.at) (keep used ss) ++◌)
      (ap (nodes_from es k) (level_used (all_imp (λ s p. (k, p)) h)) ∙ levels_used k (all_each (spots_under w) (seen_under w k) h))
      ∙ sym (map_append (λ (t : Spot). t.at) (keep used ss) (keep used (spots_from w k (each (spots_under w) ss))))
      ∙ ap (map (λ (t : Spot). t.at)) (sym (keep_append used ss (spots_from w k (each (spots_under w) ss))))

  -- the nodes of the tidy pool: the root, and the source's other nodes that are used, in order
  pub nodes_spots : nodes_of es ≡ top ∷ map (λ t. t.at) (keep used (inner_spots w))
  unfolding nodes_of inner_spots
  nodes_spots =
      ap (λ (ps : List Prefix). top ∷ nodes_from es 12 ps) (append-nil (children_of es top) ∙ kids_used 12 root_spot (root_seen w))
      ∙ ap (top ∷◌) (levels_used 12 (seen_under w 12 root_spot (root_seen w)))

  -- they do not outnumber the source's
  pub nodes_fit : Laid w → length (nodes_of es) ≤ node_count w
  nodes_fit ok =
      omega (
        arith,
        ap length nodes_spots,
        length-map (keep used (inner_spots w)) (λ t. t.at),
        length_keep used (inner_spots w),
        spots_fit w ok,
      )
