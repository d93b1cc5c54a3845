-- The nodes that lie on one path with a root, depth by depth. Those of one depth stand one after the other, so that two numbers say which they are,
-- and the two of the next depth are found from them at once.
use Rattle.std.specs.Prelude.{◌≡◌, refl, true, false, List, ℕ, zero, suc, ◌+◌, ◌-◌, ◌*◌, ◌/◌, ◌%◌, ◌^◌, ◌≤◌, ◌<◌, eqb, leb, ltb}
use Rattle.std.proofs.Common.{sym, ap₂, ◌∙◌, subst, ⊎_elim, arith, mod-lt, pow_pos, shr-shr}
use Rattle.std.proofs.Math.Path.{ap}
use Rattle.std.proofs.Math.Bool.{or-true}
use borrow.Author.Tests.{leb-true, leb-false, ltb-true, ltb-false, eqb-true, eqb-false}
use Rattle.defs.specs.declared.Prefix.{Prefix}
use Rattle.defs.specs.Prefix.{first, leads, deeper, top}
use Rattle.defs.specs.Pool.{node_count, data_of, child_of, first_child, bit, rank, ones}
use Rattle.defs.specs.Lemmas.{split, is_false}
use Rattle.defs.specs.PrefixLaws.{Whole, cut, prefix_eq}
use Rattle.defs.proofs.PrefixLaws.{leads_of, leads_len, leads_first, leads_trans, leads_top, leads_cut, comparable}
use Rattle.defs.proofs.DeeperLaws.{deeper_first, leads_deeper}
use Rattle.bits.specs.WordLaws.{rank_mono, rank_less, rank_suc, rank_le, select}
use Rattle.pool.specs.Sound.{depth, depth_60, children_mono, children_apart, child_node, parent}
use Rattle.theory.specs.Sides.{on_path}
use Rattle.theory.specs.Down.{next_bits}
use Rattle.tidied.specs.Source.{prefix_at, prefix_root, prefix_seen, prefix_depth, prefix_child}
use Rattle.view.specs.Standing.{Sane, nodes_few}
use Rattle.view.specs.Descent.{cut_to}
use Rattle.view.specs.declared.Bitmaps.{Bitmaps}
use Rattle.tidy.specs.declared.Run.{Run}
use Rattle.tidy.specs.Full.{full_kids}
use Rattle.tidy.specs.Kept.{Here, node_on, here_short, node_off, node_under}

-- ---- one path

module _ (root q : Prefix) where
  path_first : leads root q ≡ true → on_path root q ≡ true
  path_first e = rw e

  path_second : leads q root ≡ true → on_path root q ≡ true
  path_second e = rw e (or-true (leads root q))

  -- the longer one is led
  path_led : root.len ≤ q.len → on_path root q ≡ true → leads root q ≡ true
  path_led l h =
      split (leads root q) (λ e. e)
      (λ e.
      let b : leads q root ≡ true = rw e at h in
      let n : q.len ≡ root.len = omega (arith, leads_len q root b) in
      leads_of root q l (sym (subst (λ (m : ℕ). first m root.key ≡ first m q.key) n (leads_first q root b))))

  path_leads : q.len ≤ root.len → on_path root q ≡ true → leads q root ≡ true
  path_leads l h =
      split (leads root q)
      (λ e.
      let n : root.len ≡ q.len = omega (arith, leads_len root q e) in
      leads_of q root l (sym (subst (λ (m : ℕ). first m q.key ≡ first m root.key) n (leads_first root q e))))
      (λ e. rw e at h)

module _ (root p : Prefix) (whole : Whole p) (c : ℕ) (l : c < 32) (short : p.len + 5 ≤ 64) where
  abbrev kid : Prefix
  kid = deeper p 5 c

  led : leads p kid ≡ true
  led = leads_deeper p whole 5 short c l

  -- a child on one path with the root has its parent there
  path_up : on_path root kid ≡ true → on_path root p ≡ true
  path_up h =
      split (leads root kid)
      (λ e. ⊎_elim (λ a. path_first root p a) (λ a. path_second root p a) (comparable root p kid e led))
      (λ e. path_second root p (leads_trans p kid root led (rw e at h)))

  -- under the root each child is there too
  path_down : root.len ≤ p.len → on_path root p ≡ true → on_path root kid ≡ true
  path_down n h = path_first root kid (leads_trans root p kid (path_led root p n h) led)

-- ---- the places on one path with a longer root

-- a block of 2 ^ m places, found from a number in it
module _ (m : ℕ) (small : m ≤ 4) (x : ℕ) (xs : x < 32) where
  record Block (low : ℕ) : Type 0 where
    top_in : low + 2 ^ m ≤ 32
    into : (F c : ℕ) → c < 32 → (F * 32 + c) / 2 ^ m ≡ (F * 32 + x) / 2 ^ m → (low ≤ c) × (c < low + 2 ^ m)
    back : (F c : ℕ) → c < 32 → low ≤ c → c < low + 2 ^ m → (F * 32 + c) / 2 ^ m ≡ (F * 32 + x) / 2 ^ m

block : (m : ℕ) (small : m ≤ 4) (x : ℕ) (xs : x < 32) → Block m small x xs (x - x % 2 ^ m)
block zero small x xs = record { top_in = omega arith; into = λ F c l e. (omega arith, omega arith); back = λ F c l a b. omega arith }
block (suc zero) small x xs = record { top_in = omega arith; into = λ F c l e. (omega arith, omega arith); back = λ F c l a b. omega arith }
block (suc (suc zero)) small x xs = record { top_in = omega arith; into = λ F c l e. (omega arith, omega arith); back = λ F c l a b. omega arith }
block (suc (suc (suc zero))) small x xs = record { top_in = omega arith; into = λ F c l e. (omega arith, omega arith); back = λ F c l a b. omega arith }
block (suc (suc (suc (suc zero)))) small x xs = record { top_in = omega arith; into = λ F c l e. (omega arith, omega arith); back = λ F c l a b. omega arith }
block (suc (suc (suc (suc (suc m))))) small x xs = absurd (let z : ⊥ = omega arith in z)

-- the children of a node at depth d on one path with a longer root are those at places from `low` on and before `high`
pub record Ahead (root : Prefix) (d low high : ℕ) : Type 0 where
  pub ordered : low ≤ high
  pub inside : high ≤ 32
  pub narrow : d + 5 < root.len → high ≤ low + 1
  pub into : (p : Prefix) → Whole p → p.len ≡ d → d + 5 ≤ 64 → leads p root ≡ true → (c : ℕ) → c < 32 → on_path root (deeper p 5 c) ≡ true → (low ≤ c) × (c < high)
  pub back : (p : Prefix) → Whole p → p.len ≡ d → d + 5 ≤ 64 → leads p root ≡ true → (c : ℕ) → c < 32 → low ≤ c → c < high → on_path root (deeper p 5 c) ≡ true

-- the places as the code finds them: the root's next 5 bits, without those past the root's end
module _ (root : Prefix) (long : root.len ≤ 64) (d : ℕ) (over : d < root.len) (deep : d + 5 ≤ 64) where
  abbrev m : ℕ
  m = d + 5 - root.len

  abbrev x : ℕ
  x = next_bits d 5 root.key

  x_small : x < 32
  x_small = mod-lt (first (d + 5) root.key) (pow_pos 5)

  m_small : m ≤ 4
  m_small = omega arith

  abbrev low : ℕ
  low = x - x % 2 ^ m

  blocked : Block m m_small x x_small low
  blocked = block m m_small x x_small

  -- fewer first bits, from more of them
  first_of_lem : (k : ℕ) → root.len ≤ d + 5 → first (d + 5) k / 2 ^ m ≡ first root.len k
  first_of_lem k l = let e : (64 - (d + 5)) + m ≡ 64 - root.len = omega arith in shr-shr k (64 - (d + 5)) m ∙ ap (λ (n : ℕ). k / 2 ^ n) e

  module _ (p : Prefix) (whole : Whole p) (at : p.len ≡ d) (leading : leads p root ≡ true) (c : ℕ) (l : c < 32) where
    abbrev F : ℕ
    F = first d root.key

    mine : first (d + 5) root.key ≡ F * 32 + x
    mine =
        let e : (64 - (d + 5)) + 5 ≡ 64 - d = omega arith in
        let q : first (d + 5) root.key / 32 ≡ F = shr-shr root.key (64 - (d + 5)) 5 ∙ ap (λ (n : ℕ). root.key / 2 ^ n) e in
        omega arith

    kids : first (d + 5) (deeper p 5 c).key ≡ F * 32 + c
    kids =
        let f = subst (λ (n : ℕ). first n root.key ≡ first n p.key) at (leads_first p root leading) in
        subst (λ (n : ℕ). first (n + 5) (deeper p 5 c).key ≡ first n p.key * 32 + c) at (deeper_first p whole 5 (omega arith) c)
        ∙ ap (λ (n : ℕ). n * 32 + c) (sym f)

    place_into : on_path root (deeper p 5 c) ≡ true → (low ≤ c) × (c < low + 2 ^ m)
    place_into h =
        split (leb root.len (d + 5))
        (λ e.
        let n = leb-true root.len (d + 5) e in
        let f = leads_first root (deeper p 5 c) (path_led root (deeper p 5 c) (omega arith) h) in
        blocked.into F c l (ap (◌/ 2 ^ m) (sym kids) ∙ first_of_lem (deeper p 5 c).key n ∙ f ∙ sym (first_of_lem root.key n) ∙ ap (◌/ 2 ^ m) mine))
        (λ e.
        let n = leb-false root.len (d + 5) e in
        let f = leads_first (deeper p 5 c) root (path_leads root (deeper p 5 c) (omega arith) h) in
        let g : first (d + 5) root.key ≡ first (d + 5) (deeper p 5 c).key = subst (λ (n : ℕ). first (n + 5) root.key ≡ first (n + 5) (deeper p 5 c).key) at f in
        blocked.into F c l (ap (◌/ 2 ^ m) (sym kids ∙ sym g ∙ mine)))

    place_back : low ≤ c → c < low + 2 ^ m → on_path root (deeper p 5 c) ≡ true
    place_back a b =
        let y = blocked.back F c l a b in
        split (leb root.len (d + 5))
        (λ e.
        let n = leb-true root.len (d + 5) e in
        path_first root (deeper p 5 c)
        (leads_of root (deeper p 5 c) (omega arith) (sym (first_of_lem (deeper p 5 c).key n) ∙ ap (◌/ 2 ^ m) kids ∙ y ∙ ap (◌/ 2 ^ m) (sym mine) ∙ first_of_lem root.key n)))
        (λ e.
        let n = leb-false root.len (d + 5) e in
        let z : m ≡ 0 = omega arith in
        let o : 2 ^ m ≡ 1 = ap (2 ^◌) z in
        let same : F * 32 + c ≡ F * 32 + x = ones_apart m z (F * 32 + c) (F * 32 + x) y in
        path_second root (deeper p 5 c)
        (leads_of (deeper p 5 c) root (omega arith)
        (subst (λ (n : ℕ). first (n + 5) root.key ≡ first (n + 5) (deeper p 5 c).key) (sym at) (mine ∙ sym same ∙ sym kids))))
      where
        ones_apart : (m : ℕ) → m ≡ 0 → (a b : ℕ) → a / 2 ^ m ≡ b / 2 ^ m → a ≡ b
        ones_apart zero e a b h = omega arith
        ones_apart (suc m) e a b h = absurd (let z : ⊥ = omega arith in z)

  pub ahead_of : (size next : ℕ) → size ≡ 2 ^ m → next ≡ next_bits d 5 root.key → d ≤ 59 → Ahead root d (next - next % size) (next - next % size + size)
  ahead_of size next es en n =
      let ex : next ≡ x = en in
      subst (λ (s : ℕ). Ahead root d (next - next % s) (next - next % s + s)) (sym es)
      (subst (λ (y : ℕ). Ahead root d (y - y % 2 ^ m) (y - y % 2 ^ m + 2 ^ m)) (sym ex)
      (record {
        ordered = omega arith;
        inside = blocked.top_in;
        narrow = λ l. (let z : m ≡ 0 = omega arith in let o : 2 ^ m ≡ 1 = ap (2 ^◌) z in omega arith);
        into = λ p w e f g c l. place_into p w e g c l;
        back = λ p w e f g c l. place_back p w e g c l;
      }))

pub ahead_none : (root : Prefix) (d : ℕ) → root.len ≤ 64 → 59 < d → Ahead root d 0 0
ahead_none root d long l =
    record {
      ordered = omega arith;
      inside = omega arith;
      narrow = λ n. omega arith;
      into = λ p w e f. absurd (let z : ⊥ = omega arith in z);
      back = λ p w e f. absurd (let z : ⊥ = omega arith in z);
    }

-- ---- runs

-- the run, seen from node i on
pub record Standing (w : List ℕ) (root : Prefix) (r : Run) (i : ℕ) : Type 0 where
  pub ordered : r.from ≤ r.to
  pub fits : r.to ≤ node_count w
  pub ahead : i ≤ r.to
  pub short : r.depth ≤ 5 * r.to
  pub fives : r.depth % 5 ≡ 0
  -- above the root it has one node at most
  pub one : r.depth < root.len → r.to ≤ r.from + 1
  -- its nodes are at the depth, and on one path with the root
  pub inside : (j : ℕ) → r.from ≤ j → j < r.to → (depth w j ≡ r.depth) × (on_path root (prefix_at w j) ≡ true)
  -- it has all such nodes
  pub found : (j : ℕ) → j < node_count w → depth w j ≡ r.depth → on_path root (prefix_at w j) ≡ true → (r.from ≤ j) × (j < r.to)
  -- no node before its end is deeper
  pub ceiling : (j : ℕ) → j < r.to → depth w j ≤ r.depth
  -- and of those from i on that are less deep, none is on one path with the root
  pub passed : (j : ℕ) → i ≤ j → j < node_count w → depth w j < r.depth → on_path root (prefix_at w j) ≡ true → ⊥

-- a run that is passed, with nodes left behind it
pub record Above (w : List ℕ) (root : Prefix) (r : Run) : Type 0 where
  pub sane : Sane w
  pub long : root.len ≤ 64
  pub more : r.to < node_count w
  pub standing : Standing w root r r.to

-- the children of a run's nodes
abbrev pub below_run : List ℕ → Run → Run
below_run w r = record { depth = r.depth + 5; from = first_child w r.from; to = first_child w r.to }

pub below_is : (w : List ℕ) (r : Run) (a b : ℕ) → a ≡ first_child w r.from → b ≡ first_child w r.to
    → ◌≡◌ {A = Run} (record { depth = r.depth + 5; from = a; to = b }) (below_run w r)
below_is w r a b ea eb = ap₂ (λ (x y : ℕ). record { depth = r.depth + 5; from = x; to = y }) ea eb

-- one place, where the root goes on below the node's children
pub open_one : (d len : ℕ) → d + 5 ≤ len → 1 ≡ 2 ^ (d + 5 - len)
open_one d len h = let z : d + 5 - len ≡ 0 = omega arith in sym (ap (2 ^◌) z)

module _ (w : List ℕ) (s : Sane w) where
  -- a node's parent and its prefix
  record Up (j : ℕ) : Type 0 where
    node : ℕ
    place : ℕ
    inside : node < node_count w
    small : place < 32
    held : bit place (child_of w node) ≡ true
    number : j ≡ first_child w node + rank place (child_of w node)
    deep : depth w j ≡ depth w node + 5
    whole : Whole (prefix_at w node)
    len : (prefix_at w node).len ≡ depth w node
    short : depth w node + 5 ≤ 60
    prefix : prefix_at w j ≡ deeper (prefix_at w node) 5 place

  kid_up : (k c : ℕ) → k < node_count w → c < 32 → bit c (child_of w k) ≡ true → (j : ℕ) → j ≡ first_child w k + rank c (child_of w k) → Up j
  kid_up k c h l b j e =
      let n = child_node s.width w s.formed k c h l b in
      let d : depth w j ≡ depth w k + 5 = ap (depth w) e ∙ n.2 in
      record {
        node = k;
        place = c;
        inside = h;
        small = l;
        held = b;
        number = e;
        deep = d;
        whole = (prefix_seen s.width w s.most s.formed k h).1.deep.0;
        len = sym (prefix_depth s.width w s.most s.formed k h);
        short = omega (arith, d, depth_60 s.width w s.most s.formed j (omega (arith, n.0)));
        prefix = ap (prefix_at w) e ∙ prefix_child s.width w s.most s.formed k c h l b;
      }

  up : (j : ℕ) → 0 < j → j < node_count w → Up j
  up j some h = let p = parent s.width w s.formed j some h in kid_up p.node p.place (omega (arith, p.before)) p.inside p.held j p.number

  -- its number among its parent's children
  up_rank : (j : ℕ) (u : Up j) → (first_child w u.node ≤ j) × (j < first_child w u.node + ones (child_of w u.node))
  up_rank j u = (omega (arith, u.number), omega (arith, u.number, rank_less 32 u.place (child_of w u.node) u.small u.held))

  first_mono : (a b : ℕ) → a ≤ b → b < node_count w → first_child w a ≤ first_child w b
  first_mono a b l h = omega (arith, (s.formed.node a (omega arith)).child, (s.formed.node b h).child, children_mono s.width w s.formed a b l)

  up_before : (j a : ℕ) (u : Up j) → a < node_count w → j < first_child w a → u.node < a
  up_before j a u h l =
      split (leb a u.node) (λ e. absurd (let z : ⊥ = omega (arith, first_mono a u.node (leb-true a u.node e) u.inside, (up_rank j u).0) in z)) (λ e. leb-false a u.node e)

  up_after : (j a : ℕ) (u : Up j) → a < node_count w → first_child w a ≤ j → a ≤ u.node
  up_after j a u h l =
      split (leb a u.node) (λ e. leb-true a u.node e)
      (λ e. absurd (let z : ⊥ = omega (arith, children_apart s.width w s.formed u.node a (leb-false a u.node e) h, (up_rank j u).1) in z))

  zero_depth : (j d : ℕ) → depth w j ≡ d + 5 → 0 < j
  zero_depth zero d e = absurd (let z : ⊥ = omega (arith, s.formed.root) in z)
  zero_depth (suc j) d e = omega arith

  module _ (root : Prefix) where
    up_path : (j : ℕ) (u : Up j) → on_path root (prefix_at w j) ≡ true → on_path root (prefix_at w u.node) ≡ true
    up_path j u h = path_up root (prefix_at w u.node) u.whole u.place u.small (omega (arith, u.len, u.short)) (ap (on_path root) (sym u.prefix) ∙ h)

    down_path : (j : ℕ) (u : Up j) → root.len ≤ depth w u.node → on_path root (prefix_at w u.node) ≡ true → on_path root (prefix_at w j) ≡ true
    down_path j u l h =
        ap (on_path root) u.prefix ∙ path_down root (prefix_at w u.node) u.whole u.place u.small (omega (arith, u.len, u.short)) (omega (arith, u.len)) h

    -- the first run is node 0
    pub standing_start : root.key < 2 ^ 64 → Standing w root (record { depth = 0; from = 0; to = 1 }) 0
    standing_start fits =
        let p : on_path root (prefix_at w 0) ≡ true = ap (on_path root) (prefix_root s.width w s.most s.formed) ∙ path_second root top (leads_top root fits) in
        record {
          ordered = omega arith;
          fits = s.formed.some;
          ahead = omega arith;
          short = omega arith;
          fives = refl;
          one = λ l. omega arith;
          inside = λ j a b. only j b s.formed.root p;
          found = λ j h d o. split (eqb j 0) (λ e. let z = eqb-true j 0 e in (omega arith, omega arith))
              (λ e. let z = eqb-false j 0 e in absurd (let y : ⊥ = omega (arith, (up j (omega arith) h).deep) in y));
          ceiling = λ j l. (let z : j ≡ 0 = omega arith in omega (arith, ap (depth w) z, s.formed.root));
          passed = λ j a b d. absurd (let z : ⊥ = omega arith in z);
        }
      where
        only : (j : ℕ) → j < 1 → depth w 0 ≡ 0 → on_path root (prefix_at w 0) ≡ true → (depth w j ≡ 0) × (on_path root (prefix_at w j) ≡ true)
        only zero l a b = (a, b)
        only (suc j) l a b = absurd (let z : ⊥ = omega arith in z)

    -- a node further on
    pub standing_on : (r : Run) (i : ℕ) → Standing w root r i → i < r.to → Standing w root r (i + 1)
    standing_on r i t l =
        record {
          ordered = t.ordered;
          fits = t.fits;
          ahead = omega arith;
          short = t.short;
          fives = t.fives;
          one = t.one;
          inside = t.inside;
          found = t.found;
          ceiling = t.ceiling;
          passed = λ j a. t.passed j (omega arith);
        }

    -- ---- the next run
    module _ (r : Run) (more : r.to < node_count w) (t : Standing w root r r.to) where
      -- of the nodes behind the run, none at its depth or above is on one path with the root
      passed_on : (j : ℕ) → r.to ≤ j → j < node_count w → depth w j < r.depth + 5 → on_path root (prefix_at w j) ≡ true → ⊥
      passed_on j a h l o =
          let f = (s.formed.node j h).fives in
          let g = t.fives in
          split (ltb (depth w j) r.depth) (λ e. t.passed j a h (ltb-true (depth w j) r.depth e) o)
          (λ e. let n = ltb-false (depth w j) r.depth e in let z : ⊥ = omega (arith, (t.found j h (omega arith) o).1) in z)

      -- what stands before the children of the node behind it is at most one level deeper
      ceiling_on : (j : ℕ) → j < first_child w r.to → depth w j ≤ r.depth + 5
      ceiling_on zero l = omega (arith, s.formed.root)
      ceiling_on (suc j) l =
          let o = s.formed.node r.to more in
          let u = up (suc j) (omega arith) (omega (arith, o.room)) in
          omega (arith, u.deep, t.ceiling u.node (up_before (suc j) r.to u more l))

      end_inside : (r.to < first_child w r.to) × (first_child w r.to ≤ node_count w)
      end_inside = let o = s.formed.node r.to more in (o.later, omega (arith, o.room))

      -- all children of a run under the root, or of an empty one
      pub below_run_stands : (r.depth < root.len → r.from ≡ r.to) → Standing w root (below_run w r) r.to
      below_run_stands narrow =
          record {
            ordered = first_mono r.from r.to t.ordered more;
            fits = end_inside.1;
            ahead = omega (arith, end_inside.0);
            short = omega (arith, end_inside.0, t.short);
            fives = omega (arith, t.fives);
            one = λ l. (let e = ap (first_child w) (narrow (omega arith)) in omega arith);
            inside = λ j a b.
                let u = up j (omega (arith, (s.formed.node r.from (omega (arith, t.ordered))).later)) (omega (arith, end_inside.1)) in
                let f = up_after j r.from u (omega (arith, t.ordered)) a in
                let e = up_before j r.to u more b in
                let n = t.inside u.node f e in
                (u.deep ∙ ap (◌+ 5) n.0, down_path j u (wide u.node f e (depth w u.node) n.0) n.1);
            found = λ j h d o.
                let u = up j (zero_depth j r.depth d) h in
                let n = t.found u.node u.inside (omega (arith, u.deep)) (up_path j u o) in
                (omega (arith, first_mono r.from u.node n.0 u.inside, (up_rank j u).0), omega (arith, children_apart s.width w s.formed u.node r.to n.1 more, (up_rank j u).1));
            ceiling = ceiling_on;
            passed = passed_on;
          }
        where
          wide : (k : ℕ) → r.from ≤ k → k < r.to → (d : ℕ) → d ≡ r.depth → root.len ≤ d
          wide k a b d e = split (leb root.len r.depth) (λ f. omega (arith, leb-true root.len r.depth f)) (λ f. absurd (let z : ⊥ = omega (arith, narrow (leb-false root.len r.depth f)) in z))

      -- the children of the node on the way to the root
      module _ (single : r.from < r.to) (above : r.depth < root.len) (low high : ℕ) (ahead : Ahead root r.depth low high) where
        abbrev k : ℕ
        k = r.from

        abbrev kids_of : ℕ
        kids_of = child_of w k

        k_in : k < node_count w
        k_in = omega arith

        here : (depth w k ≡ r.depth) × (on_path root (prefix_at w k) ≡ true)
        here = t.inside k (omega arith) single

        behind : suc k ≡ r.to
        behind = omega (arith, t.one above)

        k_whole : Whole (prefix_at w k)
        k_whole = (prefix_seen s.width w s.most s.formed k k_in).1.deep.0

        k_len : (prefix_at w k).len ≡ r.depth
        k_len = sym (prefix_depth s.width w s.most s.formed k k_in) ∙ here.0

        on_way : leads (prefix_at w k) root ≡ true
        on_way = path_leads root (prefix_at w k) (omega (arith, k_len)) here.1

        module _ (a b : ℕ) (ea : a ≡ first_child w k + rank low kids_of) (eb : b ≡ first_child w k + rank high kids_of) where
          -- they stand before the children of the node behind it
          b_end : b ≤ first_child w r.to
          b_end = omega (arith, rank_mono high 32 kids_of ahead.inside, children_apart s.width w s.formed k r.to single more)

          a_b : a ≤ b
          a_b = omega (arith, rank_mono low high kids_of ahead.ordered)

          node_at : (j c : ℕ) → c < high → bit c kids_of ≡ true → j ≡ first_child w k + rank c kids_of → a ≤ j
              → (depth w j ≡ r.depth + 5) × (on_path root (prefix_at w j) ≡ true)
          unfolding kid_up
          node_at j c g y e f =
              let l : c < 32 = omega (arith, ahead.inside) in
              let u = kid_up k c k_in l y j e in
              let n : low ≤ c =
              split (leb low c) (λ o. leb-true low c o) (λ o. absurd (let z : ⊥ = omega (arith, rank_less low c kids_of (leb-false low c o) y) in z)) in
              (u.deep ∙ ap (◌+ 5) here.0, ap (on_path root) u.prefix ∙ ahead.back (prefix_at w k) k_whole k_len (omega (arith, u.short, here.0)) on_way c l n g)

          node_inside : (j : ℕ) → a ≤ j → j < b → (depth w j ≡ r.depth + 5) × (on_path root (prefix_at w j) ≡ true)
          node_inside j f g = let c = select high kids_of (j - first_child w k) (omega arith) in node_at j c.0 c.1 c.2 (omega (arith, c.3)) f

          node_found : (j : ℕ) → j < node_count w → depth w j ≡ r.depth + 5 → on_path root (prefix_at w j) ≡ true → (a ≤ j) × (j < b)
          node_found j h d o =
              let u = up j (zero_depth j r.depth d) h in
              let v : depth w u.node ≡ r.depth = omega (arith, u.deep) in
              let y = up_path j u o in
              let n = t.found u.node u.inside v y in
              let e : u.node ≡ k = omega (arith, behind) in
              let c = u.place in
              let i = ahead.into (prefix_at w u.node) u.whole (u.len ∙ v) (omega (arith, u.short)) (path_leads root (prefix_at w u.node) (omega (arith, u.len)) y) c u.small
              (ap (on_path root) (sym u.prefix) ∙ o) in
              let q : j ≡ first_child w k + rank c kids_of = u.number ∙ ap (λ (m : ℕ). first_child w m + rank c (child_of w m)) e in
              let g : bit c kids_of ≡ true = ap (λ (m : ℕ). bit c (child_of w m)) (sym e) ∙ u.held in
              (omega (arith, rank_mono low c kids_of i.0), omega (arith, rank_less high c kids_of i.1 g))

          narrow_b : r.depth + 5 < root.len → b ≤ a + 1
          narrow_b l =
              let m = rank_mono high (suc low) kids_of (omega (arith, ahead.narrow l)) in
              let o : kids_of / 2 ^ low % 2 < 2 = mod-lt (kids_of / 2 ^ low) (omega arith) in
              omega (arith, rank_suc low kids_of)

          -- where there are some
          pub below_node_stands : (a ≡ b → ⊥) → Standing w root (record { depth = r.depth + 5; from = a; to = b }) r.to × (r.to < b)
          below_node_stands ne =
              let g : r.to < b = omega (arith, a_b, behind, (s.formed.node k k_in).later) in (
                record {
                  ordered = a_b;
                  fits = omega (arith, b_end, end_inside.1);
                  ahead = omega arith;
                  short = omega (arith, t.short);
                  fives = omega (arith, t.fives);
                  one = narrow_b;
                  inside = node_inside;
                  found = node_found;
                  ceiling = λ j l. ceiling_on j (omega (arith, b_end));
                  passed = passed_on;
                },
                g,
              )

          -- and where there are none
          pub below_none_stands : a ≡ b → (e : ℕ) → e ≡ first_child w r.to → Standing w root (record { depth = r.depth + 5; from = e; to = e }) r.to × (r.to < e)
          below_none_stands z e ee =
              let g : r.to < e = omega (arith, end_inside.0) in (
                record {
                  ordered = omega arith;
                  fits = omega (arith, end_inside.1);
                  ahead = omega arith;
                  short = omega (arith, t.short);
                  fives = omega (arith, t.fives);
                  one = λ l. omega arith;
                  inside = λ j f l. absurd (let y : ⊥ = omega arith in y);
                  found = λ j h d o. absurd (let n = node_found j h d o in let y : ⊥ = omega arith in y);
                  ceiling = λ j l. ceiling_on j (omega arith);
                  passed = passed_on;
                },
                g,
              )

    -- ---- where a node stands
    module _ (r : Run) (i : ℕ) (h : i < node_count w) (l : i < r.to) (t : Standing w root r i) where
      -- before the run: on no path with the root
      before_run : i < r.from → on_path root (prefix_at w i) ≡ true → ⊥
      before_run b o =
          split (ltb (depth w i) r.depth) (λ e. t.passed i (omega arith) h (ltb-true (depth w i) r.depth e) o)
          (λ e. let z : ⊥ = omega (arith, (t.found i h (omega (arith, ltb-false (depth w i) r.depth e, t.ceiling i l)) o).0) in z)

      pub before_off : i < r.from → (leads root (prefix_at w i) ≡ false) × (leads (prefix_at w i) root ≡ false)
      before_off b =
          (is_false _ (λ e. before_run b (path_first root (prefix_at w i) e)), is_false _ (λ e. before_run b (path_second root (prefix_at w i) e)))

      module _ (in-run : r.from ≤ i) where
        pub run_len : (prefix_at w i).len ≡ r.depth
        run_len = sym (prefix_depth s.width w s.most s.formed i h) ∙ (t.inside i in-run l).0

        -- on the way to the root: its prefix is the root's first bits
        pub run_prefix : r.depth < root.len → cut_to root r.depth ≡ prefix_at w i
        run_prefix n =
            let p = prefix_at w i in
            let whole = (prefix_seen s.width w s.most s.formed i h).1.deep.0 in
            let e = run_len in
            prefix_eq _ _ (ap (λ (m : ℕ). cut m root.key) (sym e) ∙ leads_cut p root whole (path_leads root p (omega arith) (t.inside i in-run l).1)) (sym e)

        -- under the root
        pub run_led : root.len ≤ r.depth → leads root (prefix_at w i) ≡ true
        run_led n = path_led root (prefix_at w i) (omega (arith, run_len)) (t.inside i in-run l).1

-- ---- as the code has them

-- the code's sums of a first child and a rank
pub kid_sum : (w : List ℕ) (k b f x y : ℕ) → f ≡ first_child w k → x ≡ child_of w k → y ≡ rank b x → f + y ≡ first_child w k + rank b (child_of w k)
kid_sum w k b f x y ef ex ey = ap₂ ◌+◌ ef (ey ∙ ap (rank b) ex)

module _ (w : List ℕ) (root : Prefix) (r : Run) (a : Above w root r) where
  pub depth_small : r.depth + 5 < 2 ^ 32
  depth_small = omega (arith, a.standing.short, a.more, nodes_few w a.sane)

  pub sum_small : (f b x y : ℕ) → f ≡ first_child w r.from → y ≡ rank b x → b ≤ 32 → f + y < 2 ^ 32
  sum_small f b x y ef ey l =
      omega (arith, rank_le b x, (a.sane.formed.node r.from (omega (arith, a.standing.ordered, a.more))).room, nodes_few w a.sane)

  -- all children of the run
  pub next_run_is : (r.depth < root.len → r.from ≡ r.to) → (q : Run) → q ≡ below_run w r → Standing w root q r.to × (r.to < q.to)
  next_run_is narrow q e =
      subst (λ (y : Run). Standing w root y r.to × (r.to < y.to)) (sym e)
      (below_run_stands w a.sane root r a.more a.standing narrow, (a.sane.formed.node r.to a.more).later)

  module _ (single : r.from < r.to) (above : r.depth < root.len) (low high : ℕ) (ahead : Ahead root r.depth low high) (x f y z : ℕ)
      (ex : x ≡ child_of w r.from) (ef : f ≡ first_child w r.from) (ey : y ≡ rank low x) (ez : z ≡ rank high x) where
    -- the children of the node on the way to the root, or none
    pub next_node_is : (f + y ≡ f + z → ⊥) → Standing w root (record { depth = r.depth + 5; from = f + y; to = f + z }) r.to × (r.to < f + z)
    next_node_is =
        below_node_stands w a.sane root r a.more a.standing single above low high ahead (f + y) (f + z)
        (kid_sum w r.from low f x y ef ex ey) (kid_sum w r.from high f x z ef ex ez)

    pub next_none_is : f + y ≡ f + z → (e : ℕ) → e ≡ first_child w r.to → Standing w root (record { depth = r.depth + 5; from = e; to = e }) r.to × (r.to < e)
    next_none_is =
        below_none_stands w a.sane root r a.more a.standing single above low high ahead (f + y) (f + z)
        (kid_sum w r.from low f x y ef ex ey) (kid_sum w r.from high f x z ef ex ez)

module _ (w : List ℕ) (root : Prefix) (r : Run) (i : ℕ) (s : Sane w) (long : root.len ≤ 64) (h : i < node_count w) (t : Standing w root r i) where
  pub run_passed : i ≡ r.to → Above w root r
  run_passed e = record { sane = s; long = long; more = rw (← e) h; standing = subst (Standing w root r) e t }

  pub run_moved : i ≡ r.to → (q : Run) → Standing w root q r.to × (r.to < q.to) → Standing w root q i × (i < q.to)
  run_moved e q = subst (λ (m : ℕ). Standing w root q m × (m < q.to)) (sym e)

  pub run_kept : (i ≡ r.to → ⊥) → Standing w root r i × (i < r.to)
  run_kept n = (t, omega (arith, t.ahead))

  -- a node and its prefix
  here_at : Here w root i (prefix_at w i)
  here_at = record { sane = s; long = long; inside = h; prefix = refl }

  module _ (l : i < r.to) where
    pub node_before : i < r.from → ◌≡◌ {A = Bitmaps} (record { «data» = 0; child = 0 }) (node_on w root i)
    node_before b = let o = before_off w s root r i h l t b in node_off w root i (prefix_at w i) here_at o.0 o.1

    module _ (in-run : r.from ≤ i) where
      pub node_on_way : r.depth < root.len → (p : Prefix) → p ≡ cut_to root r.depth → Here w root i p
      node_on_way n p e = record { sane = s; long = long; inside = h; prefix = e ∙ run_prefix w s root r i h l t in-run n }

      pub run_levels : r.depth / 5 ≤ 12
      run_levels = omega (arith, run_len w s root r i h l t in-run, here_short w root i (prefix_at w i) here_at)

      pub node_in_view : root.len ≤ r.depth → (d k : ℕ) → d ≡ data_of w i → k ≡ full_kids w (12 - r.depth / 5) i → ◌≡◌ {A = Bitmaps} (record { «data» = d; child = k }) (node_on w root i)
      node_in_view n d k ed ek =
          node_under w root i (prefix_at w i) here_at (run_led w s root r i h l t in-run n) d k (12 - r.depth / 5) ed
          (ap (λ (m : ℕ). 12 - m / 5) (sym (run_len w s root r i h l t in-run))) ek
