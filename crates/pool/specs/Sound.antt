-- What a pool without a fault is. All later code has its safety from `formed`: no fault gives each node a depth, and words that fit it.
use Rattle.std.proofs.Math.Path.{◌≡◌, refl, ap, subst}
use Rattle.std.proofs.Common.{sym, ◌∙◌, not-suc-le-zero, le_of_suc-le-suc, add-zero, zero-add, lt_of_lt_of_le, le_refl, pow_mono, length-append, get_or-append-add}
use Rattle.std.specs.Prelude.{Bool, true, false, ◌&&◌, ◌||◌, List, [], ◌∷◌, ◌++◌, leb, ltb, eqb, length, replicate}
use Rattle.std.proofs.Math.Bool.{not}
use Rattle.std.proofs.lemmas.Bool.{false≢true}
use Prim.Native.Nat.{ℕ, zero, suc, ◌+◌, ◌-◌, ◌*◌, ◌%◌, ◌^◌, ◌≤◌, ◌<◌, min}
use Rattle.std.proofs.Math.Decide.{le_ind}
use native.Mathlib.Omega.{arith}
use Rattle.std.proofs.Math.Nat.{sub-zero, lt_of_not-le}
use borrow.Author.Tests.{ltb-true, ltb-false, leb-false, eqb-true, eqb-false, not-false, le-leb}
use Rattle.std.proofs.Math.ListN.{get_or, get_or-append}
use Rattle.std.proofs.lemmas.List.{length-replicate, get_or-replicate}
use Rattle.defs.specs.Basics.{if◌then◌otherwise◌}
use Rattle.defs.specs.Lemmas.{All, nil, more, all_append, split}
use Rattle.defs.specs.Pool.{node_count, data_of, child_of, first_child, first_value, bit, rank, ones, data_bit}
use Rattle.defs.specs.Check.{Fault, pool_limit, usable, fault_at, fault_from, fault_of}
use Rattle.bits.specs.WordLaws.{bit_low, select, rank_less, rank_small, ones_zero}

-- the child bits of all nodes before node i
abbrev pub children_before : List ℕ → ℕ → ℕ
children_before w zero = 0
children_before w (suc i) = children_before w i + ones (child_of w i)

-- the data bits of all nodes before node i
abbrev pub values_before : List ℕ → ℕ → ℕ
values_before w zero = 0
values_before w (suc i) = values_before w i + ones (data_of w i)

-- the depths of `left` nodes from node i on, as the check takes them off its queue
abbrev pub depths_from : List ℕ → ℕ → ℕ → List ℕ → List ℕ
depths_from w zero i q = []
depths_from w (suc left) i [] = []
depths_from w (suc left) i (d ∷ q) = d ∷ depths_from w left (suc i) (q ++ replicate (ones (child_of w i)) (d + 5))

-- the depth of node i
unfoldable pub depth : List ℕ → ℕ → ℕ
depth w i = get_or (depths_from w (node_count w) 0 (0 ∷ [])) i 0

-- node i is as it should be, where `at` gives each node's depth
pub record NodeOk (width : ℕ) (w : List ℕ) (at : ℕ → ℕ) (i : ℕ) : Type 0 where
  -- its depth fits the width, and is a multiple of 5
  pub within : at i ≤ width
  pub fives : at i % 5 ≡ 0
  -- it has no data bit for a length above the width, and no child bit at the last depth
  pub fits : data_of w i < 2 ^ usable width (at i)
  pub last : width ≤ at i + 4 → child_of w i ≡ 0
  -- its children and values are counted from those of all earlier nodes
  pub child : first_child w i ≡ 1 + children_before w i
  pub value : first_value w i ≡ values_before w i
  -- its children are nodes that stand after it, one level deeper
  pub later : i < first_child w i
  pub room : first_child w i + ones (child_of w i) ≤ node_count w
  pub deeper : (r : ℕ) → r < ones (child_of w i) → at (first_child w i + r) ≡ at i + 5

-- a pool without a fault
pub record Formed (width : ℕ) (w : List ℕ) : Type 0 where
  pub some : 0 < node_count w
  pub whole : length w ≡ 4 * node_count w
  pub most : node_count w ≤ pool_limit
  pub root : depth w 0 ≡ 0
  pub node : (i : ℕ) → i < node_count w → NodeOk width w (depth w) i

-- ---- the proof

-- a choice of fault that comes out 0 passed its test
passed : (b : Bool) (n f : ℕ) → (if b then suc n otherwise f) ≡ 0 → (b ≡ false) × (f ≡ 0)
passed true n f e = absurd (let z : ⊥ = omega arith in z)
passed false n f e = (refl, e)

all_same : {P : ℕ → Type 0} (k x : ℕ) → (0 < k → P x) → All P (replicate k x)
all_same zero x h = nil
all_same (suc k) x h = more (h (omega arith)) (all_same k x (λ l. h (omega arith)))

head_of_lem : {P : ℕ → Type 0} {d : ℕ} {q : List ℕ} → All P (d ∷ q) → P d
head_of_lem (more h k) = h

tail_of : {P : ℕ → Type 0} {d : ℕ} {q : List ℕ} → All P (d ∷ q) → All P q
tail_of (more h k) = k

module _ (width : ℕ) (w : List ℕ) where
  -- what the tests at one node say
  record Facts (i d children values : ℕ) : Type 0 where
    fits : data_of w i < 2 ^ usable width d
    last : width ≤ d + 4 → child_of w i ≡ 0
    child : first_child w i ≡ 1 + children
    room : first_child w i + ones (child_of w i) ≤ node_count w
    value : first_value w i ≡ values

  facts : (i d children values : ℕ) → fault_at width w i d children values ≡ 0 → Facts i d children values
  facts i d children values e =
      let a = passed (leb (2 ^ usable width d) (data_of w i)) 3 _ e in
      let b = passed (leb width (d + 4) && ltb 0 (child_of w i)) 4 _ a.1 in
      let c = passed (not (eqb (first_child w i) (1 + children))) 5 _ b.1 in
      let r = passed (ltb (node_count w) (first_child w i + ones (child_of w i))) 6 _ c.1 in
      let f = passed (not (eqb (first_value w i) values)) 7 _ r.1 in
      record {
        fits = leb-false (2 ^ usable width d) (data_of w i) a.0;
        last = λ h. (let z = ltb-false 0 (child_of w i) (rw (le-leb width (d + 4) h) at b.0) in omega arith);
        child = eqb-true (first_child w i) (1 + children) (not-false _ c.0);
        room = ltb-false (node_count w) (first_child w i + ones (child_of w i)) r.0;
        value = eqb-true (first_value w i) values (not-false _ f.0);
      }

  -- a depth that a node may have
  abbrev Deep : ℕ → Type 0
  Deep d = (d ≤ width) × (d % 5 ≡ 0)

  -- a node that has children leaves room for them below it
  deep_child : (i d c v : ℕ) → Facts i d c v → Deep d → 0 < ones (child_of w i) → Deep (d + 5)
  deep_child i d c v f h k =
      let n : width ≤ d + 4 → ⊥ = λ l. (let z = ap ones (f.last l) in let y = ones_zero in let x : ⊥ = omega arith in x) in
      (omega arith, omega (arith, h.1))

  -- the depth of node x, in a list of those from node i on
  abbrev at : List ℕ → ℕ → ℕ → ℕ
  at s i x = get_or s (x - i) 0

  -- the depths from i on, seen from the node before
  back : (d : ℕ) (s : List ℕ) (i x : ℕ) → suc i ≤ x → at (d ∷ s) i x ≡ at s (suc i) x
  back d s i x h = let e : x - i ≡ suc (x - suc i) = omega arith in ap (λ (y : ℕ). get_or (d ∷ s) y 0) e

  ok_back : (d : ℕ) (s : List ℕ) (i x : ℕ) → suc i ≤ x → NodeOk width w (at s (suc i)) x → NodeOk width w (at (d ∷ s) i) x
  ok_back d s i x h k =
      let b = back d s i x h in
      record {
        within = rw b k.within;
        fives = rw b k.fives;
        fits = subst (λ (y : ℕ). data_of w x < 2 ^ usable width y) (sym b) k.fits;
        last = λ l. k.last (omega arith);
        child = k.child;
        value = k.value;
        later = k.later;
        room = k.room;
        deeper = λ r l. back d s i (first_child w x + r) (let z = k.later in omega arith) ∙ k.deeper r l ∙ ap (◌+ 5) (sym b);
      }

  clear : (f node : ℕ) (g : Fault) → (if ltb 0 f then record { number = f; node = node } otherwise g).number ≡ 0 → (f ≡ 0) × (g.number ≡ 0)
  clear f node g e = go (ltb 0 f) refl e
    where
      go : (b : Bool) → ltb 0 f ≡ b → (if b then record { number = f; node = node } otherwise g).number ≡ 0 → (f ≡ 0) × (g.number ≡ 0)
      go true t h = absurd (let y = ltb-true 0 f t in let z : ⊥ = omega arith in z)
      go false t h = (let y = ltb-false 0 f t in omega arith, h)

  -- what holds of the queue q at node i, and of the depths s of the nodes from there on
  abbrev Heads : ℕ → List ℕ → List ℕ → Type 0
  Heads left q s = (r : ℕ) → r < length q → r < left → get_or s r 0 ≡ get_or q r 0

  abbrev Rest : ℕ → ℕ → List ℕ → Type 0
  Rest left i s = (j : ℕ) → j < left → NodeOk width w (at s i) (i + j)

  module _ (left i d : ℕ) (q : List ℕ) (f : Facts i d (children_before w i) (values_before w i)) (deep : Deep d)
      (s : i + suc (length q) ≡ 1 + children_before w i) (n : i + suc left ≡ node_count w) where
    abbrev kids : List ℕ
    kids = replicate (ones (child_of w i)) (d + 5)

    abbrev ds : List ℕ
    ds = depths_from w left (suc i) (q ++ kids)

    length_queue : length (q ++ kids) ≡ length q + ones (child_of w i)
    length_queue = length-append q kids ∙ ap (length q +◌) (length-replicate (ones (child_of w i)) (d + 5))

    module _ (heads : Heads left (q ++ kids) ds) (rest : Rest left (suc i) ds) where
      heads_step : Heads (suc left) (d ∷ q) (d ∷ ds)
      heads_step zero h l = refl
      heads_step (suc r) h l = heads r (omega (arith, length_queue)) (le_of_suc-le-suc l) ∙ get_or-append q kids 0 r (le_of_suc-le-suc h)

      here : at (d ∷ ds) i i ≡ d
      here = let e : i - i ≡ 0 = omega arith in ap (λ (y : ℕ). get_or (d ∷ ds) y 0) e

      below : (r : ℕ) → r < ones (child_of w i) → at (d ∷ ds) i (first_child w i + r) ≡ at (d ∷ ds) i i + 5
      below r h =
          let e : first_child w i + r - i ≡ suc (length q + r) = omega (arith, f.child) in
          ap (λ (y : ℕ). get_or (d ∷ ds) y 0) e
          ∙ heads (length q + r) (omega (arith, length_queue)) (let a = f.child in let b = f.room in omega arith)
          ∙ get_or-append-add q kids r 0
          ∙ get_or-replicate (ones (child_of w i)) r (d + 5) 0 h
          ∙ ap (◌+ 5) (sym here)

      node_here : NodeOk width w (at (d ∷ ds) i) i
      node_here = record {
        within = omega (arith, here, deep.0);
        fives = ap (◌% 5) here ∙ deep.1;
        fits = subst (λ (y : ℕ). data_of w i < 2 ^ usable width y) (sym here) f.fits;
        last = λ l. f.last (omega (arith, here));
        child = f.child;
        value = f.value;
        later = omega (arith, f.child);
        room = f.room;
        deeper = below;
      }

      rest_step : Rest (suc left) i (d ∷ ds)
      rest_step zero l = subst (λ (x : ℕ). NodeOk width w (at (d ∷ ds) i) x) (sym (add-zero i)) node_here
      rest_step (suc j) l =
          let e : suc i + j ≡ i + suc j = omega arith in
          subst (λ (x : ℕ). NodeOk width w (at (d ∷ ds) i) x) e (ok_back d ds i (suc i + j) (omega arith) (rest j (le_of_suc-le-suc l)))

  run : (left i : ℕ) (q : List ℕ) → (fault_from width w left i q (children_before w i) (values_before w i)).number ≡ 0
      → i + length q ≡ 1 + children_before w i → i + left ≡ node_count w → All Deep q
      → Heads left q (depths_from w left i q) × Rest left i (depths_from w left i q)
  run zero i q e s n a = (λ r h l. absurd (not-suc-le-zero l), λ j l. absurd (not-suc-le-zero l))
  run (suc left) i [] e s n a = absurd (let z : ⊥ = omega arith in z)
  run (suc left) i (d ∷ q) e s n a =
      let z = clear (fault_at width w i d (children_before w i) (values_before w i)) i _ e in
      let f = facts i d (children_before w i) (values_before w i) z.0 in
      let k = replicate (ones (child_of w i)) (d + 5) in
      let l = length-append q k in
      let m = length-replicate (ones (child_of w i)) (d + 5) in
      let ih = run left (suc i) (q ++ k) z.1 (omega arith) (omega arith)
      (all_append (tail_of a) (all_same (ones (child_of w i)) (d + 5) (deep_child i d _ _ f (head_of_lem a)))) in
      (heads_step left i d q f (head_of_lem a) s n ih.0 ih.1, rest_step left i d q f (head_of_lem a) s n ih.0 ih.1)

  one_fault : (b : Bool) (n m : ℕ) (g : Fault) → (if b then record { number = suc n; node = m } otherwise g).number ≡ 0 → (b ≡ false) × (g.number ≡ 0)
  one_fault true n m g e = absurd (let z : ⊥ = omega arith in z)
  one_fault false n m g e = (refl, e)

  or_false : (a b : Bool) → (a || b) ≡ false → (a ≡ false) × (b ≡ false)
  or_false true b e = absurd (false≢true (sym e))
  or_false false b e = (refl, e)

  -- THE LEMMA: no fault, and so every node is as it should be
  pub formed : (fault_of width w).number ≡ 0 → Formed width w
  unfolding depth
  formed e =
      let a = one_fault (eqb (length w) 0 || not (eqb (length w % 4) 0)) 0 0 _ e in
      let b = one_fault (ltb pool_limit (node_count w)) 1 0 _ a.1 in
      let o = or_false (eqb (length w) 0) _ a.0 in
      let z = eqb-false (length w) 0 o.0 in
      let m = eqb-true (length w % 4) 0 (not-false _ o.1) in
      let some : 0 < node_count w = lt_of_not-le (λ h. z (omega arith)) in
      let ds = depths_from w (node_count w) 0 (0 ∷ []) in
      let from-root : ◌≡◌ {A = ℕ → ℕ} (at ds 0) (depth w) = λ k. λ x. ap (λ (y : ℕ). get_or ds y 0) (sub-zero x) k in
      let r = run (node_count w) 0 (0 ∷ []) b.1 refl (zero-add (node_count w)) (more (omega arith, refl) nil) in
      record {
        some = some;
        whole = omega arith;
        most = ltb-false pool_limit (node_count w) b.0;
        root = r.0 0 (omega arith) some;
        node = λ i h. subst (λ (f : ℕ → ℕ). NodeOk width w f i) from-root (subst (λ (x : ℕ). NodeOk width w (at ds 0) x) (zero-add i) (r.1 i h));
      }

-- ---- what later code uses

module _ (width : ℕ) (w : List ℕ) (ok : Formed width w) where
  -- a node uses at most its 31 data bits
  pub data_small : (i : ℕ) → i < node_count w → data_of w i < 2 ^ 31
  data_small i h =
      let u : usable width (depth w i) ≤ 31 = (let m = pow_mono {i = min 5 (width + 1 - depth w i)} {j = 5} (omega arith) in omega arith) in
      lt_of_lt_of_le (ok.node i h).fits (pow_mono u)

  pub data_count : (i : ℕ) → i < node_count w → ones (data_of w i) ≤ 31
  data_count i h = rank_small 31 32 (data_of w i) (data_small i h)

  -- so n nodes have at most 31 * n values
  pub values_small : (n : ℕ) → n ≤ node_count w → values_before w n ≤ 31 * n
  values_small zero h = omega arith
  values_small (suc n) h = omega (arith, values_small n (omega arith), data_count n h)

  pub values_mono : (m n : ℕ) → m ≤ n → values_before w m ≤ values_before w n
  values_mono m n h = le_ind (λ (k : ℕ). values_before w m ≤ values_before w k) (le_refl _) (λ k l e. omega arith) n h

  pub children_mono : (m n : ℕ) → m ≤ n → children_before w m ≤ children_before w n
  children_mono m n h = le_ind (λ (k : ℕ). children_before w m ≤ children_before w k) (le_refl _) (λ k l e. omega arith) n h

  -- each node's children stand after those of the node before
  pub first_next : (i : ℕ) → suc i < node_count w → first_child w (suc i) ≡ first_child w i + ones (child_of w i)
  first_next i h = omega (arith, (ok.node (suc i) h).child, (ok.node i (omega arith)).child)

  -- so the children of two nodes are apart
  pub children_apart : (i j : ℕ) → i < j → j < node_count w → first_child w i + ones (child_of w i) ≤ first_child w j
  children_apart i j l h = omega (arith, (ok.node i (omega arith)).child, (ok.node j h).child, children_mono (suc i) j l)

  -- every node but the root is a child, and no child is missing
  pub children_all : 1 + children_before w (node_count w) ≡ node_count w
  children_all = go (node_count w) refl
    where
      go : (n : ℕ) → node_count w ≡ n → 1 + children_before w (node_count w) ≡ node_count w
      go zero e = absurd (let s = ok.some in let z : ⊥ = omega arith in z)
      go (suc m) e =
          let k = ok.node m (omega arith) in
          let c = ap (children_before w) e in
          omega (arith, k.child, k.later, k.room)

  -- the node whose child k is, and its place there
  pub record Parent (k : ℕ) : Type 0 where
    pub node : ℕ
    pub place : ℕ
    pub before : node < k
    pub inside : place < 32
    pub held : bit place (child_of w node) ≡ true
    pub number : k ≡ first_child w node + rank place (child_of w node)

  pub parent : (k : ℕ) → 0 < k → k < node_count w → Parent k
  parent k some h = go (node_count w) (le_refl _) (omega (arith, children_all))
    where
      go : (n : ℕ) → n ≤ node_count w → k < 1 + children_before w n → Parent k
      go zero l m = absurd (let z : ⊥ = omega arith in z)
      go (suc n) l m =
          split (ltb k (1 + children_before w n)) (λ t. go n (omega arith) (ltb-true k (1 + children_before w n) t))
          (λ t.
          let a = ltb-false k (1 + children_before w n) t in
          let o = ok.node n l in
          let s = select 32 (child_of w n) (k - first_child w n) (omega (arith, o.child)) in
          record {
            node = n;
            place = s.0;
            before = omega (arith, o.later, o.child);
            inside = s.1;
            held = s.2;
            number = omega (arith, s.3, o.child);
          })

  -- the child in place c is a later node, one level deeper
  pub child_node : (i c : ℕ) → i < node_count w → c < 32 → bit c (child_of w i) ≡ true
      → let k = first_child w i + rank c (child_of w i) in (k < node_count w) × (i < k) × (depth w k ≡ depth w i + 5)
  child_node i c h l e =
      let k = ok.node i h in
      let o = rank_less 32 c (child_of w i) l e in
      (omega (arith, k.room), omega (arith, k.later), k.deeper (rank c (child_of w i)) o)

  -- the value of a set data bit is one of the values
  pub value_node : (i b : ℕ) → i < node_count w → b < 32 → bit b (data_of w i) ≡ true
      → first_value w i + rank b (data_of w i) < values_before w (node_count w)
  value_node i b h l e =
      omega (arith, rank_less 32 b (data_of w i) l e, (ok.node i h).value, values_mono (suc i) (node_count w) h)

  -- a set data bit stands for a length up to the width
  pub data_length : (i n v : ℕ) → i < node_count w → n < 5 → bit (data_bit n v) (data_of w i) ≡ true → depth w i + n ≤ width
  data_length i n v h l e =
      let m = min 5 (width + 1 - depth w i) in
      let b : data_bit n v < usable width (depth w i) = bit_low (usable width (depth w i)) (data_bit n v) (data_of w i) (ok.node i h).fits e in
      let s : n < m = lt_of_not-le (λ g. let y = pow_mono g in let z : ⊥ = omega arith in z) in
      omega (arith, (ok.node i h).within)

-- at width 32 the last depth is 30, at width 64 it is 60
pub depth_30 : (w : List ℕ) → Formed 32 w → (i : ℕ) → i < node_count w → depth w i ≤ 30
depth_30 w ok i h = let k = ok.node i h in omega (arith, k.within, k.fives)

pub depth_60 : (width : ℕ) (w : List ℕ) → width ≤ 64 → Formed width w → (i : ℕ) → i < node_count w → depth w i ≤ 60
depth_60 width w l ok i h = let k = ok.node i h in omega (arith, k.within, k.fives)
