-- How code compares keys: a pair of nodes, its children place by place, and the whole call.
use Rattle.std.specs.Prelude.{◌≡◌, refl, Bool, true, false, ◌||◌, List, [], ℕ, zero, suc, ◌+◌, ◌*◌, ◌-◌, ◌/◌, ◌%◌, ◌^◌, ◌≤◌, ◌<◌, eqb, None, Some}
use Rattle.std.proofs.Common.{sym, ◌∙◌, ap, ap₂, subst, arith, eqb-true, eq-eqb, ne_eqb}
use Rattle.std.proofs.lemmas.Bool.{false≢true}
use Rattle.std.specs.Int.Count.{count_trailing_zeros}
use Rattle.defs.specs.declared.Prefix.{Prefix}
use Rattle.defs.specs.declared.Answer.{Answer}
use Rattle.defs.specs.declared.Operation.TheVariants.{Union}
use Rattle.defs.specs.Basics.{if◌then◌otherwise◌}
use Rattle.defs.specs.Prefix.{deeper}
use Rattle.defs.specs.Pool.{bit}
use Rattle.defs.specs.Lists.{same_keys}
use Rattle.defs.specs.Lemmas.{split}
use Rattle.defs.specs.PrefixLaws.{Whole}
use Rattle.defs.specs.Outcome.{Side, answer, first_of, side_rows, entries_of, equal_outcome}
use Rattle.defs.specs.OutcomeLaws.{first_stays, first_passes}
use Rattle.bits.specs.Words.{common_len}
use Rattle.bits.specs.Places.{place_prefix}
use Rattle.bits.specs.PlaceLaws.{place_prefix_lem, child_place_lem}
use Rattle.bits.specs.WordLaws.{bit_none}
use Rattle.bits.specs.Worked.{one_shl}
use Rattle.bits.specs.SetBits.{Taken, lowest_inside}
use Rattle.theory.specs.Sides.{child_in}
use Rattle.view.specs.Standing.{Sane, NodeIn, bitmaps_of, child_in_lem}
use Rattle.view.specs.declared.Bitmaps.{Bitmaps}
use Rattle.view.specs.Spreads.{below_all, one, lowly, apart}
use Rattle.view.specs.Emptiness.{both_true, below_of, below_fails}
use Rattle.view.specs.Kept.{kept_none}
use Rattle.view.specs.Descent.{cut_to, node_down}
use Rattle.rules.specs.BitLaws.{bit_or_lem}
use Rattle.rules.specs.Wanted.{either_of}
use Rattle.sets.specs.Listing.{Passed, passed_rows, depth_short, common_entering, common_left, common_right}
use Rattle.sets.specs.SameKeys.{kept, child_on, equal_at, whole_child, equal_says}
use Rattle.theory.specs.Kinds.{Node}

-- the children of two nodes at place c hold the same prefixes
abbrev pub child_equal : Side → Side → ℕ → Node → Node → Prefix → ℕ → Bool
child_equal l r levels a b p c = equal_at l r levels (child_on l a p c) (child_on r b p c) (deeper p 5 c)

-- two nodes of prefix p, in pools without faults, with so many levels below them
pub record Paired (l r : Side) (p : Prefix) (a b : Node) (levels : ℕ) : Type 0 where
  pub sane_left : Sane l.pool
  pub sane_right : Sane r.pool
  pub in_left : NodeIn l.pool a
  pub in_right : NodeIn r.pool b
  pub whole : Whole p
  pub depth : p.len + 5 * suc levels ≡ 65

pub paired_short : {l r : Side} {p : Prefix} {a b : Node} {levels : ℕ} → Paired l r p a b levels → p.len ≤ 60
paired_short k = let d = k.depth in omega arith

-- where no node is, nothing differs
equal_none : (l r : Side) (levels : ℕ) (p : Prefix) → equal_at l r levels None None p ≡ true
equal_none l r zero p = refl
equal_none l r (suc levels) p =
    both_true (eq-eqb _ _ (sym (kept_none l.pool l.root p) ∙ kept_none r.pool r.root p)) (below_of _ 32 (λ c i. equal_none l r levels (deeper p 5 c)))

neither_of : (u v : Bool) → (u || v) ≡ false → (u ≡ false) × (v ≡ false)
neither_of true v e = absurd (false≢true (sym e))
neither_of false v e = (refl, e)

one_none : (u : Bool) → one u ≡ 0 → u ≡ false
one_none true e = absurd (omega arith)
one_none false e = refl

-- no bit, no child
no_child : (w : List ℕ) (root : Prefix) (o : Node) (c : ℕ) (q : Prefix) → bit c (bitmaps_of w o).child ≡ false → child_in w root o c q ≡ None
no_child w root None c q e = refl
no_child w root (Some i) c q e = rw e

-- ---- one place
module _ (l r : Side) (p : Prefix) (a b : Node) (levels : ℕ) (k : Paired l r p a b levels) (fits : p.key < 2 ^ 64) (c : ℕ) (i : c < 32) where
  pub child_last : levels ≡ 0 → true ≡ child_equal l r levels a b p c
  child_last e = ap (λ (n : ℕ). child_equal l r n a b p c) (sym e)

  module _ (deep : levels ≡ 0 → ⊥) (q : Prefix) (eq : q ≡ place_prefix p (32 + c)) (x y : Node)
      (ex : x ≡ child_in l.pool l.root a c q) (ey : y ≡ child_in r.pool r.root b c q) where
    prefix_is : q ≡ deeper p 5 c
    prefix_is =
        let h = child_place_lem (32 + c) (omega arith) (omega arith) in
        let v : 32 + c - 32 ≡ c = omega arith in
        let short : p.len + 5 ≤ 64 = (let d = k.depth in omega arith) in
        eq ∙ place_prefix_lem p (32 + c) (omega arith) (omega arith) k.whole fits (omega (arith, h.0)) ∙ ap₂ (deeper p) h.0 (h.1 ∙ v)

    less : suc (levels - 1) ≡ levels
    less = omega arith

    pub child_paired : Paired l r q x y (levels - 1)
    child_paired =
        record {
          sane_left = k.sane_left;
          sane_right = k.sane_right;
          in_left = rw ex (child_in_lem l.pool k.sane_left l.root a c q i k.in_left);
          in_right = rw ey (child_in_lem r.pool k.sane_right r.root b c q i k.in_right);
          whole = subst Whole (sym prefix_is) (whole_child p k.whole levels k.depth c);
          depth = let d = k.depth in let n = ap (λ (z : Prefix). z.len) prefix_is in omega arith;
        }

    same_child : equal_at l r levels x y q ≡ child_equal l r levels a b p c
    same_child =
        ap (λ (z : Node). equal_at l r levels z y q) ex ∙ ap (λ (z : Node). equal_at l r levels (child_in l.pool l.root a c q) z q) ey
        ∙ ap (λ (z : Prefix). equal_at l r levels (child_in l.pool l.root a c z) (child_in r.pool r.root b c z) z) prefix_is

    pub child_pair : (t : Bool) → t ≡ equal_at l r (suc (levels - 1)) x y q → t ≡ child_equal l r levels a b p c
    child_pair t e = e ∙ ap (λ (n : ℕ). equal_at l r n x y q) less ∙ same_child

-- ---- one pair
module _ (l r : Side) (p : Prefix) (a b : Node) (levels : ℕ) where
  abbrev asked : ℕ → Bool
  asked = child_equal l r levels a b p

  -- the loop: the children of every place that is not among the bits left are equal
  pub record Comparing (todo : ℕ) : Type 0 where
    pub small : todo < 2 ^ 32
    pub so_far : (c : ℕ) → c < 32 → bit c todo ≡ false → asked c ≡ true

  -- where neither node has a child's bit, there is none to compare
  pub comparing_start : (x y m : Bitmaps) → x ≡ bitmaps_of l.pool a → y ≡ bitmaps_of r.pool b → m ≡ either_of x y → m.child < 2 ^ 32 → Comparing m.child
  comparing_start x y m ex ey em h = record { small = h; so_far = none_there }
    where
      unset : (c : ℕ) → bit c m.child ≡ (bit c (bitmaps_of l.pool a).child || bit c (bitmaps_of r.pool b).child)
      unset c = ap (λ (z : Bitmaps). bit c z.child) (em ∙ ap₂ either_of ex ey) ∙ bit_or_lem (bitmaps_of l.pool a).child (bitmaps_of r.pool b).child c

      none_there : (c : ℕ) → c < 32 → bit c m.child ≡ false → asked c ≡ true
      none_there c i e =
          let k = neither_of _ _ (sym (unset c) ∙ e) in
          ap₂ (λ (u v : Node). equal_at l r levels u v (deeper p 5 c)) (no_child l.pool l.root a c (deeper p 5 c) k.0) (no_child r.pool r.root b c (deeper p 5 c) k.1) ∙ equal_none l r levels (deeper p 5 c)

  module _ (todo : ℕ) (k : Comparing todo) (some : 0 < todo) where
    -- the lowest bit that is left is a part of what is left
    pub next_there : 2 ^ count_trailing_zeros 32 todo ≤ todo
    next_there = (lowly 32 todo some k.small).part

    -- 1 shifted by its number is its power of two
    pub next_shift : 1 * 2 ^ count_trailing_zeros 32 todo % 2 ^ 32 ≡ 2 ^ count_trailing_zeros 32 todo
    next_shift = one_shl 32 (count_trailing_zeros 32 todo) (lowly 32 todo some k.small).inside

  module _ (todo z rest : ℕ) (k : Comparing todo) (n : Taken todo z rest) where
    fits : todo < 2 ^ 64
    fits = omega (arith, k.small)

    pub next_inside : z < 32
    next_inside = lowest_inside todo z rest fits n 32 k.small

    pub comparing_on : asked z ≡ true → Comparing rest
    comparing_on e = record { small = omega (arith, k.small, n.2); so_far = λ c i f. split (eqb c z) (λ t. ap asked (eqb-true c z t) ∙ e) (λ t. k.so_far c i (kept_unset c t f)) }
      where
        kept_unset : (c : ℕ) → eqb c z ≡ false → bit c rest ≡ false → bit c todo ≡ false
        kept_unset c t f = one_none (bit c todo) (apart todo z rest fits n c ∙ ap₂ (λ (u v : Bool). one u + one v) t f)

  module _ (x y : ℕ) (ex : x ≡ kept l a p) (ey : y ≡ kept r b p) where
    pub pair_differs : (x ≡ y → ⊥) → false ≡ equal_at l r (suc levels) a b p
    pair_differs n = rw (ne_eqb (kept l a p) (kept r b p) (λ h. n (ex ∙ h ∙ sym ey)))

    module _ (e : x ≡ y) where
      by_children : equal_at l r (suc levels) a b p ≡ below_all asked 32
      by_children = rw (eq-eqb (kept l a p) (kept r b p) (sym ex ∙ e ∙ ey))

      pub comparing_fails : (c : ℕ) → c < 32 → asked c ≡ false → false ≡ equal_at l r (suc levels) a b p
      comparing_fails c i f = sym (by_children ∙ below_fails asked 32 c i f)

      pub comparing_ends : (todo : ℕ) → todo ≡ 0 → Comparing todo → true ≡ equal_at l r (suc levels) a b p
      comparing_ends todo z k =
          sym (by_children ∙ below_of asked 32 (λ c i. k.so_far c i (ap (bit c) z ∙ bit_none 0 c 0 (omega arith) (omega arith))))

-- ---- where the comparison starts
module _ (L R : Side) (fl : L.root.key < 2 ^ 64) (fr : R.root.key < 2 ^ 64)
    (ll : L.root.len ≤ 64) (lr : R.root.len ≤ 64) (sl : Sane L.pool) (sr : Sane R.pool) (m : ℕ) (em : m ≡ common_len L.root R.root) where
  -- the levels below the start
  abbrev n : ℕ
  n = 12 - m / 5 * 5 / 5

  pub start_short : m / 5 * 5 ≤ 60
  start_short = depth_short Union L R fl fr ll lr sl sr m em

  module _ (a b : Node) (ea : a ≡ node_down L.pool L.root (m / 5 * 5 / 5)) (eb : b ≡ node_down R.pool R.root (m / 5 * 5 / 5)) (q : Prefix) (eq : q ≡ cut_to L.root (m / 5 * 5)) where
    pub start_paired : Paired L R q a b n
    start_paired =
        let k = common_entering Union L R fl fr ll lr sl sr m em a b ea eb q eq in
        record {
          sane_left = sl;
          sane_right = sr;
          in_left = k.in_left;
          in_right = k.in_right;
          whole = k.whole;
          depth = let s = start_short in let e = ap (λ (x : Prefix). x.len) eq in omega arith;
        }

    pub start_equal : (t : Bool) → t ≡ equal_at L R (suc n) a b q → t ≡ same_keys (entries_of L) (entries_of R)
    start_equal t e =
        e ∙ sym (equal_says L R (suc n) a b q start_paired.whole start_paired.depth)
        ∙ sym (ap₂ same_keys (common_left Union L R fl fr ll lr sl sr m em a b ea eb q eq) (common_right Union L R fl fr ll lr sl sr m em a b ea eb q eq))

-- ---- the whole call
module _ (width : ℕ) (l r : Side) where
  pub equal_refused : (a : Answer) → a ≡ first_of (side_rows width l r) 0 → (a.number ≡ 0 → ⊥) → a ≡ equal_outcome width l r
  equal_refused a e n = e ∙ sym (first_stays (side_rows width l r) [] _ (λ z. n (ap (λ (x : Answer). x.number) e ∙ z)))

  -- where the tests passed, the comparison decides
  module _ (p : Passed width l r) (t : Bool) (e : t ≡ same_keys (entries_of l) (entries_of r)) where
    pub equal_passed : answer 0 (if t then 1 otherwise 0) 0 ≡ equal_outcome width l r
    equal_passed =
        ap (λ (x : Bool). answer 0 (if x then 1 otherwise 0) 0) e ∙ sym (first_passes (side_rows width l r) [] (if same_keys (entries_of l) (entries_of r) then 1 otherwise 0) (passed_rows width l r p))

    -- equal: the answer is 1
    pub equal_yes : t ≡ true → (a : Answer) → a ≡ answer 0 1 0 → a ≡ equal_outcome width l r
    equal_yes h a ea = ea ∙ ap (λ (x : Bool). answer 0 (if x then 1 otherwise 0) 0) (sym h) ∙ equal_passed

    -- not equal: it is 0
    pub equal_no : t ≡ false → (a : Answer) → a ≡ answer 0 0 0 → a ≡ equal_outcome width l r
    equal_no h a ea = ea ∙ ap (λ (x : Bool). answer 0 (if x then 1 otherwise 0) 0) (sym h) ∙ equal_passed
