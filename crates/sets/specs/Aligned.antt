-- Aligning the right view of a covering difference: what the loop finds, and what is then listed.
use Rattle.std.specs.Prelude.{◌≡◌, refl, is_some, true, false, List, [], ℕ, zero, suc, ◌+◌, ◌*◌, ◌-◌, ◌/◌, ◌≤◌, ◌<◌, Option, None, Some}
use Rattle.std.proofs.Common.{sym, ◌∙◌, ap, ap₂, subst, arith, mod-lt, zero-add, pow_pos}
use Rattle.std.proofs.Math.Nat.{mul-div_right}
use Rattle.defs.specs.declared.Prefix.{Prefix}
use Rattle.defs.specs.declared.Operation.TheVariants.{CoveringDifference}
use Rattle.defs.specs.Basics.{if◌then◌otherwise◌}
use Rattle.defs.specs.Prefix.{first, leads, deeper}
use Rattle.defs.specs.Pool.{node_count}
use Rattle.defs.specs.Lists.{Record}
use Rattle.defs.specs.Lemmas.{split}
use Rattle.defs.specs.Outcome.{Side}
use Rattle.bits.specs.Places.{place_len, place_value}
use Rattle.bits.specs.PlaceLaws.{child_place_lem}
use Rattle.theory.specs.Sides.{child_in}
use Rattle.theory.specs.Down.{next_bits}
use Rattle.theory.specs.Steps.{Job, is_cover, cover_bits, enter, no_covers, level_rest}
use Rattle.theory.specs.Align.{align_covered, align_down_lem}
use Rattle.view.specs.Standing.{Sane, NodeIn, child_in_lem}
use Rattle.view.specs.Descent.{cut_to, node_down, whole_cut, cut_leads, next_cut}
use Rattle.theory.specs.Kinds.{Cover, Node}

-- what aligning finds: nothing where the path is covered, and otherwise the node reached, or none where a child is missing
abbrev pub Aligned : Type 0
Aligned = Option Node

-- from a side's node o, k levels down the path, `left` levels on: covered, a child missing, or the node reached
abbrev pub align_down : Side → Prefix → ℕ → ℕ → Node → Aligned
align_down s path zero k None = Some None
align_down s path zero k (Some i) = Some (Some i)
align_down s path (suc left) k None = Some None
align_down s path (suc left) k (Some i) =
    let c = next_bits (5 * k) 5 path.key in
    if is_cover (cover_bits s (Some i) (cut_to path (5 * k)) None 5 c) then None
    otherwise align_down s path left (suc k) (child_in s.pool s.root (Some i) c (cut_to path (5 * k + 5)))

-- one level down the path from node i at depth d: covered, a child missing, or the child
abbrev pub align_step : Side → Prefix → ℕ → ℕ → Aligned
align_step s path i d =
    let c = next_bits d 5 path.key in
    if is_cover (cover_bits s (Some i) (cut_to path d) None 5 c) then None otherwise Some (child_in s.pool s.root (Some i) c (cut_to path (d + 5)))

-- what aligning comes to after one level
abbrev pub align_on : Side → Prefix → ℕ → ℕ → Aligned → Aligned
align_on s path left k None = None
align_on s path left k (Some None) = Some None
align_on s path left k (Some (Some i)) = align_down s path left k (Some i)

align_node : (s : Side) (path : Prefix) (left k : ℕ) (o : Node) → align_down s path left k o ≡ align_on s path left k (Some o)
align_node s path zero k None = refl
align_node s path (suc left) k None = refl
align_node s path left k (Some i) = refl

pub align_one : (s : Side) (path : Prefix) (left k i : ℕ) → align_down s path (suc left) k (Some i) ≡ align_on s path left (suc k) (align_step s path i (5 * k))
align_one s path left k i =
    split (is_cover (cover_bits s (Some i) (cut_to path (5 * k)) None 5 (next_bits (5 * k) 5 path.key))) (λ t. rw t)
    (λ t. rw t (align_node s path left (suc k) (child_in s.pool s.root (Some i) (next_bits (5 * k) 5 path.key) (cut_to path (5 * k + 5)))))

-- a covering difference of two sides
abbrev pub covering_job : Side → Side → Job
covering_job l r = record { op = CoveringDifference; left = l; right = r }

-- the depth of a level and the levels below it
pub depth_at : (k : ℕ) → k ≤ 12 → 5 * k + 5 * suc ((60 - 5 * k) / 5) ≡ 65
depth_at k h = let e : 60 - 5 * k ≡ 5 * (12 - k) = omega arith in rw (e, mul-div_right (12 - k) {m = 5} (omega arith)) (omega arith)

module _ (l r : Side) (short : l.root.len ≤ 64) where
  -- the node of the right side where the walk starts
  abbrev pub start_node : Aligned → Node
  start_node None = None
  start_node (Some None) = None
  start_node (Some (Some i)) = Some i

  -- what is listed, K levels down, by what was found
  abbrev pub aligned_rest : ℕ → Aligned → List Record
  aligned_rest K None = []
  aligned_rest K (Some None) = level_rest (covering_job l r) (enter (covering_job l r) (cut_to l.root (5 * K)) (node_down l.pool l.root K) None no_covers)
  aligned_rest K (Some (Some i)) = level_rest (covering_job l r) (enter (covering_job l r) (cut_to l.root (5 * K)) (node_down l.pool l.root K) (Some i) no_covers)

  -- what there is to list k levels down
  abbrev at : ℕ → Node → List Record
  at k b = level_rest (covering_job l r) (enter (covering_job l r) (cut_to l.root (5 * k)) (node_down l.pool l.root k) b no_covers)

  module _ (k : ℕ) (deep : 5 * suc k ≤ l.root.len) (room : k < 12) (b : Node) where
    abbrev c : ℕ
    c = next_bits (5 * k) 5 l.root.key

    abbrev p : Prefix
    p = cut_to l.root (5 * k)

    leads_on : leads (deeper p 5 c) l.root ≡ true
    leads_on = subst (λ (x : Prefix). leads x l.root ≡ true) (sym (next_cut l.root (5 * k) 5 (omega arith))) (cut_leads l.root (5 * k + 5) (omega arith))

    small : c < 32
    small = mod-lt (first (5 * k + 5) l.root.key) (pow_pos 5)

    covered : is_cover (cover_bits r b p None 5 c) ≡ true → at k b ≡ []
    covered h =
        align_covered (covering_job l r) refl p (whole_cut l.root (5 * k)) (depth_at k (omega arith)) (node_down l.pool l.root k) b c small short leads_on refl h

    on : is_cover (cover_bits r b p None 5 c) ≡ false → at k b ≡ at (suc k) (child_in r.pool r.root b c (cut_to l.root (5 * k + 5)))
    on h =
        let n = next_cut l.root (5 * k) 5 (omega arith) in
        let d : 5 * k + 5 ≡ 5 * suc k = omega arith in
        align_down_lem (covering_job l r) refl p (whole_cut l.root (5 * k)) (depth_at k (omega arith)) (node_down l.pool l.root k) b c small short leads_on h
        ∙ ap (λ (x : Prefix). level_rest (covering_job l r) (enter (covering_job l r) x (child_in l.pool l.root (node_down l.pool l.root k) c x) (child_in r.pool r.root b c x) no_covers)) n
        ∙ ap (λ (x : ℕ). level_rest (covering_job l r) (enter (covering_job l r) (cut_to l.root x) (node_down l.pool l.root (suc k)) (child_in r.pool r.root b c (cut_to l.root (5 * k + 5))) no_covers)) d

  -- what aligning finds says what is listed
  pub aligns : (left k : ℕ) → 5 * (left + k) ≤ l.root.len → left + k ≤ 12 → (b : Node) → at k b ≡ aligned_rest (left + k) (align_down r l.root left k b)
  aligns zero k h m None = ap (λ (n : ℕ). aligned_rest n (Some None)) (sym (zero-add k))
  aligns zero k h m (Some i) = ap (λ (n : ℕ). aligned_rest n (Some (Some i))) (sym (zero-add k))
  aligns (suc left) k h m None =
      let e : left + suc k ≡ suc left + k = omega arith in
      on k (omega arith) (omega arith) None refl ∙ aligns left (suc k) (omega arith) (omega arith) None ∙ same left (suc k) ∙ ap (λ (n : ℕ). aligned_rest n (Some None)) e
    where
      same : (left k : ℕ) → aligned_rest (left + k) (align_down r l.root left k None) ≡ aligned_rest (left + k) (Some None)
      same zero k = refl
      same (suc left) k = refl
  aligns (suc left) k h m (Some i) =
      let e : left + suc k ≡ suc left + k = omega arith in
      split (is_cover (cover_bits r (Some i) (cut_to l.root (5 * k)) None 5 (next_bits (5 * k) 5 l.root.key)))
      (λ t. rw t (covered k (omega arith) (omega arith) (Some i) t))
      (λ t.
      rw t
      (on k (omega arith) (omega arith) (Some i) t
      ∙ aligns left (suc k) (omega arith) (omega arith) (child_in r.pool r.root (Some i) (next_bits (5 * k) 5 l.root.key) (cut_to l.root (5 * k + 5)))
      ∙ ap (λ (n : ℕ). aligned_rest n (align_down r l.root left (suc k) (child_in r.pool r.root (Some i) (next_bits (5 * k) 5 l.root.key) (cut_to l.root (5 * k + 5))))) e))

-- ---- as code goes down
module _ (s : Side) (path : Prefix) (i d c : ℕ) (ec : c ≡ next_bits d 5 path.key) (small : c < 32) (p : Prefix) (ep : p ≡ cut_to path d)
    (v : Cover) (ev : v ≡ cover_bits s (Some i) p None (place_len (32 + c)) (place_value (32 + c))) where
  cover_there : v ≡ cover_bits s (Some i) (cut_to path d) None 5 (next_bits d 5 path.key)
  cover_there =
      let k = child_place_lem (32 + c) (omega arith) (omega arith) in
      let z : 32 + c - 32 ≡ c = omega arith in
      ev ∙ ap₂ (λ (n m : ℕ). cover_bits s (Some i) p None n m) k.0 (k.1 ∙ z ∙ ec) ∙ ap (λ (x : Prefix). cover_bits s (Some i) x None 5 (next_bits d 5 path.key)) ep

  covers_as : is_some v ≡ is_cover (cover_bits s (Some i) (cut_to path d) None 5 (next_bits d 5 path.key))
  covers_as = same v ∙ ap is_cover cover_there
    where
      same : (c : Cover) → is_some c ≡ is_cover c
      same None = refl
      same (Some a) = refl

  pub down_covered : is_some v ≡ true → None ≡ align_step s path i d
  down_covered h = rw (sym covers_as ∙ h)

  pub down_child : is_some v ≡ false → (o : Node) (q : Prefix) → q ≡ cut_to path (d + 5) → o ≡ child_in s.pool s.root (Some i) c q → Some o ≡ align_step s path i d
  down_child h o q eq eo = ap Some (eo ∙ ap (child_in s.pool s.root (Some i) c) eq) ∙ rw (sym covers_as ∙ h, ec)

-- a child that is found is a node of the pool
pub step_inside : (s : Side) → Sane s.pool → (path : Prefix) (i d : ℕ) → i < node_count s.pool → (n : ℕ) → Some (Some n) ≡ align_step s path i d → n < node_count s.pool
step_inside s sane path i d l n e =
    split (is_cover (cover_bits s (Some i) (cut_to path d) None 5 (next_bits d 5 path.key))) (λ t. let z : ◌≡◌ {A = ℕ} 0 1 = cc (rw t at e) in absurd (omega arith))
    (λ t. go (child_in s.pool s.root (Some i) (next_bits d 5 path.key) (cut_to path (d + 5))) (child_in_lem s.pool sane s.root (Some i) (next_bits d 5 path.key) (cut_to path (d + 5)) (mod-lt (first (d + 5) path.key) (pow_pos 5)) l) (rw t at e))
  where
    go : (o : Node) → NodeIn s.pool o → Some (Some n) ≡ Some o → n < node_count s.pool
    go None h k = let z : ◌≡◌ {A = ℕ} 0 1 = cc in absurd (omega arith)
    go (Some m) h k = let z : n ≡ m = cc in omega arith

-- the loop that aligns: k of n levels down, with a node of the right side
pub record Aligning (s : Side) (path : Prefix) (n i k : ℕ) : Type 0 where
  pub inside : i < node_count s.pool
  pub same : align_down s path n 0 (Some 0) ≡ align_down s path (n - k) k (Some i)

pub aligning_start : (s : Side) → Sane s.pool → (path : Prefix) (n : ℕ) → Aligning s path n 0 0
aligning_start s sane path n = record { inside = sane.formed.some; same = ap (λ (m : ℕ). align_down s path m 0 (Some 0)) (let z : n ≡ n - 0 = omega arith in z) }

module _ (s : Side) (path : Prefix) (n i k : ℕ) (g : Aligning s path n i k) where
  pub aligned_there : k ≡ n → Some (Some i) ≡ align_down s path n 0 (Some 0)
  aligned_there e =
      let z : n - k ≡ 0 = omega arith in
      sym (g.same ∙ ap (λ (m : ℕ). align_down s path m k (Some i)) z)

  module _ (l : k < n) (a : Aligned) (ea : a ≡ align_step s path i (5 * k)) where
    one_on : align_down s path n 0 (Some 0) ≡ align_on s path (n - suc k) (suc k) a
    one_on =
        let m : n - k ≡ suc (n - suc k) = omega arith in
        g.same ∙ ap (λ (x : ℕ). align_down s path x k (Some i)) m ∙ align_one s path (n - suc k) k i ∙ ap (align_on s path (n - suc k) (suc k)) (sym ea)

    pub aligned_covered : a ≡ None → None ≡ align_down s path n 0 (Some 0)
    aligned_covered h = sym (one_on ∙ ap (align_on s path (n - suc k) (suc k)) h)

    pub aligned_missing : a ≡ Some None → Some None ≡ align_down s path n 0 (Some 0)
    aligned_missing h = sym (one_on ∙ ap (align_on s path (n - suc k) (suc k)) h)

    pub aligning_on : Sane s.pool → (m : ℕ) → a ≡ Some (Some m) → Aligning s path n m (k + 1)
    aligning_on sane m h =
        let e : suc k ≡ k + 1 = omega arith in
        record {
          inside = step_inside s sane path i (5 * k) g.inside m (sym h ∙ ea);
          same = one_on ∙ ap (align_on s path (n - suc k) (suc k)) h ∙ ap (λ (x : ℕ). align_down s path (n - x) x (Some m)) e;
        }

-- the node that aligning reaches is a node of the pool
pub align_inside : (s : Side) → Sane s.pool → (path : Prefix) (left k i : ℕ) → i < node_count s.pool → (n : ℕ) → Some (Some n) ≡ align_down s path left k (Some i) → n < node_count s.pool
align_inside s sane path zero k i l n e = let z : n ≡ i = cc in omega arith
align_inside s sane path (suc left) k i l n e = go (λ m h q. align_inside s sane path left (suc k) m h n q) (align_step s path i (5 * k)) refl (e ∙ align_one s path left k i)
  where
    go : ((m : ℕ) → m < node_count s.pool → Some (Some n) ≡ align_down s path left (suc k) (Some m) → n < node_count s.pool) → (a : Aligned) → a ≡ align_step s path i (5 * k) → Some (Some n) ≡ align_on s path left (suc k) a → n < node_count s.pool
    go f None h q = let z : ◌≡◌ {A = ℕ} 0 1 = cc in absurd (omega arith)
    go f (Some None) h q = let z : ◌≡◌ {A = ℕ} 0 1 = cc in absurd (omega arith)
    go f (Some (Some m)) h q = f m (step_inside s sane path i (5 * k) l m h) q
